-- The numbers of the rows, in the order of Rows. Written by tools/rows.
use Rattle.std.specs.Prelude.{ℕ}

abbrev pub SHR-register : ℕ
SHR-register = 60

abbrev pub SHRA-register : ℕ
SHRA-register = 61

abbrev pub SHL-register : ℕ
SHL-register = 62

abbrev pub SHR-count : ℕ
SHR-count = 63

abbrev pub SHRA-count : ℕ
SHRA-count = 64

abbrev pub SHL-count : ℕ
SHL-count = 65

abbrev pub ROTR : ℕ
ROTR = 66

abbrev pub ROTL : ℕ
ROTL = 67

abbrev pub SHL16 : ℕ
SHL16 = 68

abbrev pub ABS : ℕ
ABS = 69

abbrev pub CLZ : ℕ
CLZ = 70

abbrev pub BST : ℕ
BST = 71

abbrev pub BLD : ℕ
BLD = 72

abbrev pub BLDS : ℕ
BLDS = 73

abbrev pub LDYX : ℕ
LDYX = 74

abbrev pub MOVX-to : ℕ
MOVX-to = 75

abbrev pub MOVX-from : ℕ
MOVX-from = 76

abbrev pub MOV-register : ℕ
MOV-register = 77

abbrev pub MOV-signed : ℕ
MOV-signed = 78

abbrev pub MOV-unsigned : ℕ
MOV-unsigned = 79

abbrev pub MOV-shifted : ℕ
MOV-shifted = 80

abbrev pub MOV-from-register : ℕ
MOV-from-register = 81

abbrev pub MOV-from-address : ℕ
MOV-from-address = 82

abbrev pub MOV-to-register : ℕ
MOV-to-register = 83

abbrev pub MOV-to-address : ℕ
MOV-to-address = 84

abbrev pub MOVIO-read : ℕ
MOVIO-read = 85

abbrev pub IORMW : ℕ
IORMW = 86

abbrev pub MOVIO-register : ℕ
MOVIO-register = 87

abbrev pub MOVIO-signed : ℕ
MOVIO-signed = 88

abbrev pub MOVIO-unsigned : ℕ
MOVIO-unsigned = 89

abbrev pub MOVIO-shifted : ℕ
MOVIO-shifted = 90

abbrev pub JMP-ALWAYS : ℕ
JMP-ALWAYS = 91

abbrev pub JMP-register-ALWAYS : ℕ
JMP-register-ALWAYS = 104

abbrev pub COP : ℕ
COP = 117

abbrev pub JSR : ℕ
JSR = 118

abbrev pub JSR-register : ℕ
JSR-register = 119

abbrev pub RLD : ℕ
RLD = 120

abbrev pub JSRWP : ℕ
JSRWP = 121

abbrev pub IRQ-ON : ℕ
IRQ-ON = 122

abbrev pub IRQ-OFF : ℕ
IRQ-OFF = 123

abbrev pub RET : ℕ
RET = 124

abbrev pub RETWP : ℕ
RETWP = 125

abbrev pub RETI : ℕ
RETI = 126

abbrev pub SPR-OFF : ℕ
SPR-OFF = 127

abbrev pub SPR-ON : ℕ
SPR-ON = 128

abbrev pub IRQM-RLD : ℕ
IRQM-RLD = 129

abbrev pub IRQM-SS : ℕ
IRQM-SS = 130
