-- The class of a word by its bits 31 to 23, as document 01's 'Words' lists them: a row's number (Numbers), no row, or one of five classes whose row
-- another field chooses.
use Rattle.std.specs.Prelude.{ℕ, ◌+◌, ◌*◌, ◌/◌, ◌%◌, List, [], ◌∷◌, leb, ltb, eqb, get_or}
use Rattle.laws.specs.Choice.{pick}
use Rattle.laws.specs.Lists.{column}
use Rattle.words.specs.Numbers.{SHR-register, SHRA-register, SHL-register, SHR-count, SHRA-count, SHL-count, ROTR, ROTL, SHL16, ABS, CLZ}
use Rattle.words.specs.Numbers.{BST, BLD, BLDS, LDYX, MOVX-to, MOVX-from}
use Rattle.words.specs.Numbers.{MOV-register, MOV-signed, MOV-unsigned, MOV-shifted, MOV-from-register, MOV-from-address, MOV-to-register, MOV-to-address}
use Rattle.words.specs.Numbers.{MOVIO-read, IORMW, MOVIO-register, MOVIO-signed, MOVIO-unsigned, MOVIO-shifted}
use Rattle.words.specs.Numbers.{JMP-ALWAYS, JMP-register-ALWAYS, COP, JSR, JSR-register, RLD, JSRWP, IRQ-ON, IRQ-OFF}
use Rattle.words.specs.Numbers.{RET, RETWP, RETI, SPR-OFF, SPR-ON, IRQM-RLD, IRQM-SS}

-- the classes that are no row stand above all rows

abbrev pub index : ℕ  -- level 2 with 25-23 = 000: bits 15-8 choose
index = 240

abbrev pub upper_bytes : ℕ  -- level 2 with byte number 1 to 3: bits 15-8 choose
upper_bytes = 241

abbrev pub port : ℕ  -- MOVIO that reads: bit 15 chooses
port = 242

abbrev pub irq_switch : ℕ  -- IRQ_ON and IRQ_OFF: bit 22 chooses
irq_switch = 243

abbrev pub misc : ℕ  -- 1111 00000: bits 22-16 choose
misc = 244

abbrev pub none : ℕ  -- no row: "a code, mode or condition not named answers 5"
none = 255

-- by bits 25-23
abbrev pub by8 : ℕ → ℕ → ℕ → ℕ → ℕ → ℕ → ℕ → ℕ → ℕ → ℕ
by8 m a b c d e f g h = get_or (a ∷ b ∷ c ∷ d ∷ e ∷ f ∷ g ∷ h ∷ []) m none

-- "TST to MUL, bits 25-23: 000 source register in 6-0; 101 signed, 110 unsigned, 111 shifted immediate in 15-0; 100 unsupported here; others no row."
-- Five rows for each of the twelve operations, n counted from TST.
abbrev pub base_class : ℕ → ℕ → ℕ
base_class n m = by8 m (5 * n) none none none (5 * n + 4) (5 * n + 1) (5 * n + 2) (5 * n + 3)

-- "Shift, 25-23: 000 SHR, 001 SHRA, 100 SHL by register; 010, 011, 110 the same by immediate"
abbrev pub shift_class : ℕ → ℕ
shift_class m = by8 m SHR-register SHRA-register SHR-count SHRA-count SHL-register none SHL-count none

-- "Level 1: 000 ROTR, 100 ROTL, 110 SHL16, 001 ABS, 011 CLZ."
abbrev pub level1_class : ℕ → ℕ
level1_class m = by8 m ROTR ABS none CLZ ROTL none SHL16 none

-- "Level 2: 0NN byte number"
abbrev pub level2_class : ℕ → ℕ
level2_class m = by8 m index upper_bytes upper_bytes upper_bytes none none none none

-- "1010 MOV, destination mode 27-26, source mode 25-23: 00 with 000, 010 (@%s), 011 (&a) and the three immediates; 10 (@%d) and 11 (&a) with 000 only."
abbrev pub move_class : ℕ → ℕ → ℕ
move_class d m =
    pick (eqb d 0) (by8 m MOV-register none MOV-from-register MOV-from-address none MOV-signed MOV-unsigned MOV-shifted)
    (pick (eqb d 2) (by8 m MOV-to-register none none none none none none none)
    (pick (eqb d 3) (by8 m MOV-to-address none none none none none none none) none))

-- "1011 MOVIO: 00 with 010 reads, with bit 15 set it is IORMW; 10 with 000 or an immediate writes."
abbrev pub port_class : ℕ → ℕ → ℕ
port_class d m =
    pick (eqb d 0) (by8 m none none port none none none none none)
    (pick (eqb d 2) (by8 m MOVIO-register none none none none MOVIO-signed MOVIO-unsigned MOVIO-shifted) none)

-- "1100 JMP: bit 27 = 1 register in 22-16, else target 22-0; condition 26-23: 0 always .. 12 BIO." r is bit 27, k the condition.
abbrev pub jump_class : ℕ → ℕ → ℕ
jump_class r k = pick (leb k 12) (pick (eqb r 1) JMP-register-ALWAYS JMP-ALWAYS + k) none

-- "1111, bits 27-23: 00001 JSR target, 10001 JSR @%d, 00101 RLD, 00010 JSRWP, 00100 IRQ_ON/OFF; 00000 with 22-16"
abbrev pub call_class : ℕ → ℕ
call_class k =
    pick (eqb k 0x01) JSR
    (pick (eqb k 0x11) JSR-register
    (pick (eqb k 0x05) RLD
    (pick (eqb k 0x02) JSRWP
    (pick (eqb k 0x04) irq_switch (pick (eqb k 0x00) misc none)))))

-- by bits 31-27, and by bits 31-28 from 1010 on
unfoldable pub class_of : ℕ → ℕ
class_of k =
    let o = k / 16 in
    let m = k % 8 in
    let h = k / 32 in
    pick (ltb o 11) (base_class o m)
    (pick (eqb o 14) (base_class 11 m)
    (pick (eqb o 16) (shift_class m)
    (pick (eqb o 18) (level1_class m)
    (pick (eqb o 19) (level2_class m)
    (pick (eqb h 10) (move_class (k / 8 % 4) m)
    (pick (eqb h 11) (port_class (k / 8 % 4) m)
    (pick (eqb h 12) (jump_class (k / 16 % 2) (k % 16))
    (pick (eqb h 14) COP (pick (eqb h 15) (call_class (k % 32)) none)))))))))

-- The field that chooses the row where bits 31-23 leave a choice, and its value; f is bits 22-0.
pub data Field : Type 0 where
  no_field bits15_8 bit15 bit22 bits22_16 : Field

unfoldable pub field_of : ℕ → Field
field_of c =
    pick (eqb c index) bits15_8
    (pick (eqb c upper_bytes) bits15_8 (pick (eqb c port) bit15 (pick (eqb c irq_switch) bit22 (pick (eqb c misc) bits22_16 no_field))))

unfoldable pub code_at : Field → ℕ → ℕ
code_at no_field f = 0
code_at bits15_8 f = f / 256 % 256
code_at bit15 f = f / 32768 % 2
code_at bit22 f = f / 0x400000 % 2
code_at bits22_16 f = f / 65536

-- codes and their rows

-- "15-8 is 01 BST, 02 BLD, 06 BLDS (hex)."
abbrev pub byte_rows : List (ℕ × ℕ)
byte_rows = (0x01, BST) ∷ (0x02, BLD) ∷ (0x06, BLDS) ∷ []

-- "With 25-23 = 000: 14 LDYX, 18 MOVX to DM, 1C MOVX from DM."
abbrev pub index_rows : List (ℕ × ℕ)
index_rows = (0x14, LDYX) ∷ (0x18, MOVX-to) ∷ (0x1c, MOVX-from) ∷ byte_rows

-- "with bit 15 set it is IORMW"
abbrev pub port_rows : List (ℕ × ℕ)
port_rows = (0, MOVIO-read) ∷ (1, IORMW) ∷ []

-- manual 5.17.9: bit 22, 0/1 = on/off
abbrev pub mask_rows : List (ℕ × ℕ)
mask_rows = (0, IRQ-ON) ∷ (1, IRQ-OFF) ∷ []

-- "00000 with 22-16: 0 RET, 1 RETWP, 4 SPR_OFF, 5 SPR_ON, 2, 6, 7 unsupported"; the names of 2, 6 and 7 are manual 5.17.9's
abbrev pub misc_rows : List (ℕ × ℕ)
misc_rows =
    (0, RET) ∷ (1, RETWP) ∷ (2, RETI) ∷ (4, SPR-OFF) ∷ (5, SPR-ON) ∷ (6, IRQM-RLD) ∷ (7, IRQM-SS) ∷ []

unfoldable pub choices : ℕ → List (ℕ × ℕ)
choices c =
    pick (eqb c index) index_rows
    (pick (eqb c upper_bytes) byte_rows (pick (eqb c port) port_rows (pick (eqb c irq_switch) mask_rows (pick (eqb c misc) misc_rows []))))

-- the row of code n in a list of codes
abbrev pub lookup : List (ℕ × ℕ) → ℕ → ℕ
lookup [] n = none
lookup (x ∷ xs) n = pick (eqb n x.0) x.1 (lookup xs n)

-- the row of class c at code n
unfoldable pub row_in : ℕ → ℕ → ℕ
row_in c n = pick (ltb c index) c (lookup (choices c) n)

-- the row of class c, where f is bits 22-0
unfoldable pub row_of : ℕ → ℕ → ℕ
row_of c f = row_in c (code_at (field_of c) f)

-- all rows that a class names
unfoldable pub named : ℕ → List ℕ
named c = pick (ltb c index) (c ∷ []) (column (λ (x : ℕ × ℕ). x.1) (choices c))
