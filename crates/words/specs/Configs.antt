-- Which configurations are lawful: document 01, 'Configuration', clause by clause. One that is not lawful is refused with 1.
use Rattle.std.specs.Prelude.{ℕ, ◌*◌, List, [], ◌∷◌, ltb}
use Rattle.laws.specs.Test.{Test, less, most, same, among, if?, ◌and◌, ◌or◌}
use Rattle.words.specs.declared.Config.{Config}

abbrev pub widths : List ℕ
widths = 8 ∷ 16 ∷ 32 ∷ []

abbrev pub register_sizes : List ℕ
register_sizes = 8 ∷ 16 ∷ 32 ∷ 64 ∷ 128 ∷ []

abbrev pub bank_sizes : List ℕ
bank_sizes = 16 ∷ 32 ∷ 64 ∷ 128 ∷ 256 ∷ 512 ∷ 1024 ∷ []

abbrev pub data_sizes : List ℕ
data_sizes = 0 ∷ 2 ∷ 4 ∷ 8 ∷ 16 ∷ 32 ∷ 64 ∷ 128 ∷ 256 ∷ 512 ∷ 1024 ∷ 2048 ∷ 4096 ∷ 8192 ∷ 16384 ∷ 32768 ∷ []

-- "IM_WIDTH 32. IM_SIZE 1 to 32,768."
abbrev pub lawful_image : ℕ → ℕ → Test
lawful_image width size = same width 32 and less 0 size and most size 32768

-- "REG_WIDTH W: 8, 16 or 32. REG_SIZE: 8, 16, 32, 64 or 128."
abbrev pub lawful_registers : ℕ → ℕ → Test
lawful_registers width size = among width widths and among size register_sizes

-- "RM_SIZE = REG_SIZE, or a power of two from 2·REG_SIZE to 1,024 (banks; W must be 32)."
abbrev pub lawful_banks : ℕ → ℕ → ℕ → Test
lawful_banks width size rm = same rm size or same width 32 and most (2 * size) rm and among rm bank_sizes

-- "PC_STACK 1 to 64. DM_SIZE 0 or a power of two from 2 to 32,768. DM_PIPE 0 to 2."
abbrev pub lawful_memory : ℕ → ℕ → ℕ → Test
lawful_memory stack dm pipe = less 0 stack and most stack 64 and among dm data_sizes and most pipe 2

-- "ALU_LEVEL 0 to 2; above 0 needs W ≥ 16. ALU_MULT, ALU_SPR, IOP_IF, IOP_RMW 0 or 1; IOP_RMW needs IOP_IF."
abbrev pub lawful_options : ℕ → ℕ → ℕ → ℕ → ℕ → ℕ → Test
lawful_options width level mult spr ports rmw =
    most level 2 and if? (ltb 0 level) (most 16 width) and most mult 1 and most spr 1 and most ports 1 and most rmw ports

-- "YAM_CLK ≤ 1,023, YAM_SREG3 ≤ 65,535. ALU_3OP, IRQ_IF, COPM_SIZE, YAM_DBG 0."
abbrev pub lawful_rest : ℕ → ℕ → ℕ → ℕ → ℕ → ℕ → Test
lawful_rest clk sreg3 three irq copm dbg =
    most clk 1023 and most sreg3 65535 and same three 0 and same irq 0 and same copm 0 and same dbg 0

unfoldable pub lawful : Config → Test
lawful c =
    lawful_image c.imwidth c.imsize and
    lawful_registers c.regwidth c.regsize and
    lawful_banks c.regwidth c.regsize c.rmsize and
    lawful_memory c.pcstack c.dmsize c.dmpipe and
    lawful_options c.regwidth c.alulevel c.alumult c.aluspr c.iopif c.ioprmw and
    lawful_rest c.yamclk c.yamsreg3 c.alu3op c.irqif c.copmsize c.yamdbg
