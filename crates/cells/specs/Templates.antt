-- What code fills a cell from: the template of a word's row, and the fields of the word. Nothing here is to be believed.
use Rattle.std.specs.Prelude.{ℕ, ◌+◌, ◌*◌, ◌/◌, ◌%◌, not, ◌&&◌, eqb, ltb}
use Rattle.laws.specs.Choice.{pick}
use Rattle.words.specs.declared.Config.{Config}
use Rattle.words.specs.declared.Form.{Form}
use Rattle.words.specs.declared.Form.TheVariants.{Signed, Unsigned, Shifted}
use Rattle.words.specs.Kinds.{Operand, from_register, literal, short_literal, counted}
use Rattle.words.specs.Kinds.{Kind, unsupported, compute, compare, multiply, bytewise, load_index, index_store, index_load, move, load_constant, load_register, load_direct, store_register, store_direct, port_read, port_modify, port_write, jump, branch, jump_register, branch_register, call, call_register, ret, ret_constant, enter_bank, leave_bank, enter_special, leave_special}
use Rattle.words.specs.Facts.{facts_for}
use Rattle.words.specs.Actions.{flag', destination', source'}
use Rattle.words.specs.Lookup.{entry_at, entry_kind}
use Rattle.arith.specs.Width.{one}
use Rattle.state.specs.Operands.{constant}
use Rattle.cells.specs.declared.decoding.ValueSource.{ValueSource}
use Rattle.cells.specs.declared.decoding.ValueSource.TheVariants.{Nowhere, Immediate, Lower, Target, ByteNumber, UnitAndAddress, TurnsOn, TurnsOff}
use Rattle.cells.specs.Cell.{turns_on, turns_off, first_apart, taken_of, used}

-- Where the value of a cell comes from, by number: 0 nowhere, 1 to 3 an immediate by its form, 4 bits 15-0 as they stand, 5 bits 22-0, 6 the byte number,
-- 7 JSRWP's unit and address, 8 SPR_ON, 9 SPR_OFF.

abbrev pub form_source : Form → ℕ
form_source Signed = 1
form_source Unsigned = 2
form_source Shifted = 3

abbrev pub operand_source : Operand → ℕ
operand_source from_register = 0
operand_source (literal f) = form_source f
operand_source short_literal = 0
operand_source counted = 4

unfoldable pub value_source : Kind → ℕ
value_source unsupported = 0
value_source (compute o b) = operand_source b
value_source (compare o b) = operand_source b
value_source (multiply b) = operand_source b
value_source (bytewise o) = 6
value_source load_index = 0
value_source index_store = 0
value_source index_load = 0
value_source move = 0
value_source (load_constant f) = form_source f
value_source load_register = 0
value_source load_direct = 4
value_source store_register = 0
value_source store_direct = 4
value_source port_read = 0
value_source port_modify = 0
value_source (port_write b) = operand_source b
value_source jump = 5
value_source (branch k) = 5
value_source jump_register = 0
value_source (branch_register k) = 0
value_source call = 5
value_source call_register = 0
value_source ret = 0
value_source ret_constant = 1
value_source enter_bank = 7
value_source leave_bank = 0
value_source enter_special = 8
value_source leave_special = 9

-- the numbers of the sources
abbrev pub source_number : ValueSource → ℕ
source_number Nowhere = 0
source_number (Immediate f) = form_source f
source_number Lower = 4
source_number Target = 5
source_number ByteNumber = 6
source_number UnitAndAddress = 7
source_number TurnsOn = 8
source_number TurnsOff = 9

-- the value of source k in word w
unfoldable pub value_from : Config → ℕ → ℕ → ℕ
value_from c k w =
    pick (eqb k 1) (constant c Signed w)
    (pick (eqb k 2) (constant c Unsigned w)
    (pick (eqb k 3) (constant c Shifted w)
    (pick (eqb k 4) (w % 65536)
    (pick (eqb k 5) (w % 0x800000)
    (pick (eqb k 6) (w / 0x800000 % 4)
    (pick (eqb k 7) (w % 0x800000)
    (pick (eqb k 8) turns_on (pick (eqb k 9) turns_off 0))))))))

-- The template of row n: bits 5-0 action, 0 where the loop does not have it; 6, 7, 8 whether flag, destination, source are read; 9 whether it loads; 15-10 the
-- check; 19-16 the source of the value; 23-20 when a jump is taken; 25-24 cycles, but for the wait of a load.
unfoldable pub template_of : ℕ → ℕ
template_of n =
    let e = entry_at n in
    let a = e / 0x4000000 in
    let k = entry_kind e in
    let here = ltb a first_apart && not (eqb a 0) in
    pick here
    (a +
    0x40 * used flag' a 1 +
    0x80 * used destination' a 1 +
    0x100 * used source' a 1 +
    0x200 * one (facts_for k).load +
    0x100000 * taken_of k +
    0x1000000 * (2 + one (facts_for k).input))
    0 +
    0x400 * (e % 64) +
    0x10000 * value_source k

-- a part of the word where bit 0 of t says that it is read
abbrev pub part : ℕ → ℕ → ℕ
part t v = pick (eqb (t % 2) 1) v 0

-- the cycles of template t: a load waits where DM_PIPE is not 0
unfoldable pub cost_of : Config → ℕ → ℕ
cost_of c t = t / 0x1000000 + one (eqb (t / 0x200 % 2) 1 && not (eqb c.dmpipe 0))

-- the cell that template t and word w give
unfoldable pub filled : Config → ℕ → ℕ → ℕ
filled c t w =
    0x4000000000000000 * cost_of c t +
    0x100000000000000 * (t / 0x100000 % 16) +
    0x1000000 * value_from c (t / 0x10000 % 16) w +
    0x10000 * part (t / 0x100) (w % 128) +
    0x100 * part (t / 0x80) (w / 0x10000 % 128) +
    0x40 * part (t / 0x40) (w / 0x4000000 % 2) +
    t % 64
