-- What it tells of the instruction at PC that 4 to 15 and 27 let the step pass: by a computed test over all rows, what parts a row of each kind has.
-- Assumes nothing.
use Prim.Native.Nat.{ℕ, ◌<◌}
use mathlib.Core.Path.{◌≡◌}
use mathlib.Core.Logic.{◌⊎◌, inl, inr}
use mathlib.Core.Bool.{true}
use lib.Dec.{T}
use Rattle.laws.specs.Choice.{decided_yes}
use Rattle.laws.specs.Test.{Test, yes?, ◌and◌, test, Holds, holds}
use Rattle.laws.specs.First.{numbered, Obeyed, obeyed}
use Rattle.laws.specs.Table.{every, at_every}
use Rattle.words.specs.declared.Config.{Config}
use Rattle.words.specs.declared.Instruction.{Instruction}
use Rattle.words.specs.declared.Facts.{Facts}
use Rattle.words.specs.Parts.{Part, Part-discrete, register, write_address, target, count, bank_address, is, in_range}
use Rattle.words.specs.Parts.{Option, Option-discrete, banks, needs, available}
use Rattle.words.specs.Kinds.{Operand, from_register, literal, short_literal, counted}
use Rattle.words.specs.Kinds.{Kind, unsupported, compute, compare, multiply, bytewise, load_index, index_store, index_load, move, load_constant, load_register, load_direct, store_register, store_direct, port_read, port_modify, port_write, jump, branch, jump_register, branch_register, call, call_register, ret, ret_constant, enter_bank, leave_bank, enter_special, leave_special}
use Rattle.words.specs.Rows.{Row, rows, row_count, row_at}
use Rattle.words.specs.Words.{fits, refusals567}
use Rattle.state.specs.State.{Env, State}
use Rattle.state.specs.Operands.{View, view_of}
use Rattle.state.specs.Stops.{stop9, stop27, stop10, stop11, stop12, stop13, stop14, stop15, stops, stops9to15, parts_at, kind_at, facts_at}
use Rattle.state.specs.Step.{number}

-- what parts a row of each kind has

abbrev assigns : Row → Test
assigns r = yes? (is r.destination register)

abbrev aims : Row → Test
aims r = yes? (is r.value target)

-- a second operand that is a count stands where a shift count does
unfoldable pub counts : Operand → Row → Test
counts from_register r = yes? true
counts (literal f) r = yes? true
counts short_literal r = yes? true
counts counted r = yes? (is r.value count)

unfoldable pub tells : Kind → Row → Test
tells unsupported r = yes? true
tells (compute o x) r = assigns r and counts x r
tells (compare o x) r = yes? true
tells (multiply x) r = assigns r
tells (bytewise o) r = assigns r
tells load_index r = yes? (is r.destination register) and yes? (is r.source register)
tells index_store r = yes? true
tells index_load r = yes? true
tells move r = assigns r
tells (load_constant f) r = assigns r
tells load_register r = assigns r
tells load_direct r = assigns r
tells store_register r = yes? true
tells store_direct r = yes? (is r.value write_address)
tells port_read r = assigns r
tells port_modify r = assigns r
tells (port_write x) r = yes? true
tells jump r = aims r
tells (branch k) r = aims r
tells jump_register r = yes? true
tells (branch_register k) r = yes? true
tells call r = aims r
tells call_register r = yes? true
tells ret r = yes? true
tells ret_constant r = assigns r
tells enter_bank r = yes? (is r.value bank_address) and yes? (needs r.option banks)
tells leave_bank r = yes? true
tells enter_special r = yes? true
tells leave_special r = yes? true

all_tell : T (every row_count (λ n. test (tells (row_at n).kind (row_at n))))
unfolding rows row_at tells counts
all_tell = tt

row_tells : (n : ℕ) → n < row_count → Holds (tells (row_at n).kind (row_at n))
row_tells n h =
    holds (tells (row_at n).kind (row_at n)) (at_every row_count (λ m. test (tells (row_at m).kind (row_at m))) n all_tell h)

-- what a part in its range is

module _ (c : Config) (p : Part) (v : ℕ) where
  pub a_register : T (is p register) → Holds (in_range c p v) → v < c.regsize
  unfolding in_range
  a_register t h = rw (decided_yes (Part-discrete p register) t) at h

  pub a_target : T (is p target) ⊎ T (is p bank_address) → Holds (in_range c p v) → v < c.imsize
  unfolding in_range
  a_target (inl t) h = rw (decided_yes (Part-discrete p target) t) at h
  a_target (inr t) h = rw (decided_yes (Part-discrete p bank_address) t) at h

  pub an_address : T (is p write_address) → Holds (in_range c p v) → v < c.dmsize
  unfolding in_range
  an_address t h = rw (decided_yes (Part-discrete p write_address) t) at h

  pub a_count : T (is p count) → Holds (in_range c p v) → v < 16
  unfolding in_range
  a_count t h = (rw (decided_yes (Part-discrete p count) t) at h).0

pub with_banks : (c : Config) (o : Option) → T (needs o banks) → Holds (available c o) → c.regsize < c.rmsize
unfolding available
with_banks c o t h = rw (decided_yes (Option-discrete o banks) t) at h

-- what 9 to 15 and 27 let pass, by name: proofs go by these, whatever the order of the list
pub record Passed (v : View) (i : Instruction) (f : Facts) : Type 0 where
  pub quiet : Holds (stop9 v i f)
  pub index : Holds (stop27 v i f)
  pub not_full : Holds (stop10 v i f)
  pub not_empty : Holds (stop11 v i f)
  pub bank : Holds (stop12 v i f)
  pub address : Holds (stop13 v i f)
  pub input : Holds (stop14 v i f)
  pub room : Holds (stop15 v i f)

passed : (v : View) (i : Instruction) (f : Facts) → Obeyed (stops9to15 v i f) → Passed v i f
unfolding stops9to15
passed v i f p =
    record {
      quiet = p.0;
      index = p.1.0;
      not_full = p.1.1.0;
      not_empty = p.1.1.1.0;
      bank = p.1.1.1.1.0;
      address = p.1.1.1.1.1.0;
      input = p.1.1.1.1.1.1.0;
      room = p.1.1.1.1.1.1.1.0;
    }

pub record Told (e : Env) (s : State) : Type 0 where
  pub pc : s.core.pc < e.config.imsize
  pub row : (parts_at e s).row < row_count
  pub option : Holds (available e.config (row_at (parts_at e s).row).option)
  pub fit : Holds (fits e.config (row_at (parts_at e s).row) (parts_at e s))
  pub parts : Holds (tells (kind_at e s) (row_at (parts_at e s).row))
  pub stops : Passed (view_of e s) (parts_at e s) (facts_at e s)

-- the value of the word at PC is in its range
pub told_value : (e : Env) (s : State) → Told e s → Holds (in_range e.config (row_at (parts_at e s).row).value (parts_at e s).value)
unfolding fits
told_value e s t = t.fit.1.1.1.1

pub told : (e : Env) (s : State) → number e s ≡ 0 → Told e s
unfolding number stops refusals567 stops9to15
told e s h =
    let p = obeyed (stops e s) (numbered (stops e s) tt) h in
    record {
      pc = p.0;
      row = p.1.0;
      option = p.1.1.0;
      fit = p.1.1.1.0;
      parts = row_tells (parts_at e s).row p.1.0;
      stops = passed (view_of e s) (parts_at e s) (facts_at e s) p.1.1.1.1.1;
    }
