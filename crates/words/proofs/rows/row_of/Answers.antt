-- `words::rows::row_of` meets its contract. Assumes nothing.
use native.Mathlib.Omega.{arith}
use Rattle.laws.specs.Choice.{pick}
use borrow.Author.Tests.{lt-ltb, le-ltb, ne_eqb}
use Rattle.words.specs.Classes.{choices, field_of, code_at, row_in, row_of}
use Rattle.words.proofs.Lists.{byte_codes, index_codes, misc_codes}
use Rattle.words.proofs.rows.row_of.Goals as goal

pub returns-then-c-lt-INDEX : goal.returns-then-c-lt-INDEX
unfolding choices field_of code_at row_in row_of pick
returns-then-c-lt-INDEX c = simp (lt-ltb c.args.c 240 (omega arith))

pub returns-in-240 : goal.returns-in-240
unfolding choices field_of code_at row_in row_of pick
returns-in-240 c = rw (c.named_at.ensures, index_codes _, c.in-240.is)

pub returns-in-241 : goal.returns-in-241
unfolding choices field_of code_at row_in row_of pick
returns-in-241 c = rw (c.named_at-in-241.ensures, byte_codes _, c.in-241.is)

pub returns-in-242 : goal.returns-in-242
unfolding choices field_of code_at row_in row_of pick
returns-in-242 c = rw (c.port_row.ensures, c.in-242.is)

pub returns-in-243 : goal.returns-in-243
unfolding choices field_of code_at row_in row_of pick
returns-in-243 c = rw (c.mask_row.ensures, c.in-243.is)

pub returns-in-244 : goal.returns-in-244
unfolding choices field_of code_at row_in row_of pick
returns-in-244 c = rw (c.named_at-in-244.ensures, misc_codes _, c.in-244.is)

pub returns-in_default : goal.returns-in_default
unfolding choices field_of code_at row_in row_of pick
returns-in_default c =
    simp (
      le-ltb c.args.c 240 (omega arith),
      ne_eqb c.args.c 240 (omega arith),
      ne_eqb c.args.c 241 (omega arith),
      ne_eqb c.args.c 242 (omega arith),
      ne_eqb c.args.c 243 (omega arith),
      ne_eqb c.args.c 244 (omega arith),
    )
