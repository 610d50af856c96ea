-- The table of src/templates.rt holds the template of each row; past the rows 0.
-- Assumes nothing.
use Rattle.std.proofs.Common.{◌≡◌, ℕ, ◌≤◌, Bool, true, false, T, get_or, eqb, ltb, refl, ◌∙◌, eqb→eq}
use borrow.Author.Tests.{ltb-true, ltb-false}
use lib.ListN.{get_or-eq_default}
use Rattle.laws.specs.Choice.{pick}
use Rattle.laws.specs.Table.{every, at_every}
use Rattle.words.specs.Kinds.{marks_of}
use Rattle.words.specs.Rows.{row_count}
use Rattle.words.specs.Codes.{form_at, condition_at}
use Rattle.words.specs.Facts.{facts_for}
use Rattle.words.specs.Actions.{actions, entries}
use Rattle.words.specs.Lookup.{entry_at, action_at}
use Rattle.arith.specs.Width.{one}
use Rattle.state.specs.Operands.{condition_met}
use Rattle.cells.specs.declared.templates.TheConstants.{TEMPLATES}
use Rattle.cells.specs.Cell.{taken_of}
use Rattle.cells.specs.Templates.{value_source, template_of}

pub past_entries : (n : ℕ) → row_count ≤ n → entry_at n ≡ 0
unfolding entry_at entries
past_entries n h = get_or-eq_default entries 0 h

pub template_past : (n : ℕ) → row_count ≤ n → 0 ≡ template_of n
unfolding template_of action_at actions form_at condition_at value_source pick
template_past n h = rw (past_entries n h)

rows_right : T (every row_count (λ n. eqb (get_or TEMPLATES n 0) (template_of n)))
unfolding template_of entry_at entries action_at actions form_at condition_at facts_for marks_of taken_of condition_met value_source one pick
rows_right = tt

pub template_is : (n : ℕ) → get_or TEMPLATES n 0 ≡ template_of n
template_is n = go (ltb n row_count) refl
  where
    go : (b : Bool) → ltb n row_count ≡ b → get_or TEMPLATES n 0 ≡ template_of n
    go true e = eqb→eq _ _ (at_every row_count (λ m. eqb (get_or TEMPLATES m 0) (template_of m)) n rows_right (ltb-true n row_count e))
    go false e = let h = ltb-false n row_count e in get_or-eq_default TEMPLATES 0 h ∙ template_past n h
