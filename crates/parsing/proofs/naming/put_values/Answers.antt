-- `parsing::naming::put_values` meets its contract. Assumes nothing.
use Rattle.std.proofs.Common.{rules, sym, ap, ◌∙◌, ◌+◌, ◌≤◌, length, arith}
use borrow.Author.Tests.{tests, eqb-true, eqb-false}
use Rattle.std.proofs.lemmas.List.Sorted.{answers_always}
use Rattle.std.proofs.lemmas.Result.{err_from_is_err_and}
use Rattle.parsing.proofs.entries.Laws.{step_gives}
use Rattle.parsing.proofs.naming.Laws.{gathering_none, all_read, empty_piece, one_more, no_entry, entry_past, entry_again, entry_first}
use Rattle.parsing.proofs.naming.put_values.Goals as goal

pub loop-entry-init : goal.loop-entry-init
loop-entry-init c = gathering_none _ _ _ _ (ap (λ s. s.done) c.into_iter-entry-iterator.ensures.into_iter_gives ∙ c.split-entry-items.ensures.done) (ap (λ s. s.rest.now) c.into_iter-entry-iterator.ensures.into_iter_gives ∙ c.split-entry-items.ensures.rest)

pub loop-entry-preserved-then-is_empty : goal.loop-entry-preserved-then-is_empty
loop-entry-preserved-then-is_empty c =
    let s = c.in-Some.ensures.steps in
    let g = step_gives _ _ _ _ _ _ _ _ s (answers_always _ _ _ (λ f a r q k. search (rules, tests))) in
    empty_piece _ _ _ _ _ _ c.loop-entry.invariant s.0 _ _ _ g (eqb-true _ 0 (sym c.is_empty.ensures ∙ c.if-is_empty.true))

pub overflow_add-count : goal.overflow_add-count
overflow_add-count c =
    let s = c.in-Some.ensures.steps in
    let g = step_gives _ _ _ _ _ _ _ _ s (answers_always _ _ _ (λ f a r q k. search (rules, tests))) in
    let m : c.loop-entry.count + 1 ≤ length c.args.text.now =
    one_more _ _ _ _ _ _ c.loop-entry.invariant s.0 _ _ _ g (eqb-false _ 0 (sym c.is_empty.ensures ∙ c.if-is_empty.false)) in
    omega arith

pub returns-in_err-place : goal.returns-in_err-place
returns-in_err-place c =
    let s = c.in-Some.ensures.steps in
    let g = step_gives _ _ _ _ _ _ _ _ s (answers_always _ _ _ (λ f a r q k. search (rules, tests))) in
    let p = err_from_is_err_and c.from_residual.result c.from_residual.ensures.1 in
    let e = no_entry _ _ _ _ c.read_entry.ensures c.in_err-place.ensures.value in
    rw (p.1, p.2)
    (entry_past _ _ _ _ _ _ c.loop-entry.invariant s.0 _ _ _ g (eqb-false _ 0 (sym c.is_empty.ensures ∙ c.if-is_empty.false)) _ e.1 e.0 c.loop-entry.values)

pub returns-then-is_some : goal.returns-then-is_some
returns-then-is_some c =
    let s = c.in-Some.ensures.steps in
    let g = step_gives _ _ _ _ _ _ _ _ s (answers_always _ _ _ (λ f a r q k. search (rules, tests))) in
    entry_again _ _ _ _ _ _ c.loop-entry.invariant s.0 _ _ _ g (eqb-false _ 0 (sym c.is_empty.ensures ∙ c.if-is_empty.false)) _ _ (rw c.in_ok-place.ensures.ok_part at c.read_entry.ensures) (sym c.is_some.ensures ∙ c.if-is_some.true) c.loop-entry.values

pub loop-entry-preserved : goal.loop-entry-preserved
loop-entry-preserved c =
    let s = c.in-Some.ensures.steps in
    let g = step_gives _ _ _ _ _ _ _ _ s (answers_always _ _ _ (λ f a r q k. search (rules, tests))) in
    entry_first _ _ _ _ _ _ c.loop-entry.invariant s.0 _ _ _ g (eqb-false _ 0 (sym c.is_empty.ensures ∙ c.if-is_empty.false)) _ _ (rw c.in_ok-place.ensures.ok_part at c.read_entry.ensures) (sym c.is_some.ensures ∙ c.if-is_some.false)

pub returns : goal.returns
returns c = all_read _ _ _ _ _ _ c.loop-entry.invariant c.in-None.ensures.steps.0
