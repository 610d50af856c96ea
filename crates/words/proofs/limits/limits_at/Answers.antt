-- `words::limits::limits_at` meets its contract. Assumes nothing.
use mathlib.Core.Path.{refl, sym, ◌∙◌}
use mathlib.Core.Bool.{and-true}
use native.Mathlib.Nat.{zero-add}
use Rattle.laws.specs.Choice.{pick}
use Rattle.laws.specs.Table.{excluded}
use Rattle.words.specs.Parts.{in_range, available}
use Rattle.words.specs.Actions.{checks}
use Rattle.words.specs.Packed.{limit_of}
use Rattle.words.specs.Lookup.{check_at, limit_in, upper_limit, lower_limit}
use Rattle.words.proofs.limits.Laws.{at_check, past}
use Rattle.words.proofs.limits.limits_at.Goals as goal

pub returns-in-0 : goal.returns-in-0
unfolding upper_limit lower_limit limit_in limit_of in_range available check_at checks pick
returns-in-0 c = at_check c.args.c c.args.t 0 _ _ _ _ c.in-0.is c.limits.ensures refl refl

pub returns-in-1 : goal.returns-in-1
unfolding upper_limit lower_limit limit_in limit_of in_range available check_at checks pick
returns-in-1 c = at_check c.args.c c.args.t 1 _ _ _ _ c.in-1.is c.limits-in-1.ensures (sym (zero-add _)) (sym (zero-add _))

pub returns-in-2 : goal.returns-in-2
unfolding upper_limit lower_limit limit_in limit_of in_range available check_at checks pick
returns-in-2 c = at_check c.args.c c.args.t 2 _ _ _ _ c.in-2.is c.limits-in-2.ensures (sym (zero-add _)) refl

pub returns-in-3 : goal.returns-in-3
unfolding upper_limit lower_limit limit_in limit_of in_range available check_at checks pick
returns-in-3 c = at_check c.args.c c.args.t 3 _ _ _ _ c.in-3.is c.limits-in-3.ensures (c.pick.ensures ∙ simp (and-true, zero-add)) (sym (zero-add _))

pub returns-in-4 : goal.returns-in-4
unfolding upper_limit lower_limit limit_in limit_of in_range available check_at checks pick
returns-in-4 c = at_check c.args.c c.args.t 4 _ _ _ _ c.in-4.is c.limits-in-4.ensures (c.pick-in-4.ensures ∙ simp (and-true, zero-add)) refl

pub returns-in-5 : goal.returns-in-5
unfolding upper_limit lower_limit limit_in limit_of in_range available check_at checks pick
returns-in-5 c = at_check c.args.c c.args.t 5 _ _ _ _ c.in-5.is c.limits-in-5.ensures (c.pick-in-5.ensures ∙ simp (and-true, zero-add)) (sym (zero-add _))

pub returns-in-6 : goal.returns-in-6
unfolding upper_limit lower_limit limit_in limit_of in_range available check_at checks pick
returns-in-6 c = at_check c.args.c c.args.t 6 _ _ _ _ c.in-6.is c.limits-in-6.ensures (sym (zero-add _)) (c.pick-in-6.ensures ∙ simp (zero-add))

pub returns-in-7 : goal.returns-in-7
unfolding upper_limit lower_limit limit_in limit_of in_range available check_at checks pick
returns-in-7 c = at_check c.args.c c.args.t 7 _ _ _ _ c.in-7.is c.limits-in-7.ensures (c.pick-in-7.ensures ∙ simp (zero-add)) refl

pub returns-in-8 : goal.returns-in-8
unfolding upper_limit lower_limit limit_in limit_of in_range available check_at checks pick
returns-in-8 c = at_check c.args.c c.args.t 8 _ _ _ _ c.in-8.is c.limits-in-8.ensures (c.pick-in-8.ensures ∙ simp (zero-add)) refl

pub returns-in-9 : goal.returns-in-9
unfolding upper_limit lower_limit limit_in limit_of in_range available check_at checks pick
returns-in-9 c = at_check c.args.c c.args.t 9 _ _ _ _ c.in-9.is c.limits-in-9.ensures (c.pick-in-9.ensures ∙ simp (zero-add)) refl

pub returns-in-10 : goal.returns-in-10
unfolding upper_limit lower_limit limit_in limit_of in_range available check_at checks pick
returns-in-10 c = at_check c.args.c c.args.t 10 _ _ _ _ c.in-10.is c.limits-in-10.ensures (c.pick-in-10.ensures ∙ simp (and-true, zero-add)) refl

pub returns-in-11 : goal.returns-in-11
unfolding upper_limit lower_limit limit_in limit_of in_range available check_at checks pick
returns-in-11 c = at_check c.args.c c.args.t 11 _ _ _ _ c.in-11.is c.limits-in-11.ensures (c.pick-in-11.ensures ∙ simp (and-true, zero-add)) refl

pub returns-in-12 : goal.returns-in-12
unfolding upper_limit lower_limit limit_in limit_of in_range available check_at checks pick
returns-in-12 c = at_check c.args.c c.args.t 12 _ _ _ _ c.in-12.is c.limits-in-12.ensures (c.pick-in-12.ensures ∙ simp (and-true, zero-add)) refl

pub returns-in-13 : goal.returns-in-13
unfolding upper_limit lower_limit limit_in limit_of in_range available check_at checks pick
returns-in-13 c = at_check c.args.c c.args.t 13 _ _ _ _ c.in-13.is c.limits-in-13.ensures (c.pick-in-13.ensures ∙ simp (and-true, zero-add)) (sym (zero-add _))

pub returns-in-14 : goal.returns-in-14
unfolding upper_limit lower_limit limit_in limit_of in_range available check_at checks pick
returns-in-14 c = at_check c.args.c c.args.t 14 _ _ _ _ c.in-14.is c.limits-in-14.ensures (c.pick-in-14.ensures ∙ simp (and-true, zero-add)) (sym (zero-add _))

pub returns-in-15 : goal.returns-in-15
unfolding upper_limit lower_limit limit_in limit_of in_range available check_at checks pick
returns-in-15 c = at_check c.args.c c.args.t 15 _ _ _ _ c.in-15.is c.limits-in-15.ensures (c.pick-in-15.ensures ∙ simp (and-true, zero-add)) (sym (zero-add _))

pub returns-in-16 : goal.returns-in-16
unfolding upper_limit lower_limit limit_in limit_of in_range available check_at checks pick
returns-in-16 c = at_check c.args.c c.args.t 16 _ _ _ _ c.in-16.is c.limits-in-16.ensures (c.pick-in-16.ensures ∙ simp (and-true, zero-add)) (sym (zero-add _))

pub returns-in-17 : goal.returns-in-17
unfolding upper_limit lower_limit limit_in limit_of in_range available check_at checks pick
returns-in-17 c = at_check c.args.c c.args.t 17 _ _ _ _ c.in-17.is c.limits-in-17.ensures (c.pick-in-17.ensures ∙ simp (and-true, zero-add)) refl

pub returns-in-18 : goal.returns-in-18
unfolding upper_limit lower_limit limit_in limit_of in_range available check_at checks pick
returns-in-18 c = at_check c.args.c c.args.t 18 _ _ _ _ c.in-18.is c.limits-in-18.ensures (c.pick-in-18.ensures ∙ simp (and-true, zero-add)) refl

pub returns-in-19 : goal.returns-in-19
unfolding upper_limit lower_limit limit_in limit_of in_range available check_at checks pick
returns-in-19 c = at_check c.args.c c.args.t 19 _ _ _ _ c.in-19.is c.limits-in-19.ensures refl (sym (zero-add _))

pub returns-in-20 : goal.returns-in-20
unfolding upper_limit lower_limit limit_in limit_of in_range available check_at checks pick
returns-in-20 c = at_check c.args.c c.args.t 20 _ _ _ _ c.in-20.is c.limits-in-20.ensures (c.pick-in-20.ensures ∙ simp (and-true)) (sym (zero-add _))

pub returns-in-21 : goal.returns-in-21
unfolding upper_limit lower_limit limit_in limit_of in_range available check_at checks pick
returns-in-21 c = at_check c.args.c c.args.t 21 _ _ _ _ c.in-21.is c.limits-in-21.ensures (sym (zero-add _)) refl

pub returns-in-22 : goal.returns-in-22
unfolding upper_limit lower_limit limit_in limit_of in_range available check_at checks pick
returns-in-22 c = at_check c.args.c c.args.t 22 _ _ _ _ c.in-22.is c.limits-in-22.ensures (c.pick-in-22.ensures ∙ simp (and-true, zero-add)) refl

pub returns-in-23 : goal.returns-in-23
unfolding upper_limit lower_limit limit_in limit_of in_range available check_at checks pick
returns-in-23 c = at_check c.args.c c.args.t 23 _ _ _ _ c.in-23.is c.limits-in-23.ensures (c.pick-in-23.ensures ∙ simp (and-true)) (sym (zero-add _))

pub returns-in-24 : goal.returns-in-24
unfolding upper_limit lower_limit limit_in limit_of in_range available check_at checks pick
returns-in-24 c = at_check c.args.c c.args.t 24 _ _ _ _ c.in-24.is c.limits-in-24.ensures refl refl

pub returns-in-25 : goal.returns-in-25
unfolding upper_limit lower_limit limit_in limit_of in_range available check_at checks pick
returns-in-25 c = at_check c.args.c c.args.t 25 _ _ _ _ c.in-25.is c.limits-in-25.ensures (c.pick-in-25.ensures ∙ simp (and-true)) refl

pub returns-in-26 : goal.returns-in-26
unfolding upper_limit lower_limit limit_in limit_of in_range available check_at checks pick
returns-in-26 c = at_check c.args.c c.args.t 26 _ _ _ _ c.in-26.is c.limits-in-26.ensures (c.pick-in-26.ensures ∙ simp (and-true)) refl

pub returns-in-27 : goal.returns-in-27
unfolding upper_limit lower_limit limit_in limit_of in_range available check_at checks pick
returns-in-27 c = at_check c.args.c c.args.t 27 _ _ _ _ c.in-27.is c.limits-in-27.ensures (c.pick-in-27.ensures ∙ simp (and-true)) refl

pub returns-in_default : goal.returns-in_default
returns-in_default c = past c.args.c c.args.t _ _ (excluded _ 28 c.in_default.in_default-own.rest) c.limits-in_default.ensures
