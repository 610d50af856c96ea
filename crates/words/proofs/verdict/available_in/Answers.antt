-- `words::verdict::available_in` meets its contract. Assumes nothing.
use mathlib.Core.Path.{refl}
use Rattle.laws.specs.Table.{excluded}
use Rattle.words.specs.Parts.{available}
use Rattle.words.specs.Codes.{option_at}
use Rattle.words.proofs.Parts.{option_moved, option_past}
use Rattle.words.proofs.verdict.available_in.Goals as goal

pub returns-in-0 : goal.returns-in-0
unfolding available option_at
returns-in-0 c = option_moved c.args.c _ 0 _ c.in-0.is refl

pub returns-in-1 : goal.returns-in-1
unfolding available option_at
returns-in-1 c = option_moved c.args.c _ 1 _ c.in-1.is refl

pub returns-in-2 : goal.returns-in-2
unfolding available option_at
returns-in-2 c = option_moved c.args.c _ 2 _ c.in-2.is refl

pub returns-in-3 : goal.returns-in-3
unfolding available option_at
returns-in-3 c = option_moved c.args.c _ 3 _ c.in-3.is refl

pub returns-in-4 : goal.returns-in-4
unfolding available option_at
returns-in-4 c = option_moved c.args.c _ 4 _ c.in-4.is refl

pub returns-in-5 : goal.returns-in-5
unfolding available option_at
returns-in-5 c = option_moved c.args.c _ 5 _ c.in-5.is refl

pub returns-in-6 : goal.returns-in-6
unfolding available option_at
returns-in-6 c = option_moved c.args.c _ 6 _ c.in-6.is refl

pub returns-in-7 : goal.returns-in-7
unfolding available option_at
returns-in-7 c = option_moved c.args.c _ 7 _ c.in-7.is refl

pub returns-in-8 : goal.returns-in-8
unfolding available option_at
returns-in-8 c = option_moved c.args.c _ 8 _ c.in-8.is refl

pub returns-in-9 : goal.returns-in-9
unfolding available option_at
returns-in-9 c = option_moved c.args.c _ 9 _ c.in-9.is refl

pub returns-in_default : goal.returns-in_default
unfolding available option_at
returns-in_default c = option_past c.args.c _ (excluded _ 10 c.in_default.in_default-own.rest)
