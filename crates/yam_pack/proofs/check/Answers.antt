-- `yam_pack::check` meets its contract. Assumes nothing.
use native.Mathlib.Omega.{arith}
use mathlib.Core.Path.{◌≡◌, sym, ◌∙◌}
use borrow.Author.Tests.{eq-eqb, ne_eqb, le-leb, lt-leb}
use Rattle.laws.specs.Choice.{pick}
use Rattle.image.specs.Answers.{refusal_number}
use Rattle.yam_pack.specs.Packing.{pack_tests}
use Rattle.yam_pack.proofs.check.Goals as goal

pub returns-then-not-lawful : goal.returns-then-not-lawful
unfolding pack_tests pick refusal_number
returns-then-not-lawful c = rw (sym c.lawful.ensures ∙ c.if-not-lawful.true)

pub returns-then-n-c : goal.returns-then-n-c
unfolding pack_tests pick refusal_number
returns-then-n-c c = let l = sym c.lawful.ensures ∙ c.if-not-lawful.false in rw (l, ne_eqb _ _ c.if-n-c.true)

pub returns-then-n-gt-WORDS : goal.returns-then-n-gt-WORDS
unfolding pack_tests pick refusal_number
returns-then-n-gt-WORDS c = let l = sym c.lawful.ensures ∙ c.if-not-lawful.false in let w : c.args.n ≡ c.args.c.imsize = omega arith in rw (l, eq-eqb _ _ w, lt-leb _ _ c.if-n-gt-WORDS.true)

pub returns : goal.returns
unfolding pack_tests pick
returns c = let l = sym c.lawful.ensures ∙ c.if-not-lawful.false in let w : c.args.n ≡ c.args.c.imsize = omega arith in rw (l, eq-eqb _ _ w, le-leb _ _ c.if-n-gt-WORDS.false)
