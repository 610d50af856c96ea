-- `printing::digits::write_digits` meets its contract. Assumes nothing.
use mathlib.Core.List.{List, ◌++◌, append-nil}
use mathlib.Core.Path.{refl, ap, ◌∙◌}
use Prim.Native.Nat.{ℕ, ◌-◌}
use native.Mathlib.Nat.{le_refl}
use native.Mathlib.Omega.{arith}
use lib.ListN.{length-set}
use lib.Seq.{slice_empty, drop-set-lt}
use Rattle.printing.specs.Digits.{last_digits}
use Rattle.printing.proofs.Powers.{digits_step}
use Rattle.printing.proofs.digits.write_digits.Goals as goal

pub loop-i-init : goal.loop-i-init
loop-i-init c =
    let a = c.args in
    let all = last_digits 10 a.k a.n in
    (refl, le_refl a.k, ap (λ (l : List ℕ). all ++ l) (slice_empty a.k a.out.now) ∙ append-nil all, refl)

pub loop-i-preserved : goal.loop-i-preserved
loop-i-preserved c =
    let l = c.loop-i in
    let a = c.args in (
      simp length-set l.invariant.0,
      omega arith,
      digits_step l.i a.k l.rest c.decimal_digit.result l.out c.loop-i-test.true l.invariant.1 (omega arith) c.decimal_digit.ensures ∙ l.invariant.2,
      drop-set-lt a.k l.out (l.i - 1) _ (omega arith) ∙ l.invariant.3,
    )
