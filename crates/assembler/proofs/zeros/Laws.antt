-- A line with six zeros for its label, byte by byte.
-- Assumes nothing.
use Prim.Native.Nat.{ℕ, zero, suc, ◌+◌, ◌-◌, ◌≤◌}
use mathlib.Core.Path.{◌≡◌, refl, ap, sym, ◌∙◌}
use mathlib.Core.List.{List, ◌++◌}
use native.Mathlib.Omega.{arith}
use borrow.Rule.Slice.PartMut.{put_mid}
use lib.ListN.{length, take, drop, replicate, length-append, length-drop}
use lib.Seq.{length-take-le, take-append-add, drop-drop}
use Rattle.std.proofs.lemmas.List.{append_assoc}
use Rattle.std.proofs.lemmas.Slice.{take-put_mid}
use Rattle.laws.specs.Choice.{pick}
use Rattle.syntax.specs.Digits.{spelled, digit, hex}
use Rattle.syntax.specs.Labels.{name_length, operands_of, target_of, with_address}
use Rattle.assembler.specs.Zeros.{zeroed}

zeros_are : hex 6 0 ≡ replicate 6 48
unfolding spelled digit pick
zeros_are = refl

-- six zeros of sixteen
six : (from : ℕ) → from ≤ 10 → take {A = ℕ} 6 (drop from (replicate 16 48)) ≡ replicate 6 48
six zero h = refl
six (suc zero) h = refl
six (suc (suc zero)) h = refl
six (suc (suc (suc zero))) h = refl
six (suc (suc (suc (suc zero)))) h = refl
six (suc (suc (suc (suc (suc zero))))) h = refl
six (suc (suc (suc (suc (suc (suc zero)))))) h = refl
six (suc (suc (suc (suc (suc (suc (suc zero))))))) h = refl
six (suc (suc (suc (suc (suc (suc (suc (suc zero)))))))) h = refl
six (suc (suc (suc (suc (suc (suc (suc (suc (suc zero))))))))) h = refl
six (suc (suc (suc (suc (suc (suc (suc (suc (suc (suc zero)))))))))) h = refl
six (suc (suc (suc (suc (suc (suc (suc (suc (suc (suc (suc from))))))))))) h = absurd (omega arith)

module _ (l : List ℕ) (from m : ℕ) (h : from + m ≤ length l) where
  taken : length (take from l) ≡ from
  taken = length-take-le from l (omega arith)

  pub length_zeroed : length (zeroed l from m) ≡ from + 6 + (length l - from - m)
  unfolding zeroed
  length_zeroed =
      length-append (take from l) (hex 6 0 ++ drop m (drop from l)) ∙
      rw (taken, zeros_are, length-drop m (drop from l), length-drop from l) (omega arith)

  -- the part before the label, and the one behind it, put among zeros
  pub put_zeros : (n : ℕ) (a b : List ℕ) → n ≤ 16 → n + m ≡ length l + 6 → a ≡ take from l → b ≡ drop (from + m) l →
      take n (put_mid (from + 6) (n - (from + 6)) (a ++ drop from (replicate 16 48)) b) ≡ zeroed l from m
  unfolding zeroed
  put_zeros n a b k q e f =
      let la : length a ≡ from = ap length e ∙ taken in
      let lz : length (drop from (replicate {A = ℕ} 16 48)) ≡ 16 - from = length-drop from (replicate 16 48) in
      let lx : length (a ++ drop from (replicate 16 48)) ≡ 16 = length-append a (drop from (replicate 16 48)) ∙ omega (arith, la, lz) in
      let lb : length b ≡ length l - (from + m) = ap length f ∙ length-drop (from + m) l in
      take-put_mid (from + 6) (n - (from + 6)) (a ++ drop from (replicate 16 48)) b n (omega (arith, lb)) (omega (arith, lx)) ∙
      ap (λ (x : List ℕ). x ++ b)
      (ap (λ (j : ℕ). take (j + 6) (a ++ drop from (replicate 16 48))) (sym la) ∙ take-append-add a (drop from (replicate 16 48)) 6 ∙
      ap (λ (z : List ℕ). a ++ z) (six from (omega arith) ∙ sym zeros_are)) ∙
      append_assoc a (hex 6 0) b ∙ rw (e, f, drop-drop m from l)

-- the line of syntax's `with_address`
pub with_zeros : (l : List ℕ) → with_address 0 l ≡ zeroed l (suc (name_length l)) (length (target_of l))
unfolding with_address operands_of zeroed
with_zeros l = refl
