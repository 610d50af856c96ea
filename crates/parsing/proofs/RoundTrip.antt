-- Words printed hex 8, one a line, are read back. Assumes nothing.
use Prim.Native.Nat.{ℕ, zero, suc, ◌+◌, ◌*◌, ◌/◌, ◌%◌, ◌^◌, ◌<◌, ◌≤◌}
use mathlib.Core.Path.{◌≡◌, refl, ap, ◌∙◌}
use mathlib.Core.Bool.{Bool}
use mathlib.Core.List.{List, [], ◌∷◌, ◌++◌, append_assoc}
use native.Mathlib.Nat.{pow-suc, mod-lt}
use native.Mathlib.Omega.{arith}
use lib.Dec.{T, ltb, eqb, eqb→eq, ltb→lt}
use Rattle.laws.specs.Choice.{pick}
use Rattle.laws.specs.Table.{every, at_every}
use Rattle.syntax.specs.Digits.{spelled, digit, hex}
use Rattle.parsing.specs.Words.{hex_value, before, words_from, words_in, printed}
use Rattle.parsing.specs.Claims.{PrintedWords}
use Rattle.parsing.proofs.hex.Laws.{one_digit, ends_line}

-- each digit that is printed is read: a test over the sixteen
right : ℕ → Bool
right d = eqb (hex_value (digit d)) d

other : ℕ → Bool
other d = ltb 10 (digit d)

all_right : T (every 16 right)
unfolding right hex_value digit pick
all_right = tt

all_other : T (every 16 other)
unfolding other digit pick
all_other = tt

module _ (d : ℕ) (h : d < 16) where
  reads : hex_value (digit d) ≡ d
  unfolding right
  reads = eqb→eq (hex_value (digit d)) d (at_every 16 right d all_right h)

  no_newline : digit d ≡ 10 → ⊥
  unfolding other
  no_newline e = let k = ltb→lt 10 (digit d) (at_every 16 other d all_other h) in omega arith

-- so many digits of a word that has no more
reads_digits : (k w : ℕ) (t : List ℕ) → k ≤ 8 → w < 16 ^ k → words_from 0 0 (hex k w ++ t) ≡ words_from k w t
unfolding spelled
reads_digits zero w t h b = let z : w ≡ 0 = omega arith in rw z
reads_digits (suc k) w t h b =
    let m = mod-lt w {m = 16} (omega arith) in
    let x = digit (w % 16) in
    let b' : w < 16 ^ k * 16 = rw (pow-suc 16 k) at b in
    let q : w / 16 < 16 ^ k = omega arith in
    let v : 16 * (w / 16) + hex_value x ≡ w = rw (reads (w % 16) (omega arith)) (omega arith) in
    ap (words_from 0 0) (append_assoc (hex k (w / 16)) (x ∷ []) t) ∙
    reads_digits k (w / 16) (x ∷ t) (omega arith) q ∙
    one_digit k (w / 16) t x (no_newline (w % 16) (omega arith)) (rw (reads (w % 16) (omega arith)) (omega arith)) (omega arith) ∙
    ap (λ (n : ℕ). words_from (suc k) n t) v

pub printed_words : PrintedWords
unfolding words_in printed words_from pick
printed_words [] b = refl
printed_words (w ∷ ws) b =
    let c = b.0 in
    reads_digits 8 w (10 ∷ printed ws) (omega arith) (omega arith) ∙
    ends_line 8 w (printed ws) (λ z. absurd (omega arith)) ∙
    ap (before w) (printed_words ws b.1)
