-- The generics' text names the configuration that it was printed of. Assumes nothing.
use Prim.Native.Nat.{ℕ, zero, suc, ◌+◌, ◌^◌, ◌<◌, ◌≤◌}
use mathlib.Core.Path.{◌≡◌, refl, ap, ◌∙◌}
use mathlib.Core.Bool.{Bool, true, false}
use mathlib.Core.List.{List, [], ◌∷◌, ◌++◌, append_assoc}
use native.Mathlib.Omega.{arith}
use lib.Dec.{T}
use lib.ListN.{length, get_or, replicate, length-append}
use Rattle.laws.specs.Choice.{is_true}
use Rattle.laws.specs.Lists.{all}
use Rattle.laws.specs.Table.{every, at_every}
use Rattle.laws.specs.Test.{Below}
use Rattle.words.specs.declared.Config.{Config}
use Rattle.syntax.specs.Lines.{newline}
use Rattle.parsing.specs.Entries.{equals, entries_of}
use Rattle.parsing.specs.Generics.{generic_count, generics, names, defaults, given, given_by, gather, gathered_in, generics_of}
use Rattle.parsing.proofs.Printed.{filled, line_entry, entry_back, entries_from, gathers}
use Rattle.printing.specs.Numerals.{decimal}
use Rattle.yam_config.specs.Generics.{values_of, generic_line, lines_from, generics_text}
use Rattle.yam_config.specs.Claims.{ReadBack}
use Rattle.yam_config.proofs.Decimals.{value_back, decimal_filled, all_append}

below_at : (b : ℕ) (l : List ℕ) (k : ℕ) → 0 < b → Below b l → get_or l k 0 < b
below_at b [] k h p = h
below_at b (x ∷ l) zero h p = p.0
below_at b (x ∷ l) (suc k) h p = below_at b l k h p.1

named : ℕ → Bool
named k = all filled (get_or names k [])

all_named : T (every generic_count named)
unfolding named names generics
all_named = tt

whole_line : (e t : List ℕ) → 0 < length e → all filled e ≡ true → entries_of (e ++ (newline ∷ t)) ≡ e ∷ entries_of t
whole_line [] t h f = absurd (omega arith)
whole_line (b ∷ e) t h f = line_entry b e t f

free : (n j : ℕ) → get_or (replicate n false) j false ≡ false
free zero j = refl
free (suc n) zero = refl
free (suc n) (suc j) = free n j

module _ (c : Config) (small : Below (2 ^ 32) (values_of c)) where
  value_at : ℕ → ℕ
  value_at k = get_or (values_of c) k 0

  entry_at : ℕ → List ℕ
  entry_at k = get_or names k [] ++ (equals ∷ decimal (value_at k))

  value_small : (k : ℕ) → value_at k < 2 ^ 32
  unfolding value_at
  value_small k = below_at (2 ^ 32) (values_of c) k (omega arith) small

  gives : (k : ℕ) → k < generic_count → given_by (entry_at k) ≡ given k (value_at k)
  unfolding entry_at
  gives k h = entry_back k (value_at k) (decimal (value_at k)) h (value_back (value_at k) (value_small k))

  line_is : (k : ℕ) (t : List ℕ) → k < generic_count → entries_of (generic_line (get_or names k []) (value_at k) ++ t) ≡ entry_at k ∷ entries_of t
  unfolding generic_line entry_at named
  line_is k t h =
      let s = get_or names k [] in
      let d = decimal (value_at k) in
      let e : (s ++ (equals ∷ (d ++ (newline ∷ [])))) ++ t ≡ (s ++ (equals ∷ d)) ++ (newline ∷ t) = simp append_assoc in
      let f = all_append filled s (equals ∷ d) (is_true (named k) (at_every generic_count named k all_named h)) (decimal_filled (value_at k) (value_small k)) in
      ap entries_of e ∙ whole_line (s ++ (equals ∷ d)) t (omega (arith, length-append s (equals ∷ d))) f

  lines_are : (n k : ℕ) → k + n ≤ generic_count → entries_of (lines_from c k n) ≡ entries_from entry_at k n
  unfolding lines_from entries_of value_at
  lines_are zero k h = refl
  lines_are (suc n) k h =
      line_is k (lines_from c (suc k) n) (omega arith) ∙ ap (λ (l : List (List ℕ)). entry_at k ∷ l) (lines_are n (suc k) (omega arith))

pub read_back : ReadBack
unfolding gathered_in generics_text defaults generics value_at
read_back c small =
    ap generics_of
    (ap (gather 0 (replicate generic_count false) defaults) (lines_are c small generic_count 0 (omega arith)) ∙
    gathers (entry_at c small) (value_at c small) (gives c small) generic_count 0 (replicate generic_count false) defaults (omega arith) (λ j _. free generic_count j))
