-- Entries printed one a line are read back. Assumes nothing.
use Prim.Native.Nat.{ℕ, zero, suc, ◌+◌, ◌<◌, ◌≤◌}
use mathlib.Core.Path.{◌≡◌, refl, sym, ap, ◌∙◌}
use mathlib.Core.Bool.{Bool, true, false, not, ◌&&◌}
use mathlib.Core.List.{List, [], ◌∷◌, ◌++◌}
use native.Mathlib.Omega.{arith}
use borrow.Author.Tests.{not-true}
use lib.Dec.{T, eqb, eqb→eq}
use lib.ListN.{length, get_or, drop, set}
use lib.Seq.{sets, take-append_seam, drop-append-add, get_or-set_other}
use Rattle.laws.specs.Choice.{pick, is_true}
use Rattle.laws.specs.Lists.{all}
use Rattle.laws.specs.Table.{every, at_every, values}
use Rattle.syntax.specs.Lines.{newline, onto}
use Rattle.std.specs.Prelude.{Some}
use Rattle.std.specs.List.{position_or_len}
use Rattle.parsing.specs.Decimals.{value_of}
use Rattle.parsing.specs.Entries.{is_blank, equals, ended, entries_of, name_in, value_in}
use Rattle.parsing.specs.Generics.{generic_count, generics, names, place_of, given, given_by, all as every_value, gather}
use Rattle.parsing.proofs.entries.Laws.{entries_blank, entries_one, entries_onto}
use Rattle.parsing.proofs.naming.Laws.{first}

abbrev pub filled : ℕ → Bool
filled b = not (is_blank b)

-- A line is an entry

both : (p q : Bool) → p && q ≡ true → (p ≡ true) × (q ≡ true)
both true q e = (refl, e)
both false q e = absurd (let z : ◌≡◌ {A = ℕ} 0 1 = cc in omega arith)

pub line_entry : (b : ℕ) (e t : List ℕ) → all filled (b ∷ e) ≡ true → entries_of ((b ∷ e) ++ (newline ∷ t)) ≡ (b ∷ e) ∷ entries_of t
unfolding ended
line_entry b [] t h =
    let f = not-true (is_blank b) (both (filled b) true h).0 in
    entries_one b (newline ∷ t) f refl ∙ ap (λ (l : List (List ℕ)). (b ∷ []) ∷ l) (entries_blank newline t refl)
line_entry b (d ∷ e) t h =
    let p = both (filled b) (all filled (d ∷ e)) h in
    let q = both (filled d) (all filled e) p.1 in
    entries_onto b ((d ∷ e) ++ (newline ∷ t)) (not-true (is_blank b) p.0) (not-true (is_blank d) q.0) ∙ ap (onto b) (line_entry d e t p.1)

-- NAME=VALUE

-- a byte of a name
within_name : ℕ → Bool
within_name b = not (eqb b equals)

name_run : (s t : List ℕ) → all within_name s ≡ true → position_or_len (λ b. eqb b equals) (s ++ (equals ∷ t)) ≡ length s
unfolding within_name
name_run [] t h = refl
name_run (b ∷ s) t h =
    let p = both (within_name b) (all within_name s) h in
    rw (p.0, name_run s t p.1) (omega arith)

plain : ℕ → Bool
plain k = all within_name (get_or names k [])

placed : ℕ → Bool
placed k = eqb (place_of names (get_or names k [])) k

all_plain : T (every generic_count plain)
unfolding plain within_name names generics
all_plain = tt

all_placed : T (every generic_count placed)
unfolding placed names generics place_of pick
all_placed = tt

pub entry_back : (k v : ℕ) (d : List ℕ) → k < generic_count → value_of d ≡ Some v → given_by (get_or names k [] ++ (equals ∷ d)) ≡ given k v
unfolding given_by name_in value_in plain placed
entry_back k v d h e =
    let s = get_or names k [] in
    let r = name_run s d (is_true (plain k) (at_every generic_count plain k all_plain h)) in
    let p : place_of names s ≡ k = eqb→eq (place_of names s) k (at_every generic_count placed k all_placed h) in
    let x : drop (length s + 1) (s ++ (equals ∷ d)) ≡ d = drop-append-add s (equals ∷ d) 1 in
    rw (r, take-append_seam s (equals ∷ d), x, p, e)

-- Each generic once, in their order

-- n entries from place k on
abbrev pub entries_from : (ℕ → List ℕ) → ℕ → ℕ → List (List ℕ)
entries_from f k zero = []
entries_from f k (suc n) = f k ∷ entries_from f (suc k) n

module _ (entry_at : ℕ → List ℕ) (value_at : ℕ → ℕ) (gives : (k : ℕ) → k < generic_count → given_by (entry_at k) ≡ given k (value_at k)) where
  pub gathers : (n k : ℕ) (marks : List Bool) (vs : List ℕ) → k + n ≤ generic_count → ((j : ℕ) → k ≤ j → get_or marks j false ≡ false) →
      gather k marks vs (entries_from entry_at k n) ≡ every_value (sets vs k (values value_at k n))
  unfolding gather
  gathers zero k marks vs h free = refl
  gathers (suc n) k marks vs h free =
      first k marks vs (entry_at k) (entries_from entry_at (suc k) n) (given k (value_at k)) (sym (gives k (omega arith))) (omega arith) (free k (omega arith)) ∙
      gathers n (suc k) (set marks k true) (set vs k (value_at k)) (omega arith)
      (λ j l. get_or-set_other marks k j true false (λ e. absurd (omega arith)) ∙ free j (omega arith))
