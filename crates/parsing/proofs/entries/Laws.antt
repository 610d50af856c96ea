-- Laws of the entries of a text and of their parts, in the shape that the code leaves. Assumes nothing.
use Prim.Native.Nat.{ℕ, suc, ◌+◌, ◌-◌, ◌<◌, ◌≤◌}
use mathlib.Core.Path.{◌≡◌, refl, ap, ◌∙◌}
use mathlib.Core.Bool.{Bool, true, false, cond}
use mathlib.Core.List.{List, [], ◌∷◌, ◌++◌}
use native.Mathlib.Omega.{arith}
use borrow.Author.Tests.{ltb-false}
use lib.Dec.{eqb, ltb}
use lib.ListN.{length, take, drop, drop_of_length-le, length-drop, length-append}
use lib.Seq.{take_all}
use denote.Param.Members.{Mut}
use denote.Ref.{Bor}
use Rattle.std.specs.Prelude.{Some, None, MatchBool}
use Rattle.std.specs.Fn.{ComputesKey}
use Rattle.std.specs.List.{IsFirstMatchOrLen, position_or_len}
use Rattle.laws.specs.Choice.{pick}
use Rattle.syntax.specs.Lines.{onto}
use Rattle.parsing.specs.Entries.{is_blank, equals, ended, entries_of, name_in, value_in}
use Rattle.parsing.proofs.Cuts.{Fails, fails_head, fails_tail, front_fails, next_passes}

-- NAME and VALUE

-- a part of a text to its end
pub tail : (t : List ℕ) (n : ℕ) → take (length t - n) (drop n t) ≡ drop n t
tail t n = take_all (length t - n) (drop n t) (omega (arith, length-drop n t))

is_equals : ℕ → Bool
is_equals b = eqb b equals

module _ (e : List ℕ) where
  place : ℕ
  place = position_or_len (λ b. eqb b equals) e

  pub no_equals : None ≡ cond (ltb (position_or_len (λ b. eqb b equals) e) (length e)) (Some (position_or_len (λ b. eqb b equals) e)) None → value_in e ≡ []
  unfolding value_in place
  no_equals q = go (ltb place (length e)) refl q
    where
      go : (b : Bool) → ltb place (length e) ≡ b → None ≡ cond b (Some place) None → drop (place + 1) e ≡ []
      go true h q = cc
      go false h q = let k = ltb-false place (length e) h in drop_of_length-le e {i = place + 1} (omega arith)

  pub at_equals : (n : ℕ) → Some n ≡ cond (ltb (position_or_len (λ b. eqb b equals) e) (length e)) (Some (position_or_len (λ b. eqb b equals) e)) None →
      (take n e ≡ name_in e) × (take (length e - (n + 1)) (drop (n + 1) e) ≡ value_in e)
  unfolding name_in value_in place
  at_equals n q = go (ltb place (length e)) q
    where
      go : (b : Bool) → Some n ≡ cond b (Some place) None → (take n e ≡ take place e) × (take (length e - (n + 1)) (drop (n + 1) e) ≡ drop (place + 1) e)
      go true q = let k : n ≡ place = cc in (rw k, tail e (n + 1) ∙ rw k)
      go false q = cc

-- entries, byte by byte

pub entries_blank : (b : ℕ) (t : List ℕ) → is_blank b ≡ true → entries_of (b ∷ t) ≡ entries_of t
unfolding entries_of pick
entries_blank b t e = rw e

pub entries_one : (b : ℕ) (t : List ℕ) → is_blank b ≡ false → ended t ≡ true → entries_of (b ∷ t) ≡ (b ∷ []) ∷ entries_of t
unfolding entries_of pick
entries_one b t e d = rw (e, d)

pub entries_onto : (b : ℕ) (t : List ℕ) → is_blank b ≡ false → ended t ≡ false → entries_of (b ∷ t) ≡ onto b (entries_of t)
unfolding entries_of pick
entries_onto b t e d = rw (e, d)

-- an entry before a blank, and one that ends a text

pub entry_then : (b : ℕ) (e : List ℕ) (c : ℕ) (t : List ℕ) → Fails is_blank (b ∷ e) → is_blank c ≡ true → entries_of ((b ∷ e) ++ (c ∷ t)) ≡ (b ∷ e) ∷ entries_of t
unfolding ended
entry_then b [] c t f q = entries_one b (c ∷ t) (fails_head is_blank b [] f) q ∙ ap (λ (l : List (List ℕ)). (b ∷ []) ∷ l) (entries_blank c t q)
entry_then b (d ∷ e) c t f q =
    let g = fails_tail is_blank b (d ∷ e) f in
    entries_onto b ((d ∷ e) ++ (c ∷ t)) (fails_head is_blank b (d ∷ e) f) (fails_head is_blank d e g) ∙ ap (onto b) (entry_then d e c t g q)

pub entry_last : (b : ℕ) (e : List ℕ) → Fails is_blank (b ∷ e) → entries_of (b ∷ e) ≡ (b ∷ e) ∷ []
unfolding ended entries_of
entry_last b [] f = entries_one b [] (fails_head is_blank b [] f) refl
entry_last b (d ∷ e) f =
    let g = fails_tail is_blank b (d ∷ e) f in
    entries_onto b (d ∷ e) (fails_head is_blank b (d ∷ e) f) (fails_head is_blank d e g) ∙ ap (onto b) (entry_last d e g)

-- The pieces between blanks, of which those that are not empty are the entries

abbrev pub counted : List ℕ → List (List ℕ) → List (List ℕ)
counted [] es = es
counted (b ∷ x) es = (b ∷ x) ∷ es

-- the entries of what is left, and how many bytes that has
abbrev pub left : Bool → List ℕ → List (List ℕ)
left true rest = []
left false rest = entries_of rest

abbrev pub ahead : Bool → List ℕ → ℕ
ahead true rest = 0
ahead false rest = length rest

pub record Piece (rest x : List ℕ) (done : Bool) (after : List ℕ) : Type 0 where
  pub entries : entries_of rest ≡ counted x (left done after)
  pub bytes : length x + ahead done after ≤ length rest
  pub fewer : 0 < length x → ahead done after < length rest

piece_then : (x : List ℕ) (c : ℕ) (t : List ℕ) → Fails is_blank x → is_blank c ≡ true → entries_of (x ++ (c ∷ t)) ≡ counted x (entries_of t)
piece_then [] c t f q = entries_blank c t q
piece_then (b ∷ x) c t f q = entry_then b x c t f q

piece_last : (x : List ℕ) → Fails is_blank x → entries_of x ≡ counted x []
unfolding entries_of
piece_last [] f = refl
piece_last (b ∷ x) f = entry_last b x f

-- a step of `split`
pub step_gives : {F : Type 0} (g : Mut F (Bor ℕ × Unit {0}) Bool) (s t : F) (began done : Bool) (rest x after : List ℕ) →
    (began ≡ false) × MatchBool done (rest ≡ x) ((y : ℕ) × (rest ≡ x ++ (y ∷ after))) ×
    ((p : ℕ → Bool) → ComputesKey g p s → ComputesKey g p t × IsFirstMatchOrLen p rest (length x)) →
    ComputesKey g is_blank s → Piece rest x done after
step_gives g s t began done rest x after h k = go done h.1 (h.2 is_blank k).1
  where
    go : (d : Bool) → MatchBool d (rest ≡ x) ((y : ℕ) × (rest ≡ x ++ (y ∷ after))) → IsFirstMatchOrLen is_blank rest (length x) → Piece rest x d after
    go true e f =
        let n : Fails is_blank x = λ k d m. rw e at (f.0 k d (omega arith) (omega arith)) in
        record { entries = ap entries_of e ∙ piece_last x n; bytes = omega (arith, ap length e); fewer = λ m. omega (arith, ap length e) }
    go false e f =
        let n = front_fails is_blank rest x (length x) refl (e.0 ∷ after) e.1 f.0 in
        let l : length rest ≡ length x + suc (length after) = ap length e.1 ∙ length-append x (e.0 ∷ after) in
        let b = next_passes is_blank rest x (length x) refl e.0 after e.1 (f.1 (omega arith)) in
        record { entries = ap entries_of e.1 ∙ piece_then x e.0 after n b; bytes = omega arith; fewer = λ m. omega arith }
