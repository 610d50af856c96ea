-- A line's opening: its label, whether it counts, its instruction.
-- Assumes nothing.
use Prim.Native.Nat.{ℕ, zero, suc, ◌+◌, ◌-◌, ◌<◌, ◌≤◌}
use mathlib.Core.Bool.{Bool, true, false, not, ◌&&◌, ◌||◌}
use mathlib.Core.Path.{◌≡◌, refl, ap, sym, ◌∙◌}
use mathlib.Core.List.{List, [], ◌∷◌}
use native.Mathlib.Omega.{arith}
use borrow.Author.Tests.{eqb-true, eqb-false, eq-eqb, ne_eqb, lt-ltb}
use lib.Dec.{T, eqb, ltb}
use lib.ListN.{length, get_or, drop, length-drop}
use lib.Seq.{drop-drop}
use Rattle.std.specs.Prelude.{Option, Some, None, is_some}
use Rattle.laws.specs.Choice.{pick, either, true_is}
use Rattle.laws.specs.Test.{and_left, and_right}
use Rattle.syntax.specs.Lines.{space, colon, is_small, letters_of, is_label, starts, labelled, behind_label, lone, body_of, counts}
use Rattle.assembler.specs.declared.openings.Opening.{Opening}
use Rattle.assembler.specs.declared.keys.Key.{Key}
use Rattle.assembler.specs.Chains.{spell}
use Rattle.assembler.specs.Keys.{label_key, key_number}
use Rattle.assembler.specs.Openings.{opening_key, Opens}

-- the byte at a place, as the test of a rest has it
starts_at : (b n : ℕ) (l : List ℕ) → 0 < b → starts b (drop n l) ≡ eqb (get_or l n 0) b
unfolding starts
starts_at b zero [] h = sym (ne_eqb 0 b (λ e. omega arith))
starts_at b zero (x ∷ l) h = refl
starts_at b (suc n) [] h = sym (ne_eqb 0 b (λ e. omega arith))
starts_at b (suc n) (x ∷ l) h = starts_at b n l h

starts_inside : (b n : ℕ) (l : List ℕ) → T (starts b (drop n l)) → n < length l
unfolding starts
starts_inside b zero [] t = absurd t
starts_inside b zero (x ∷ l) t = omega arith
starts_inside b (suc n) [] t = absurd t
starts_inside b (suc n) (x ∷ l) t = let h = starts_inside b n l t in omega arith

pub key_there : (l s : List ℕ) (b : ℕ) (r : Option ℕ) → s ≡ letters_of l → b ≡ get_or l (length s) 0 → b ≡ 58 → r ≡ label_key s → r ≡ opening_key l
unfolding opening_key labelled label_key pick
key_there l s b r e f g h =
    let i : length s ≡ length (letters_of l) = ap length e in
    let t : starts colon (drop (length (letters_of l)) l) ≡ true =
    starts_at colon (length (letters_of l)) l (omega arith) ∙ eq-eqb (get_or l (length (letters_of l)) 0) 58 (rw (← i) (sym f ∙ g))
    in
    h ∙ rw (e, t) (go (is_label (letters_of l)))
  where
    go : (b : Bool) → pick b (Some (spell 0 (letters_of l))) None ≡ pick (b && true) (Some (spell 0 (letters_of l))) None
    go true = refl
    go false = refl

pub key_missing : (l s : List ℕ) (b : ℕ) → s ≡ letters_of l → b ≡ get_or l (length s) 0 → (b ≡ 58 → ⊥) → None ≡ opening_key l
unfolding opening_key labelled pick
key_missing l s b e f g =
    let i : length s ≡ length (letters_of l) = ap length e in
    let t : starts colon (drop (length (letters_of l)) l) ≡ false =
    starts_at colon (length (letters_of l)) l (omega arith) ∙
    ne_eqb (get_or l (length (letters_of l)) 0) 58 (λ q. g (f ∙ rw i q))
    in
    rw t (go (is_label (letters_of l)))
  where
    go : (b : Bool) → None ≡ pick (b && false) (Some (spell 0 (letters_of l))) None
    go true = refl
    go false = refl

-- the key of a line that is labelled, and of one that is not

label_of : (l : List ℕ) → T (labelled l) → T (is_label (letters_of l))
unfolding labelled
label_of l t = and_left (is_label (letters_of l)) (starts colon (drop (length (letters_of l)) l)) t

pub label_inside : (l : List ℕ) → T (labelled l) → length (letters_of l) < length l
unfolding labelled
label_inside l t = starts_inside colon (length (letters_of l)) l (and_right (is_label (letters_of l)) (starts colon (drop (length (letters_of l)) l)) t)

pub labelled_key : (l : List ℕ) → labelled l ≡ true → (opening_key l ≡ Some (spell 0 (letters_of l))) × T (is_label (letters_of l))
unfolding opening_key pick
labelled_key l e = (rw e, label_of l (true_is (labelled l) e))

pub unlabelled_key : (l : List ℕ) → labelled l ≡ false → opening_key l ≡ None
unfolding opening_key pick
unlabelled_key l e = rw e

pub letters_inside : (l : List ℕ) → length (letters_of l) ≤ length l
unfolding letters_of
letters_inside [] = omega arith
letters_inside (b ∷ l) =
    let h = letters_inside l in
    either (λ m. length m ≤ suc (length l)) (is_small b) (b ∷ letters_of l) [] (λ t. omega arith) (λ t. omega arith)

pub opens : (l s : List ℕ) (k : Option Key) → s ≡ letters_of l → key_number k ≡ opening_key l → Opens l (record { letters = length s; key = k })
opens l s k e h = record { letters_are = ap length e; letters_inside = rw e (letters_inside l); key_is = h }

-- whether a line has a label shows in its opening
key_some : (l : List ℕ) (o : Opening) → Opens l o → is_some o.key ≡ labelled l
unfolding opening_key pick
key_some l o h = number o.key ∙ ap is_some h.key_is ∙ go (labelled l)
  where
    number : (k : Option Key) → is_some k ≡ is_some (key_number k)
    number None = refl
    number (Some k) = refl

    go : (b : Bool) → is_some (pick b (Some (spell 0 (letters_of l))) None) ≡ b
    go true = refl
    go false = refl

none_is : (l : List ℕ) (o : Opening) (b : Bool) → Opens l o → is_some o.key ≡ not b → labelled l ≡ not b
none_is l o b h q = sym (key_some l o h) ∙ q

-- whether the line counts

pub counts_is : (l : List ℕ) (o : Opening) (b : Bool) → Opens l o → is_some o.key ≡ not b → ltb 0 (length l) && (b || not (eqb (o.letters + 1) (length l))) ≡ counts l
unfolding counts lone behind_label
counts_is l o b h q =
    ap (λ (y : Bool). ltb 0 (length l) && (y || not (eqb (o.letters + 1) (length l)))) (sym (not_not b) ∙ ap not (sym (none_is l o b h q))) ∙ go (labelled l) refl
  where
    not_not : (b : Bool) → not (not b) ≡ b
    not_not true = refl
    not_not false = refl

    empty : (n : ℕ) → ltb 0 n ≡ not (eqb n 0)
    empty n = by (eqb n 0) refl
      where
        by : (b : Bool) → eqb n 0 ≡ b → ltb 0 n ≡ not b
        by true e = rw (eqb-true n 0 e)
        by false e = lt-ltb 0 n (let d = eqb-false n 0 e in omega arith)

    ends : length (letters_of l) < length l → eqb (o.letters + 1) (length l) ≡ eqb (length (drop (suc (length (letters_of l))) l)) 0
    ends i = rw (length-drop (suc (length (letters_of l))) l, h.letters_are) (by (eqb (length (letters_of l) + 1) (length l)) refl)
      where
        by : (b : Bool) → eqb (length (letters_of l) + 1) (length l) ≡ b → b ≡ eqb (length l - suc (length (letters_of l))) 0
        by true e = sym (eq-eqb (length l - suc (length (letters_of l))) 0 (let d = eqb-true (length (letters_of l) + 1) (length l) e in omega arith))
        by false e = sym (ne_eqb (length l - suc (length (letters_of l))) 0 (λ z. let d = eqb-false (length (letters_of l) + 1) (length l) e in omega (arith, z)))

    both : (a b : Bool) → not a && not b ≡ not (a || b)
    both true b = refl
    both false b = refl

    alone : (a : Bool) → not a && true ≡ not (a || false)
    alone true = refl
    alone false = refl

    go : (b : Bool) → labelled l ≡ b →
        ltb 0 (length l) && (not (labelled l) || not (eqb (o.letters + 1) (length l))) ≡
        not (eqb (length l) 0 || labelled l && eqb (length (drop (suc (length (letters_of l))) l)) 0)
    go true e = rw (e, empty (length l), ends (label_inside l (true_is (labelled l) e))) (both (eqb (length l) 0) (eqb (length (drop (suc (length (letters_of l))) l)) 0))
    go false e = rw (e, empty (length l)) (alone (eqb (length l) 0))

-- where the instruction starts

pub body_plain : (l : List ℕ) (o : Opening) (b : Bool) → Opens l o → is_some o.key ≡ not b → b ≡ true → (drop 0 l ≡ body_of l) × (0 ≤ length l)
unfolding body_of pick
body_plain l o b h q z = (rw (none_is l o b h q ∙ ap not z), omega arith)

body_labelled : (l : List ℕ) (o : Opening) (b : Bool) → Opens l o → is_some o.key ≡ not b → b ≡ false → labelled l ≡ true
body_labelled l o b h q z = none_is l o b h q ∙ ap not z

behind_at : (l : List ℕ) (o : Opening) (b : ℕ) → Opens l o → b ≡ get_or l (o.letters + 1) 0 → starts space (behind_label l) ≡ eqb b 32
unfolding behind_label
behind_at l o b h e =
    let q : o.letters + 1 ≡ suc (length (letters_of l)) = omega (arith, h.letters_are) in
    starts_at space (suc (length (letters_of l))) l (omega arith) ∙ rw (e, q)

pub body_behind : (l : List ℕ) (o : Opening) (b : ℕ) (y : Bool) → Opens l o → is_some o.key ≡ not y → y ≡ false → b ≡ get_or l (o.letters + 1) 0 → b ≡ 32 →
    (drop (o.letters + 2) l ≡ body_of l) × (o.letters + 2 ≤ length l)
unfolding body_of behind_label pick
body_behind l o b y h q z e f =
    let s : starts space (behind_label l) ≡ true = behind_at l o b h e ∙ eq-eqb b 32 f in
    let p : o.letters + 2 ≡ suc (length (letters_of l)) + 1 = omega (arith, h.letters_are) in
    let i = starts_inside space (suc (length (letters_of l))) l (true_is (starts space (drop (suc (length (letters_of l))) l)) s) in (
      rw (body_labelled l o y h q z, s, p) (sym (drop-drop 1 (suc (length (letters_of l))) l)),
      omega (arith, p, i),
    )

pub body_whole : (l : List ℕ) (o : Opening) (b : ℕ) (y : Bool) → Opens l o → is_some o.key ≡ not y → y ≡ false → b ≡ get_or l (o.letters + 1) 0 → (b ≡ 32 → ⊥) →
    (drop 0 l ≡ body_of l) × (0 ≤ length l)
unfolding body_of pick
body_whole l o b y h q z e f =
    let s : starts space (behind_label l) ≡ false = behind_at l o b h e ∙ ne_eqb b 32 f in
    (rw (body_labelled l o y h q z, s), omega arith)
