-- A line's key leads to its form: what the search by heads and links answers is what reading the line gives.
-- Assumes nothing.
use Prim.Native.Nat.{ℕ, zero, suc, ◌+◌, ◌-◌, ◌<◌, ◌≤◌}
use mathlib.Core.Bool.{Bool, true, false, not, ◌&&◌, ◌||◌}
use mathlib.Core.Path.{◌≡◌, refl, ap, sym, subst, ◌∙◌}
use mathlib.Core.Logic.{◌⊎◌, inl, inr}
use mathlib.Core.List.{List, [], ◌∷◌}
use native.Mathlib.Nat.{le_of_suc-le-suc, not-suc-le-zero}
use native.Mathlib.Omega.{arith}
use lib.Dec.{T, eqb, leb, leb→le, eqb→eq}
use lib.ListN.{length, get_or, take, drop}
use lib.Seq.{slice}
use Rattle.laws.specs.Choice.{pick, pick_yes, true_is}
use Rattle.laws.specs.Test.{and_right, or_cases}
use Rattle.laws.specs.Table.{every, at_every}
use Rattle.words.specs.Rows.{rows, row_at}
use Rattle.syntax.specs.Digits.{spelled, digit}
use Rattle.syntax.specs.Pieces.{Class, byte, is_hex}
use Rattle.syntax.specs.Pieces.Class.{digit as any}
use Rattle.syntax.specs.Styles.{styles, style_at}
use Rattle.syntax.specs.Forms.{number_text, flag_text, pieces_of, numbers_of, flags_of, forms_of, forms}
use Rattle.syntax.specs.Reading.{is_form, read_line, found, unread}
use Rattle.syntax.proofs.Pieces.{Fitting}
use Rattle.syntax.proofs.Table.{pattern_of}
use Rattle.syntax.proofs.Reading.{form_at, claims, none_claims}
use Rattle.syntax.proofs.Places.{form_fits}
use Rattle.assembler.specs.Bytes.{byte_before}
use Rattle.assembler.specs.Heads.{mark_of, key_of, head_table, link_table}
use Rattle.assembler.specs.Packed.{form_table, codes, is_form_in, Ready}
use Rattle.assembler.proofs.Packed.{Line-at, line_at, line_part, length_of, early, sound_at, fits_length, parts_shown, read_in_lem, in-form, form_in}

-- the key of a line is that of its form's pattern

early_at : (n : ℕ) (k : List Class) (l : List ℕ) → T (early n k) → Fitting k l → (j : ℕ) → j < n → get_or l j 0 ≡ get_or (codes k) j 0
early_at zero k l e h j i = absurd (not-suc-le-zero i)
early_at (suc n) [] [] e h j i = refl
early_at (suc n) [] (b ∷ l) e h j i = absurd h
early_at (suc n) (x ∷ k) [] e h j i = absurd h
early_at (suc n) (byte a ∷ k) (b ∷ l) e h zero i = sym (eqb→eq a b h.0)
early_at (suc n) (byte a ∷ k) (b ∷ l) e h (suc j) i = early_at n k l e h.1 j (le_of_suc-le-suc i)
early_at (suc n) (any ∷ k) (b ∷ l) e h j i = absurd e

mark_any : (b : ℕ) → T (is_hex b) → mark_of b ≡ mark_of 97
unfolding mark_of pick
mark_any b t = pick_yes (is_hex b) 0 b t

mark_at_lem : (k : List Class) (l : List ℕ) → Fitting k l → (j : ℕ) → mark_of (get_or l j 0) ≡ mark_of (get_or (codes k) j 0)
mark_at_lem [] [] h j = refl
mark_at_lem [] (b ∷ l) h j = absurd h
mark_at_lem (x ∷ k) [] h j = absurd h
mark_at_lem (byte a ∷ k) (b ∷ l) h zero = ap mark_of (sym (eqb→eq a b h.0))
mark_at_lem (any ∷ k) (b ∷ l) h zero = mark_any b h.0
mark_at_lem (byte a ∷ k) (b ∷ l) h (suc j) = mark_at_lem k l h.1 j
mark_at_lem (any ∷ k) (b ∷ l) h (suc j) = mark_at_lem k l h.1 j

mark_before : (k : List Class) (l : List ℕ) → Fitting k l → (j : ℕ) → mark_of (byte_before l j) ≡ mark_of (byte_before (codes k) j)
unfolding byte_before pick
mark_before k l h j = rw (fits_length k l h) (go (leb j (length l)))
  where
    go : (b : Bool) → mark_of (pick b (get_or l (length l - j) 0) 0) ≡ mark_of (pick b (get_or (codes k) (length l - j) 0) 0)
    go true = mark_at_lem k l h (length l - j)
    go false = refl

same_key : (k : List Class) (l : List ℕ) → T (early 4 k) → Fitting k l → key_of l ≡ key_of (codes k)
unfolding key_of
same_key k l e h =
    rw (
      early_at 4 k l e h 0 (omega arith),
      early_at 4 k l e h 1 (omega arith),
      early_at 4 k l e h 2 (omega arith),
      early_at 4 k l e h 3 (omega arith),
      mark_before k l h 5,
      mark_before k l h 7,
      fits_length k l h,
    )

-- form p is among those that are reached from form q, counted from 1, by so many links
abbrev pub reaches : List ℕ → ℕ → ℕ → ℕ → Bool
reaches links zero q p = false
reaches links (suc n) q p = not (eqb q 0) && (eqb (q - 1) p || reaches links n (get_or links (q - 1) 0) p)

all_reached : T (every 186 (λ p. reaches link_table 8 (get_or head_table (key_of (codes (pattern_of (form_at p)))) 0) p))
unfolding key_of mark_of byte_before head_table link_table forms forms_of pieces_of numbers_of flags_of number_text flag_text rows row_at styles style_at pick spelled digit
all_reached = tt

all_inside : T (every 512 (λ h. leb (get_or head_table h 0) 186))
unfolding head_table
all_inside = tt

all_fall : T (every 186 (λ j. leb (get_or link_table j 0) j))
unfolding link_table
all_fall = tt

pub key_small : (l : List ℕ) → key_of l < 512
unfolding key_of
key_small l = omega arith

-- what is left to look at: where a form claims the line, it is reached from q

pub record Left (t : List ℕ) (at n q : ℕ) : Type 0 where
  pub below : q ≤ 186
  pub links_left : ℕ
  pub reached : (p : ℕ) → p < 186 → T (is_form_in form_table p t at n) → T (reaches link_table links_left q p)

pub read_long : (l : List ℕ) → 16 < length l → read_line l ≡ unread
read_long l g =
    none_claims l (λ q h t. let e = fits_length (pattern_of (form_at q)) l (form_fits (form_at q) l t) in let s = (sound_at q h).is_short in omega arith)

module _ (t : List ℕ) (at n : ℕ) (given : at + n ≤ length t) where
  abbrev l : List ℕ
  l = slice at (at + n) t

  i : Line-at l t at n
  i = line_at t at n given

  pub too_long : 16 < n → unread ≡ read_line l
  too_long h = sym (read_long l (omega (arith, i.long)))

  pub left_first : (h q : ℕ) → h ≡ key_of (take (at + n - at) (drop at t)) → q ≡ get_or head_table h 0 → Left t at n q
  left_first h q d u =
      let e : h ≡ key_of l = d ∙ ap key_of (line_part t at n given) in
      let v : q ≡ get_or head_table (key_of l) 0 = u ∙ rw e in
      record {
        below = rw v (leb→le (get_or head_table (key_of l) 0) 186 (at_every 512 (λ h. leb (get_or head_table h 0) 186) (key_of l) all_inside (key_small l)));
        links_left = 8;
        reached = λ p b c.
            let d = (in-form p l t at n b i c).0 in
            let k = same_key (pattern_of (form_at p)) l (sound_at p b).is_early (form_fits (form_at p) l d) in
            rw (v, k) (at_every 186 (λ p. reaches link_table 8 (get_or head_table (key_of (codes (pattern_of (form_at p)))) 0) p) p all_reached b);
      }

  pub left_next : (q r : ℕ) (b : Bool) → Left t at n q → 0 < q → b ≡ is_form_in form_table (q - 1) t at n → b ≡ false → r ≡ get_or link_table (q - 1) 0 →
      Left t at n r × (r < q)
  left_next q r b s h e f u =
      let fall = leb→le (get_or link_table (q - 1) 0) (q - 1) (at_every 186 (λ j. leb (get_or link_table j 0) j) (q - 1) all_fall (let k = s.below in omega arith)) in
      let v : r ≡ get_or link_table (q - 1) 0 = u in
      let k = s.below in (
        record {
          below = omega (arith, v, fall);
          links_left = s.links_left - 1;
          reached = λ p c d. further s.links_left p d (s.reached p c d);
        },
        omega (arith, v, fall),
      )
    where
      other : (p m : ℕ) → T (is_form_in form_table p t at n) → T (eqb (q - 1) p) ⊎ T (reaches link_table m (get_or link_table (q - 1) 0) p) → T (reaches link_table m r p)
      other p m d (inl y) = absurd (rw (← e, f) at (rw (← eqb→eq (q - 1) p y) at d))
      other p m d (inr y) = rw u y

      further : (m p : ℕ) → T (is_form_in form_table p t at n) → T (reaches link_table m q p) → T (reaches link_table (m - 1) r p)
      further zero p d x = absurd x
      further (suc m) p d x =
          rw pred (other p m d (or_cases (eqb (q - 1) p) (reaches link_table m (get_or link_table (q - 1) 0) p)
          (and_right (not (eqb q 0)) (eqb (q - 1) p || reaches link_table m (get_or link_table (q - 1) 0) p) x)))
        where
          pred : suc m - 1 ≡ m
          pred = omega arith

  none_from_0 : (m p : ℕ) → T (reaches link_table m 0 p) → ⊥
  none_from_0 zero p x = x
  none_from_0 (suc m) p x = x

  -- where nothing is left, the line is in no form
  pub none_left : (q : ℕ) → Left t at n q → q ≡ 0 → unread ≡ read_line l
  none_left q s z = sym (none_claims l (λ p b c. none_from_0 s.links_left p (rw z at (s.reached p b (form_in p l t at n b i c)))))

  module _ (q : ℕ) (b : Bool) (s : Left t at n q) (h : 0 < q) (e : b ≡ is_form_in form_table (q - 1) t at n) (f : b ≡ true) where
    u : q - 1 < 186
    u = omega (arith, s.below)

    claimed : T (is_form (form_at (q - 1)) l) × (n ≡ length_of (q - 1))
    claimed = in-form (q - 1) l t at n u i (true_is (is_form_in form_table (q - 1) t at n) (sym e ∙ f))

    -- it reads the line, and its parts stand in the text
    pub form_found : Ready t at n (q - 1)
    form_found =
        let v = read_in_lem (q - 1) l t at u (subst (λ (m : ℕ). Line-at l t at m) claimed.1 i) in
        let w = parts_shown (q - 1) at (length t) u (rw claimed.1 at given) in
        record { below = u; upper = w.0; lower = w.1; rest = w.2; reads = ap found v ∙ sym (claims (q - 1) l u claimed.0) }
