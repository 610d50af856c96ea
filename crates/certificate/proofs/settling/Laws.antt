-- What settles an address at once makes every rule hold there.
-- Assumes nothing.
use Prim.Native.Nat.{ℕ, ◌+◌, ◌/◌, ◌%◌, ◌*◌, ◌<◌, ◌≤◌}
use mathlib.Core.Path.{◌≡◌, refl, sym, ap, ◌∙◌}
use mathlib.Core.Bool.{Bool, true, false, not, ◌&&◌}
use mathlib.Core.List.{List, [], ◌∷◌, ◌++◌}
use native.Mathlib.Omega.{arith}
use borrow.Author.Tests.{ltb-true, ltb-false, eqb-true, eqb-false}
use lib.Dec.{T, eqb, ltb, leb, eqb→eq, ltb→lt, leb→le, not_T, T_not}
use lib.ListN.{get_or, length, get_or-eq_default}
use Rattle.laws.specs.Choice.{pick, is_false, true_is}
use Rattle.laws.specs.First.{Obeyed, none_fails}
use Rattle.laws.specs.Test.{Test, Holds, test, less, most, same, yes?, if?, ◌and◌, and_left, and_right}
use Rattle.words.specs.declared.Config.{Config}
use Rattle.words.specs.declared.Instruction.{Instruction}
use Rattle.words.specs.declared.Facts.{Facts}
use Rattle.words.specs.Answers.{reading_of}
use Rattle.words.specs.Claims.{understood}
use Rattle.words.specs.Configs.{lawful}
use Rattle.words.specs.Facts.{facts_of}
use Rattle.words.specs.Lookup.{below_lent, entry_table, uppers, lowers}
use Rattle.words.specs.Packed.{class_table, base_table, row_table, number_lent, parts_lent}
use Rattle.words.specs.Words.{Read, read_lawful, spread, fields_in}
use Rattle.words.proofs.Quick.{quick_lent, read_parts}
use Rattle.words.proofs.Statics.{own_tables, own_limits, lawful_here}
use Rattle.state.specs.State.{stack_limit}
use Rattle.rules.specs.Marks.{mark_at, used, level_of, sub_of, mode_of}
use Rattle.rules.specs.Successors.{Successor, successor, successors, for_each}
use Rattle.rules.specs.Rules.{mode_after, rules, reads_port}
use Rattle.rules.specs.Check.{lowest}
use Rattle.certificate.specs.Settling.{mark_after, Follows, Allowed}

-- The mark after a word

module _ (f : Facts) (x : ℕ) where
  level_after : level_of (mark_after f x) ≡ level_of x
  unfolding pick
  level_after = go f.enters f.leaves
    where
      go : (b d : Bool) → pick b (x % 128 + 128) (pick d (x % 128) x) % 64 ≡ x % 64
      go true d = omega arith
      go false true = omega arith
      go false false = refl

  sub_after : sub_of (mark_after f x) ≡ sub_of x
  unfolding pick
  sub_after = go f.enters f.leaves
    where
      go : (b d : Bool) → pick b (x % 128 + 128) (pick d (x % 128) x) / 64 % 2 ≡ x / 64 % 2
      go true d = omega arith
      go false true = omega arith
      go false false = refl

  pub mode_after_lem : mode_of (mark_after f x) ≡ mode_after f (mode_of x)
  unfolding pick
  mode_after_lem = go f.enters f.leaves
    where
      go : (b d : Bool) → pick b (x % 128 + 128) (pick d (x % 128) x) / 128 % 2 ≡ pick b 1 (pick d 0 (x / 128 % 2))
      go true d = omega arith
      go false true = omega arith
      go false false = refl

-- A successor that follows: what the code tests of its mark y

-- a byte that is used is below 255
pub used_below : (e : ℕ) → e < 256 → used e ≡ true → e < 255
used_below e h u = go (eqb e 255) refl
  where
    go : (b : Bool) → eqb e 255 ≡ b → e < 255
    go true q = absurd (rw q at (true_is (used e) u))
    go false q = let n : e ≡ 255 → ⊥ = eqb-false e 255 q in omega (arith, h, n)

pub follows_call : (e y : ℕ) → e < 255 → T (eqb (y / 64) (e / 128 % 2 * 2 + 1) && ltb (y % 64) (e % 64)) → Follows true e y
unfolding pick
follows_call e y h t =
    let p : y / 64 ≡ e / 128 % 2 * 2 + 1 = eqb→eq (y / 64) (e / 128 % 2 * 2 + 1) (and_left (eqb (y / 64) (e / 128 % 2 * 2 + 1)) (ltb (y % 64) (e % 64)) t) in
    let q : y % 64 < e % 64 = ltb→lt (y % 64) (e % 64) (and_right (eqb (y / 64) (e / 128 % 2 * 2 + 1)) (ltb (y % 64) (e % 64)) t) in
    let m : y / 128 ≡ e / 128 = omega arith in
    record { used = λ u. omega arith; sub = omega arith; level = omega arith; lower = λ t. q; mode = ap (λ n. n % 2) m }

pub follows_next : (e y : ℕ) → e < 255 → T (leb y e && eqb (y / 64) (e / 64)) → Follows false e y
unfolding pick
follows_next e y h t =
    let p : y ≤ e = leb→le y e (and_left (leb y e) (eqb (y / 64) (e / 64)) t) in
    let q : y / 64 ≡ e / 64 = eqb→eq (y / 64) (e / 64) (and_right (leb y e) (eqb (y / 64) (e / 64)) t) in
    record { used = λ u. omega arith; sub = omega arith; level = omega arith; lower = λ t. absurd t; mode = omega arith }

-- Each of the word's successors

each_of : (mark : ℕ → ℕ) (p : Successor → ℕ → Test) (f : Facts) (a t : ℕ) → (T f.next → Holds (p (successor (a + 1) false) (mark (a + 1)))) →
    (T f.target → Holds (p (successor t f.calls) (mark t))) → Holds (for_each mark (successors f a t) p)
unfolding successors pick
each_of mark p f a t = go f.next f.target (successor (a + 1) false) (successor t f.calls)
  where
    go : (b d : Bool) (r s : Successor) → (T b → Holds (p r (mark r.address))) → (T d → Holds (p s (mark s.address))) →
        Holds (for_each mark (pick b (r ∷ []) [] ++ pick d (s ∷ []) []) p)
    go true true r s h k = (h tt, (k tt, tt))
    go true false r s h k = (h tt, tt)
    go false true r s h k = (k tt, tt)
    go false false r s h k = tt

-- The rules at an address a of mark x, whose word was read as i, and has facts f

-- a used mark stands inside the certificate
inside : (certificate : List ℕ) (a : ℕ) → (mark_at certificate a ≡ 255 → ⊥) → a < length certificate
inside certificate a h = go (ltb a (length certificate)) refl
  where
    go : (b : Bool) → ltb a (length certificate) ≡ b → a < length certificate
    go true e = ltb-true a (length certificate) e
    go false e = absurd (h (get_or-eq_default certificate 255 (ltb-false a (length certificate) e)))

module _ (c : Config) (certificate : List ℕ) (f : Facts) (x a : ℕ) where
  -- what rules 4 to 7 ask of a successor at address a
  pub four : (b : Bool) (e : ℕ) → length certificate ≡ c.imsize → Follows b e (mark_at certificate a) →
      Holds (less a c.imsize and yes? (used (mark_at certificate a)))
  four b e s h =
      (omega (arith, s, inside certificate a h.used), not_T (eqb (mark_at certificate a) 255) λ t. h.used (eqb→eq (mark_at certificate a) 255 t))

  pub five : (b : Bool) → Follows b (mark_after f x) (mark_at certificate a) → sub_of (mark_at certificate a) ≡ pick b 1 (sub_of x)
  five b h = h.sub ∙ ap (λ n. pick b 1 n) (sub_after f x)

  pub six : (b : Bool) → Follows b (mark_after f x) (mark_at certificate a) →
      Holds (most (level_of (mark_at certificate a)) (level_of x) and if? b (less (level_of (mark_at certificate a)) (level_of x)))
  six b h = (omega (arith, h.level, level_after f x), λ t. omega (arith, h.lower t, level_after f x))

  pub seven : (b : Bool) → Follows b (mark_after f x) (mark_at certificate a) → mode_of (mark_at certificate a) ≡ mode_after f (mode_of x)
  seven b h = h.mode ∙ mode_after_lem f x

module _ (c : Config) (certificate : List ℕ) (a : ℕ) (i : Instruction) (f : Facts) (reads : Bool) (sized : length certificate ≡ c.imsize) where
  abbrev x : ℕ
  x = mark_at certificate a

  abbrev e : ℕ
  e = mark_after f x

  pub obeys : (a ≡ 0 → ⊥) → level_of x ≤ stack_limit c.pcstack → f.barred ≡ false → Allowed f i.source x → (T f.output → reads ≡ false) →
      (T f.target → Follows f.calls e (mark_at certificate i.value)) → (T f.next → Follows false e (mark_at certificate (a + 1))) →
      (T f.returns → sub_of x ≡ 1) → Obeyed (rules c (mark_at certificate) a (understood i) f reads)
  unfolding rules pick
  obeys first level barred allowed output target next returns = (
    (λ t. absurd (first (eqb→eq a 0 t))),
    (
      (λ t. level),
      (
        (λ t. (refl, rw barred (λ u. u))),
        (
          (λ t. each_of (mark_at certificate) (λ s y. less s.address c.imsize and yes? (used y)) f a i.value
              (λ u. four c certificate f x (a + 1) false e sized (next u))
              (λ u. four c certificate f x i.value f.calls e sized (target u))),
          (
            (λ t. (
              each_of (mark_at certificate) (λ s y. same (sub_of y) (pick s.by_call 1 (sub_of x))) f a i.value
                  (λ u. five c certificate f x (a + 1) false (next u))
                  (λ u. five c certificate f x i.value f.calls (target u)),
              returns,
            )),
            (
              (λ t. each_of (mark_at certificate) (λ s y. most (level_of y) (level_of x) and if? s.by_call (less (level_of y) (level_of x))) f a i.value
                  (λ u. six c certificate f x (a + 1) false (next u))
                  (λ u. six c certificate f x i.value f.calls (target u))),
              (
                (λ t. (
                  allowed.0,
                  (
                    allowed.1,
                    each_of (mark_at certificate) (λ s y. same (mode_of y) (mode_after f (mode_of x))) f a i.value
                        (λ u. seven c certificate f x (a + 1) false (next u))
                        (λ u. seven c certificate f x i.value f.calls (target u)),
                  ),
                )),
                (
                  (λ t u. rw (output u) (λ z. z)),
                  tt,
                ),
              ),
            ),
          ),
        ),
      ),
    ),
  )

-- The word at an address

row_of_parts : (bs ps : List ℕ) (c : Config) (n w : ℕ) → (parts_lent bs ps c n w).row ≡ n
unfolding parts_lent spread fields_in
row_of_parts bs ps c n w = refl

-- a word whose row is no port read is none
pub quiet_row : (c : Config) (image : List ℕ) (next w n : ℕ) (f : Facts) → w < 0x100000000 → w ≡ get_or image next 0 → n ≡ number_lent class_table w →
    f ≡ facts_of n → T (not f.input) → reads_port c image next ≡ false
unfolding reading_of
quiet_row c image next w n f small ew en ef q = rw (← ew) (go (eqb (read_lawful c w).number 0) refl)
  where
    row : (read_lawful c w).number ≡ 0 → (read_lawful c w).instruction.row ≡ n
    row z =
        sym (ap (λ (r : Read). r.instruction.row) (read_parts class_table base_table row_table entry_table (uppers c) (lowers c) c w n own_tables (own_limits c) small en z _ refl)) ∙
        row_of_parts base_table row_table c n w

    none : (facts_of n).input ≡ false
    none = ap (λ (g : Facts). g.input) (sym ef) ∙ is_false f.input (T_not f.input q)

    go : (b : Bool) → eqb (read_lawful c w).number 0 ≡ b → (eqb (read_lawful c w).number 0 && (facts_of (read_lawful c w).instruction.row).input) ≡ false
    go true e = rw (e, row (eqb-true (read_lawful c w).number 0 e)) none
    go false e = rw e

module _ (c : Config) (image certificate : List ℕ) (a w n x e limit : ℕ) (f : Facts) (h : test (lawful c) ≡ true) (small : w < 0x100000000)
    (ew : w ≡ get_or image a 0) (en : n ≡ number_lent class_table w) (quick : below_lent entry_table (uppers c) (lowers c) n w ≡ true) (ef : f ≡ facts_of n) where
  abbrev i : Instruction
  i = parts_lent base_table row_table c n w

  read_here : read_lawful c (get_or image a 0) ≡ understood i
  unfolding reading_of
  read_here = rw (← ew) (sym (quick_lent class_table base_table row_table entry_table (uppers c) (lowers c) c w n own_tables (own_limits c) small en (lawful_here c h) quick i refl))

  facts_here : facts_of (read_lawful c (get_or image a 0)).instruction.row ≡ f
  facts_here =
      ap (λ (r : Read). facts_of r.instruction.row) read_here ∙ ap facts_of (row_of_parts base_table row_table c n w) ∙ sym ef

  pub settles : length certificate ≡ c.imsize → x ≡ mark_at certificate a → e ≡ mark_after f x → limit ≡ stack_limit c.pcstack → (a ≡ 0 → ⊥) →
      level_of x ≤ limit → f.barred ≡ false → Allowed f i.source x → (T f.output → reads_port c image (a + 1) ≡ false) →
      (T f.target → Follows f.calls e (mark_at certificate i.value)) → (T f.next → Follows false e (mark_at certificate (a + 1))) →
      (T f.returns → sub_of x ≡ 1) → lowest c image certificate a ≡ 0
  settles sized ex ee el first level barred allowed output target next returns =
      rw (facts_here, read_here)
      (none_fails (rules c (mark_at certificate) a (understood i) f (reads_port c image (a + 1)))
      (obeys c certificate a i f (reads_port c image (a + 1)) sized first (rw (ex, el) at level) barred (rw ex at allowed) output
      (rw (ee, ex) at target) (rw (ee, ex) at next) (rw ex at returns)))
