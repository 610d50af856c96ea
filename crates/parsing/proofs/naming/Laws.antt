-- Laws of names, entries and the generics that they name, in the shape that the code leaves. Assumes nothing.
use Prim.Native.Nat.{ℕ, zero, suc, ◌+◌, ◌<◌, ◌≤◌}
use mathlib.Core.Path.{◌≡◌, refl, sym, ap, ◌∙◌}
use mathlib.Core.Bool.{Bool, true, false, not, ◌&&◌, cond}
use mathlib.Core.List.{List, [], ◌∷◌}
use native.Mathlib.Numerals.{add-one}
use native.Mathlib.Omega.{arith}
use borrow.Author.Tests.{lt-ltb, le-ltb, ltb-true, ltb-false}
use lib.Dec.{eqb, ltb}
use lib.ListN.{length, get_or, set, replicate}
use denote.Ref.{Bor}
use Rattle.std.specs.Prelude.{Option, Some, None, Result, Ok, Err, is_some, unwrap_or, ok_or}
use Rattle.std.specs.List.{position_or_len}
use Rattle.std.specs.Cmp.Lexicographic.{pointwise}
use Rattle.laws.specs.Choice.{pick}
use Rattle.laws.specs.Lists.{column, column_at}
use Rattle.syntax.specs.Pieces.{equal}
use Rattle.words.specs.declared.Config.{Config}
use Rattle.parsing.specs.declared.BadEntry.{BadEntry}
use Rattle.parsing.specs.Decimals.{decimal_of, at_most, value_of}
use Rattle.parsing.specs.Entries.{entries_of, name_in, value_in}
use Rattle.parsing.specs.Generics.{generic_count, generics, names, defaults, config_of, place_of, Given, given, giving, given_by, malformed, gather, gathered_in, generics_of}
use Rattle.parsing.specs.Claims.{Found, Gives, marks_in, values_over, values_in, gathered, GathersAll}
use Rattle.parsing.proofs.entries.Laws.{counted, left, ahead, Piece}

-- The place of a name

pub equal_is : (a b : List ℕ) → pointwise eqb a b ≡ equal a b
equal_is [] [] = refl
equal_is [] (y ∷ b) = refl
equal_is (x ∷ a) [] = refl
equal_is (x ∷ a) (y ∷ b) = ap (λ (r : Bool). eqb x y && r) (equal_is a b)

-- the test of a name
abbrev pub named : List ℕ → Bor (List ℕ) → Bool
named s n = pointwise eqb n.now s

abbrev pub texts : List (Bor (List ℕ)) → List (List ℕ)
texts ns = column (λ n. n.now) ns

length-texts : (ns : List (Bor (List ℕ))) → length (texts ns) ≡ length ns
length-texts [] = refl
length-texts (n ∷ ns) = ap suc (length-texts ns)

position_is : (s : List ℕ) (ns : List (Bor (List ℕ))) → position_or_len (named s) ns ≡ place_of (texts ns) s
unfolding place_of pick
position_is s [] = refl
position_is s (n ∷ ns) = rw (equal_is n.now s) (go (equal n.now s) (position_is s ns))
  where
    go : (b : Bool) → position_or_len (named s) ns ≡ place_of (texts ns) s → cond (not b) (1 + position_or_len (named s) ns) 0 ≡ pick b 0 (suc (place_of (texts ns) s))
    go true e = refl
    go false e = let k : 1 + position_or_len (named s) ns ≡ suc (position_or_len (named s) ns) = omega arith in k ∙ ap suc e

name_count : length names ≡ generic_count
unfolding names generics
name_count = refl

pub found : (s : List ℕ) (ns : List (Bor (List ℕ))) → texts ns ≡ names → (r : Option ℕ) →
    r ≡ cond (ltb (position_or_len (named s) ns) (length ns)) (Some (position_or_len (named s) ns)) None → Found r (place_of names s)
found s ns t r e = go (ltb p (length ns)) refl r e
  where
    p : ℕ
    p = position_or_len (named s) ns

    is : p ≡ place_of names s
    is = position_is s ns ∙ ap (λ (l : List (List ℕ)). place_of l s) t

    long : length ns ≡ generic_count
    long = sym (length-texts ns) ∙ ap length t ∙ name_count

    go : (b : Bool) → ltb p (length ns) ≡ b → (r : Option ℕ) → r ≡ cond b (Some p) None → Found r (place_of names s)
    go true h None e = cc
    go true h (Some k) e = let i : k ≡ p = cc in let l = ltb-true p (length ns) h in (i ∙ is, omega (arith, long))
    go false h None e = let l = ltb-false p (length ns) h in omega (arith, is, long)
    go false h (Some k) e = cc

-- What an entry gives

giving_past : (k : ℕ) (x : Option ℕ) → generic_count ≤ k → generic_count ≤ (giving k x).place
giving_past k None h = omega arith
giving_past k (Some v) h = h

pub entry_alone : (e : List ℕ) → value_in e ≡ [] → generic_count ≤ (given_by e).place
unfolding given_by value_of decimal_of at_most pick
entry_alone e q = rw q (omega arith)

module _ (e name : List ℕ) (n : name ≡ name_in e) where
  pub entry_unnamed : generic_count ≤ place_of names name → generic_count ≤ (given_by e).place
  unfolding given_by
  entry_unnamed f = giving_past (place_of names (name_in e)) (value_of (value_in e)) (rw n at f)

  module _ (value : List ℕ) (w : value ≡ value_in e) where
    pub entry_unvalued : None ≡ value_of value → generic_count ≤ (given_by e).place
    unfolding given_by
    entry_unvalued q = rw (← w, ← q) (omega arith)

    pub entry_gives : (k v : ℕ) → (k ≡ place_of names name) × (k < generic_count) → Some v ≡ value_of value → (k < generic_count) × (given k v ≡ given_by e)
    unfolding given_by
    entry_gives k v f q = let i = f.0 in (f.1, rw (← w, ← q, ← n, ← i))

-- The entries one after the other

module _ (n : ℕ) (marks : List Bool) (vs e : List ℕ) (es : List (List ℕ)) (g : Given) (q : g ≡ given_by e) where
  past : generic_count ≤ g.place → gather n marks vs (e ∷ es) ≡ malformed (suc n)
  unfolding gather pick
  past h = rw (← q, le-ltb g.place generic_count h)

  module _ (h : g.place < generic_count) where
    again : get_or marks g.place false ≡ true → gather n marks vs (e ∷ es) ≡ malformed (suc n)
    unfolding gather pick
    again m = rw (← q, lt-ltb g.place generic_count h, m)

    pub first : get_or marks g.place false ≡ false → gather n marks vs (e ∷ es) ≡ gather (suc n) (set marks g.place true) (set vs g.place g.value) es
    unfolding gather pick
    first m = rw (← q, lt-ltb g.place generic_count h, m)

-- the values after one more is given

is_some-set : (xs : List (Option ℕ)) (k v : ℕ) → marks_in (set xs k (Some v)) ≡ set (marks_in xs) k true
is_some-set [] k v = refl
is_some-set (x ∷ xs) zero v = refl
is_some-set (x ∷ xs) (suc k) v = ap (λ (l : List Bool). is_some x ∷ l) (is_some-set xs k v)

over-set : (ds : List ℕ) (xs : List (Option ℕ)) (k v : ℕ) → values_over ds (set xs k (Some v)) ≡ set (values_over ds xs) k v
over-set [] xs k v = refl
over-set (d ∷ ds) [] k v = refl
over-set (d ∷ ds) (x ∷ xs) zero v = refl
over-set (d ∷ ds) (x ∷ xs) (suc k) v = ap (λ (l : List ℕ). unwrap_or x d ∷ l) (over-set ds xs k v)

mark_at : (xs : List (Option ℕ)) (k : ℕ) → get_or (marks_in xs) k false ≡ is_some (get_or xs k None)
mark_at xs k = column_at is_some xs k None

-- the entries before what is left are gathered, n of them
pub record Gathering (text : List ℕ) (xs₀ xs : List (Option ℕ)) (n : ℕ) (done : Bool) (rest : List ℕ) : Type 0 where
  pub few : n + ahead done rest ≤ length text
  pub same : gather n (marks_in xs) (values_in xs) (left done rest) ≡ gather 0 (marks_in xs₀) (values_in xs₀) (entries_of text)

pub gathering_none : (text : List ℕ) (xs : List (Option ℕ)) (done : Bool) (rest : List ℕ) → done ≡ false → rest ≡ text → Gathering text xs xs 0 done rest
gathering_none text xs done rest d r = rw (d, r) (record { few = omega arith; same = refl })

module _ (text : List ℕ) (xs₀ xs : List (Option ℕ)) (n : ℕ) (done : Bool) (rest : List ℕ) (p : Gathering text xs₀ xs n done rest) where
  pub all_read : done ≡ true → GathersAll text xs₀ (Ok tt) xs
  unfolding gather
  all_read d = rw d at p.same

  module _ (going : done ≡ false) (x : List ℕ) (over : Bool) (after : List ℕ) (s : Piece rest x over after) where
    room : n + length rest ≤ length text
    room = rw going at p.few

    at_piece : gather n (marks_in xs) (values_in xs) (counted x (left over after)) ≡ gather 0 (marks_in xs₀) (values_in xs₀) (entries_of text)
    at_piece = sym (ap (gather n (marks_in xs) (values_in xs)) s.entries) ∙ (rw going at p.same)

    pub empty_piece : length x ≡ 0 → Gathering text xs₀ xs n over after
    empty_piece h = go x h s.bytes at_piece
      where
        go : (x : List ℕ) → length x ≡ 0 → length x + ahead over after ≤ length rest →
            gather n (marks_in xs) (values_in xs) (counted x (left over after)) ≡ gather 0 (marks_in xs₀) (values_in xs₀) (entries_of text) →
            Gathering text xs₀ xs n over after
        go [] h b e = let r = room in record { few = omega arith; same = e }
        go (c ∷ x) h b e = absurd (omega arith)

    module _ (h : length x ≡ 0 → ⊥) where
      pub one_more : n + 1 ≤ length text
      one_more = let r = room in let b = s.bytes in omega arith

      at_entry : gather n (marks_in xs) (values_in xs) (x ∷ left over after) ≡ gather 0 (marks_in xs₀) (values_in xs₀) (entries_of text)
      at_entry = go x h at_piece
        where
          go : (x : List ℕ) → (length x ≡ 0 → ⊥) →
              gather n (marks_in xs) (values_in xs) (counted x (left over after)) ≡ gather 0 (marks_in xs₀) (values_in xs₀) (entries_of text) →
              gather n (marks_in xs) (values_in xs) (x ∷ left over after) ≡ gather 0 (marks_in xs₀) (values_in xs₀) (entries_of text)
          go [] h e = absurd (h refl)
          go (c ∷ x) h e = e

      pub entry_past : (e : BadEntry) → e ≡ record { entry = n + 1 } → generic_count ≤ (given_by x).place → (put : List (Option ℕ)) → GathersAll text xs₀ (Err e) put
      entry_past e q m put = rw (q, add-one) (sym (past n (marks_in xs) (values_in xs) x (left over after) (given_by x) refl m) ∙ at_entry)

      module _ (k v : ℕ) (g : (k < generic_count) × (given k v ≡ given_by x)) where
        pub entry_again : is_some (get_or xs k None) ≡ true → (put : List (Option ℕ)) → GathersAll text xs₀ (Err (record { entry = n + 1 })) put
        entry_again m put =
            rw add-one (sym (again n (marks_in xs) (values_in xs) x (left over after) (given k v) g.1 g.0 (mark_at xs k ∙ m)) ∙ at_entry)

        pub entry_first : is_some (get_or xs k None) ≡ false → Gathering text xs₀ (set xs k (Some v)) (n + 1) over after
        entry_first m =
            let r = room in
            let f = s.fewer (omega arith) in
            record {
              few = omega arith;
              same = rw (is_some-set xs k v, over-set defaults xs k v, add-one)
                  (sym (first n (marks_in xs) (values_in xs) x (left over after) (given k v) g.1 g.0 (mark_at xs k ∙ m)) ∙ at_entry);
            }

-- The configuration

over_at : (ds : List ℕ) (xs : List (Option ℕ)) (k : ℕ) → k < length ds → length ds ≤ length xs → get_or (values_over ds xs) k 0 ≡ unwrap_or (get_or xs k None) (get_or ds k 0)
over_at [] xs k h l = absurd (omega arith)
over_at (d ∷ ds) [] k h l = absurd (omega arith)
over_at (d ∷ ds) (x ∷ xs) zero h l = refl
over_at (d ∷ ds) (x ∷ xs) (suc k) h l = over_at ds xs k (omega arith) (omega arith)

default_count : length defaults ≡ generic_count
unfolding defaults generics
default_count = refl

-- a value of the configuration, where the generic's default is d
pub over_default : (xs : List (Option ℕ)) → length xs ≡ generic_count → (k d r : ℕ) → k < generic_count → get_or defaults k 0 ≡ d →
    r ≡ unwrap_or (get_or xs k None) d → r ≡ get_or (values_in xs) k 0
over_default xs l k d r h e q = q ∙ sym (rw e at (over_at defaults xs k (omega (arith, default_count)) (omega (arith, default_count))))

module _ (text : List ℕ) (xs after : List (Option ℕ)) (r : Result (Unit {0}) BadEntry) (x : xs ≡ replicate generic_count None) (g : GathersAll text xs r after) where
  named_in : gathered r after ≡ gathered_in text
  unfolding gathered_in defaults generics
  named_in = rw x at g

  pub answers_none : (e : BadEntry) → r ≡ Err e → Err e ≡ generics_of (gathered_in text)
  answers_none e q = ap generics_of (rw q at named_in)

  pub answers_all : (u : Unit {0}) (c : Config) → r ≡ Ok u → c ≡ config_of (values_in after) → Ok c ≡ generics_of (gathered_in text)
  answers_all u c q k = rw k (ap generics_of (rw q at named_in))

-- an entry that gives nothing is refused by its number
pub no_entry : (r : Option (ℕ × ℕ)) (x : List ℕ) (e f : BadEntry) → Gives r (given_by x) → Err e ≡ ok_or r f → (generic_count ≤ (given_by x).place) × (e ≡ f)
no_entry None x e f g q = (g, cc)
no_entry (Some p) x e f g q = absurd (cc)

-- the configuration of values, field by field
pub configured : (vs : List ℕ) (c : Config) →
    c.imwidth ≡ get_or vs 17 0 →
    c.imsize ≡ get_or vs 0 0 →
    c.regwidth ≡ get_or vs 1 0 →
    c.regsize ≡ get_or vs 2 0 →
    c.rmsize ≡ get_or vs 3 0 →
    c.pcstack ≡ get_or vs 4 0 →
    c.dmsize ≡ get_or vs 5 0 →
    c.dmpipe ≡ get_or vs 6 0 →
    c.alulevel ≡ get_or vs 7 0 →
    c.alumult ≡ get_or vs 8 0 →
    c.aluspr ≡ get_or vs 9 0 →
    c.iopif ≡ get_or vs 10 0 →
    c.ioprmw ≡ get_or vs 11 0 →
    c.yamclk ≡ get_or vs 12 0 →
    c.yamsreg3 ≡ get_or vs 13 0 →
    c.alu3op ≡ get_or vs 14 0 →
    c.irqif ≡ get_or vs 15 0 →
    c.copmsize ≡ get_or vs 16 0 →
    c.yamdbg ≡ get_or vs 18 0 →
    c ≡ config_of vs
configured vs c imwidth imsize regwidth regsize rmsize pcstack dmsize dmpipe alulevel alumult aluspr iopif ioprmw yamclk yamsreg3 alu3op irqif copmsize yamdbg =
    rw (← imwidth, ← imsize, ← regwidth, ← regsize, ← rmsize, ← pcstack, ← dmsize, ← dmpipe, ← alulevel, ← alumult, ← aluspr, ← iopif, ← ioprmw, ← yamclk, ← yamsreg3, ← alu3op, ← irqif, ← copmsize, ← yamdbg)
