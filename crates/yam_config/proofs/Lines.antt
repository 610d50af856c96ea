-- The lines of generics and of words, in the shape that the code leaves. Assumes nothing.
use Prim.Native.Nat.{ℕ, zero, suc, ◌+◌, ◌<◌, ◌≤◌}
use mathlib.Core.Path.{◌≡◌, refl, sym, ap, ◌∙◌}
use mathlib.Core.Bool.{Bool, true, false}
use mathlib.Core.List.{List, [], ◌∷◌, ◌++◌, append_assoc, append-nil}
use native.Mathlib.Nat.{add-zero, zero-add, suc-add}
use native.Mathlib.Numerals.{add-one}
use native.Mathlib.Omega.{arith}
use borrow.Author.Tests.{ne_eqb}
use lib.ListN.{length, get_or, take}
use lib.Seq.{take-suc, take_all}
use denote.Ref.{Bor}
use Rattle.std.proofs.Common.{Ok, Err}
use Rattle.laws.specs.Choice.{pick}
use Rattle.laws.specs.Lists.{column, column_at}
use Rattle.words.specs.declared.Config.{Config}
use Rattle.syntax.specs.Digits.{hex}
use Rattle.syntax.specs.Lines.{newline}
use Rattle.parsing.specs.Generics.{generic_count, generics, names}
use Rattle.parsing.specs.Words.{printed}
use Rattle.printing.specs.Numerals.{refusal_line}
use Rattle.printing.specs.declared.printer.Printer.{Printer}
use Rattle.printing.specs.Printers.{Prints}
use Rattle.printing.proofs.Printers.{prints_nothing, prints_then, prints_as}
use Rattle.opening.specs.declared.Refusal.{Refusal}
use Rattle.opening.specs.Opening.{open_of, refusal_number, Answers}
use Rattle.yam_config.specs.Generics.{values_of, generic_line, lines_from, generics_text, printed_of}

-- Generics

split : (c : Config) (k m n : ℕ) → lines_from c k (m + n) ≡ lines_from c k m ++ lines_from c (k + m) n
unfolding lines_from
split c k zero n = rw (zero-add, add-zero)
split c k (suc m) n =
    let first = generic_line (get_or names k []) (get_or (values_of c) k 0) in
    let e : suc k + m ≡ k + suc m = omega arith in
    rw (suc-add m n) (ap (λ (l : List ℕ). first ++ l) (split c (suc k) m n) ∙ rw e (sym (append_assoc first (lines_from c (suc k) m) (lines_from c (k + suc m) n))))

one_line : (c : Config) (k : ℕ) → lines_from c k 1 ≡ generic_line (get_or names k []) (get_or (values_of c) k 0)
unfolding lines_from
one_line c k = append-nil (generic_line (get_or names k []) (get_or (values_of c) k 0))

pub generics_none : (c : Config) (a : Printer) → Prints a (lines_from c 0 0) a
unfolding lines_from
generics_none c a = prints_nothing a

-- the names and values that stand in a table
pub record Table (c : Config) (table : List (Bor (List ℕ) × ℕ)) : Type 0 where
  pub names_are : column (λ g. g.0.now) table ≡ names
  pub values_are : column (λ g. g.1) table ≡ values_of c

-- what is read past a table's end
abbrev pub past : Bor (List ℕ) × ℕ
past = (record { ref_ptr = (0, 0); now = [] }, 0)

name_count : length names ≡ generic_count
unfolding names generics
name_count = refl

module _ (c : Config) (table : List (Bor (List ℕ) × ℕ)) (t : Table c table) (k : ℕ) (h : k < generic_count) where
  name_at : (get_or table k past).0.now ≡ get_or names k []
  name_at =
      sym (column_at (λ g. g.0.now) table k past) ∙ ap (λ (l : List (List ℕ)). get_or l k []) t.names_are

  value_at : (get_or table k past).1 ≡ get_or (values_of c) k 0
  value_at = sym (column_at (λ g. g.1) table k past) ∙ ap (λ (l : List ℕ). get_or l k 0) t.values_are

  pub generics_more : {a b e : Printer} → Prints a (lines_from c 0 k) b → Prints b (generic_line (get_or table k past).0.now (get_or table k past).1) e →
      Prints a (lines_from c 0 (k + 1)) e
  generics_more x y =
      let q : lines_from c 0 k ++ generic_line (get_or table k past).0.now (get_or table k past).1 ≡ lines_from c 0 (k + 1) =
      sym (split c 0 k 1 ∙ rw (zero-add, name_at, value_at) (ap (λ (l : List ℕ). lines_from c 0 k ++ l) (one_line c k))) in
      prints_as q (prints_then x y)

pub generics_all : {a b : Printer} (c : Config) (k : ℕ) → generic_count ≤ k → k ≤ generic_count → Prints a (lines_from c 0 k) b → Prints a (generics_text c) b
unfolding generics_text
generics_all c k h l x = let e : k ≡ generic_count = omega arith in rw e at x

-- Words

printed_append : (xs ys : List ℕ) → printed (xs ++ ys) ≡ printed xs ++ printed ys
unfolding printed
printed_append [] ys = refl
printed_append (x ∷ xs) ys = rw (printed_append xs ys) (sym (append_assoc (hex 8 x) (newline ∷ printed xs) (printed ys)))

printed_one : (w : ℕ) → printed (w ∷ []) ≡ hex 8 w ++ (newline ∷ [])
unfolding printed
printed_one w = refl

module _ (ws : List ℕ) where
  pub words_none : (a : Printer) → Prints a (printed (take 0 ws)) a
  unfolding printed
  words_none a = prints_nothing a

  pub words_more : {a b d e : Printer} (i : ℕ) → i < length ws → Prints a (printed (take i ws)) b → Prints b (hex 8 (get_or ws i 0)) d →
      Prints d (newline ∷ []) e → Prints a (printed (take (i + 1) ws)) e
  words_more i h x y z =
      let e : printed (take i ws) ++ (hex 8 (get_or ws i 0) ++ (newline ∷ [])) ≡ printed (take (i + 1) ws) =
      sym (ap (λ (n : ℕ). printed (take n ws)) (add-one i) ∙ ap printed (take-suc ws i 0 h) ∙ printed_append (take i ws) (get_or ws i 0 ∷ []) ∙
      ap (λ (l : List ℕ). printed (take i ws) ++ l) (printed_one (get_or ws i 0))) in
      prints_as e (prints_then x (prints_then y z))

  pub words_all : {a b : Printer} (i : ℕ) → length ws ≤ i → Prints a (printed (take i ws)) b → Prints a (printed ws) b
  words_all i h x = prints_as (ap printed (take_all i ws h)) x

-- The file

module _ {p q : Printer} (asked : Bool) (f image after : List ℕ) where
  pub refused_put : (e : Refusal) → Answers (open_of f image) (Err e) after → Prints p (refusal_line (refusal_number e)) q → Prints p (printed_of asked f image) q
  unfolding printed_of pick
  refused_put e a h = rw (← a.number, ne_eqb (refusal_number e) 0 a.refused) h

  module _ (c : Config) (a : Answers (open_of f image) (Ok c) after) where
    pub config_put : asked ≡ false → Prints p (generics_text c) q → Prints p (printed_of asked f image) q
    unfolding printed_of pick
    config_put n h = rw (← a.number, n, ← a.config) h

    pub words_put : asked ≡ true → (words : List ℕ) → words ≡ take c.imsize after → Prints p (printed words) q → Prints p (printed_of asked f image) q
    unfolding printed_of pick
    words_put n words s h = rw (← a.number, n, ← a.config, ← a.image, ← s) h
