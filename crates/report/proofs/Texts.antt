-- What is put where a value changed, or at a line's ends. Assumes nothing.
use Prim.Native.Nat.{ℕ, ◌%◌}
use mathlib.Core.Path.{◌≡◌}
use mathlib.Core.List.{List, ◌++◌, append_assoc}
use borrow.Author.Tests.{eq-eqb, ne_eqb}
use Rattle.laws.specs.Choice.{pick}
use Rattle.words.specs.declared.Config.{Config}
use Rattle.syntax.specs.Digits.{hex}
use Rattle.syntax.specs.Quoted.{quoted}
use Rattle.printing.specs.declared.printer.Printer.{Printer}
use Rattle.printing.specs.Printers.{Prints}
use Rattle.printing.proofs.Printers.{prints_nothing, prints_as}
use Rattle.report.specs.Fields.{change_text}
use Rattle.report.specs.Cells.{name_text, end_text}
use Rattle.report.specs.Report.{place_digits}

pub unchanged : (a : Printer) (name value : List ℕ) (old new : ℕ) → old ≡ new → Prints a (change_text name value old new) a
unfolding change_text pick
unchanged a name value old new e = rw (eq-eqb old new e) (prints_nothing a)

pub changed : {a b : Printer} (name value : List ℕ) (old new : ℕ) → (old ≡ new → ⊥) → Prints a (quoted " " ++ (name ++ (quoted "=" ++ value))) b →
    Prints a (change_text name value old new) b
unfolding change_text pick
changed name value old new n h = rw (ne_eqb old new n) h

-- the name of a cell in two parts
pub changed_cell : {a b : Printer} (mark place value : List ℕ) (old new : ℕ) → (old ≡ new → ⊥) →
    Prints a (quoted " " ++ (mark ++ (place ++ (quoted "=" ++ value)))) b → Prints a (change_text (mark ++ place) value old new) b
unfolding change_text pick
changed_cell mark place value old new n h = rw (ne_eqb old new n) (prints_as (simp append_assoc) h)

pub no_name : (a : Printer) (d i : ℕ) → (i % 8 ≡ 0 → ⊥) → Prints a (name_text d i) a
unfolding name_text pick
no_name a d i n = rw (ne_eqb (i % 8) 0 n) (prints_nothing a)

pub has_name : {a b : Printer} (d i : ℕ) → i % 8 ≡ 0 → Prints a (quoted "%" ++ hex d i) b → Prints a (name_text d i) b
unfolding name_text pick
has_name d i e h = rw (eq-eqb (i % 8) 0 e) h

pub no_end : (a : Printer) (i : ℕ) → (i % 8 ≡ 7 → ⊥) → Prints a (end_text i) a
unfolding end_text pick
no_end a i n = rw (ne_eqb (i % 8) 7 n) (prints_nothing a)

pub has_end : {a b : Printer} (i : ℕ) → i % 8 ≡ 7 → Prints a (quoted "\n") b → Prints a (end_text i) b
unfolding end_text pick
has_end i e h = rw (eq-eqb (i % 8) 7 e) h

pub single : (c : Config) → c.rmsize ≡ c.regsize → 2 ≡ place_digits c
unfolding place_digits pick
single c e = rw (eq-eqb c.rmsize c.regsize e)

pub banked : (c : Config) → (c.rmsize ≡ c.regsize → ⊥) → 3 ≡ place_digits c
unfolding place_digits pick
banked c n = rw (ne_eqb c.rmsize c.regsize n)
