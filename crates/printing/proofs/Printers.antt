-- Writers one after another on a page. Assumes nothing.
use Prim.Native.Nat.{ℕ}
use mathlib.Core.Path.{◌≡◌, refl, subst, ◌∙◌}
use mathlib.Core.List.{List, [], ◌++◌}
use Rattle.printing.specs.declared.printer.Printer.{Printer}
use Rattle.printing.specs.Printers.{Prints}
use Rattle.printing.proofs.Puts.{nothing, puts_then}

pub prints_nothing : (a : Printer) → Prints a [] a
prints_nothing a = record { same = refl; puts = nothing a.page.now a.at }

pub prints_then : {a b c : Printer} {s t : List ℕ} → Prints a s b → Prints b t c → Prints a (s ++ t) c
prints_then x y = record { same = y.same ∙ x.same; puts = puts_then x.puts y.puts }

-- the same bytes by another name
pub prints_as : {a b : Printer} {s t : List ℕ} → s ≡ t → Prints a s b → Prints a t b
prints_as {a} {b} e x = subst (λ (z : List ℕ). Prints a z b) e x
