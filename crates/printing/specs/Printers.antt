-- What a writer leaves of a page with the place reached on it.
use Rattle.std.specs.Prelude.{ℕ, List, ◌≡◌}
use Rattle.printing.specs.declared.printer.Printer.{Printer}
use Rattle.printing.specs.Puts.{Puts}

-- t was put on the page `a`, which is the same page then, with the place behind t reached
pub record Prints (a : Printer) (t : List ℕ) (b : Printer) : Type 0 where
  pub same : b.page.ghost_name ≡ a.page.ghost_name
  pub puts : Puts a.page.now a.at t b.at b.page.now
