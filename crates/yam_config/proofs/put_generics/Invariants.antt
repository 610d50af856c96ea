-- `yam_config::put_generics` meets its contract. Assumes nothing.
use Rattle.printing.specs.Printers.{Prints}
use Rattle.yam_config.specs.Generics.{lines_from}
use Rattle.yam_config.proofs.Lines.{Table}
use Rattle.yam_config.proofs.put_generics.Given as goal

abbrev pub invariant-loop-name : goal.invariant-loop-name
invariant-loop-name l = Table l.fn.c l.name-items × Prints l.initial.p (lines_from l.fn.c 0 l.name-index) l.p
