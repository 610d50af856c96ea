-- `yam_config::put_words` meets its contract. Assumes nothing.
use lib.ListN.{take}
use Rattle.parsing.specs.Words.{printed}
use Rattle.printing.specs.Printers.{Prints}
use Rattle.yam_config.proofs.put_words.Given as goal

abbrev pub invariant-loop-w : goal.invariant-loop-w
invariant-loop-w l = Prints l.initial.p (printed (take l.w-index l.words)) l.p
