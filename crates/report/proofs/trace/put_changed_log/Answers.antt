-- `report::trace::put_changed_log` meets its contract. Assumes nothing.
use Rattle.report.specs.Trace.{changed_log}
use Rattle.report.proofs.trace.put_changed_log.Goals as goal

pub returns : goal.returns
unfolding changed_log
returns c = rw (← c.word_digits.ensures, ← c.filled_from-addresses.ensures, ← c.filled_from-values.ensures) c.put_pairs.ensures
