-- `text::lines::read` meets its contract. Assumes nothing.
use mathlib.Core.Path.{sym, ◌∙◌}
use Rattle.words.proofs.Statics.{own_tables, own_limits, lawful_here}
use Rattle.words.proofs.Quick.{quick_lent}
use Rattle.text.proofs.lines.read.Goals as goal

pub returns-then-below_limits : goal.returns-then-below_limits
returns-then-below_limits c = quick_lent _ _ _ _ _ _ c.args.reader.now.config c.args.w _ own_tables (own_limits _) c.ranges.w.fits c.row-n.ensures (lawful_here _ c.args.reader.now.is_lawful) (sym c.below_limits.ensures ∙ c.if-below_limits.true) _ c.parts.ensures
