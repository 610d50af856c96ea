-- `words::entries::limits` meets its contract. Assumes nothing.
use mathlib.Core.Path.{refl}
use Rattle.laws.specs.Choice.{pick}
use Rattle.words.specs.Parts.{in_range, available}
use Rattle.words.specs.Actions.{checks}
use Rattle.words.specs.Packed.{limit_of}
use Rattle.words.specs.Lookup.{check_at, limit_in, upper_limit, lower_limit}
use Rattle.words.proofs.limits.Laws.{◌then◌}
use Rattle.words.proofs.entries.limits.Goals as goal

pub returns : goal.returns
unfolding upper_limit lower_limit limit_in limit_of in_range available check_at checks pick
returns g c = let e = c.pick-past.ensures in c.limit.ensures then c.limit-2.ensures then c.limit-3.ensures then c.limit-4.ensures then c.limit-5.ensures then c.limit-6.ensures then c.limit-7.ensures then c.limit-8.ensures then c.limit-9.ensures then c.limit-10.ensures then c.limit-11.ensures then c.limit-12.ensures then c.limit-13.ensures then c.limit-14.ensures then c.limit-15.ensures then c.limit-16.ensures then c.limit-17.ensures then c.limit-18.ensures then c.limit-19.ensures then c.limit-20.ensures then c.limit-21.ensures then c.limit-22.ensures then c.limit-23.ensures then c.limit-24.ensures then c.limit-25.ensures then c.limit-26.ensures then c.limit-27.ensures then c.limit-28.ensures then e then e then e then e then e then e then e then e then e then e then e then e then e then e then e then e then e then e then e then e then e then e then e then e then e then e then e then e then e then e then e then e then e then e then e then e then refl
