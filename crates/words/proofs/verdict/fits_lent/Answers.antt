-- `words::verdict::fits_lent` meets its contract. Assumes nothing.
use Rattle.words.specs.Packed.{fits_lent}
use Rattle.words.proofs.Parts.{lowest_digit}
use Rattle.words.proofs.verdict.fits_lent.Goals as goal

pub returns : goal.returns
unfolding fits_lent
returns c = rw (c.value_below-value.ensures, c.digit-5.ensures, c.below-source.ensures, c.digit-4.ensures, c.below-destination.ensures, c.digit-3.ensures, c.below-number.ensures, c.digit-2.ensures, c.below-flag.ensures, c.digit.ensures, lowest_digit c.args.p)
