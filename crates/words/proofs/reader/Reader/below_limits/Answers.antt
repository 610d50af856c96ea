-- `words::reader::Reader::below_limits` meets its contract. Assumes nothing.
use Rattle.words.proofs.Statics.{entry_list}
use Rattle.words.proofs.reader.Reader.below_limits.Goals as goal

pub returns : goal.returns
returns c = rw (entry_list, c.args.self.now.limits.uppers_right, c.args.self.now.limits.lowers_right) at c.below_limits.ensures
