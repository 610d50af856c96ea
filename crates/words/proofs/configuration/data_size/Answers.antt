-- `words::configuration::data_size` meets its contract. Assumes nothing.
use Rattle.words.proofs.Configs.{size_right}
use Rattle.words.proofs.configuration.data_size.Goals as goal

pub returns : goal.returns
returns c = size_right c.args.d
