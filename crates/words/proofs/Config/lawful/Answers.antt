-- `words::Config::lawful` meets its contract. Assumes nothing.
use Rattle.words.specs.Configs.{lawful}
use Rattle.words.proofs.Config.lawful.Goals as goal

pub returns : goal.returns
unfolding lawful
returns c = cc
