-- `image::loading::config_of` meets its contract. Assumes nothing.
use Rattle.image.proofs.loading.config_of.Goals as goal

pub returns : goal.returns
returns c = cc
