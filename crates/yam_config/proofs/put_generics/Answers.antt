-- `yam_config::put_generics` meets its contract. Assumes nothing.
use Rattle.std.proofs.Common.{refl}
use Rattle.parsing.specs.Generics.{generics, names}
use Rattle.yam_config.proofs.Lines.{generics_none, generics_more, generics_all}
use Rattle.yam_config.proofs.ReadBack.{read_back}
use Rattle.yam_config.proofs.put_generics.Goals as goal

pub loop-name-init : goal.loop-name-init
unfolding names generics
loop-name-init c = (record { names_are = refl; values_are = refl }, generics_none c.args.c _)

pub loop-name-preserved : goal.loop-name-preserved
loop-name-preserved c =
    let t = c.loop-name.invariant.0 in
    (t, generics_more c.args.c _ t c.loop-name.name-index c.loop-name-test.true c.loop-name.invariant.1 c.put_generic.ensures)

pub returns : goal.returns
returns c = (generics_all c.args.c c.loop-name.name-index c.loop-name-test.false c.loop-name.auto.name-index-end c.loop-name.invariant.1, read_back)
