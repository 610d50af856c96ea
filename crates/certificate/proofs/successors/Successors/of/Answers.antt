-- `certificate::successors::Successors::of` meets its contract. Assumes nothing.
use Rattle.certificate.proofs.successors.Laws.{picked}
use Rattle.certificate.proofs.successors.Successors.of.Goals as goal

pub returns : goal.returns
returns c = rw (c.then_some.ensures, c.then_some-2.ensures, c.mark.ensures, c.mark-2.ensures, picked c.args.f.next _, picked c.args.f.target _)
