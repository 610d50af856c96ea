-- `certificate::searching::check` meets its contract: the answer is the definition's, and rules proves the rest of it. Assumes nothing.
use Rattle.certificate.proofs.Demand.{checks}
use Rattle.certificate.proofs.searching.check.Goals as goal

pub returns : goal.returns
returns c = checks _ _ _ _ c.check_answer.ensures
