-- `yam_check::put_fault` meets its contract. Assumes nothing.
use Rattle.yam_check.proofs.Verdicts.{unlawful_put, misfit_put, broken_put}
use Rattle.yam_check.proofs.put_fault.Goals as goal

pub returns-in-Unlawful : goal.returns-in-Unlawful
returns-in-Unlawful c = unlawful_put c.args.c c.args.image.now _ c.in-Unlawful.is c.refusal.ensures

pub returns-in-WrongLength : goal.returns-in-WrongLength
returns-in-WrongLength c = misfit_put c.args.c c.args.image.now _ c.in-WrongLength.is c.refusal-in-WrongLength.ensures

pub returns-in-Broken : goal.returns-in-Broken
returns-in-Broken c = broken_put c.args.c c.args.image.now _ _ _ _ c.in-Broken.is c.number.ensures c.put_broken.ensures
