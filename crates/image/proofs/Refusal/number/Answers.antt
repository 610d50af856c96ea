-- `image::Refusal::number` meets its contract. Assumes nothing.
use Rattle.image.specs.Answers.{refusal_number}
use Rattle.image.proofs.Refusal.number.Goals as goal

pub returns-in-Unlawful : goal.returns-in-Unlawful
unfolding refusal_number
returns-in-Unlawful c = rw c.in-Unlawful.is

pub returns-in-WrongLength : goal.returns-in-WrongLength
unfolding refusal_number
returns-in-WrongLength c = rw c.in-WrongLength.is

pub returns-in-FileLength : goal.returns-in-FileLength
unfolding refusal_number
returns-in-FileLength c = rw c.in-FileLength.is

pub returns-in-BlockNumber : goal.returns-in-BlockNumber
unfolding refusal_number
returns-in-BlockNumber c = rw c.in-BlockNumber.is

pub returns-in-Checksum : goal.returns-in-Checksum
unfolding refusal_number
returns-in-Checksum c = rw c.in-Checksum.is

pub returns-in-Filling : goal.returns-in-Filling
unfolding refusal_number
returns-in-Filling c = rw c.in-Filling.is
