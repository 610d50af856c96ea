-- `words::decode::flag_in` meets its contract. Assumes nothing.
use native.Mathlib.Omega.{arith}
use Rattle.words.proofs.Parts.{lowest_digit, flag_there, flag_absent}
use Rattle.words.proofs.decode.flag_in.Goals as goal

pub returns-then-holds-eq-FLAG : goal.returns-then-holds-eq-FLAG
returns-then-holds-eq-FLAG c = (flag_there _ _ (omega arith) (rw (c.digit-holds.ensures, lowest_digit c.args.p) at c.if-holds-eq-FLAG.true), omega arith)

pub returns-else-holds-eq-FLAG : goal.returns-else-holds-eq-FLAG
returns-else-holds-eq-FLAG c = (flag_absent _ _ (omega arith) (rw (c.digit-holds.ensures, lowest_digit c.args.p) at c.if-holds-eq-FLAG.false), omega arith)
