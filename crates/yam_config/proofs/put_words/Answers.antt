-- `yam_config::put_words` meets its contract. Assumes nothing.
use Rattle.yam_config.proofs.Lines.{words_none, words_more, words_all}
use Rattle.yam_config.proofs.put_words.Goals as goal

pub loop-w-init : goal.loop-w-init
loop-w-init c = words_none c.args.words.now _

pub loop-w-preserved : goal.loop-w-preserved
loop-w-preserved c = words_more c.args.words.now c.loop-w.w-index c.loop-w-test.true c.loop-w.invariant (rw c.from.ensures at c.hex.ensures) c.bytes.ensures

pub returns : goal.returns
returns c = words_all c.args.words.now c.loop-w.w-index c.loop-w-test.false c.loop-w.invariant
