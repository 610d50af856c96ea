-- `guards::ranges::words_fit` meets its contract. Assumes nothing.
use Rattle.arith.specs.Width.{bits}
use Rattle.guards.proofs.ranges.Laws.{words_all, words_joined}
use Rattle.guards.proofs.ranges.words_fit.Goals as goal

pub returns-then-top-ge-WORD_TOP : goal.returns-then-top-ge-WORD_TOP
returns-then-top-ge-WORD_TOP c = words_all (bits c.args.width) _ c.args.registers.now c.args.memory.now c.top_of-top.ensures.0 c.if-top-ge-WORD_TOP.true (λ i. (c.type_inv.registers i).fits) (λ i. (c.type_inv.memory i).fits)

pub returns : goal.returns
returns c = rw c.from.ensures (words_joined (bits c.args.width) _ _ _ c.args.registers.now c.args.memory.now c.top_of-top.ensures.0 c.joined.ensures c.joined-2.ensures)
