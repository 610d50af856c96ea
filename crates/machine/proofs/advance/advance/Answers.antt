-- `machine::advance::advance` meets its contract. Assumes nothing.
use Rattle.state.specs.State.{env, state}
use Rattle.machine.proofs.advance.Laws.{landing_here}
use Rattle.machine.proofs.stretching.Laws.{change_here, stepped_stop, stepped_on}
use Rattle.machine.proofs.advance.advance.Goals as goal

pub returns-then-stop-ne0 : goal.returns-then-stop-ne0
returns-then-stop-ne0 c = stepped_stop (env c.args.c c.args.image.now c.args.inputs.now) (state c.args.m c.args.stack.now c.args.registers.now c.args.memory.now c.args.addresses.now c.args.values.now) _ _ c.decide-d.ensures c.requires.3 c.if-stop-ne0.true

pub commit-requires : goal.commit-requires
commit-requires c = landing_here (env c.args.c c.args.image.now c.args.inputs.now) (state c.args.m c.args.stack.now c.args.registers.now c.args.memory.now c.args.addresses.now c.args.values.now) _ c.requires.4 c.requires.2 (change_here (env c.args.c c.args.image.now c.args.inputs.now) (state c.args.m c.args.stack.now c.args.registers.now c.args.memory.now c.args.addresses.now c.args.values.now) _ _ c.decide-d.ensures c.if-stop-ne0.false) c.if-stop-ne0.false

pub returns : goal.returns
returns c = stepped_on (env c.args.c c.args.image.now c.args.inputs.now) (state c.args.m c.args.stack.now c.args.registers.now c.args.memory.now c.args.addresses.now c.args.values.now) _ _ c.decide-d.ensures _ c.requires.3 c.if-stop-ne0.false c.commit.ensures
