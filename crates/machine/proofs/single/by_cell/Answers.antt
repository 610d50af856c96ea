-- `machine::single::by_cell` meets its contract. Assumes nothing.
use mathlib.Core.Path.{refl, sym, ap, ◌∙◌}
use Rattle.state.specs.State.{env, state, stack_limit}
use Rattle.cells.specs.Cell.{action_in}
use Rattle.cells.proofs.Cells.{cell_inside}
use Rattle.machine.proofs.advance.Laws.{ready}
use Rattle.machine.proofs.stretching.Laws.{went_came}
use Rattle.machine.proofs.single.Laws.{switch_went, reveal_went}
use Rattle.machine.proofs.single.by_cell.Goals as goal

pub returns-then-action-eq0 : goal.returns-then-action-eq0
returns-then-action-eq0 c = switch_went c.args.budget c.requires.7 (env c.args.c c.args.image.now c.args.inputs.now) (state c.args.m c.args.stack.now c.args.registers.now c.args.memory.now c.args.addresses.now c.args.values.now) c.args.x c.requires.1 c.requires.2 c.requires.3 c.requires.4 _ _ (sym c.action.ensures ∙ c.if-action-eq0.true) c.value.ensures c.switch.ensures

pub reveal-requires : goal.reveal-requires
reveal-requires c = (ready (env c.args.c c.args.image.now c.args.inputs.now) (state c.args.m c.args.stack.now c.args.registers.now c.args.memory.now c.args.addresses.now c.args.values.now) (stack_limit c.args.c.pcstack) c.args.x c.requires.1 refl c.requires.0
    (rw c.requires.4 (cell_inside c.args.c _ c.requires.1.lawful c.requires.3))
    ).5

pub returns-then-m-ne0 : goal.returns-then-m-ne0
returns-then-m-ne0 c = reveal_went c.args.budget c.requires.7 (env c.args.c c.args.image.now c.args.inputs.now) (state c.args.m c.args.stack.now c.args.registers.now c.args.memory.now c.args.addresses.now c.args.values.now) c.args.x c.requires.1 c.requires.2 c.requires.3 c.requires.4 _ _ (λ z. c.if-action-eq0.false (c.action.ensures ∙ z)) c.if-m-ne0.true c.reveal.ensures.0
    c.reveal.ensures.1

pub returns : goal.returns
returns c = went_came _ c.args.budget (env c.args.c c.args.image.now c.args.inputs.now) (state c.args.m c.args.stack.now c.args.registers.now c.args.memory.now c.args.addresses.now c.args.values.now) _ _ c.stretch.ensures (λ z. c.if-action-eq0.false (c.action.ensures ∙ (sym (ap action_in c.requires.6) ∙ z))) c.requires.7
