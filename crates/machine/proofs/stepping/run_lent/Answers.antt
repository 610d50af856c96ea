-- `machine::stepping::run_lent` meets its contract. Assumes nothing.
use mathlib.Core.Path.{refl, sym, ap, ◌∙◌}
use Rattle.state.specs.State.{env, state}
use Rattle.state.proofs.Ranges.{accepted}
use Rattle.state.proofs.Calls.{run_refused, run_too_long, run_taken}
use Rattle.machine.specs.Stepping.{end_of}
use Rattle.machine.proofs.Numbers.{some_number}
use Rattle.machine.proofs.stepping.Laws.{renumbered, turns_named}
use Rattle.machine.proofs.Claims.{runs_fit, runs_misfit}
use Rattle.machine.proofs.stepping.run_lent.Goals as goal

pub returns-then-stack-ne-STACK_CELLS : goal.returns-then-stack-ne-STACK_CELLS
returns-then-stack-ne-STACK_CELLS c = rw c.not_begun.ensures (runs_misfit _ (env c.args.c c.args.image.now c.args.inputs.now) (state c.args.core c.args.stack.now c.args.registers.now c.args.memory.now c.args.addresses.now c.args.values.now) c.if-stack-ne-STACK_CELLS.true)

pub returns-in-Err : goal.returns-in-Err
returns-in-Err c = rw c.not_begun-in-Err.ensures (runs_fit _ (env c.args.c c.args.image.now c.args.inputs.now) (state c.args.core c.args.stack.now c.args.registers.now c.args.memory.now c.args.addresses.now c.args.values.now) _ c.if-stack-ne-STACK_CELLS.false (ap end_of (run_refused (env c.args.c c.args.image.now c.args.inputs.now) (state c.args.core c.args.stack.now c.args.registers.now c.args.memory.now c.args.addresses.now c.args.values.now) _ _ (c.from.ensures ∙ c.in-Err.ensures) (some_number c.from.result))))

pub returns-then-budget-gt-BUDGET_MOST : goal.returns-then-budget-gt-BUDGET_MOST
returns-then-budget-gt-BUDGET_MOST c = rw c.not_begun-then-budget-gt-BUDGET_MOST.ensures (runs_fit _ (env c.args.c c.args.image.now c.args.inputs.now) (state c.args.core c.args.stack.now c.args.registers.now c.args.memory.now c.args.addresses.now c.args.values.now) _ c.if-stack-ne-STACK_CELLS.false (ap end_of (run_too_long (env c.args.c c.args.image.now c.args.inputs.now) (state c.args.core c.args.stack.now c.args.registers.now c.args.memory.now c.args.addresses.now c.args.values.now) _ 0 c.in_default.ensures refl c.if-budget-gt-BUDGET_MOST.true)))

pub turns-t-requires : goal.turns-t-requires
turns-t-requires c = (c.if-stack-ne-STACK_CELLS.false, accepted _ _ (sym c.in_default.ensures), c.if-budget-gt-BUDGET_MOST.false)

pub returns : goal.returns
returns c = runs_fit _ (env c.args.c c.args.image.now c.args.inputs.now) (state c.args.core c.args.stack.now c.args.registers.now c.args.memory.now c.args.addresses.now c.args.values.now) _ c.if-stack-ne-STACK_CELLS.false (renumbered _ _ (c.numbered.ensures (turns_named (env c.args.c c.args.image.now c.args.inputs.now) (state c.args.core c.args.stack.now c.args.registers.now c.args.memory.now c.args.addresses.now c.args.values.now) _ _ c.turns-t.ensures)) ∙ (c.turns-t.ensures ∙ ap end_of (run_taken (env c.args.c c.args.image.now c.args.inputs.now) (state c.args.core c.args.stack.now c.args.registers.now c.args.memory.now c.args.addresses.now c.args.values.now) _ 0 c.in_default.ensures refl c.if-budget-gt-BUDGET_MOST.false)))
