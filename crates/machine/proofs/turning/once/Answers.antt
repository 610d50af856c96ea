-- `machine::turning::once` meets its contract. Assumes nothing.
use native.Mathlib.Omega.{arith}
use Prim.Native.Nat.{◌<◌}
use mathlib.Core.Logic.{inr}
use mathlib.Core.Path.{ap, ◌∙◌}
use Rattle.state.specs.State.{env, state}
use lib.ListN.{get_or}
use Rattle.cells.specs.Cell.{cell_of}
use Rattle.machine.specs.declared.Turns.{Turns}
use Rattle.machine.specs.Stepping.{turns_end}
use Rattle.machine.proofs.Cached.{pair_cached, pair_at}
use Rattle.machine.proofs.stretching.Laws.{reached_start, image_ends, went_run}
use Rattle.machine.proofs.single.Laws.{past_image}
use Rattle.machine.proofs.turning.once.Goals as goal

pub returns-then-c-pc : goal.returns-then-c-pc
returns-then-c-pc c = ap (λ (r : Turns). turns_end r c.args.stack.now c.args.registers.now c.args.memory.now c.args.addresses.now c.args.values.now) c.stopped.ensures ∙
    image_ends (env c.args.c c.args.image.now c.args.inputs.now) (state c.args.m c.args.stack.now c.args.registers.now c.args.memory.now c.args.addresses.now c.args.values.now) (state c.args.m c.args.stack.now c.args.registers.now c.args.memory.now c.args.addresses.now c.args.values.now) 0 0 1 (reached_start (env c.args.c c.args.image.now c.args.inputs.now) (state c.args.m c.args.stack.now c.args.registers.now c.args.memory.now c.args.addresses.now c.args.values.now) c.requires.1) (omega arith) (past_image (env c.args.c c.args.image.now c.args.inputs.now) (state c.args.m c.args.stack.now c.args.registers.now c.args.memory.now c.args.addresses.now c.args.values.now) c.if-c-pc.true)

pub by_cell-requires : goal.by_cell-requires
by_cell-requires c = let small : get_or c.args.image.now c.args.m.pc 0 < 4294967296 = rw (← c.cell.ensures) (omega arith) in
    let x = c.decode-x.ensures c.requires.1.lawful ∙ ap (cell_of c.args.c) c.cell.ensures in
    (c.requires.0, c.requires.1, c.if-c-pc.false, small, x, pair_cached c.args.c c.args.image.now c.args.m.pc _ (inr (c.if-c-pc.false, small, x)), pair_at c.args.m.pc _, omega arith, omega arith)

pub returns : goal.returns
returns c = went_run (env c.args.c c.args.image.now c.args.inputs.now) (state c.args.m c.args.stack.now c.args.registers.now c.args.memory.now c.args.addresses.now c.args.values.now) _ _ c.by_cell.ensures
