-- `machine::advance::decide` meets its contract. Assumes nothing.
use mathlib.Core.Path.{sym, ◌∙◌, ap}
use Rattle.state.specs.State.{env, state}
use Rattle.cells.specs.Cell.{cycles_in}
use Rattle.machine.proofs.advance.Laws.{ready}
use Rattle.machine.proofs.Cached.{found, kept_inside, decided}
use Rattle.machine.proofs.advance.decide.Goals as goal

pub exec-requires : goal.exec-requires
exec-requires c = rw c.cell_at-x.ensures
    (ready (env c.args.c c.args.image.now c.args.inputs.now) (state c.args.m c.args.stack.now c.args.registers.now c.args.memory.now c.args.addresses.now c.args.values.now) c.args.limit _ c.requires.4 c.requires.1 c.requires.2
    (kept_inside c.args.c c.args.image.now c.args.m.pc _ c.requires.4.lawful (found c.args.c c.args.image.now c.args.mask c.args.cells.now c.args.m.pc c.requires.0)))

pub returns : goal.returns
returns c = decided (env c.args.c c.args.image.now c.args.inputs.now) (state c.args.m c.args.stack.now c.args.registers.now c.args.memory.now c.args.addresses.now c.args.values.now) _ _ _ c.requires.4 c.requires.3 (found c.args.c c.args.image.now c.args.mask c.args.cells.now c.args.m.pc c.requires.0)
    (rw (sym c.cell_at-x.ensures) c.exec.ensures)
    (c.cycles.ensures ∙ ap cycles_in c.cell_at-x.ensures)
