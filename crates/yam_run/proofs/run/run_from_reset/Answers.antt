-- `yam_run::run::run_from_reset` meets its contract. Assumes nothing.
use Rattle.state.specs.Run.{run_call}
use Rattle.state.specs.State.{env}
use Rattle.machine.specs.Stepping.{end_of, machine_state}
use Rattle.yam_run.proofs.Lines.{run_put}
use Rattle.yam_run.proofs.run.run_from_reset.Goals as goal

pub returns : goal.returns
returns c =
    let program = c.args.program.now in
    let lent = c.args.lent.now in
    run_put program.config c.run-r.result _ _ _ _ _ (λ m. end_of (run_call c.args.budget (env program.config program.image.now program.inputs.now) (machine_state m lent.registers.now lent.memory.now lent.addresses.now lent.values.now))) c.reset.ensures c.run-r.ensures.answer c.put_ran.ensures
