-- `yam_run::trace::trace_step` meets its contract. Assumes nothing.
use mathlib.Core.Path.{◌≡◌, refl}
use borrow.Author.Rules.{rules}
use Rattle.std.proofs.Common.{Err}
use Rattle.machine.proofs.Numbers.{some_number}
use Rattle.machine.specs.Stepping.{machine_state}
use Rattle.yam_run.proofs.Lines.{trace_put}
use Rattle.yam_run.proofs.Tracing.{traces_join, trace_as_run}
use Rattle.yam_run.proofs.trace.trace_step.Goals as goal

pub returns-in_err-s-clause-steps : goal.returns-in_err-s-clause-steps
returns-in_err-s-clause-steps c =
    let r : c.from_residual.result ≡ Err c.in_err-s.field-0.0 = search rules in
    rw r (record { answer = c.in_err-s.ensures.answer.answer; prints = λ z. absurd (some_number _ z) }, traces_join, trace_as_run)

pub returns-clause-steps : goal.returns-clause-steps
returns-clause-steps c =
    let program = c.args.program.now in
    let lent = c.args.lent.now in (
      record {
        answer = c.in_ok-s.ensures.answer.answer;
        prints = λ _. trace_put program.config program.image.now program.inputs.now (machine_state c.args.m lent.registers.now lent.memory.now lent.addresses.now lent.values.now) c.args.step c.args.cycles _ _ _ _ c.in_ok-s.ensures.answer.answer refl c.keep.ensures.registers c.keep.ensures.memory c.put_line-bytes.ensures;
      },
      traces_join,
      trace_as_run,
    )
