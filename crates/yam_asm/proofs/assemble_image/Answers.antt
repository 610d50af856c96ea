-- `yam_asm::assemble_image` meets its contract. Assumes nothing.
use Rattle.std.proofs.Common.{rules, ◌≡◌, Ok, Err}
use Rattle.image.specs.Answers.{number_of}
use Rattle.yam_asm.specs.declared.Refused.TheVariants.{Assemble, Store}
use Rattle.yam_asm.proofs.Making.{refused, stored}
use Rattle.yam_asm.proofs.assemble_image.Goals as goal

pub returns-in_err-assemble : goal.returns-in_err-assemble
returns-in_err-assemble c =
    let r : c.from_residual.result ≡ Err (Assemble c.in_err-assemble.field-0.0) = search rules in
    rw r (refused c.args.c c.args.source.now c.args.image.now c.args.file.now _ _ c.in_err-assemble.ensures.answer)

pub returns-in_err-store : goal.returns-in_err-store
unfolding number_of
returns-in_err-store c =
    let r : c.from_residual-in_err-store.result ≡ Err (Store c.in_err-store.field-0.0) = search rules in
    rw r (stored c.args.c c.args.source.now c.args.image.now c.args.file.now _ _ c.in_ok-assemble.ensures.answer (Err c.in_err-store.field-0.0) _ c.in_err-store.ensures.answer)

pub returns : goal.returns
unfolding number_of
returns c = stored c.args.c c.args.source.now c.args.image.now c.args.file.now _ _ c.in_ok-assemble.ensures.answer (Ok tt) _ c.in_ok-store.ensures.answer
