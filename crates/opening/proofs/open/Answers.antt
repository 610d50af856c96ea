-- `opening::open` meets its contract. Assumes nothing.
use Rattle.std.proofs.Common.{rules, ◌≡◌, Err}
use Rattle.opening.specs.declared.Refusal.TheVariants.{Load}
use Rattle.opening.proofs.Opening.{is_too_long, is_refused, opens}
use Rattle.opening.proofs.open.Goals as goal

pub returns-then-file-gt-FILE_BYTES : goal.returns-then-file-gt-FILE_BYTES
returns-then-file-gt-FILE_BYTES c = is_too_long _ _ _ _ _ c.ok.ensures.value c.load-loaded.ensures c.if-file-gt-FILE_BYTES.true

pub returns-in_err-loaded : goal.returns-in_err-loaded
returns-in_err-loaded c =
    let r : c.from_residual.result ≡ Err (Load c.in_err-loaded.field-0.0) = search rules in
    rw r (is_refused _ _ _ _ (rw c.in_err-loaded.was at c.load-loaded.ensures) c.if-file-gt-FILE_BYTES.false)

pub returns : goal.returns
returns c = opens _ _ _ _ (rw c.in_ok-loaded.was at c.load-loaded.ensures) c.if-file-gt-FILE_BYTES.false
