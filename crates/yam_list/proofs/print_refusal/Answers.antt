-- `yam_list::print_refusal` meets its contract. Assumes nothing.
use Rattle.yam_list.proofs.Pages.{refusal_waits, refusal_printed}
use Rattle.yam_list.proofs.print_refusal.Goals as goal

pub returns-then-page-lt-REFUSAL_BYTES : goal.returns-then-page-lt-REFUSAL_BYTES
returns-then-page-lt-REFUSAL_BYTES c = refusal_waits _ _ _ c.if-page-lt-REFUSAL_BYTES.true

pub returns : goal.returns
returns c = refusal_printed c.args.n _ _ c.args.page.now _ c.requires c.if-page-lt-REFUSAL_BYTES.false c.put_refusal-bytes.ensures
