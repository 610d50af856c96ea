-- `image::storing::store` meets its contract. Assumes nothing.
use Rattle.std.proofs.Common.{rules, ◌≡◌, Err, sym}
use Rattle.image.specs.Answers.{number_of}
use Rattle.image.proofs.storing.Laws.{store_passed}
use Rattle.image.proofs.RoundTrip.{store_refused, stored}
use Rattle.image.proofs.storing.store.Goals as goal

pub returns-in_err-check_store : goal.returns-in_err-check_store
unfolding number_of
returns-in_err-check_store c =
    let r : c.from_residual.result ≡ Err c.in_err-check_store.field-0.0 = search rules in
    rw r (store_refused _ _ _ _ c.in_err-check_store.ensures)

pub put_file-requires : goal.put_file-requires
unfolding number_of
put_file-requires c = store_passed _ _ _ (sym c.in_ok-check_store.ensures)

pub returns : goal.returns
unfolding number_of
returns c = stored _ _ _ _ (sym c.in_ok-check_store.ensures) c.put_file.ensures
