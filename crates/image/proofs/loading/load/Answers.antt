-- `image::loading::load` meets its contract. Assumes nothing.
use Rattle.std.proofs.Common.{rules, ◌≡◌, length, Err, sym, ap, arith}
use Rattle.image.specs.Answers.{number_of}
use Rattle.image.specs.File.{word_at}
use Rattle.image.proofs.loading.Laws.{head_passed, rest_passed, load_refused_head, load_refused_rest, load_passed}
use Rattle.image.proofs.loading.load.Goals as goal
use Rattle.image.proofs.loading.load.Goals.{In_ok-c}

pub returns-in_err-c : goal.returns-in_err-c
unfolding number_of
returns-in_err-c c =
    let r : c.from_residual.result ≡ Err c.in_err-c.field-0.0 = search rules in
    rw r (load_refused_head _ _ _ c.in_err-c.ensures.number)

-- IM_SIZE of the configuration is the file's
size : (c : In_ok-c) → c.in_ok-c.c.imsize ≡ word_at c.args.file.now 1
size c = ap (λ x. x.imsize) c.in_ok-c.ensures.config

pub check_rest-requires : goal.check_rest-requires
unfolding number_of
check_rest-requires c = let p = head_passed c.args.file.now (sym c.in_ok-c.ensures.number) in let s = size (goal.at.check_rest-requires c).In_ok-c in omega arith

pub returns-in_err-check_rest : goal.returns-in_err-check_rest
unfolding number_of
returns-in_err-check_rest c =
    let r : c.from_residual-in_err-check_rest.result ≡ Err c.in_err-check_rest.field-0.0 = search rules in
    let s = size (goal.at.returns-in_err-check_rest c).In_ok-c in
    rw r (load_refused_rest _ _ _ (sym c.in_ok-c.ensures.number) (rw s at c.in_err-check_rest.ensures))

pub copy_image-requires : goal.copy_image-requires
unfolding number_of
copy_image-requires c =
    let p = head_passed c.args.file.now (sym c.in_ok-c.ensures.number) in
    let s = size (goal.at.copy_image-requires c).In_ok-c in
    let q = rest_passed c.args.file.now (word_at c.args.file.now 1) (length c.args.image.now) (sym (rw s at c.in_ok-check_rest.ensures)) in
    omega arith

pub returns : goal.returns
unfolding number_of
returns c =
    let s = size (goal.at.returns c).In_ok-c in
    load_passed _ _ _ _ (sym c.in_ok-c.ensures.number) (sym (rw s at c.in_ok-check_rest.ensures)) c.in_ok-c.ensures.config (rw s at c.copy_image.ensures)
