-- `yam_pack::pack` meets its contract. Assumes nothing.
use borrow.Author.Rules.{rules}
use Rattle.std.proofs.lemmas.Result.{err_from_is_err_and}
use Rattle.yam_pack.proofs.Packing.{config_long, bad_entry, text_long, bad_line, packs_all}
use Rattle.yam_pack.proofs.pack.Goals as goal

pub returns-then-config-gt-CONFIG_BYTES : goal.returns-then-config-gt-CONFIG_BYTES
returns-then-config-gt-CONFIG_BYTES c = config_long _ _ _ c.if-config-gt-CONFIG_BYTES.true

pub returns-in_err-c : goal.returns-in_err-c
returns-in_err-c c =
    let p = err_from_is_err_and c.from_residual.result c.from_residual.ensures.1 in
    rw (p.1, p.2) (bad_entry _ _ _ c.if-config-gt-CONFIG_BYTES.false _ c.in_err-c.ensures)

pub returns-then-text-gt-TEXT_BYTES : goal.returns-then-text-gt-TEXT_BYTES
returns-then-text-gt-TEXT_BYTES c = text_long _ _ _ c.if-config-gt-CONFIG_BYTES.false _ c.in_ok-c.ensures c.if-text-gt-TEXT_BYTES.true

pub returns-in_err-count : goal.returns-in_err-count
returns-in_err-count c =
    let p = err_from_is_err_and c.from_residual-in_err-count.result c.from_residual-in_err-count.ensures.1 in
    rw (p.1, p.2) (bad_line _ _ _ c.if-config-gt-CONFIG_BYTES.false _ c.in_ok-c.ensures c.if-text-gt-TEXT_BYTES.false _ _ _ c.in_err-count.ensures)

pub returns : goal.returns
returns c =
    packs_all _ _ _ c.if-config-gt-CONFIG_BYTES.false _ c.in_ok-c.ensures c.if-text-gt-TEXT_BYTES.false _ _ _ c.in_ok-count.ensures (search rules) _ _
    c.pack_words.ensures
