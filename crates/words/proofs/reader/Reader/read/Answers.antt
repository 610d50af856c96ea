-- `words::reader::Reader::read` meets its contract. Assumes nothing.
use mathlib.Core.Path.{◌∙◌}
use Rattle.std.proofs.lemmas.Result.{err_from_is_err_and}
use Rattle.words.proofs.Answers.{by_own, read_refused, read_passed}
use Rattle.words.proofs.Quick.{own_parts}
use Rattle.words.proofs.Statics.{packs}
use Rattle.words.proofs.reader.Reader.read.Goals as goal

pub returns-in_err-allow : goal.returns-in_err-allow
returns-in_err-allow c =
    let p = err_from_is_err_and c.from_residual.result c.from_residual.ensures.1 in
    rw (p.1, p.2) (read_refused _ _ _ c.in_err-allow.ensures ∙ by_own _ _ _ _ _ _ packs c.args.self.now.options_right c.args.self.now.bounds_right (own_parts _ _ _ _ c.ranges.w.fits c.row.ensures c.parts-i.ensures))

pub returns : goal.returns
returns c = read_passed _ _ _ c.in_ok-allow.ensures ∙ by_own _ _ _ _ _ _ packs c.args.self.now.options_right c.args.self.now.bounds_right (own_parts _ _ _ _ c.ranges.w.fits c.row.ensures c.parts-i.ensures)
