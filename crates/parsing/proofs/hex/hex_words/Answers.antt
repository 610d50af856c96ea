-- `parsing::hex::hex_words` meets its contract. Assumes nothing.
use Rattle.std.proofs.lemmas.Result.{err_from_is_err_and}
use Rattle.parsing.proofs.hex.Laws.{refuses, takes}
use Rattle.parsing.proofs.FromOne.{line_from_one}
use Rattle.parsing.proofs.RoundTrip.{printed_words}
use Rattle.parsing.proofs.hex.hex_words.Goals as goal

pub returns-in_err-put_words : goal.returns-in_err-put_words
returns-in_err-put_words c =
    let p = err_from_is_err_and c.from_residual.result c.from_residual.ensures.1 in
    record { answer = rw (p.1, p.2) (refuses _ _ _ _ c.put_words.new.words c.in_err-put_words.ensures); counted = line_from_one _; back = printed_words }

pub returns : goal.returns
returns c = record { answer = takes _ _ _ _ _ c.put_words.new.words _ c.in_ok-put_words.ensures c.put_words-2.ensures; counted = line_from_one _; back = printed_words }
