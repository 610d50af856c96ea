-- `files::read_all` meets its contract. Assumes nothing.
use Rattle.std.proofs.Common.{length, ◌≤◌, rules}
use Rattle.files.proofs.Reading.{read_on}
use Rattle.files.proofs.read_all.Goals as goal

pub loop-done-preserved : goal.loop-done-preserved
loop-done-preserved g c =
    let fits : c.in-Ok.n ≤ length c.read.new.buf = c.in-Ok.ensures.bound.0 in
    record {
      within = search rules;
      read = read_on _ _ _ c.loop-done.done _ c.in-Ok.n c.loop-done.to c.read.new.buf c.loop-done.invariant.within fits c.loop-done.invariant.read c.in-Ok.ensures.bytes.0;
    }
