-- `assembler::source::assemble` meets its contract. Assumes nothing.
use Rattle.assembler.proofs.source.Laws.{handed_on, no_writer, its_config, unlawful, refused_early, refused_late, finished}
use Rattle.assembler.proofs.source.assemble.Goals as goal

pub returns-in_err-writer : goal.returns-in_err-writer
returns-in_err-writer c = let m = no_writer _ _ _ _ c.of.ensures.none c.in_err-writer.ensures.value in
    handed_on _ _ _ _ _ c.from_residual.ensures.1 (rw m.1 (unlawful _ _ _ m.0))

pub returns-in_err-gather : goal.returns-in_err-gather
returns-in_err-gather c = let e = its_config _ _ _ c.of.ensures.some c.in_ok-writer.ensures.ok_part in
    handed_on _ _ _ _ _ c.from_residual-in_err-gather.ensures.1
    (rw e at (refused_early _ _ _ c.in_ok-writer.writer.is_lawful _ _ c.gather.ensures _ c.in_err-gather.was))

pub returns-in_err-read_lines : goal.returns-in_err-read_lines
returns-in_err-read_lines c = let e = its_config _ _ _ c.of.ensures.some c.in_ok-writer.ensures.ok_part in
    handed_on _ _ _ _ _ c.from_residual-in_err-read_lines.ensures.1
    (rw e at (refused_late _ _ _ c.in_ok-writer.writer.is_lawful _ _ c.gather.ensures _ _ _ _ c.in_ok-gather.was c.read_lines.ensures c.in_err-read_lines.was))

pub returns : goal.returns
returns c = let e = its_config _ _ _ c.of.ensures.some c.in_ok-writer.ensures.ok_part in
    rw e at (finished _ _ _ c.in_ok-writer.writer.is_lawful _ _ c.gather.ensures _ _ _ _ _ _ c.in_ok-gather.was c.read_lines.ensures c.in_ok-read_lines.was c.read_lines-2.ensures)
