-- `assembler::gathering::gather` meets its contract. The loop's invariant: what is left of the lines, after what is gathered, is the whole. Assumes nothing.
use Prim.Native.Nat.{ℕ, ◌+◌}
use mathlib.Core.Path.{refl, ap}
use native.Mathlib.Omega.{arith}
use Rattle.syntax.specs.Lines.{lines_of}
use Rattle.assembler.proofs.gathering.Laws.{opens_here, counts_here, full, not_full, number_some, going_first, going_on, labels_many, words_many, labels_fail, words_fail, too_many, doubled_label, all_gathered}
use Rattle.assembler.proofs.gathering.gather.Goals as goal

pub loop-s-init : goal.loop-s-init
loop-s-init c = going_first _ _ _ c.requires

pub returns-then-is_some-is_full : goal.returns-then-is_some-is_full
returns-then-is_some-is_full c = let f = full _ _ _ _ c.is_full.ensures c.if-is_some-is_full.true in
    too_many _ _ _
    (labels_fail (lines_of c.args.text.now) _
    (labels_many _ _ _ _ _ _ _ c.loop-s.invariant _ c.line_end-e.ensures _ (opens_here _ _ _ _ c.line_end-e.ensures c.open_line-o.ensures).key_is
    (number_some _ _ c.is_some.ensures f.0) f.1))

pub returns-then-counted-words : goal.returns-then-counted-words
returns-then-counted-words c = let f = full _ _ _ _ refl c.if-counted-words.true in
    too_many _ _ _
    (words_fail (lines_of c.args.text.now) _
    (words_many _ _ _ _ _ _ _ c.loop-s.invariant _ c.line_end-e.ensures _ (opens_here _ _ _ _ c.line_end-e.ensures c.open_line-o.ensures).key_is
    _ (counts_here _ _ _ _ c.line_end-e.ensures c.counts-counted.ensures) f.0 f.1))

pub loop-s-preserved : goal.loop-s-preserved
loop-s-preserved c = let g = c.loop-s.invariant in
    going_on _ _ _ _ _ _ _ g _ c.line_end-e.ensures _ (opens_here _ _ _ _ c.line_end-e.ensures c.open_line-o.ensures).key_is _ c.note-again.ensures.added
    _ c.counts-counted.result _ _ c.note-again.ensures.known (counts_here _ _ _ _ c.line_end-e.ensures c.counts-counted.ensures)
    c.first_of-twice.ensures (ap (λ (n : ℕ). c.loop-s.words + n) c.from-words.ensures)
    (λ t. not_full _ _ _ _ refl c.if-counted-words.false g.words_few.0 t)

pub returns-in-Some : goal.returns-in-Some
returns-in-Some c = doubled_label _ _ _ _ _ _ _ c.loop-s.labels.few c.loop-s.invariant (omega (arith, c.loop-s-test.false)) _ c.in-Some.is

pub returns : goal.returns
returns c = all_gathered _ _ _ _ _ _ _ c.loop-s.labels.few c.loop-s.invariant (omega (arith, c.loop-s-test.false)) c.in_default.is
