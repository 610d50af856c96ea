-- `assembler::bytes::line_end` meets its contract. Assumes nothing.
use native.Mathlib.Omega.{arith}
use lib.Count.{trailing_le}
use Rattle.assembler.proofs.bytes.Laws.{skipped_none, skipped_more, ends_in_block, ends_after}
use Rattle.assembler.proofs.bytes.line_end.Goals as goal

pub loop-j-init : goal.loop-j-init
loop-j-init c = skipped_none _ _ c.requires

pub overflow_sub-text : goal.overflow_sub-text
overflow_sub-text c = c.loop-j.invariant.inside

pub newlines-m-requires : goal.newlines-m-requires
newlines-m-requires c = let h = c.loop-j-test.true in let i = c.loop-j.invariant.inside in omega arith

pub overflow_cast-result : goal.overflow_cast-result
overflow_cast-result c = let t = trailing_le 32 c.newlines-m.result in omega arith

pub overflow_add-result : goal.overflow_add-result
overflow_add-result c = let t = trailing_le 32 c.newlines-m.result in
    let i = c.loop-j.invariant.inside in
    omega arith

pub returns-then-m-ne0 : goal.returns-then-m-ne0
returns-then-m-ne0 c = let h = c.loop-j-test.true in
    let i = c.loop-j.invariant.inside in
    ends_in_block _ _ c.loop-j.j _ c.loop-j.invariant (omega arith) c.newlines-m.ensures c.if-m-ne0.true

pub overflow_add-j : goal.overflow_add-j
overflow_add-j c = let i = c.loop-j.invariant.inside in omega arith

pub loop-j-smaller : goal.loop-j-smaller
loop-j-smaller c = let h = c.loop-j-test.true in let i = c.loop-j.invariant.inside in omega arith

pub loop-j-preserved : goal.loop-j-preserved
loop-j-preserved c = let h = c.loop-j-test.true in
    let i = c.loop-j.invariant.inside in
    skipped_more _ _ c.loop-j.j _ c.loop-j.invariant (omega arith) c.newlines-m.ensures c.if-m-ne0.false

pub next_newline-requires : goal.next_newline-requires
next_newline-requires c = c.loop-j.invariant.inside

pub returns : goal.returns
returns c = ends_after _ _ c.loop-j.j _ c.loop-j.invariant c.next_newline.ensures
