-- `assembler::keys::Key::of` meets its contract. Assumes nothing.
use Prim.Native.Nat.{◌+◌}
use mathlib.Core.Path.{refl}
use native.Mathlib.Omega.{arith}
use lib.ListN.{get_or}
use Rattle.assembler.proofs.labels.Laws.{spell_more, beyond_more, bound_more, bound_small, key_long, key_yes, key_no}
use Rattle.assembler.proofs.keys.Key.of.Goals as goal

pub returns-then-letters-gt-LETTERS : goal.returns-then-letters-gt-LETTERS
returns-then-letters-gt-LETTERS c = key_long _ c.if-letters-gt-LETTERS.true

pub overflow_mul-number : goal.overflow_mul-number
overflow_mul-number c = let l = c.loop-b in omega (arith, bound_small (l.b-index + 1) (omega arith), bound_more l.b-index l.number 0 l.invariant.0)

pub overflow_add-number : goal.overflow_add-number
overflow_add-number c = let l = c.loop-b in
    omega (arith, bound_small (l.b-index + 1) (omega arith), bound_more l.b-index l.number (get_or c.args.letters.now l.b-index 0) l.invariant.0)

pub loop-b-preserved : goal.loop-b-preserved
loop-b-preserved c = let l = c.loop-b in let i = l.invariant in let s = c.args.letters.now in
    (bound_more l.b-index l.number (get_or s l.b-index 0) i.0, spell_more s l.b-index l.number _ (omega arith) refl i.1, beyond_more s l.b-index _ l.beyond (omega arith) refl i.2)

pub invariant_of-result : goal.invariant_of-result
invariant_of-result c = omega (arith, bound_small c.loop-b.b-index (omega arith))

pub returns-then-beyond : goal.returns-then-beyond
returns-then-beyond c = let l = c.loop-b in key_yes c.args.letters.now l.number l.b-index l.beyond (omega arith) (omega arith) l.invariant.1 l.invariant.2 c.if-beyond.true

pub returns-else-beyond : goal.returns-else-beyond
returns-else-beyond c = let l = c.loop-b in key_no c.args.letters.now l.number l.b-index l.beyond (omega arith) (omega arith) l.invariant.1 l.invariant.2 c.if-beyond.false
