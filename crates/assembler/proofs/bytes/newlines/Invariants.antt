-- `assembler::bytes::newlines` meets its contract. Assumes nothing.
use Prim.Native.Nat.{◌+◌, ◌-◌}
use mathlib.Core.Path.{◌≡◌}
use Rattle.assembler.specs.Bytes.{newlines_in}
use Rattle.assembler.proofs.bytes.newlines.Given as goal

abbrev pub invariant-loop-j : goal.invariant-loop-j
invariant-loop-j l = l.m ≡ newlines_in (16 - l.j) l.text (l.from + l.j)
