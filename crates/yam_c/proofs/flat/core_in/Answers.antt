-- `yam_c::flat::core_in` meets its contract. Assumes nothing.
use native.Mathlib.Omega.{arith}
use Rattle.yam_c.proofs.flat.core_in.Goals as goal

pub word-requires : goal.word-requires
word-requires c = omega (arith, c.requires)

pub word-requires-2 : goal.word-requires-2
word-requires-2 c = omega (arith, c.requires)

pub word-requires-3 : goal.word-requires-3
word-requires-3 c = omega (arith, c.requires)

pub word-requires-4 : goal.word-requires-4
word-requires-4 c = omega (arith, c.requires)

pub word-requires-5 : goal.word-requires-5
word-requires-5 c = omega (arith, c.requires)

pub word-requires-6 : goal.word-requires-6
word-requires-6 c = omega (arith, c.requires)

pub word-requires-7 : goal.word-requires-7
word-requires-7 c = omega (arith, c.requires)

pub word-requires-8 : goal.word-requires-8
word-requires-8 c = omega (arith, c.requires)

pub word-requires-9 : goal.word-requires-9
word-requires-9 c = omega (arith, c.requires)

pub word-requires-10 : goal.word-requires-10
word-requires-10 c = omega (arith, c.requires)

pub word-requires-11 : goal.word-requires-11
word-requires-11 c = omega (arith, c.requires)

pub word-requires-12 : goal.word-requires-12
word-requires-12 c = omega (arith, c.requires)

pub word-requires-13 : goal.word-requires-13
word-requires-13 c = omega (arith, c.requires)

pub word-requires-14 : goal.word-requires-14
word-requires-14 c = omega (arith, c.requires)

pub word-requires-15 : goal.word-requires-15
word-requires-15 c = omega (arith, c.requires)

pub word-requires-16 : goal.word-requires-16
word-requires-16 c = omega (arith, c.requires)

pub word-requires-17 : goal.word-requires-17
word-requires-17 c = omega (arith, c.requires)

pub word-requires-18 : goal.word-requires-18
word-requires-18 c = omega (arith, c.requires)

pub returns : goal.returns
returns c = rw (c.wide.ensures, c.wide-2.ensures, c.word.ensures, c.word-2.ensures, c.word-3.ensures, c.word-4.ensures, c.word-5.ensures, c.word-6.ensures, c.word-7.ensures, c.word-8.ensures, c.word-9.ensures, c.word-10.ensures, c.word-11.ensures, c.word-12.ensures, c.word-13.ensures, c.word-14.ensures, c.word-15.ensures, c.word-16.ensures, c.word-17.ensures, c.word-18.ensures)
