-- Every operation of levels 0 to 2 at width w: d is the destination's word, s the source's, n the flag N before. Shifts move d, "a
-- register count is its low four bits"; rotates, SHL16, ABS, CLZ and byte loads take s.
use Rattle.std.specs.Prelude.{ℕ, ◌%◌, ◌^◌, ◌<◌, ◌≤◌}
use Rattle.arith.specs.Logic.{and_of, or_of, xor_of}
use Rattle.arith.specs.Sums.{add_of, sub_of, subs_of}
use Rattle.arith.specs.Shifts.{shl_of, shr_of, shra_of, rotl_of, rotr_of}
use Rattle.arith.specs.Unary.{abs_of, clz_of}
use Rattle.arith.specs.Bytes.{bst_of, bld_of, blds_of}
use Rattle.arith.specs.declared.Word.{Word}
use Rattle.words.specs.declared.Operation.{Operation}
use Rattle.words.specs.declared.Operation.TheVariants.{And, Or, Xor, Add, Addc, Sub, Subc, Subs, Shl, Shr, Shra, Rotl, Rotr, Shl16, Abs, Clz, Bst, Bld, Blds}

unfoldable pub alu_of : ℕ → Operation → ℕ → ℕ → ℕ → Word
alu_of w And d s n = and_of d s n
alu_of w Or d s n = or_of d s n
alu_of w Xor d s n = xor_of d s n
alu_of w Add d s n = add_of w d s 0
alu_of w Addc d s n = add_of w d s n
alu_of w Sub d s n = sub_of w d s 0
alu_of w Subc d s n = sub_of w d s n
alu_of w Subs d s n = subs_of w d s
alu_of w Shl d s n = shl_of w d (s % 16)
alu_of w Shr d s n = shr_of w d (s % 16)
alu_of w Shra d s n = shra_of w d (s % 16)
alu_of w Rotl d s n = rotl_of w s
alu_of w Rotr d s n = rotr_of w s
alu_of w Shl16 d s n = shl_of w s 16
alu_of w Abs d s n = abs_of w s
alu_of w Clz d s n = clz_of w s
alu_of w (Bst k) d s n = bst_of w (k % 4) d s
alu_of w (Bld k) d s n = bld_of (k % 4) s
alu_of w (Blds k) d s n = blds_of w (k % 4) s

-- operands that are words of w bits, and a flag
pub record Within (w d s n : ℕ) : Type 0 where
  pub left : d < 2 ^ w
  pub right : s < 2 ^ w
  pub flag : n ≤ 1
