-- The class of each key names exactly the rows that have it (specs/Claims.antt), by two computed tests; and the table of classes holds them.
-- Assumes nothing.
use Prim.Native.Nat.{ℕ, ◌<◌}
use mathlib.Core.Path.{◌≡◌}
use mathlib.Core.Bool.{Bool, ◌&&◌}
use lib.Dec.{T, ltb, ltb→lt}
use lib.ListN.{get_or}
use Rattle.laws.specs.Choice.{pick}
use Rattle.laws.specs.Test.{member, member_holds, and_left, and_right}
use Rattle.laws.specs.Lists.{all, all_at}
use Rattle.laws.specs.Table.{every, at_every, value_at}
use Rattle.words.specs.Rows.{rows, row_count, row_at}
use Rattle.words.specs.Classes.{none, class_of, choices, named}
use Rattle.words.specs.Packed.{class_table}
use Rattle.words.specs.Claims.{keys, ClassesExact}

-- the rows that key k names have it
abbrev has : ℕ → ℕ → Bool
has k n = ltb n row_count && member k (keys (row_at n))

all_named : T (every 512 (λ k. all (has k) (named (class_of k))))
unfolding pick rows row_at class_of choices named keys
all_named = tt

-- the keys of row n name it
all_keyed : T (every row_count (λ n. all (λ k. member n (named (class_of k))) (keys (row_at n))))
unfolding pick rows row_at class_of choices named keys
all_keyed = tt

pub classes_exact : ClassesExact
classes_exact k n h = (
  (λ m.
      let t = all_at (has k) (named (class_of k)) n (at_every 512 (λ j. all (has j) (named (class_of j))) k all_named h) m in (
        ltb→lt n row_count (and_left (ltb n row_count) (member k (keys (row_at n))) t),
        member_holds k (keys (row_at n)) (and_right (ltb n row_count) (member k (keys (row_at n))) t),
      )),
  (λ p.
      member_holds n (named (class_of k))
      (all_at (λ j. member n (named (class_of j))) (keys (row_at n)) k
      (at_every row_count (λ m. all (λ j. member m (named (class_of j))) (keys (row_at m))) n all_keyed p.0)
      p.1)),
)

pub class_at : (k : ℕ) → k < 512 → get_or class_table k none ≡ class_of k
unfolding class_table
class_at k h = value_at class_of 512 k none h
