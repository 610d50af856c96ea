-- With the tables of specs/Packed.antt and specs/Lookup.antt, a word that is below the limits of its row's check by lent tables is read, and has the
-- parts that they give.
-- Assumes nothing.
use Prim.Native.Nat.{ℕ, ◌/◌, ◌%◌, ◌<◌}
use mathlib.Core.Path.{◌≡◌, sym, ap, ◌∙◌}
use mathlib.Core.Bool.{true}
use mathlib.Core.List.{List}
use native.Mathlib.Omega.{arith}
use lib.Dec.{ltb, ltb→lt}
use lib.ListN.{get_or}
use Rattle.std.specs.Prelude.{Ok}
use Rattle.laws.specs.Choice.{pick, true_is}
use Rattle.laws.specs.Table.{value_at}
use Rattle.laws.specs.Test.{Holds, and_left, and_right}
use Rattle.words.specs.declared.Config.{Config}
use Rattle.words.specs.declared.Instruction.{Instruction}
use Rattle.words.specs.Answers.{reading_of}
use Rattle.words.specs.Configs.{lawful}
use Rattle.words.specs.Classes.{class_of, row_of}
use Rattle.words.specs.Words.{answered, parts_by, parts_of, read_by, read_lawful}
use Rattle.words.specs.Packed.{Tables, class_table, base_table, row_table, number_lent, parts_lent}
use Rattle.words.specs.Claims.{understood}
use Rattle.words.specs.Lookup.{entry_at, entry_table, entry_of, check_at, upper_limit, lower_limit, uppers, lowers, within_limits, Quick, below_lent, Limits}
use Rattle.words.proofs.ClassesExact.{class_at}
use Rattle.words.proofs.Packed.{row_lent_lem}
use Rattle.words.proofs.Statics.{own_tables, own_limits}
use Rattle.words.proofs.Lookup.{quick, row_few}

-- what stands in the tables

upper_at : (c : Config) (t : ℕ) → t < 64 → get_or (uppers c) t 0 ≡ upper_limit c (check_at t)
unfolding uppers
upper_at c t h = value_at (λ k. upper_limit c (check_at k)) 64 t 0 h

lower_at : (c : Config) (t : ℕ) → t < 64 → get_or (lowers c) t 0 ≡ lower_limit c (check_at t)
unfolding lowers
lower_at c t h = value_at (λ k. lower_limit c (check_at k)) 64 t 0 h

entry_at_lem : (n : ℕ) → n < 256 → get_or entry_table n 0 ≡ entry_at n
unfolding entry_table
entry_at_lem n h = value_at entry_at 256 n 0 h

-- a word within the limits of its check

pub within_quick : (c : Config) (w : ℕ) → within_limits c (entry_of w % 64) w ≡ true → Quick c w
unfolding within_limits
within_quick c w t =
    let u = ltb (w / 65536 % 128) (upper_limit c (check_at (entry_of w % 64))) in
    let l = ltb (w % 65536) (lower_limit c (check_at (entry_of w % 64))) in
    record { upper = ltb→lt _ _ (and_left u l (true_is _ t)); lower = ltb→lt _ _ (and_right u l (true_is _ t)) }

module _ (c : Config) (w n : ℕ) (small : w < 0x100000000) (row : n ≡ row_of (class_of (w / 0x800000)) (w % 0x800000)) where
  entry_here : get_or entry_table n 0 ≡ entry_of w
  unfolding entry_of
  entry_here = entry_at_lem n (rw row (row_few (w / 0x800000) (w % 0x800000) (omega arith))) ∙ ap entry_at row

  passes : below_lent entry_table (uppers c) (lowers c) n w ≡ within_limits c (entry_of w % 64) w
  unfolding below_lent within_limits
  passes = rw (entry_here, upper_at c (entry_of w % 64) (omega arith), lower_at c (entry_of w % 64) (omega arith))

read_zero : (c : Config) (w : ℕ) → (read_lawful c w).number ≡ 0 → read_lawful c w ≡ understood (parts_of c w)
unfolding read_lawful read_by parts_of answered pick
read_zero c w z = rw z

module _ (cs bs ps es us ls : List ℕ) (c : Config) (w n : ℕ) (t : Tables cs bs ps) (l : Limits c es us ls) (small : w < 0x100000000)
    (row : n ≡ number_lent cs w) where
  row_here : n ≡ row_of (class_of (w / 0x800000)) (w % 0x800000)
  unfolding number_lent
  row_here = row ∙ rw t.classes_right (ap (λ x. row_of x (w % 0x800000)) (class_at (w / 0x800000) (omega arith)))

  pub parts_here : parts_lent bs ps c n w ≡ parts_of c w
  unfolding parts_lent parts_of parts_by
  parts_here = rw (t.bases_right, t.packs_right, row_lent_lem n, row_here)

  pub quick_lent : Holds (lawful c) → below_lent es us ls n w ≡ true → (i : Instruction) → i ≡ parts_lent bs ps c n w → reading_of (Ok i) ≡ read_lawful c w
  unfolding reading_of
  quick_lent h b i e =
      let q = within_quick c w (sym (passes c w n small row_here) ∙ (rw (l.entries_right, l.uppers_right, l.lowers_right) at b)) in
      ap understood (e ∙ parts_here) ∙ sym (quick c w h small q)

  -- and so is every word that can be read
  pub read_parts : (read_lawful c w).number ≡ 0 → (i : Instruction) → i ≡ parts_lent bs ps c n w → reading_of (Ok i) ≡ read_lawful c w
  unfolding reading_of
  read_parts z i e = ap understood (e ∙ parts_here) ∙ sym (read_zero c w z)

-- by this crate's tables
pub own_parts : (c : Config) (w n : ℕ) (i : Instruction) → w < 0x100000000 → n ≡ number_lent class_table w →
    i ≡ parts_lent base_table row_table c n w → i ≡ parts_of c w
own_parts c w n i h e f = f ∙ parts_here _ _ _ entry_table (uppers c) (lowers c) c w n own_tables (own_limits c) h e
