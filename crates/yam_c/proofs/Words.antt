-- What reading and writing a word leave, by the cases of their answers. Assumes nothing.
use mathlib.Core.Path.{◌≡◌, refl}
use mathlib.Core.List.{List, [], ◌∷◌}
use Prim.Native.Nat.{ℕ}
use borrow.Author.Tests.{eq-eqb, ne_eqb}
use lib.ListN.{length}
use Rattle.laws.specs.Choice.{pick}
use Rattle.words.specs.declared.Instruction.{Instruction}
use Rattle.words.specs.declared.Refusal.{Refusal}
use Rattle.words.specs.declared.Refusal.TheVariants.{Unlawful, NoRow, Unavailable, OutOfRange}
use Rattle.std.specs.Prelude.{Result, Ok, Err}
use Rattle.words.specs.Answers.{refusal_number, reading_of, writing_of}
use Rattle.yam_c.specs.Flat.{stored, instruction_words}
use Rattle.yam_c.specs.Calls.{left, read_left, write_left}

refused_left : (x : Refusal) (l : List ℕ) → left (refusal_number x) l ≡ read_left (reading_of (Err x)) l
unfolding read_left reading_of refusal_number pick
refused_left Unlawful l = refl
refused_left NoRow l = refl
refused_left Unavailable l = refl
refused_left OutOfRange l = refl

pub read_refused : (r : Result Instruction Refusal) (x : Refusal) (l : List ℕ) (n : ℕ) → r ≡ Err x → n ≡ refusal_number x →
    left n l ≡ read_left (reading_of r) l
read_refused r x l n e k = rw (e, k) (refused_left x l)

pub read_misfit : (r : Result Instruction Refusal) (i : Instruction) (l : List ℕ) → r ≡ Ok i → (length l ≡ 6 → ⊥) → left 7 l ≡ read_left (reading_of r) l
unfolding read_left reading_of pick
read_misfit r i l e h = rw (e, ne_eqb (length l) 6 h)

pub read_word : (r : Result Instruction Refusal) (i : Instruction) (l m : List ℕ) → r ≡ Ok i → length l ≡ 6 → m ≡ stored l 0 (instruction_words i) →
    left 0 m ≡ read_left (reading_of r) l
unfolding read_left reading_of pick
read_word r i l m e h k = rw (e, eq-eqb (length l) 6 h, k)

pub write_refused : (w : Result ℕ Refusal) (x : Refusal) (l m : List ℕ) (n : ℕ) → w ≡ Err x → n ≡ refusal_number x → m ≡ stored l 0 (0 ∷ []) →
    left n m ≡ write_left (writing_of w) l
unfolding write_left writing_of
write_refused w x l m n e k a = rw (e, k, a)

pub written_word : (w : Result ℕ Refusal) (v : ℕ) (l m : List ℕ) → w ≡ Ok v → m ≡ stored l 0 (v ∷ []) → left 0 m ≡ write_left (writing_of w) l
unfolding write_left writing_of
written_word w v l m e a = rw (e, a)
