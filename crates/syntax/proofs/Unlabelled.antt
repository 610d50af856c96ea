-- A text without labels that is assembled: the texts of its words are its lines (specs/Claims.antt, AssembledBack).
-- Assumes nothing.
use Prim.Native.Nat.{ℕ, suc, ◌≤◌}
use mathlib.Core.Bool.{Bool, true, false}
use mathlib.Core.Path.{◌≡◌, refl, sym, ◌∙◌}
use mathlib.Core.List.{List, [], ◌∷◌}
use native.Mathlib.Omega.{arith}
use borrow.Author.Tests.{eqb-true, eqb-false}
use lib.Dec.{eqb}
use lib.ListN.{length}
use Rattle.laws.specs.Choice.{pick}
use Rattle.laws.specs.Lists.{column}
use Rattle.laws.specs.Test.{Holds}
use Rattle.laws.specs.First.{first_failing, numbered, obeyed}
use Rattle.words.specs.declared.Config.{Config}
use Rattle.words.specs.Configs.{lawful}
use Rattle.words.specs.Words.{Written, write_lawful}
use Rattle.words.specs.Claims.{wrote}
use Rattle.words.proofs.RoundTrip.{write_then_read}
use Rattle.syntax.specs.Reading.{Line, found, unread, read_line}
use Rattle.syntax.specs.Lines.{lines_of, labelled, body_of, counts}
use Rattle.syntax.specs.Labels.{gathered, nowhere, address_of, repeats, target_of, with_address, plainly, labelwise, given_by}
use Rattle.syntax.specs.Assembly.{word_given, word_at, Assembly, refused, before, words_from, how_many, label_limit, source_refusals, assemble_of}
use Rattle.syntax.specs.Claims.{Unlabelled, counting, text_of_word, AssembledBack}
use Rattle.syntax.proofs.Reading.{read_then_print}
use Rattle.syntax.proofs.Sources.{lawful_writes, none_gathered}

whole_line : (l : List ℕ) → labelled l ≡ false → body_of l ≡ l
unfolding body_of pick
whole_line l e = rw e

-- a word that is given without labels is its line's

plain_word : (c : Config) (l : List ℕ) (r : Line) → read_line l ≡ r → Holds (lawful c) → (word_given c (plainly r)).number ≡ 0 →
    text_of_word c (word_given c (plainly r)).word ≡ l
plain_word c l (found i) e h z =
    let s : write_lawful c i ≡ wrote (write_lawful c i).word = λ k. record { number = z k; word = (write_lawful c i).word } in
    let r = write_then_read c i (write_lawful c i).word (sym (lawful_writes c i h) ∙ s) in
    rw r (read_then_print c l i e)
plain_word c l unread e h z = absurd (omega arith)

chosen_word : (c : Config) (l : List ℕ) (b : Bool) (r : Line) → Holds (lawful c) →
    (word_given c (pick b (plainly (read_line l)) (labelwise r nowhere))).number ≡ 0 →
    text_of_word c (word_given c (pick b (plainly (read_line l)) (labelwise r nowhere))).word ≡ l
unfolding pick
chosen_word c l true r h z = plain_word c l (read_line l) refl h z
chosen_word c l false (found i) h z = absurd (omega arith)
chosen_word c l false unread h z = absurd (omega arith)

line_word : (c : Config) (l : List ℕ) → labelled l ≡ false → Holds (lawful c) → (word_at c [] l).number ≡ 0 → text_of_word c (word_at c [] l).word ≡ l
unfolding word_at given_by address_of
line_word c l e h z =
    rw (whole_line l e) (chosen_word c l (eqb (length (target_of l)) 0) (read_line (with_address 0 l)) h (rw (whole_line l e) at z))

-- all lines

module _ (c : Config) (l : List ℕ) (w : Written) (rest : Assembly) (k : ℕ) (cs : List (List ℕ)) (one : w.number ≡ 0 → text_of_word c w.word ≡ l)
    (all : rest.number ≡ 0 → column (text_of_word c) rest.words ≡ cs) where
  this_line : (d : Bool) → eqb w.number 0 ≡ d → (pick d (before w.word rest) (refused w.number k)).number ≡ 0 →
      column (text_of_word c) (pick d (before w.word rest) (refused w.number k)).words ≡ l ∷ cs
  unfolding pick
  this_line true e z = rw (z, one (eqb-true w.number 0 e), all z)
  this_line false e z = absurd (eqb-false w.number 0 e z)

  next_line : (b : Bool) → (pick b (pick (eqb w.number 0) (before w.word rest) (refused w.number k)) rest).number ≡ 0 →
      column (text_of_word c) (pick b (pick (eqb w.number 0) (before w.word rest) (refused w.number k)) rest).words ≡ pick b (l ∷ cs) cs
  unfolding pick
  next_line true z = this_line (eqb w.number 0) refl z
  next_line false z = all z

lines_words : (c : Config) (ls : List (List ℕ)) (k : ℕ) → Unlabelled ls → Holds (lawful c) → (words_from c [] k ls).number ≡ 0 →
    column (text_of_word c) (words_from c [] k ls).words ≡ counting ls
unfolding words_from counting
lines_words c [] k u h z = refl
lines_words c (l ∷ ls) k u h z =
    next_line c l (word_at c [] l) (words_from c [] (suc k) ls) k (counting ls) (line_word c l u.0 h) (lines_words c ls (suc k) u.1 h) (counts l) z

-- what a pass has passed

-- a text that is not refused before its lines has their answer
lines_answer : (n k : ℕ) (r : Assembly) → (pick (eqb n 0) r (refused n k)).number ≡ 0 → n ≡ 0
unfolding pick
lines_answer n k r z = go (eqb n 0) refl z
  where
    go : (b : Bool) → eqb n 0 ≡ b → (pick b r (refused n k)).number ≡ 0 → n ≡ 0
    go true e z = eqb-true n 0 e
    go false e z = z

pub obeys : (c : Config) (ls : List (List ℕ)) (room twice : ℕ) → first_failing (source_refusals c ls room twice) ≡ 0 →
    Holds (lawful c) × ((how_many labelled ls ≤ label_limit) × (how_many counts ls ≤ room)) × (twice ≡ 0)
unfolding source_refusals
obeys c ls room twice e =
    let o = obeyed (source_refusals c ls room twice) (numbered (source_refusals c ls room twice) tt) e in
    (o.0, o.1.0, o.1.1.0)

-- of a text that passes
pub record Passes (c : Config) (text : List ℕ) (room : ℕ) : Type 0 where
  pub lawfully : Holds (lawful c)
  pub enough : how_many counts (lines_of text) ≤ room
  pub answer : assemble_of c text room ≡ words_from c (gathered [] 0 (lines_of text)) 1 (lines_of text)

pub passes : (c : Config) (text : List ℕ) (room : ℕ) → (assemble_of c text room).number ≡ 0 → Passes c text room
unfolding assemble_of pick
passes c text room z =
    let ls = lines_of text in
    let twice = repeats [] 1 ls in
    let n = first_failing (source_refusals c ls room twice) in
    let e = lines_answer n (pick (eqb n 24) twice 0) (words_from c (gathered [] 0 ls) 1 ls) z in
    let o = obeys c ls room twice e in
    record { lawfully = o.0; enough = o.1.1; answer = rw e }

pub assembled_back : AssembledBack
assembled_back c text room u z =
    let ls = lines_of text in
    let p = passes c text room z in
    let a : assemble_of c text room ≡ words_from c [] 1 ls = p.answer ∙ rw (none_gathered 0 ls u) in
    rw a (lines_words c ls 1 u p.lawfully (rw a at z))
