-- The listing's texts, assembled, give the image (specs/Claims.antt, ListedBack).
-- Assumes nothing.
use Prim.Native.Nat.{ℕ, zero, suc, ◌<◌, ◌≤◌}
use mathlib.Core.Bool.{Bool, true, false, not, ◌&&◌}
use mathlib.Core.Path.{◌≡◌, refl, ap, sym, ◌∙◌}
use mathlib.Core.Logic.{◌⊎◌, inl, inr}
use mathlib.Core.List.{List, [], ◌∷◌, ◌++◌}
use native.Mathlib.Omega.{arith}
use borrow.Author.Tests.{ne_eqb}
use lib.Dec.{T, eqb, leb, ltb, eqb→eq, T_not}
use lib.ListN.{length, drop}
use Rattle.laws.specs.Choice.{pick, pick_yes, pick_no, is_false, true_is}
use Rattle.laws.specs.Test.{test, Holds, tests, imp, imp_use, and_left, and_right, and_both, or_cases}
use Rattle.laws.specs.First.{first_failing, Every, none_fails}
use Rattle.laws.specs.Table.{every, at_every}
use Rattle.words.specs.declared.Config.{Config}
use Rattle.words.specs.declared.Instruction.{Instruction}
use Rattle.words.specs.Configs.{lawful}
use Rattle.words.specs.Rows.{rows, row_at}
use Rattle.words.specs.Words.{Read, refusals567, refusals, read_of, written, word_of, write_lawful, write_of}
use Rattle.words.specs.Claims.{wrote, understood}
use Rattle.words.proofs.RoundTrip.{read_then_write}
use Rattle.syntax.specs.Digits.{spelled, digit}
use Rattle.syntax.specs.Pieces.{Class, byte, is_hex}
use Rattle.syntax.specs.Pieces.Class.{digit as any}
use Rattle.syntax.proofs.Pieces.{Fitting, hex_small}
use Rattle.syntax.specs.Styles.{styles, style_at}
use Rattle.syntax.specs.Forms.{number_text, flag_text, pieces_of, text_of, form_of, numbers_of, flags_of, forms_of, forms}
use Rattle.syntax.specs.Reading.{found, read_line}
use Rattle.syntax.specs.Lines.{onto, lines_of, is_small, letters_of, beyond, is_label, starts, labelled, lone, body_of, counts}
use Rattle.syntax.specs.Labels.{Label, gathered, repeats, name_length, operands_of, target_of, given_by}
use Rattle.syntax.specs.Assembly.{word_at, passed, words_from, how_many, label_limit, source_refusals, assemble_of}
use Rattle.syntax.specs.Claims.{source_of, Readable, ListedBack, Unlabelled}
use Rattle.syntax.proofs.Table.{pattern_of, all_of, all_in}
use Rattle.syntax.proofs.Reading.{read_by, print_then_read}
use Rattle.syntax.proofs.Places.{form_fits}

-- no newline and no letter beyond f stands in a text, and it is not empty

abbrev pub ok_byte : ℕ → Bool
ok_byte b = not (eqb b 10) && not (leb 103 b && leb b 122)

abbrev pub clean : List ℕ → Bool
clean [] = true
clean (b ∷ l) = ok_byte b && clean l

abbrev cleanly : List Class → Bool
cleanly [] = true
cleanly (byte a ∷ k) = ok_byte a && cleanly k
cleanly (any ∷ k) = cleanly k

abbrev pub filled : {A : Type 0} → List A → Bool
filled [] = false
filled (x ∷ l) = true

forms_clean : T (all_of (λ f. filled (pattern_of f) && cleanly (pattern_of f)) forms)
unfolding forms forms_of pieces_of numbers_of flags_of number_text flag_text rows row_at styles style_at pick spelled digit
forms_clean = tt

all_ok : T (every 256 (λ b. imp (is_hex b) (ok_byte b)))
all_ok = tt

hex_ok : (b : ℕ) → T (is_hex b) → T (ok_byte b)
hex_ok b t = imp_use (is_hex b) (ok_byte b) (at_every 256 (λ b. imp (is_hex b) (ok_byte b)) b all_ok (hex_small b t)) t

fit_clean : (k : List Class) (l : List ℕ) → T (cleanly k) → Fitting k l → T (clean l)
fit_clean [] [] c h = tt
fit_clean [] (b ∷ l) c h = absurd h
fit_clean (x ∷ k) [] c h = absurd h
fit_clean (byte a ∷ k) (b ∷ l) c h =
    and_both (ok_byte b) (clean l) (rw (eqb→eq a b h.0) at (and_left (ok_byte a) (cleanly k) c)) (fit_clean k l (and_right (ok_byte a) (cleanly k) c) h.1)
fit_clean (any ∷ k) (b ∷ l) c h = and_both (ok_byte b) (clean l) (hex_ok b h.0) (fit_clean k l c h.1)

fit_filled : (k : List Class) (l : List ℕ) → T (filled k) → Fitting k l → T (filled l)
fit_filled [] l c h = absurd c
fit_filled (x ∷ k) [] c h = h
fit_filled (x ∷ k) (b ∷ l) c h = tt

pub record Plain (l : List ℕ) : Type 0 where
  pub is_clean : T (clean l)
  pub is_filled : T (filled l)

-- so is a line that is read
pub plain_read : (l : List ℕ) (i : Instruction) → read_line l ≡ found i → Plain l
plain_read l i e =
    let f = form_of i in
    let r = read_by l i e in
    let t = all_in (λ f. filled (pattern_of f) && cleanly (pattern_of f)) forms f forms_clean r.one in
    let p = form_fits f l r.own in
    record {
      is_clean = fit_clean (pattern_of f) l (and_right (filled (pattern_of f)) (cleanly (pattern_of f)) t) p;
      is_filled = fit_filled (pattern_of f) l (and_left (filled (pattern_of f)) (cleanly (pattern_of f)) t) p;
    }

-- such a line has no label

drop_clean : (n : ℕ) (l : List ℕ) → T (clean l) → T (clean (drop n l))
drop_clean zero l c = c
drop_clean (suc n) [] c = c
drop_clean (suc n) (b ∷ l) c = drop_clean n l (and_right (ok_byte b) (clean l) c)

ok_not : (b : ℕ) → T (ok_byte b) → T (is_small b) → T (ltb 102 b) → ⊥
unfolding is_small
ok_not b o t g =
    T_not (leb 103 b && leb b 122) (and_right (not (eqb b 10)) (not (leb 103 b && leb b 122)) o)
    (and_both (leb 103 b) (leb b 122) g (and_right (leb 97 b) (leb b 122) t))

letters_of_clean : (l : List ℕ) → T (clean l) → T (beyond (letters_of l)) → ⊥
unfolding letters_of beyond pick
letters_of_clean [] c h = h
letters_of_clean (b ∷ l) c h = go (is_small b) refl h (letters_of_clean l (and_right (ok_byte b) (clean l) c))
  where
    go : (s : Bool) → (is_small b) ≡ s → T (beyond (pick s (b ∷ letters_of l) [])) → (T (beyond (letters_of l)) → ⊥) → ⊥
    go true e h f = split (or_cases (ltb 102 b) (beyond (letters_of l)) h) f (true_is (is_small b) e)
      where
        split : T (ltb 102 b) ⊎ T (beyond (letters_of l)) → (T (beyond (letters_of l)) → ⊥) → T (is_small b) → ⊥
        split (inl g) f t = ok_not b (and_left (ok_byte b) (clean l) c) t g
        split (inr g) f t = f g
    go false e h f = h

no_label : (l : List ℕ) → T (clean l) → T (is_label (letters_of l)) → ⊥
unfolding is_label
no_label l c t = letters_of_clean l c (and_right (leb (length (letters_of l)) 12) (beyond (letters_of l)) t)

unlabelled : (l : List ℕ) → T (clean l) → labelled l ≡ false
unfolding labelled
unlabelled l c = is_false (labelled l) (λ t. no_label l c (and_left (is_label (letters_of l)) (starts 58 (drop (length (letters_of l)) l)) t))

filled_long : (l : List ℕ) → T (filled l) → eqb (length l) 0 ≡ false
filled_long [] h = absurd h
filled_long (b ∷ l) h = ne_eqb (suc (length l)) 0 (λ e. omega arith)

pub counted : (l : List ℕ) → Plain l → counts l ≡ true
unfolding counts lone
counted l p = rw (filled_long l p.is_filled, unlabelled l p.is_clean)

whole : (l : List ℕ) → Plain l → body_of l ≡ l
unfolding body_of pick
whole l p = rw (unlabelled l p.is_clean)

pub no_target : (l : List ℕ) → T (clean l) → target_of l ≡ []
unfolding target_of operands_of
no_target l c =
    let m = drop (suc (name_length l)) l in
    pick_no (is_label (letters_of m)) (letters_of m) [] (no_label m (drop_clean (suc (name_length l)) l c))

-- and its word is that of what was read, whatever the labels
pub read_word : (c : Config) (labels : List Label) (l : List ℕ) (i : Instruction) → read_line l ≡ found i → word_at c labels l ≡ write_lawful c i
unfolding word_at given_by pick
read_word c labels l i e = let p = plain_read l i e in rw (whole l p, no_target l p.is_clean, e)

pub lawful_writes : (c : Config) (i : Instruction) → Holds (lawful c) → write_lawful c i ≡ write_of c i
unfolding write_lawful write_of refusals
lawful_writes c i h =
    ap (λ (n : ℕ). written n (word_of c i)) (sym (pick_yes (test (lawful c)) (first_failing (refusals567 c (row_at i.row) i)) 1 (tests (lawful c) h)))

understands : (c : Config) (w : ℕ) → (read_of c w).number ≡ 0 → read_of c w ≡ understood (read_of c w).instruction
understands c w e = go (read_of c w) e
  where
    go : (r : Read) → r.number ≡ 0 → r ≡ understood r.instruction
    go r e = λ i. record { number = e i; instruction = r.instruction }

text_word : (c : Config) (w : ℕ) → Holds (lawful c) → w < 0x100000000 → (read_of c w).number ≡ 0 →
    Plain (text_of c (read_of c w).instruction) × (word_at c [] (text_of c (read_of c w).instruction) ≡ wrote w)
text_word c w h b e =
    let i = (read_of c w).instruction in
    let u = understands c w e in
    let r = print_then_read c w i u in
    (plain_read (text_of c i) i r, read_word c [] (text_of c i) i r ∙ (lawful_writes c i h ∙ read_then_write c w i b u))

-- lines, parted

own_byte : (b : ℕ) (t : List ℕ) → T (ok_byte b) → lines_of (b ∷ t) ≡ onto b (lines_of t)
unfolding lines_of
own_byte b t h =
    pick_no (eqb b 10) ([] ∷ lines_of t) (onto b (lines_of t)) (T_not (eqb b 10) (and_left (not (eqb b 10)) (not (leb 103 b && leb b 122)) h))

pub parted : (t rest : List ℕ) → T (clean t) → lines_of (t ++ (10 ∷ rest)) ≡ t ∷ lines_of rest
unfolding lines_of pick
parted [] rest c = refl
parted (b ∷ t) rest c =
    own_byte b (t ++ (10 ∷ rest)) (and_left (ok_byte b) (clean t) c) ∙ ap (onto b) (parted t rest (and_right (ok_byte b) (clean t) c))

pub one_line : (t : List ℕ) → T (clean t) → lines_of t ≡ t ∷ []
unfolding lines_of
one_line [] c = refl
one_line (b ∷ t) c = own_byte b t (and_left (ok_byte b) (clean t) c) ∙ ap (onto b) (one_line t (and_right (ok_byte b) (clean t) c))

-- lines that start with no label

abbrev pub Clean : List (List ℕ) → Type 0
Clean = Every (λ l. T (clean l))

pub clean_unlabelled : (ls : List (List ℕ)) → Clean ls → Unlabelled ls
clean_unlabelled [] h = tt
clean_unlabelled (l ∷ ls) h = (unlabelled l h.0, clean_unlabelled ls h.1)

pub none_gathered : (a : ℕ) (ls : List (List ℕ)) → Unlabelled ls → gathered [] a ls ≡ []
unfolding gathered pick
none_gathered a [] h = refl
none_gathered a (l ∷ ls) h = rw h.0 (none_gathered (pick (counts l) (suc a) a) ls h.1)

none_labelled : (ls : List (List ℕ)) → Unlabelled ls → how_many labelled ls ≡ 0
unfolding pick
none_labelled [] h = refl
none_labelled (l ∷ ls) h = rw h.0 (none_labelled ls h.1)

none_repeated : (k : ℕ) (ls : List (List ℕ)) → Unlabelled ls → repeats [] k ls ≡ 0
unfolding repeats pick
none_repeated k [] h = refl
none_repeated k (l ∷ ls) h = rw h.0 (none_repeated (suc k) ls h.1)

-- a text of such lines is answered line by line
pub line_by_line : (c : Config) (text : List ℕ) (ls : List (List ℕ)) (room : ℕ) → lines_of text ≡ ls → Holds (lawful c) → Unlabelled ls →
    how_many counts ls ≤ room → assemble_of c text room ≡ words_from c [] 1 ls
unfolding assemble_of source_refusals pick
line_by_line c text ls room e h u k =
    let few : how_many labelled ls ≤ label_limit = omega (arith, none_labelled ls u) in
    let none = none_fails (source_refusals c ls room (repeats [] 1 ls)) (h, ((few, k), (none_repeated 1 ls u, tt))) in
    rw (e, none, none_gathered 0 ls u)

-- the lines of the source are the texts, and an empty one

abbrev texts_of : Config → List ℕ → List (List ℕ)
texts_of c [] = [] ∷ []
texts_of c (w ∷ ws) = text_of c (read_of c w).instruction ∷ texts_of c ws

module _ (c : Config) (lawfully : Holds (lawful c)) where
  source_clean : (ws : List ℕ) → Readable c ws → Clean (texts_of c ws)
  source_clean [] h = (tt, tt)
  source_clean (w ∷ ws) h = ((text_word c w lawfully h.0 h.1).0.is_clean, source_clean ws h.2)

  source_lines : (ws : List ℕ) → Readable c ws → lines_of (source_of c ws) ≡ texts_of c ws
  unfolding source_of lines_of
  source_lines [] h = refl
  source_lines (w ∷ ws) h =
      let t = text_of c (read_of c w).instruction in
      parted t (source_of c ws) (source_clean (w ∷ ws) h).0 ∙ ap (λ (ls : List (List ℕ)). t ∷ ls) (source_lines ws h.2)

  source_words : (ws : List ℕ) (k : ℕ) → Readable c ws → words_from c [] k (texts_of c ws) ≡ passed ws
  unfolding words_from pick counts
  source_words [] k h = refl
  source_words (w ∷ ws) k h =
      let p = text_word c w lawfully h.0 h.1 in
      rw (counted (text_of c (read_of c w).instruction) p.0, p.1, source_words ws (suc k) h.2)

  source_counts : (ws : List ℕ) → Readable c ws → how_many counts (texts_of c ws) ≡ length ws
  unfolding pick counts
  source_counts [] h = refl
  source_counts (w ∷ ws) h =
      let p = text_word c w lawfully h.0 h.1 in
      rw (counted (text_of c (read_of c w).instruction) p.0) (ap suc (source_counts ws h.2))

pub listed_back : ListedBack
listed_back c ws room h r k =
    let ls = texts_of c ws in
    line_by_line c (source_of c ws) ls room (source_lines c h ws r) h (clean_unlabelled ls (source_clean c h ws r)) (omega (arith, source_counts c h ws r)) ∙
    source_words c h ws 1 r
