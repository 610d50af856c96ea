-- The whole call.
-- Assumes nothing.
use Prim.Native.Nat.{ℕ}
use mathlib.Core.Bool.{true, false}
use mathlib.Core.Path.{◌≡◌, refl, ap, sym, subst, ◌∙◌}
use mathlib.Core.List.{List, [], ◌∷◌}
use native.Mathlib.Omega.{arith}
use borrow.Author.Tests.{ne_eqb}
use lib.Dec.{eqb}
use lib.ListN.{length}
use lib.Seq.{sets}
use Rattle.std.specs.Option.{ok_or}
use Rattle.std.specs.Prelude.{◌↔◌, Option, Some, is_some, IsNone, IfSome, Result, Ok, Err}
use Rattle.std.specs.Result.{IsErrAnd}
use Rattle.laws.specs.Choice.{pick}
use Rattle.laws.specs.Test.{test}
use Rattle.laws.specs.First.{first_failing}
use Rattle.words.specs.declared.Config.{Config}
use Rattle.words.specs.declared.writer.Writer.{Writer}
use Rattle.words.specs.Configs.{lawful}
use Rattle.syntax.specs.Lines.{lines_of}
use Rattle.syntax.specs.Labels.{gathered, repeats}
use Rattle.syntax.specs.Assembly.{Assembly, refused, source_refusals, assemble_of}
use Rattle.syntax.proofs.Reading.{print_then_read, read_then_print, unread_none}
use Rattle.syntax.proofs.Sources.{listed_back}
use Rattle.syntax.proofs.Unlabelled.{assembled_back}
use Rattle.syntax.proofs.Labels.{labels_mean}
use Rattle.syntax.proofs.Resolved.{labels_resolved}
use Rattle.assembler.specs.declared.errors.AssembleError.{AssembleError}
use Rattle.assembler.specs.declared.errors.AssembleError.TheVariants.{Unlawful, TooMany, DoubledLabel, BadLine}
use Rattle.assembler.specs.declared.labels.Labels.{Labels}
use Rattle.assembler.specs.Answers.{count_of, assemble_call}
use Rattle.assembler.specs.Claims.{Assembles}
use Rattle.assembler.specs.Errors.{error_number, number_of, line_of}
use Rattle.assembler.specs.Gathering.{gather_number, Gathers}
use Rattle.assembler.specs.Passing.{words_of, Passes}
use Rattle.assembler.proofs.lines.Laws.{line_never, words_none}
use Rattle.assembler.proofs.writing.Laws.{err_is, missing}

-- a refusal has a number
never : (e : AssembleError) → error_number e ≡ 0 → ⊥
never Unlawful z = omega arith
never TooMany z = omega arith
never (DoubledLabel k) z = omega arith
never (BadLine k x) z = line_never x z

made : (c : Config) (text words : List ℕ) (r : Result ℕ AssembleError) (after : List ℕ) (a : Assembly) → assemble_of c text (length words) ≡ a →
    number_of r ≡ a.number → line_of r ≡ a.line → count_of r ≡ length a.words → after ≡ sets words 0 a.words → Assembles c text words r after
unfolding assemble_call
made c text words r after a e x y z v =
    record {
      answer = rw (e, x, y, z, v);
      print_read = print_then_read;
      read_print = read_then_print;
      unread_none = unread_none;
      listed_back = listed_back;
      assembled_back = assembled_back;
      labels_mean = labels_mean;
      labels_resolved = labels_resolved;
    }

-- a refusal is handed on as it is
pub handed_on : (c : Config) (text words : List ℕ) (r : Result ℕ AssembleError) (e : AssembleError) → IsErrAnd r (λ x. x ≡ e) → Assembles c text words (Err e) words →
    Assembles c text words r words
handed_on c text words r e h a = rw (err_is r e h) a

-- an unlawful configuration has no writer
pub no_writer : (c : Config) (w : Option Writer) (x e : AssembleError) → IsNone w ↔ (test (lawful c) ≡ false) → Err x ≡ ok_or w e → (test (lawful c) ≡ false) × (x ≡ e)
no_writer c w x e i q = let m = missing w x e q in (i.0 (ap is_some m.0), m.1)

pub its_config : (c : Config) (w : Option Writer) (x : Writer) → IfSome w (λ y. y.config ≡ c) → w ≡ Some x → x.config ≡ c
its_config c w x h e = subst (λ (w : Option Writer). IfSome w (λ y. y.config ≡ c)) e h

-- 1, and then 36 and 24

numbers : (c : Config) (ls : List (List ℕ)) (room : ℕ) → test (lawful c) ≡ true → first_failing (source_refusals c ls room (repeats [] 1 ls)) ≡ gather_number ls room
unfolding source_refusals gather_number pick
numbers c ls room e = rw e

pub unlawful : (c : Config) (text words : List ℕ) → test (lawful c) ≡ false → Assembles c text words (Err Unlawful) words
unfolding assemble_of source_refusals pick
unlawful c text words h = made c text words (Err Unlawful) words (refused 1 0) (rw h) refl refl refl refl

module _ (c : Config) (text words : List ℕ) (lawfully : test (lawful c) ≡ true) (g : Result (Unit {0}) AssembleError) (t : Labels)
    (gathers : Gathers text (length words) g t) where
  number_is : first_failing (source_refusals c (lines_of text) (length words) (repeats [] 1 (lines_of text))) ≡ number_of g
  number_is = numbers c (lines_of text) (length words) lawfully ∙ sym gathers.number

  pub refused_early : (e : AssembleError) → g ≡ Err e → Assembles c text words (Err e) words
  unfolding assemble_of pick
  refused_early e z =
      let n : number_of g ≡ error_number e = ap number_of z in
      made c text words (Err e) words (refused (number_of g) (pick (eqb (number_of g) 24) (repeats [] 1 (lines_of text)) 0))
      (rw (number_is, ne_eqb (number_of g) 0 (λ q. never e (sym n ∙ q))))
      (sym n) (sym (ap line_of z) ∙ gathers.line) refl refl

  all_lines : g ≡ Ok tt → assemble_of c text (length words) ≡ words_of c text
  unfolding assemble_of pick
  all_lines z = rw (number_is ∙ ap number_of z)

  -- the first pass comes to a bad line
  pub refused_late : (p : Result ℕ AssembleError) (none after : List ℕ) (e : AssembleError) → g ≡ Ok tt → Passes c text none p after → p ≡ Err e →
      Assembles c text words (Err e) words
  refused_late p none after e z h y =
      let n : error_number e ≡ (words_of c text).number = sym (ap number_of y) ∙ h.number in
      made c text words (Err e) words (words_of c text) (all_lines z) n (sym (ap line_of y) ∙ h.line) (sym (ap count_of y) ∙ h.count)
      (sym (ap (sets words 0) (empty (words_of c text).words (words_none c (gathered [] 0 (lines_of text)) (lines_of text) 1 (λ q. never e (n ∙ q))))))
    where
      empty : (ws : List ℕ) → length ws ≡ 0 → ws ≡ []
      empty [] q = refl
      empty (w ∷ ws) q = absurd (omega arith)

  -- both passes come to the end
  pub finished : (p r : Result ℕ AssembleError) (none between after : List ℕ) (n : ℕ) → g ≡ Ok tt → Passes c text none p between → p ≡ Ok n → Passes c text words r after →
      Assembles c text words r after
  finished p r none between after n z h y k =
      made c text words r after (words_of c text) (all_lines z) k.number k.line k.count (k.written (k.number ∙ sym h.number ∙ ap number_of y))
