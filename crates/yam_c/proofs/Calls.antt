-- What the calls over a lower crate's call answer and leave, where that one's answer is known. Assumes nothing.
use mathlib.Core.Path.{◌≡◌, refl, sym, ap, ◌∙◌}
use mathlib.Core.Bool.{Bool, true, false}
use mathlib.Core.List.{List, [], ◌∷◌, ◌++◌}
use Prim.Native.Nat.{ℕ, zero, suc}
use native.Mathlib.Omega.{arith}
use borrow.Author.Tests.{eq-eqb, ne_eqb, eqb-false, ltb-false}
use lib.Dec.{eqb, ltb}
use lib.ListN.{length, set, take, drop}
use Rattle.laws.specs.Choice.{pick}
use Rattle.laws.specs.First.{first_failing}
use Rattle.laws.specs.Test.{Holds}
use Rattle.state.specs.declared.Core.{Core}
use Rattle.state.specs.State.{Env, State, state}
use Rattle.state.specs.Ranges.{guards, run_guards}
use Rattle.state.specs.Step.{Outcome, refused, advance_of, step_of}
use Rattle.state.specs.Run.{ended, after, run_of, run_call}
use Rattle.state.proofs.Ranges.{accepted}
use Rattle.state.proofs.Calls.{step_refused, run_refused}
use Rattle.machine.specs.Stepping.{End, end_of, machine_state}
use Rattle.machine.specs.Claims.{Steps, StepsLent, Runs, RunsLent}
use Rattle.certificate.specs.declared.Rule.{Rule}
use Rattle.certificate.specs.declared.Fault.{Fault}
use Rattle.certificate.specs.declared.Fault.TheVariants as fault
use Rattle.certificate.specs.Answers.{answer_of, rule_number}
use Rattle.text.specs.declared.errors.TextError.{TextError}
use Rattle.text.specs.declared.errors.ListError.{ListError}
use Rattle.text.specs.declared.listing.Listed.{Listed}
use Rattle.text.specs.Answers.{text_error_number, list_error_number, outcome_number, texted_of, listed_of}
use Rattle.text.specs.Texts.{Text}
use Rattle.text.specs.Lines.{Listing}
use Rattle.assembler.specs.Answers as Assembler
use Rattle.assembler.specs.Errors.{error_number, error_line, line_or_0}
use Rattle.assembler.specs.declared.errors.AssembleError.{AssembleError}
use Rattle.std.specs.Option.{unwrap_or}
use Rattle.std.specs.Prelude.{Option, Some, None, Result, Ok, Err}
use Rattle.image.specs.declared.Refusal as Image
use Rattle.words.specs.declared.Config.{Config}
use Rattle.image.specs.Answers.{refusal_number, number_of, load_answer}
use Rattle.image.specs.Loading.{load_of}
use Rattle.image.specs.Storing.{Store}
use Rattle.image.proofs.Answers.{numbered}
use Rattle.yam_c.specs.Flat.{stored, config_words, core_words, core_in, stack_in, shaped, machine_of, outside, updated}
use Rattle.yam_c.specs.Calls.{left, moved, moved_to, step_left, run_left, check_left, printed, text_left, list_left, assembled, assemble_left, filled, load_left, load_call, store_left}
use Rattle.yam_c.proofs.Machines.{stack_length, placed, machine_in}

pub step_done : (o p : Outcome) (machine machine' answers answers' : List ℕ) → o ≡ p →
    machine' ≡ updated (eqb o.number 0) o.state.core o.state.stack machine → answers' ≡ stored answers 0 (o.cycles ∷ []) →
    moved_to o.number machine' o.state answers' ≡ step_left p machine answers
unfolding step_left
step_done o p machine machine' answers answers' e k l = rw (k, l) (ap (λ q. step_left q machine answers) e)

pub run_done : (x y : End) (machine machine' answers answers' : List ℕ) → x ≡ y →
    machine' ≡ updated (ltb 0 x.steps) x.last.core x.last.stack machine → answers' ≡ stored answers 0 (x.steps ∷ x.cycles ∷ []) →
    moved_to x.number machine' x.last answers' ≡ run_left y machine answers
unfolding run_left
run_done x y machine machine' answers answers' e k l = rw (k, l) (ap (λ q. run_left q machine answers) e)

-- a run that did no step leaves the state

idle_steps : (budget : ℕ) (e : Env) (s : State) → (run_of budget e s).steps ≡ 0 → (run_of budget e s).last ≡ s
unfolding run_of pick
idle_steps zero e s h = refl
idle_steps (suc k) e s h = go (eqb (advance_of e s).number 0) h
  where
    go : (b : Bool) →
        (pick b (after s (advance_of e s).cycles (run_of k e (advance_of e s).state)) (ended (advance_of e s).number s)).steps ≡ 0 →
        (pick b (after s (advance_of e s).cycles (run_of k e (advance_of e s).state)) (ended (advance_of e s).number s)).last ≡ s
    go true z = let n : ⊥ = omega (arith, z) in absurd n
    go false z = refl

pub idle : (budget : ℕ) (e : Env) (s : State) (x : End) → x ≡ end_of (run_call budget e s) → ltb 0 x.steps ≡ false → x.last ≡ s
unfolding run_call pick
idle budget e s x q h = ap (λ (y : End). y.last) q ∙ go (eqb (first_failing (run_guards budget e s)) 0) none
  where
    none : (run_call budget e s).steps ≡ 0
    none = let z : x.steps ≡ 0 = omega (arith, ltb-false 0 x.steps h) in sym (ap (λ (y : End). y.steps) q) ∙ z

    go : (b : Bool) → (pick b (run_of budget e s) (ended (first_failing (run_guards budget e s)) s)).steps ≡ 0 →
        (pick b (run_of budget e s) (ended (first_failing (run_guards budget e s)) s)).last ≡ s
    go true z = idle_steps budget e s z
    go false z = refl

pub rested : (e : Env) (s : State) (o : Outcome) → Steps e s o → eqb o.number 0 ≡ false → o.state ≡ s
rested e s o h q =
    ap (λ (p : Outcome). p.state) h.answer ∙
    h.refused_stays e s (λ z. eqb-false o.number 0 q (ap (λ (p : Outcome). p.number) h.answer ∙ z))

-- what a number that is not 0 chooses
pub kept : (n : ℕ) (x g : List ℕ) → (n ≡ 0 → ⊥) → g ≡ pick (eqb n 0) x g
unfolding pick
kept n x g h = rw (ne_eqb n 0 h) refl

-- a machine that was stepped or run in its words

module _ (e : Env) (f registers memory addresses values : List ℕ) (shape : Holds (shaped f)) (core : Core) (q : core ≡ core_in f) (g machine' answers answers' : List ℕ) where
  pub step_placed : (o : Outcome) → StepsLent e (state core (stack_in f) registers memory addresses values) o → length o.state.stack ≡ 63 →
      g ≡ take 17 f ++ (o.state.stack ++ drop 63 (drop 17 f)) → machine' ≡ pick (eqb o.number 0) (set (stored g 0 (core_words o.state.core)) 80 o.state.core.loaded) g →
      answers' ≡ stored answers 0 (o.cycles ∷ []) →
      moved_to o.number machine' o.state answers' ≡ step_left (step_of e (machine_state (machine_of f) registers memory addresses values)) f answers
  step_placed o lent l parts k a =
      let s = state (core_in f) (stack_in f) registers memory addresses values in
      let h : Steps e s o = (rw q at lent).fits (stack_length f shape) in
      let still : eqb o.number 0 ≡ false → o.state.stack ≡ stack_in f = λ z. ap (λ (t : State). t.stack) (rested e s o h z) in
      rw (machine_in f shape)
      (step_done o (step_of e s) f machine' answers answers' h.answer
      (k ∙ placed f shape (eqb o.number 0) o.state.core o.state.stack g l parts still)
      a)

  pub run_placed : (budget : ℕ) (x : End) → RunsLent budget e (state core (stack_in f) registers memory addresses values) x → length x.last.stack ≡ 63 →
      g ≡ take 17 f ++ (x.last.stack ++ drop 63 (drop 17 f)) → machine' ≡ pick (ltb 0 x.steps) (set (stored g 0 (core_words x.last.core)) 80 x.last.core.loaded) g →
      answers' ≡ stored answers 0 (x.steps ∷ x.cycles ∷ []) →
      moved_to x.number machine' x.last answers' ≡
      run_left (end_of (run_call budget e (machine_state (machine_of f) registers memory addresses values))) f answers
  run_placed budget x lent l parts k a =
      let s = state (core_in f) (stack_in f) registers memory addresses values in
      let h : Runs budget e s x = (rw q at lent).fits (stack_length f shape) in
      let still : ltb 0 x.steps ≡ false → x.last.stack ≡ stack_in f = λ z. ap (λ (t : State). t.stack) (idle budget e s x h.answer z) in
      rw (machine_in f shape)
      (run_done x (end_of (run_call budget e s)) f machine' answers answers' h.answer
      (k ∙ placed f shape (ltb 0 x.steps) x.last.core x.last.stack g l parts still)
      a)

-- a list that is no machine: it is refused, and nothing is written

pub outside_refused : (e : Env) (registers memory addresses values : List ℕ) (n : ℕ) →
    n ≡ first_failing (guards e (machine_state outside registers memory addresses values)) → n ≡ 0 → ⊥
outside_refused e registers memory addresses values n p z =
    omega (arith, (accepted e (machine_state outside registers memory addresses values) (sym p ∙ z)).core.pc)

module _ (e : Env) (machine registers memory addresses values answers answers' : List ℕ) (n : ℕ) (out : machine_of machine ≡ outside)
    (p : n ≡ first_failing (guards e (machine_state outside registers memory addresses values))) where
  pub step_misshapen : answers' ≡ stored answers 0 (0 ∷ []) →
      moved n machine registers memory addresses values answers' ≡
      step_left (step_of e (machine_state (machine_of machine) registers memory addresses values)) machine answers
  unfolding updated pick
  step_misshapen a =
      let h = outside_refused e registers memory addresses values n p in
      rw out
      (step_done (refused n (machine_state outside registers memory addresses values)) _ machine machine answers answers'
      (step_refused e (machine_state outside registers memory addresses values) n p h)
      (rw (ne_eqb n 0 h))
      a)

  pub run_misshapen : (budget : ℕ) → answers' ≡ stored answers 0 (0 ∷ 0 ∷ []) →
      moved n machine registers memory addresses values answers' ≡
      run_left (end_of (run_call budget e (machine_state (machine_of machine) registers memory addresses values))) machine answers
  unfolding updated pick
  run_misshapen budget a =
      let h = outside_refused e registers memory addresses values n p in
      rw out
      (run_done (end_of (ended n (machine_state outside registers memory addresses values))) _ machine machine answers answers'
      (ap end_of (run_refused e (machine_state outside registers memory addresses values) budget n p h))
      refl
      a)

-- the check, by the cases of its answer
pub check_passed : (r : Result ℕ Fault) (l : ℕ) (answers answers' : List ℕ) → r ≡ Ok l → answers' ≡ stored answers 0 (l ∷ 0 ∷ []) →
    left 0 answers' ≡ check_left (answer_of r) answers
unfolding check_left answer_of pick
check_passed r l answers answers' e k = rw (e, k)

module _ (f : Fault) (answers answers' : List ℕ) where
  pub check_unlawful : f ≡ fault.Unlawful → answers' ≡ stored answers 0 (0 ∷ 0 ∷ []) → left 1 answers' ≡ check_left (answer_of (Err f)) answers
  unfolding check_left answer_of pick
  check_unlawful e k = rw (e, k)

  pub check_misfit : f ≡ fault.WrongLength → answers' ≡ stored answers 0 (0 ∷ 0 ∷ []) → left 2 answers' ≡ check_left (answer_of (Err f)) answers
  unfolding check_left answer_of pick
  check_misfit e k = rw (e, k)

  pub check_broken : (a : ℕ) (b : Rule) (n : ℕ) → f ≡ fault.Broken a b → n ≡ rule_number b → answers' ≡ stored answers 0 (a ∷ n ∷ []) →
      left 17 answers' ≡ check_left (answer_of (Err f)) answers
  unfolding check_left answer_of pick
  check_broken a b n e q k = rw (e, k, q)

-- a text, by the cases of its answer
module _ (r : Result ℕ TextError) (place : ℕ) (page : List ℕ) (t : Text) (e : texted_of r place page ≡ t) (answers answers' : List ℕ) where
  pub text_passed : (after : ℕ) → r ≡ Ok after → answers' ≡ stored answers 0 (after ∷ []) → printed 0 page answers' ≡ text_left t answers
  unfolding text_left
  text_passed after q k = rw k (ap (λ u. text_left u answers) (sym (ap (λ r. texted_of r place page) q) ∙ e))

  pub text_refused : (why : TextError) (n : ℕ) → r ≡ Err why → n ≡ text_error_number why → answers' ≡ stored answers 0 (place ∷ []) →
      printed n page answers' ≡ text_left t answers
  unfolding text_left
  text_refused why n q h k = rw (h, k) (ap (λ u. text_left u answers) (sym (ap (λ r. texted_of r place page) q) ∙ e))

-- a listing, by how it ended
module _ (r : Listed) (page : List ℕ) (l : Listing) (e : listed_of r page ≡ l) (answers answers' : List ℕ) where
  list_done : (n : ℕ) → n ≡ outcome_number r.outcome → answers' ≡ stored answers 0 (r.place ∷ r.next ∷ []) → printed n page answers' ≡ list_left l answers
  unfolding list_left
  list_done n h k = rw (h, k) (ap (λ q. list_left q answers) e)

  pub list_passed : {u : Unit {0}} → r.outcome ≡ Ok u → answers' ≡ stored answers 0 (r.place ∷ r.next ∷ []) → printed 0 page answers' ≡ list_left l answers
  list_passed q k = list_done 0 (sym (ap outcome_number q)) k

  pub list_refused : (why : ListError) (n : ℕ) → r.outcome ≡ Err why → n ≡ list_error_number why → answers' ≡ stored answers 0 (r.place ∷ r.next ∷ []) →
      printed n page answers' ≡ list_left l answers
  list_refused why n q h k = list_done n (h ∙ sym (ap outcome_number q)) k

assemble_done : (a b : Assembler.Answer) (answers answers' : List ℕ) → a ≡ b → answers' ≡ stored answers 0 (a.count ∷ a.line ∷ []) →
    assembled a.number a.words answers' ≡ assemble_left b answers
unfolding assemble_left
assemble_done a b answers answers' e k = rw k (ap (λ q. assemble_left q answers) e)

module _ (r : Result ℕ AssembleError) (words : List ℕ) (b : Assembler.Answer) (e : Assembler.assembled_of r words ≡ b) (answers answers' : List ℕ) where
  pub assemble_passed : (n : ℕ) → r ≡ Ok n → answers' ≡ stored answers 0 (n ∷ 0 ∷ []) → assembled 0 words answers' ≡ assemble_left b answers
  assemble_passed n q k = assemble_done (Assembler.assembled_of (Ok n) words) b answers answers' (sym (ap (λ r. Assembler.assembled_of r words) q) ∙ e) k

  pub assemble_refused : (x : AssembleError) (line : Option ℕ) (at number : ℕ) → r ≡ Err x → line ≡ error_line x → at ≡ unwrap_or line 0 → number ≡ error_number x →
      answers' ≡ stored answers 0 (0 ∷ at ∷ []) → assembled number words answers' ≡ assemble_left b answers
  assemble_refused x line at number q f g h k =
      rw h (assemble_done (Assembler.assembled_of (Err x) words) b answers answers' (sym (ap (λ r. Assembler.assembled_of r words) q) ∙ e)
      (k ∙ ap (λ (n : ℕ). stored answers 0 (0 ∷ n ∷ [])) (g ∙ ap (λ (o : Option ℕ). unwrap_or o 0) f ∙ or_0 (error_line x))))
    where
      or_0 : (o : Option ℕ) → unwrap_or o 0 ≡ line_or_0 o
      or_0 None = refl
      or_0 (Some n) = refl

module _ (file config image : List ℕ) where
  pub load_misfit : (length config ≡ 19 → ⊥) → filled 1 config image ≡ load_call file config image
  unfolding load_call pick
  load_misfit h = rw (ne_eqb (length config) 19 h)

  pub load_refused : (why : Image.Refusal) (n : ℕ) (image' : List ℕ) → load_answer (Err why) image' ≡ load_of file image → n ≡ refusal_number why →
      length config ≡ 19 → filled n config image' ≡ load_call file config image
  unfolding load_call load_left load_answer pick
  load_refused why n image' e q h = rw (eq-eqb (length config) 19 h, ← e, ne_eqb (refusal_number why) 0 (numbered why), q)

  pub load_passed : (c : Config) (image' config' : List ℕ) → load_answer (Ok c) image' ≡ load_of file image → length config ≡ 19 →
      config' ≡ stored config 0 (config_words c) → filled 0 config' image' ≡ load_call file config image
  unfolding load_call load_left load_answer pick
  load_passed c image' config' e h k = rw (eq-eqb (length config) 19 h, ← e, k)

module _ (r : Result (Unit {0}) Image.Refusal) (file : List ℕ) (s : Store) (e : ◌≡◌ {A = Store} (record { number = number_of r; file = file }) s) where
  pub store_passed : {u : Unit {0}} → r ≡ Ok u → left 0 file ≡ store_left s
  unfolding number_of
  store_passed q = rw q at (ap store_left e)

  pub store_refused : (why : Image.Refusal) (n : ℕ) → r ≡ Err why → n ≡ refusal_number why → left n file ≡ store_left s
  unfolding refusal_number number_of
  store_refused why n q h = rw h (rw q at (ap store_left e))
