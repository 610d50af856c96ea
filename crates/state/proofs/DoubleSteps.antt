-- Two steps in a row that add or subtract two words leave their two-word sum or difference, and N: each step is its operation on words, and arith says what
-- the two come to.
-- Assumes nothing.
use Prim.Native.Nat.{ℕ, ◌%◌, ◌^◌, ◌<◌}
use mathlib.Core.Path.{◌≡◌, refl, sym, ap, subst, ◌∙◌}
use native.Mathlib.Nat.{mod-eq_of_lt}
use native.Mathlib.Omega.{arith}
use lib.Dec.{eqb}
use lib.ListN.{length, set}
use lib.Seq.{get_or-set_same, get_or-set_other}
use Rattle.laws.specs.Choice.{pick}
use Rattle.laws.specs.Test.{Holds}
use Rattle.words.specs.declared.Instruction.{Instruction}
use Rattle.words.specs.declared.Operation.{Operation}
use Rattle.words.specs.Kinds.{Operand, from_register, literal, short_literal, counted}
use Rattle.words.specs.Kinds.{compute}
use Rattle.words.specs.Rows.{row_at}
use Rattle.arith.specs.Width.{bits}
use Rattle.arith.specs.Alu.{alu_of}
use Rattle.arith.specs.DoubleSums.{DoubleWord, AreWords, Direction, adding, subtracting, on_low, on_high, low_word, high_word}
use Rattle.arith.proofs.Fits.{immediate_answer_fits}
use Rattle.arith.proofs.DoubleSums.{double_sums}
use Rattle.state.specs.State.{Env, State}
use Rattle.state.specs.Operands.{view_of, cell, register, operand}
use Rattle.state.specs.Plans.{X, result, compute_plan, plan_of}
use Rattle.state.specs.Stops.{parts_at, kind_at}
use Rattle.state.specs.Step.{put_of, applied, plan_at}
use Rattle.state.specs.Good.{Good}
use Rattle.state.specs.ComesBack.{CarriesOut, after_step}
use Rattle.state.specs.DoubleSteps.{destinations, operands, Totals, InARow, DoubleSteps}
use Rattle.state.proofs.Ranges.{top_byte}
use Rattle.state.proofs.Stops.{tells, counts, a_count, told, told_value}
use Rattle.state.proofs.Plans.{register_word}
use Rattle.state.proofs.StaysValid.{lands}
use Rattle.state.proofs.Calls.{step_accepted, step_applies}

module _ (e : Env) where
  abbrev w : ℕ
  w = bits e.config.regwidth

  -- what an instruction that computes leaves: its result in %d, N where it updates flags
  record Computed (o : Operation) (x : Operand) (s u : State) : Type 0 where
    wp : u.core.wp ≡ s.core.wp
    there : cell (view_of e s) (parts_at e s).destination < length s.registers
    registers : u.registers ≡
        set s.registers (cell (view_of e s) (parts_at e s).destination) (result (view_of e s) (parts_at e s) o x).value
    n : (parts_at e s).flag ≡ 0 → u.core.n ≡ (result (view_of e s) (parts_at e s) o x).n

  plan_compute : (o : Operation) (x : Operand) (s : State) → kind_at e s ≡ compute o x → plan_at e s ≡ compute_plan (view_of e s) (parts_at e s) o x
  unfolding plan_at plan_of
  plan_compute o x s h = ap (plan_of (view_of e s) (parts_at e s)) h

  computed : (o : Operation) (x : Operand) (s : State) → CarriesOut e (compute o x) s → Computed o x s (after_step e s)
  unfolding applied compute_plan put_of pick
  computed o x s h =
      let d = step_applies e s h.done in
      let g = step_accepted e s h.done in
      let p = plan_compute o x s h.kind in
      let r = result (view_of e s) (parts_at e s) o x in
      let l : cell (view_of e s) (parts_at e s).destination < e.config.rmsize = rw p at (lands e s g d.passed).reg in
      rw (d.made, p)
      (record {
        wp = refl;
        there = rw g.registers l;
        registers = refl;
        n = λ z. ap (λ b. pick (eqb b 0) r.n s.core.n) z;
      })

  -- registers after it: %d, and any other
  module _ {o : Operation} {x : Operand} {s u : State} (h : Computed o x s u) where
    written : register (view_of e u) (parts_at e s).destination ≡ (result (view_of e s) (parts_at e s) o x).value
    written = rw (h.wp, h.registers) (get_or-set_same s.registers (cell (view_of e s) (parts_at e s).destination) _ 0 h.there)

    kept : (r : ℕ) → (r ≡ (parts_at e s).destination → ⊥) → register (view_of e u) r ≡ register (view_of e s) r
    kept r n =
        rw (h.wp, h.registers)
        (get_or-set_other s.registers (cell (view_of e s) (parts_at e s).destination) (cell (view_of e s) r) _ 0 (λ q. n (omega (arith, q))))

    kept_operand : (i : Instruction) (y : Operand) → (y ≡ from_register → i.source ≡ (parts_at e s).destination → ⊥) → X (view_of e u) i y ≡ X (view_of e s) i y
    unfolding operand
    kept_operand i from_register n = kept i.source (n refl)
    kept_operand i (literal f) n = refl
    kept_operand i short_literal n = refl
    kept_operand i counted n = refl

  -- the second operand is a word: of a shift count, since the row says so
  count_small : (o : Operation) (x : Operand) (s : State) → CarriesOut e (compute o x) s → x ≡ counted → (parts_at e s).value < 16
  unfolding tells counts
  count_small o x s h q =
      let r = row_at (parts_at e s).row in
      let t = told e s (step_applies e s h.done).passed in
      let k = subst (λ y. Holds (tells (compute o y) r)) q (subst (λ y. Holds (tells y r)) h.kind t.parts) in
      a_count e.config r.value (parts_at e s).value k.1 (told_value e s t)

  operand_word : (s : State) (i : Instruction) (x : Operand) → Good e s → (x ≡ counted → i.value < 16) → X (view_of e s) i x < 2 ^ w
  unfolding operand
  operand_word s i from_register g h = register_word e s g i.source
  operand_word s i (literal f) g h = immediate_answer_fits e.config.regwidth i.value f
  operand_word s i short_literal g h = omega (arith, top_byte e.config)
  operand_word s i counted g h = omega (arith, h refl, top_byte e.config)

  -- operands that are words already are not cut, and ADD and SUB take no notice of N
  of_words : (o : Operation) {d d' s s' n n' : ℕ} →
      d ≡ d' →
      d' < 2 ^ w →
      s ≡ s' →
      s' < 2 ^ w →
      n ≡ n' →
      alu_of w o (d % 2 ^ w) (s % 2 ^ w) n ≡ alu_of w o d' s' n'
  of_words o p a q b r = rw (p, q, r, mod-eq_of_lt a, mod-eq_of_lt b)

  any_flag : (o : Direction) (d s n : ℕ) → alu_of w (on_low o) d s n ≡ alu_of w (on_low o) d s 0
  unfolding alu_of
  any_flag adding d s n = refl
  any_flag subtracting d s n = refl

  module _ (o : Direction) (l h : Operand) (s : State) (k : InARow e o l h s) where
    abbrev t : State
    t = after_step e s

    abbrev x : DoubleWord
    x = destinations e s t s

    abbrev y : DoubleWord
    y = operands e s t l h s

    good : Good e s
    good = step_accepted e s k.low.done

    x_words : AreWords w x
    x_words = record { high_is_word = register_word e s good (parts_at e t).destination; low_is_word = register_word e s good (parts_at e s).destination }

    y_words : AreWords w y
    y_words =
        record {
          high_is_word = operand_word s (parts_at e t) h good (count_small (on_high o) h t k.high);
          low_is_word = operand_word s (parts_at e s) l good (count_small (on_low o) l s k.low);
        }

    first : Computed (on_low o) l s t
    first = computed (on_low o) l s k.low

    second : Computed (on_high o) h t (after_step e t)
    second = computed (on_high o) h t k.high

    -- each result is the operation on words
    low_is : result (view_of e s) (parts_at e s) (on_low o) l ≡ low_word w o x y 0
    low_is = of_words (on_low o) refl x_words.low_is_word refl y_words.low_is_word refl ∙ any_flag o x.low y.low _

    flag_is : t.core.n % 2 ≡ (low_word w o x y 0).n
    flag_is =
        mod-eq_of_lt (omega (arith, (step_accepted e t k.high.done).core.flags.negative)) ∙
        first.n k.apart.updates ∙
        ap (λ r. r.n) low_is

    high_is : result (view_of e t) (parts_at e t) (on_high o) h ≡ high_word w o x y 0
    high_is =
        of_words (on_high o) (kept first (parts_at e t).destination k.apart.writes) x_words.high_is_word
        (kept_operand first (parts_at e t) h k.apart.reads)
        y_words.high_is_word
        flag_is

    pub two_steps : Totals e s t o l h (after_step e t)
    two_steps =
        let g = double_sums w o x y 0 x_words y_words in
        let high = written second ∙ ap (λ r. r.value) high_is in
        let low =
        kept second (parts_at e s).destination (λ q. k.apart.writes (sym q)) ∙ written first ∙ ap (λ r. r.value) low_is in
        record {
          words = rw (high, low) g.words;
          sum = rw (high, low) g.sum;
          flag = λ z. second.n z ∙ ap (λ r. r.n) high_is ∙ g.flag;
        }

pub double_steps : DoubleSteps
double_steps = two_steps
