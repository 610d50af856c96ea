-- The context switches go as the tables have them: antt computes each state from the definitions. Assumes nothing.
use Prim.Native.Nat.{ℕ, zero, suc}
use mathlib.Core.Path.{◌≡◌, refl}
use mathlib.Core.Bool.{Bool, true, ◌&&◌}
use lib.Dec.{T, eqb, eqb→eq}
use Rattle.laws.specs.Choice.{pick}
use Rattle.laws.specs.Test.{and_left, and_right, eq→eqb}
use Rattle.words.specs.Configs.{lawful}
use Rattle.words.specs.Parts.{in_range, available}
use Rattle.words.specs.Kinds.{marks_of}
use Rattle.words.specs.Rows.{rows, row_at}
use Rattle.words.specs.Facts.{facts_for}
use Rattle.words.specs.Classes.{class_of, field_of, code_at, choices, row_in, row_of}
use Rattle.words.specs.Words.{flag_in, layout_of, upper_in, lower_in, value_in, fields_in, spread, fits, refusals567, parts_by, parts_of}
use Rattle.arith.specs.Width.{bits, one}
use Rattle.arith.specs.Sums.{add_of, difference, sub_of}
use Rattle.arith.specs.Immediates.{extend_of, immediate_of}
use Rattle.arith.specs.Alu.{alu_of}
use Rattle.state.specs.State.{Env, State, stack_limit}
use Rattle.state.specs.Ranges.{in_ranges, guards}
use Rattle.state.specs.Operands.{operand}
use Rattle.state.specs.Context.{context_of}
use Rattle.state.specs.Plans.{compare_plan, compute_plan, move_plan, load_constant_plan, jump_plan, enter_bank_plan, leave_bank_plan, plan_of}
use Rattle.state.specs.Stops.{stops9to15, stops}
use Rattle.state.specs.Step.{number, put_of, applied, plan_at, cycles_of, advance_of, step_of}
use Rattle.state.specs.ComesBack.{after_step, Reaches, here, onward}
use Rattle.starred.specs.Contexts.{later, at, nested, elsewhere, ContextCases}

-- k steps that are carried out, one after another
abbrev all_done : Env → ℕ → State → Bool
all_done e zero s = true
all_done e (suc k) s = eqb (step_of e s).number 0 && all_done e k (after_step e s)

along : (e : Env) (k : ℕ) (s : State) → T (all_done e k s) → Reaches e s (later e k s)
along e zero s h = here s
along e (suc k) s h =
    let b = eqb (step_of e s).number 0 in
    let r = all_done e k (after_step e s) in
    onward s (later e k (after_step e s)) (eqb→eq (step_of e s).number 0 (and_left b r h)) (along e k (after_step e s) (and_right b r h))

differ : (a b : ℕ) → (T (eqb a b) → ⊥) → a ≡ b → ⊥
differ a b f q = f (eq→eqb a b q)

pub context_cases : ContextCases
unfolding pick lawful in_range available marks_of facts_for rows row_at class_of field_of code_at choices row_in row_of flag_in layout_of upper_in lower_in value_in fields_in spread fits refusals567 parts_by parts_of bits one add_of difference sub_of extend_of immediate_of alu_of stack_limit in_ranges guards operand context_of compare_plan compute_plan move_plan load_constant_plan jump_plan enter_bank_plan leave_bank_plan plan_of stops9to15 stops number put_of applied plan_at cycles_of advance_of step_of
context_cases =
    record {
      nested_goes = refl;
      nested_outer = record { call = record { kind = refl; done = refl }; run = along nested 5 (at nested 3) tt; return = record { kind = refl; done = refl }; wp = refl; zero = refl };
      nested_inner = record { call = record { kind = refl; done = refl }; run = along nested 1 (at nested 5) tt; return = record { kind = refl; done = refl }; wp = refl; zero = refl };
      overwritten_goes = refl;
      overwritten_stray =
          record {
            calls = record { kind = refl; done = refl };
            returns = record { kind = refl; done = refl };
            unmet = λ h. differ 0x040a0002 0x00250002 (λ x. x) h.zero;
            lost = λ h. differ 16 0 (λ x. x) h.wp;
          };
      elsewhere_goes = refl;
      elsewhere_second = record { call = record { kind = refl; done = refl }; run = here (at elsewhere 2); return = record { kind = refl; done = refl }; wp = refl; zero = refl };
      elsewhere_stray =
          record {
            calls = record { kind = refl; done = refl };
            returns = record { kind = refl; done = refl };
            unmet = λ h. differ 32 16 (λ x. x) h.wp;
            lost = λ h. differ 5 1 (λ x. x) h.pc;
          };
    }
