-- The double-length sums are as the tables have them: antt computes each from the definitions. Assumes nothing.
use mathlib.Core.Path.{◌≡◌, refl, sym, subst, ◌∙◌}
use mathlib.Core.Bool.{Bool, true, false}
use borrow.Author.Tests.{eqb-false}
use lib.Dec.{T}
use Rattle.laws.specs.Choice.{pick}
use Rattle.words.specs.Configs.{lawful}
use Rattle.words.specs.Parts.{in_range, available}
use Rattle.words.specs.declared.Form.{Form}
use Rattle.words.specs.declared.Form.TheVariants.{Signed}
use Rattle.words.specs.Kinds.{Operand, from_register, literal, short_literal, counted}
use Rattle.words.specs.Kinds.{Kind, compute, marks_of}
use Rattle.words.specs.Rows.{rows, row_at}
use Rattle.words.specs.Facts.{facts_for}
use Rattle.words.specs.Classes.{class_of, field_of, code_at, choices, row_in, row_of}
use Rattle.words.specs.Words.{flag_in, layout_of, upper_in, lower_in, value_in, fields_in, spread, fits, refusals567, parts_by, parts_of}
use Rattle.arith.specs.Width.{bits, one}
use Rattle.arith.specs.Sums.{add_of, difference, sub_of}
use Rattle.arith.specs.Immediates.{extend_of, immediate_of}
use Rattle.arith.specs.Alu.{alu_of}
use Rattle.arith.specs.DoubleSums.{Direction, on_low, on_high}
use Rattle.state.specs.State.{Env, State, stack_limit}
use Rattle.state.specs.Ranges.{in_ranges, guards}
use Rattle.state.specs.Operands.{operand}
use Rattle.state.specs.Plans.{compute_plan, plan_of}
use Rattle.state.specs.Stops.{parts_at, kind_at, stops9to15, stops}
use Rattle.state.specs.Step.{number, put_of, applied, plan_at, cycles_of, advance_of, step_of}
use Rattle.state.specs.ComesBack.{CarriesOut, after_step}
use Rattle.state.specs.DoubleSteps.{InARow}
use Rattle.starred.specs.DoubleSums.{DoubleCases}

-- an immediate is no register
abbrev needs_none : Operand → Bool
needs_none from_register = false
needs_none (literal f) = true
needs_none short_literal = true
needs_none counted = true

no_register : (f : Form) → literal f ≡ from_register → ⊥
no_register f q = subst (λ x. T (needs_none x)) q tt

-- a step of this kind is carried out: both are computed
does : {e : Env} {k : Kind} {s : State} → kind_at e s ≡ k → (step_of e s).number ≡ 0 → CarriesOut e k s
does p q = record { kind = p; done = q }

-- the premise is met by %00 and %02 in the first, %01 and %03 in the second
by_registers : {e : Env} {o : Direction} {s : State} →
    CarriesOut e (compute (on_low o) from_register) s →
    CarriesOut e (compute (on_high o) from_register) (after_step e s) →
    (parts_at e s).flag ≡ 0 →
    (parts_at e s).destination ≡ 0 →
    (parts_at e (after_step e s)).destination ≡ 1 →
    (parts_at e (after_step e s)).source ≡ 3 →
    InARow e o from_register from_register s
by_registers p q f d c b =
    record {
      low = p;
      high = q;
      apart = record { updates = f; writes = λ r. eqb-false 1 0 refl (sym c ∙ r ∙ d); reads = λ _ r. eqb-false 3 0 refl (sym b ∙ r ∙ d) };
    }

pub double_cases : DoubleCases
unfolding pick lawful in_range available marks_of facts_for rows row_at class_of field_of code_at choices row_in row_of flag_in layout_of upper_in lower_in value_in fields_in spread fits refusals567 parts_by parts_of bits one add_of difference sub_of extend_of immediate_of alu_of stack_limit in_ranges guards operand compute_plan plan_of stops9to15 stops number put_of applied plan_at cycles_of advance_of step_of
double_cases =
    record {
      adds_8 = refl;
      adds_16 = refl;
      adds_32 = refl;
      subtracts_8 = refl;
      subtracts_16 = refl;
      subtracts_32 = refl;
      long_sum = refl;
      long_difference = refl;
      sum_8 = record { met = by_registers (does refl refl) (does refl refl) refl refl refl refl; left = refl };
      sum_16 = record { met = by_registers (does refl refl) (does refl refl) refl refl refl refl; left = refl };
      sum_32 = record { met = by_registers (does refl refl) (does refl refl) refl refl refl refl; left = refl };
      difference_8 = record { met = by_registers (does refl refl) (does refl refl) refl refl refl refl; left = refl };
      difference_16 = record { met = by_registers (does refl refl) (does refl refl) refl refl refl refl; left = refl };
      difference_32 = record { met = by_registers (does refl refl) (does refl refl) refl refl refl refl; left = refl };
      immediate =
          record {
            met = record {
              low = does refl refl;
              high = does refl refl;
              apart = record { updates = refl; writes = eqb-false 1 0 refl; reads = λ q. absurd (no_register Signed q) };
            };
            left = refl;
          };
      lost_flag = record { low = does refl refl; high = does refl refl; lost = λ h. eqb-false 0x00030002 0x00020002 refl h.sum };
      lost_register = record { low = does refl refl; high = does refl refl; lost = λ h. eqb-false 0x00030002 0x00020002 refl h.sum };
    }
