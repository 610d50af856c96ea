-- The check answers the cases as it should: antt computes each of them from the definitions. Assumes nothing.
use Rattle.laws.specs.Choice.{pick}
use Rattle.words.specs.Configs.{lawful}
use Rattle.words.specs.Parts.{in_range, available}
use Rattle.words.specs.Kinds.{marks_of}
use Rattle.words.specs.Rows.{rows, row_at}
use Rattle.words.specs.Classes.{class_of, field_of, code_at, choices, row_in, row_of}
use Rattle.words.specs.Words.{flag_in, layout_of, upper_in, lower_in, value_in, fields_in, spread, fits, refusals567, answered, parts_by, read_by, read_lawful}
use Rattle.words.specs.Facts.{facts_for}
use Rattle.state.specs.State.{stack_limit}
use mathlib.Core.Path.{refl}
use Rattle.words.specs.Words.{parts_of}
use Rattle.arith.specs.Width.{bits, one}
use Rattle.state.specs.Ranges.{in_ranges, guards}
use Rattle.state.specs.Operands.{operand, condition_met, log2, special_register}
use Rattle.state.specs.Plans.{jump_plan, branch_plan, call_plan, ret_plan, enter_special_plan, leave_special_plan, move_plan, port_write_plan, plan_of}
use Rattle.state.specs.Stops.{stops9to15, stops}
use Rattle.state.specs.Step.{number, put_of, applied, plan_at, cycles_of, advance_of, step_of}
use Rattle.state.specs.Run.{run_of, run_call}
use Rattle.state.specs.Calls.{call_of}
use Rattle.rules.specs.Calls.{trace}
use Rattle.rules.specs.Successors.{successors}
use Rattle.rules.specs.Rules.{rules}
use Rattle.rules.specs.Check.{first_broken, check_of}
use Rattle.rules.specs.Cases.{CertificateCases, SuccessorCases, TargetCases, CallCases}

pub certificate_cases : CertificateCases
unfolding pick lawful in_range available marks_of facts_for rows row_at class_of field_of code_at choices row_in row_of flag_in layout_of upper_in lower_in value_in fields_in spread fits refusals567 answered parts_by read_by read_lawful stack_limit successors rules first_broken check_of
certificate_cases = tt

pub successor_cases : SuccessorCases
unfolding pick marks_of facts_for successors
successor_cases = refl

pub target_cases : TargetCases
unfolding pick rows row_at class_of field_of code_at choices row_in row_of flag_in layout_of upper_in lower_in value_in fields_in spread parts_by parts_of
target_cases = refl

pub call_cases : CallCases
unfolding pick lawful in_range available marks_of facts_for rows row_at class_of field_of code_at choices row_in row_of flag_in layout_of upper_in lower_in value_in fields_in spread fits refusals567 parts_by parts_of stack_limit in_ranges guards operand condition_met log2 special_register jump_plan branch_plan call_plan ret_plan enter_special_plan leave_special_plan move_plan port_write_plan plan_of stops9to15 stops number put_of applied plan_at cycles_of advance_of step_of run_of run_call call_of trace bits one
call_cases = refl
