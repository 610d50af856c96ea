-- The starred cases and the readings hold: antt computes each of them from the definitions. Assumes nothing.
use Rattle.laws.specs.Choice.{pick}
use Rattle.words.specs.Configs.{lawful}
use Rattle.words.specs.Parts.{in_range, available}
use Rattle.words.specs.Kinds.{marks_of}
use Rattle.words.specs.Rows.{rows, row_at}
use Rattle.words.specs.Facts.{facts_for}
use Rattle.words.specs.Classes.{class_of, field_of, code_at, choices, row_in, row_of}
use Rattle.words.specs.Words.{flag_in, layout_of, upper_in, lower_in, value_in, fields_in, spread, fits, refusals567, refusals, answered, parts_by, parts_of, read_of, gather, word_from, word_of, written, write_of}
use Rattle.arith.specs.Width.{bits, one}
use Rattle.arith.specs.Sums.{add_of, difference, sub_of, signed, subs_of}
use Rattle.arith.specs.Shifts.{shl_of, shr_of}
use Rattle.arith.specs.Unary.{abs_of, leading_zero_bits, clz_of}
use Rattle.arith.specs.Bytes.{extended, blds_of}
use Rattle.arith.specs.Multiply.{mul_of}
use Rattle.arith.specs.Alu.{alu_of}
use Rattle.state.specs.State.{stack_limit}
use Rattle.state.specs.Ranges.{in_ranges, guards}
use Rattle.state.specs.Operands.{operand}
use Rattle.state.specs.Context.{context_of}
use Rattle.state.specs.Plans.{advanced, compute_plan, multiply_plan, load_index_plan, index_store_plan, index_load_plan, load_register_plan, enter_bank_plan, plan_of}
use Rattle.state.specs.Stops.{stops9to15, stops}
use Rattle.state.specs.Step.{number, put_of, applied, plan_at, cycles_of, advance_of, step_of}
use Rattle.starred.specs.Cases.{StarredCases}
use Rattle.starred.specs.Readings.{RightReadings}

pub starred_cases : StarredCases
unfolding pick lawful in_range available marks_of facts_for rows row_at class_of field_of code_at choices row_in row_of flag_in layout_of upper_in lower_in value_in fields_in spread fits refusals567 refusals answered parts_by parts_of read_of bits one add_of difference sub_of signed subs_of shl_of shr_of abs_of leading_zero_bits clz_of mul_of alu_of stack_limit in_ranges guards operand compute_plan multiply_plan context_of enter_bank_plan plan_of stops9to15 stops number put_of applied plan_at cycles_of advance_of step_of
starred_cases = tt

pub right_readings : RightReadings
unfolding pick lawful in_range available marks_of facts_for rows row_at class_of field_of code_at choices row_in row_of flag_in layout_of upper_in lower_in value_in fields_in spread fits refusals567 refusals answered parts_by parts_of read_of gather word_from word_of written write_of bits one add_of difference abs_of extended blds_of alu_of stack_limit in_ranges guards operand compute_plan load_index_plan advanced index_store_plan index_load_plan load_register_plan plan_of stops9to15 stops number put_of applied plan_at cycles_of advance_of step_of
right_readings = tt
