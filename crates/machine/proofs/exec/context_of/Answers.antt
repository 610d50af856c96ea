-- `machine::exec::context_of` meets its contract. Assumes nothing.
use native.Mathlib.Omega.{arith}
use Rattle.state.specs.Context.{context_of}
use Rattle.machine.proofs.exec.context_of.Goals as goal

pub overflow_cast-bank : goal.overflow_cast-bank
unfolding context_of
overflow_cast-bank c = omega arith

pub overflow_cast-n : goal.overflow_cast-n
unfolding context_of
overflow_cast-n c = omega arith

pub overflow_cast-z : goal.overflow_cast-z
unfolding context_of
overflow_cast-z c = omega arith

pub overflow_cast-imask : goal.overflow_cast-imask
unfolding context_of
overflow_cast-imask c = omega arith

pub overflow_add-back : goal.overflow_add-back
unfolding context_of
overflow_add-back c = omega arith

pub overflow_cast-back : goal.overflow_cast-back
unfolding context_of
overflow_cast-back c = omega arith

pub overflow_mul-result : goal.overflow_mul-result
unfolding context_of
overflow_mul-result c = omega arith

pub overflow_mul-result-2 : goal.overflow_mul-result-2
unfolding context_of
overflow_mul-result-2 c = omega arith

pub overflow_add-result : goal.overflow_add-result
unfolding context_of
overflow_add-result c = omega arith

pub overflow_mul-result-3 : goal.overflow_mul-result-3
unfolding context_of
overflow_mul-result-3 c = omega arith

pub overflow_add-result-2 : goal.overflow_add-result-2
unfolding context_of
overflow_add-result-2 c = omega arith

pub overflow_mul-result-4 : goal.overflow_mul-result-4
unfolding context_of
overflow_mul-result-4 c = omega arith

pub overflow_add-result-3 : goal.overflow_add-result-3
unfolding context_of
overflow_add-result-3 c = omega arith

pub overflow_add-result-4 : goal.overflow_add-result-4
unfolding context_of
overflow_add-result-4 c = omega arith

pub returns : goal.returns
unfolding context_of
returns c = omega arith
