-- `machine::exec::exec` meets its contract. Assumes nothing.
use Prim.Native.Nat.{◌+◌, ◌%◌}
use native.Mathlib.Omega.{arith}
use mathlib.Core.Path.{refl, sym, ap, ◌∙◌}
use Rattle.laws.specs.Table.{excluded}
use Rattle.words.specs.Actions.{actions}
use Rattle.words.specs.Lookup.{action_at}
use Rattle.words.specs.declared.Operation.TheVariants.{Bst, Bld, Blds}
use Rattle.state.specs.Cores.{stopped}
use Rattle.machine.proofs.exec.Laws.{acting, beyond, branch_is, branch_register_is, bytes_source, call_is, call_register_is, comparing_immediate, comparing_source, computing_count, computing_immediate, computing_source, enter_bank_is, index_load_is, index_store_is, jump_is, jump_register_is, leave_bank_is, load_constant_is, load_direct_is, load_index_is, load_register_is, move_is, multiply_immediate, multiply_source, port_modify_is, port_read_is, port_write_immediate, port_write_source, ret_constant_is, ret_is, store_direct_is, store_register_is}
use Rattle.machine.proofs.exec.exec.Goals as goal

pub by_register-t-requires : goal.by_register-t-requires
by_register-t-requires c = c.requires.5

pub by_value-t-requires : goal.by_value-t-requires
by_value-t-requires c = c.requires.5

pub by_register-t-requires-in-3 : goal.by_register-t-requires-in-3
by_register-t-requires-in-3 c = c.requires.5

pub by_value-t-requires-in-4 : goal.by_value-t-requires-in-4
by_value-t-requires-in-4 c = c.requires.5

pub by_register-t-requires-in-5 : goal.by_register-t-requires-in-5
by_register-t-requires-in-5 c = c.requires.5

pub by_value-t-requires-in-6 : goal.by_value-t-requires-in-6
by_value-t-requires-in-6 c = c.requires.5

pub by_register-t-requires-in-7 : goal.by_register-t-requires-in-7
by_register-t-requires-in-7 c = c.requires.5

pub by_value-t-requires-in-8 : goal.by_value-t-requires-in-8
by_value-t-requires-in-8 c = c.requires.5

pub by_register-t-requires-in-9 : goal.by_register-t-requires-in-9
by_register-t-requires-in-9 c = c.requires.5

pub by_value-t-requires-in-10 : goal.by_value-t-requires-in-10
by_value-t-requires-in-10 c = c.requires.5

pub by_register-t-requires-in-11 : goal.by_register-t-requires-in-11
by_register-t-requires-in-11 c = c.requires.5

pub by_value-t-requires-in-12 : goal.by_value-t-requires-in-12
by_value-t-requires-in-12 c = c.requires.5

pub by_register-t-requires-in-13 : goal.by_register-t-requires-in-13
by_register-t-requires-in-13 c = c.requires.5

pub by_value-t-requires-in-14 : goal.by_value-t-requires-in-14
by_value-t-requires-in-14 c = c.requires.5

pub by_register-t-requires-in-15 : goal.by_register-t-requires-in-15
by_register-t-requires-in-15 c = c.requires.5

pub by_value-t-requires-in-16 : goal.by_value-t-requires-in-16
by_value-t-requires-in-16 c = c.requires.5

pub by_register-t-requires-in-17 : goal.by_register-t-requires-in-17
by_register-t-requires-in-17 c = c.requires.5

pub by_value-t-requires-in-18 : goal.by_value-t-requires-in-18
by_value-t-requires-in-18 c = c.requires.5

pub by_register-t-requires-in-19 : goal.by_register-t-requires-in-19
by_register-t-requires-in-19 c = c.requires.5

pub by_value-t-requires-in-20 : goal.by_value-t-requires-in-20
by_value-t-requires-in-20 c = c.requires.5

pub by_register-t-requires-in-21 : goal.by_register-t-requires-in-21
by_register-t-requires-in-21 c = c.requires.5

pub by_value-t-requires-in-22 : goal.by_value-t-requires-in-22
by_value-t-requires-in-22 c = c.requires.5

pub by_register-t-requires-in-23 : goal.by_register-t-requires-in-23
by_register-t-requires-in-23 c = c.requires.5

pub by_value-t-requires-in-24 : goal.by_value-t-requires-in-24
by_value-t-requires-in-24 c = c.requires.5

pub by_register-t-requires-in-25 : goal.by_register-t-requires-in-25
by_register-t-requires-in-25 c = c.requires.5

pub by_register-t-requires-in-26 : goal.by_register-t-requires-in-26
by_register-t-requires-in-26 c = c.requires.5

pub by_register-t-requires-in-27 : goal.by_register-t-requires-in-27
by_register-t-requires-in-27 c = c.requires.5

pub by_value-t-requires-in-28 : goal.by_value-t-requires-in-28
by_value-t-requires-in-28 c = c.requires.5

pub by_value-t-requires-in-29 : goal.by_value-t-requires-in-29
by_value-t-requires-in-29 c = c.requires.5

pub by_value-t-requires-in-30 : goal.by_value-t-requires-in-30
by_value-t-requires-in-30 c = c.requires.5

pub by_register-t-requires-in-31 : goal.by_register-t-requires-in-31
by_register-t-requires-in-31 c = c.requires.5

pub by_register-t-requires-in-32 : goal.by_register-t-requires-in-32
by_register-t-requires-in-32 c = c.requires.5

pub by_register-t-requires-in-33 : goal.by_register-t-requires-in-33
by_register-t-requires-in-33 c = c.requires.5

pub by_register-t-requires-in-34 : goal.by_register-t-requires-in-34
by_register-t-requires-in-34 c = c.requires.5

pub by_register-t-requires-in-35 : goal.by_register-t-requires-in-35
by_register-t-requires-in-35 c = c.requires.5

pub by_register-t-requires-in-36 : goal.by_register-t-requires-in-36
by_register-t-requires-in-36 c = c.requires.5

pub by_register-t-requires-in-37 : goal.by_register-t-requires-in-37
by_register-t-requires-in-37 c = c.requires.5

pub by_register-t-requires-in-38 : goal.by_register-t-requires-in-38
by_register-t-requires-in-38 c = c.requires.5

pub upper-requires : goal.upper-requires
upper-requires c = c.requires.5

pub overflow_add-m : goal.overflow_add-m
overflow_add-m c = omega (arith, c.requires.0.small.wp, c.requires.0.small.rx)

pub cell-requires : goal.cell-requires
cell-requires c = c.requires.0.index

pub lower-requires : goal.lower-requires
lower-requires c = c.requires.5

pub overflow_add-m-in-41 : goal.overflow_add-m-in-41
overflow_add-m-in-41 c = omega (arith, c.requires.0.small.wp, c.requires.0.small.rx)

pub place-requires : goal.place-requires
place-requires c = c.requires.0.small.wp

pub lower-requires-in-42 : goal.lower-requires-in-42
lower-requires-in-42 c = c.requires.5

pub place-requires-in-43 : goal.place-requires-in-43
place-requires-in-43 c = c.requires.0.small.wp

pub place-requires-in-44 : goal.place-requires-in-44
place-requires-in-44 c = c.requires.0.small.wp

pub lower-requires-in-44 : goal.lower-requires-in-44
lower-requires-in-44 c = c.requires.5

pub place-requires-in-45 : goal.place-requires-in-45
place-requires-in-45 c = c.requires.0.small.wp

pub upper-requires-in-46 : goal.upper-requires-in-46
upper-requires-in-46 c = c.requires.5

pub lower-requires-in-46 : goal.lower-requires-in-46
lower-requires-in-46 c = c.requires.5

pub upper-requires-in-47 : goal.upper-requires-in-47
upper-requires-in-47 c = c.requires.5

pub place-requires-in-48 : goal.place-requires-in-48
place-requires-in-48 c = c.requires.0.small.wp

pub lower-requires-in-48 : goal.lower-requires-in-48
lower-requires-in-48 c = c.requires.5

pub place-requires-in-49 : goal.place-requires-in-49
place-requires-in-49 c = c.requires.0.small.wp

pub lower-requires-in-49 : goal.lower-requires-in-49
lower-requires-in-49 c = c.requires.5

pub upper-requires-in-50 : goal.upper-requires-in-50
upper-requires-in-50 c = c.requires.5

pub lower-requires-in-50 : goal.lower-requires-in-50
lower-requires-in-50 c = c.requires.5

pub upper-requires-in-51 : goal.upper-requires-in-51
upper-requires-in-51 c = c.requires.5

pub upper-requires-in-54 : goal.upper-requires-in-54
upper-requires-in-54 c = c.requires.5

pub upper-requires-in-55 : goal.upper-requires-in-55
upper-requires-in-55 c = c.requires.5

pub upper-requires-in-57 : goal.upper-requires-in-57
upper-requires-in-57 c = c.requires.5

pub place-requires-in-58 : goal.place-requires-in-58
place-requires-in-58 c = c.requires.0.small.wp

pub context_of-requires : goal.context_of-requires
context_of-requires c = c.requires.1

pub cell-requires-in-61 : goal.cell-requires-in-61
cell-requires-in-61 c = c.requires.0.bank

pub returns-in-0 : goal.returns-in-0
returns-in-0 c = record {
  apart = λ z. c.stopped.ensures ∙ ap (λ y. stopped c.args.m (256 + y % 256)) c.value.ensures;
  acts = λ e i p q n m. absurd (n (sym c.action.ensures ∙ c.in-0.is));
}

pub returns-in-1 : goal.returns-in-1
unfolding action_at actions
returns-in-1 c = acting _ _ _ 1 (sym c.action.ensures ∙ c.in-1.is) (λ z. omega (arith, z)) (λ e i p q n. comparing_source _ _ 1 e i (sym c.action.ensures ∙ c.in-1.is) p q n c.requires.0 refl refl refl c.flag.ensures refl refl _ refl tt tt tt c.by_register-t.ensures c.compare.ensures)

pub returns-in-2 : goal.returns-in-2
unfolding action_at actions
returns-in-2 c = acting _ _ _ 2 (sym c.action.ensures ∙ c.in-2.is) (λ z. omega (arith, z)) (λ e i p q n. comparing_immediate _ _ 2 e i (sym c.action.ensures ∙ c.in-2.is) p q n c.requires.0 refl refl refl c.flag-in-2.ensures refl refl _ refl tt tt c.by_value-t.ensures c.compare-in-2.ensures)

pub returns-in-3 : goal.returns-in-3
unfolding action_at actions
returns-in-3 c = acting _ _ _ 3 (sym c.action.ensures ∙ c.in-3.is) (λ z. omega (arith, z)) (λ e i p q n. computing_source _ _ 3 e i (sym c.action.ensures ∙ c.in-3.is) p q n c.requires.0 refl refl refl c.flag-in-3.ensures refl refl _ refl tt tt tt c.by_register-t-in-3.ensures c.compute.ensures)

pub returns-in-4 : goal.returns-in-4
unfolding action_at actions
returns-in-4 c = acting _ _ _ 4 (sym c.action.ensures ∙ c.in-4.is) (λ z. omega (arith, z)) (λ e i p q n. computing_immediate _ _ 4 e i (sym c.action.ensures ∙ c.in-4.is) p q n c.requires.0 refl refl refl c.flag-in-4.ensures refl refl _ refl tt tt c.by_value-t-in-4.ensures c.compute-in-4.ensures)

pub returns-in-5 : goal.returns-in-5
unfolding action_at actions
returns-in-5 c = acting _ _ _ 5 (sym c.action.ensures ∙ c.in-5.is) (λ z. omega (arith, z)) (λ e i p q n. computing_source _ _ 5 e i (sym c.action.ensures ∙ c.in-5.is) p q n c.requires.0 refl refl refl c.flag-in-5.ensures refl refl _ refl tt tt tt c.by_register-t-in-5.ensures c.compute-in-5.ensures)

pub returns-in-6 : goal.returns-in-6
unfolding action_at actions
returns-in-6 c = acting _ _ _ 6 (sym c.action.ensures ∙ c.in-6.is) (λ z. omega (arith, z)) (λ e i p q n. computing_immediate _ _ 6 e i (sym c.action.ensures ∙ c.in-6.is) p q n c.requires.0 refl refl refl c.flag-in-6.ensures refl refl _ refl tt tt c.by_value-t-in-6.ensures c.compute-in-6.ensures)

pub returns-in-7 : goal.returns-in-7
unfolding action_at actions
returns-in-7 c = acting _ _ _ 7 (sym c.action.ensures ∙ c.in-7.is) (λ z. omega (arith, z)) (λ e i p q n. computing_source _ _ 7 e i (sym c.action.ensures ∙ c.in-7.is) p q n c.requires.0 refl refl refl c.flag-in-7.ensures refl refl _ refl tt tt tt c.by_register-t-in-7.ensures c.compute-in-7.ensures)

pub returns-in-8 : goal.returns-in-8
unfolding action_at actions
returns-in-8 c = acting _ _ _ 8 (sym c.action.ensures ∙ c.in-8.is) (λ z. omega (arith, z)) (λ e i p q n. computing_immediate _ _ 8 e i (sym c.action.ensures ∙ c.in-8.is) p q n c.requires.0 refl refl refl c.flag-in-8.ensures refl refl _ refl tt tt c.by_value-t-in-8.ensures c.compute-in-8.ensures)

pub returns-in-9 : goal.returns-in-9
unfolding action_at actions
returns-in-9 c = acting _ _ _ 9 (sym c.action.ensures ∙ c.in-9.is) (λ z. omega (arith, z)) (λ e i p q n. comparing_source _ _ 9 e i (sym c.action.ensures ∙ c.in-9.is) p q n c.requires.0 refl refl refl c.flag-in-9.ensures refl refl _ refl tt tt tt c.by_register-t-in-9.ensures c.compare-in-9.ensures)

pub returns-in-10 : goal.returns-in-10
unfolding action_at actions
returns-in-10 c = acting _ _ _ 10 (sym c.action.ensures ∙ c.in-10.is) (λ z. omega (arith, z)) (λ e i p q n. comparing_immediate _ _ 10 e i (sym c.action.ensures ∙ c.in-10.is) p q n c.requires.0 refl refl refl c.flag-in-10.ensures refl refl _ refl tt tt c.by_value-t-in-10.ensures c.compare-in-10.ensures)

pub returns-in-11 : goal.returns-in-11
unfolding action_at actions
returns-in-11 c = acting _ _ _ 11 (sym c.action.ensures ∙ c.in-11.is) (λ z. omega (arith, z)) (λ e i p q n. comparing_source _ _ 11 e i (sym c.action.ensures ∙ c.in-11.is) p q n c.requires.0 refl refl refl c.flag-in-11.ensures refl refl _ refl tt tt tt c.by_register-t-in-11.ensures c.compare-in-11.ensures)

pub returns-in-12 : goal.returns-in-12
unfolding action_at actions
returns-in-12 c = acting _ _ _ 12 (sym c.action.ensures ∙ c.in-12.is) (λ z. omega (arith, z)) (λ e i p q n. comparing_immediate _ _ 12 e i (sym c.action.ensures ∙ c.in-12.is) p q n c.requires.0 refl refl refl c.flag-in-12.ensures refl refl _ refl tt tt c.by_value-t-in-12.ensures c.compare-in-12.ensures)

pub returns-in-13 : goal.returns-in-13
unfolding action_at actions
returns-in-13 c = acting _ _ _ 13 (sym c.action.ensures ∙ c.in-13.is) (λ z. omega (arith, z)) (λ e i p q n. computing_source _ _ 13 e i (sym c.action.ensures ∙ c.in-13.is) p q n c.requires.0 refl refl refl c.flag-in-13.ensures refl refl _ refl tt tt tt c.by_register-t-in-13.ensures c.compute-in-13.ensures)

pub returns-in-14 : goal.returns-in-14
unfolding action_at actions
returns-in-14 c = acting _ _ _ 14 (sym c.action.ensures ∙ c.in-14.is) (λ z. omega (arith, z)) (λ e i p q n. computing_immediate _ _ 14 e i (sym c.action.ensures ∙ c.in-14.is) p q n c.requires.0 refl refl refl c.flag-in-14.ensures refl refl _ refl tt tt c.by_value-t-in-14.ensures c.compute-in-14.ensures)

pub returns-in-15 : goal.returns-in-15
unfolding action_at actions
returns-in-15 c = acting _ _ _ 15 (sym c.action.ensures ∙ c.in-15.is) (λ z. omega (arith, z)) (λ e i p q n. computing_source _ _ 15 e i (sym c.action.ensures ∙ c.in-15.is) p q n c.requires.0 refl refl refl c.flag-in-15.ensures refl refl _ refl tt tt tt c.by_register-t-in-15.ensures c.compute-in-15.ensures)

pub returns-in-16 : goal.returns-in-16
unfolding action_at actions
returns-in-16 c = acting _ _ _ 16 (sym c.action.ensures ∙ c.in-16.is) (λ z. omega (arith, z)) (λ e i p q n. computing_immediate _ _ 16 e i (sym c.action.ensures ∙ c.in-16.is) p q n c.requires.0 refl refl refl c.flag-in-16.ensures refl refl _ refl tt tt c.by_value-t-in-16.ensures c.compute-in-16.ensures)

pub returns-in-17 : goal.returns-in-17
unfolding action_at actions
returns-in-17 c = acting _ _ _ 17 (sym c.action.ensures ∙ c.in-17.is) (λ z. omega (arith, z)) (λ e i p q n. computing_source _ _ 17 e i (sym c.action.ensures ∙ c.in-17.is) p q n c.requires.0 refl refl refl c.flag-in-17.ensures refl refl _ refl tt tt tt c.by_register-t-in-17.ensures c.compute-in-17.ensures)

pub returns-in-18 : goal.returns-in-18
unfolding action_at actions
returns-in-18 c = acting _ _ _ 18 (sym c.action.ensures ∙ c.in-18.is) (λ z. omega (arith, z)) (λ e i p q n. computing_immediate _ _ 18 e i (sym c.action.ensures ∙ c.in-18.is) p q n c.requires.0 refl refl refl c.flag-in-18.ensures refl refl _ refl tt tt c.by_value-t-in-18.ensures c.compute-in-18.ensures)

pub returns-in-19 : goal.returns-in-19
unfolding action_at actions
returns-in-19 c = acting _ _ _ 19 (sym c.action.ensures ∙ c.in-19.is) (λ z. omega (arith, z)) (λ e i p q n. computing_source _ _ 19 e i (sym c.action.ensures ∙ c.in-19.is) p q n c.requires.0 refl refl refl c.flag-in-19.ensures refl refl _ refl tt tt tt c.by_register-t-in-19.ensures c.compute-in-19.ensures)

pub returns-in-20 : goal.returns-in-20
unfolding action_at actions
returns-in-20 c = acting _ _ _ 20 (sym c.action.ensures ∙ c.in-20.is) (λ z. omega (arith, z)) (λ e i p q n. computing_immediate _ _ 20 e i (sym c.action.ensures ∙ c.in-20.is) p q n c.requires.0 refl refl refl c.flag-in-20.ensures refl refl _ refl tt tt c.by_value-t-in-20.ensures c.compute-in-20.ensures)

pub returns-in-21 : goal.returns-in-21
unfolding action_at actions
returns-in-21 c = acting _ _ _ 21 (sym c.action.ensures ∙ c.in-21.is) (λ z. omega (arith, z)) (λ e i p q n. computing_source _ _ 21 e i (sym c.action.ensures ∙ c.in-21.is) p q n c.requires.0 refl refl refl c.flag-in-21.ensures refl refl _ refl tt tt tt c.by_register-t-in-21.ensures c.compute-in-21.ensures)

pub returns-in-22 : goal.returns-in-22
unfolding action_at actions
returns-in-22 c = acting _ _ _ 22 (sym c.action.ensures ∙ c.in-22.is) (λ z. omega (arith, z)) (λ e i p q n. computing_immediate _ _ 22 e i (sym c.action.ensures ∙ c.in-22.is) p q n c.requires.0 refl refl refl c.flag-in-22.ensures refl refl _ refl tt tt c.by_value-t-in-22.ensures c.compute-in-22.ensures)

pub returns-in-23 : goal.returns-in-23
unfolding action_at actions
returns-in-23 c = acting _ _ _ 23 (sym c.action.ensures ∙ c.in-23.is) (λ z. omega (arith, z)) (λ e i p q n. multiply_source _ _ 23 e i (sym c.action.ensures ∙ c.in-23.is) p q n c.requires.0 refl refl refl refl refl refl refl tt tt c.by_register-t-in-23.ensures c.multiply.ensures)

pub returns-in-24 : goal.returns-in-24
unfolding action_at actions
returns-in-24 c = acting _ _ _ 24 (sym c.action.ensures ∙ c.in-24.is) (λ z. omega (arith, z)) (λ e i p q n. multiply_immediate _ _ 24 e i (sym c.action.ensures ∙ c.in-24.is) p q n c.requires.0 refl refl refl refl refl refl refl tt c.by_value-t-in-24.ensures c.multiply-in-24.ensures)

pub returns-in-25 : goal.returns-in-25
unfolding action_at actions
returns-in-25 c = acting _ _ _ 25 (sym c.action.ensures ∙ c.in-25.is) (λ z. omega (arith, z)) (λ e i p q n. computing_source _ _ 25 e i (sym c.action.ensures ∙ c.in-25.is) p q n c.requires.0 refl refl refl c.flag-in-25.ensures refl refl _ refl tt tt tt c.by_register-t-in-25.ensures c.compute-in-25.ensures)

pub returns-in-26 : goal.returns-in-26
unfolding action_at actions
returns-in-26 c = acting _ _ _ 26 (sym c.action.ensures ∙ c.in-26.is) (λ z. omega (arith, z)) (λ e i p q n. computing_source _ _ 26 e i (sym c.action.ensures ∙ c.in-26.is) p q n c.requires.0 refl refl refl c.flag-in-26.ensures refl refl _ refl tt tt tt c.by_register-t-in-26.ensures c.compute-in-26.ensures)

pub returns-in-27 : goal.returns-in-27
unfolding action_at actions
returns-in-27 c = acting _ _ _ 27 (sym c.action.ensures ∙ c.in-27.is) (λ z. omega (arith, z)) (λ e i p q n. computing_source _ _ 27 e i (sym c.action.ensures ∙ c.in-27.is) p q n c.requires.0 refl refl refl c.flag-in-27.ensures refl refl _ refl tt tt tt c.by_register-t-in-27.ensures c.compute-in-27.ensures)

pub returns-in-28 : goal.returns-in-28
unfolding action_at actions
returns-in-28 c = acting _ _ _ 28 (sym c.action.ensures ∙ c.in-28.is) (λ z. omega (arith, z)) (λ e i p q n. computing_count _ _ 28 e i (sym c.action.ensures ∙ c.in-28.is) p q n c.requires.0 refl refl refl c.flag-in-28.ensures refl refl _ refl tt tt c.by_value-t-in-28.ensures c.compute-in-28.ensures)

pub returns-in-29 : goal.returns-in-29
unfolding action_at actions
returns-in-29 c = acting _ _ _ 29 (sym c.action.ensures ∙ c.in-29.is) (λ z. omega (arith, z)) (λ e i p q n. computing_count _ _ 29 e i (sym c.action.ensures ∙ c.in-29.is) p q n c.requires.0 refl refl refl c.flag-in-29.ensures refl refl _ refl tt tt c.by_value-t-in-29.ensures c.compute-in-29.ensures)

pub returns-in-30 : goal.returns-in-30
unfolding action_at actions
returns-in-30 c = acting _ _ _ 30 (sym c.action.ensures ∙ c.in-30.is) (λ z. omega (arith, z)) (λ e i p q n. computing_count _ _ 30 e i (sym c.action.ensures ∙ c.in-30.is) p q n c.requires.0 refl refl refl c.flag-in-30.ensures refl refl _ refl tt tt c.by_value-t-in-30.ensures c.compute-in-30.ensures)

pub returns-in-31 : goal.returns-in-31
unfolding action_at actions
returns-in-31 c = acting _ _ _ 31 (sym c.action.ensures ∙ c.in-31.is) (λ z. omega (arith, z)) (λ e i p q n. computing_source _ _ 31 e i (sym c.action.ensures ∙ c.in-31.is) p q n c.requires.0 refl refl refl c.flag-in-31.ensures refl refl _ refl tt tt tt c.by_register-t-in-31.ensures c.compute-in-31.ensures)

pub returns-in-32 : goal.returns-in-32
unfolding action_at actions
returns-in-32 c = acting _ _ _ 32 (sym c.action.ensures ∙ c.in-32.is) (λ z. omega (arith, z)) (λ e i p q n. computing_source _ _ 32 e i (sym c.action.ensures ∙ c.in-32.is) p q n c.requires.0 refl refl refl c.flag-in-32.ensures refl refl _ refl tt tt tt c.by_register-t-in-32.ensures c.compute-in-32.ensures)

pub returns-in-33 : goal.returns-in-33
unfolding action_at actions
returns-in-33 c = acting _ _ _ 33 (sym c.action.ensures ∙ c.in-33.is) (λ z. omega (arith, z)) (λ e i p q n. computing_source _ _ 33 e i (sym c.action.ensures ∙ c.in-33.is) p q n c.requires.0 refl refl refl c.flag-in-33.ensures refl refl _ refl tt tt tt c.by_register-t-in-33.ensures c.compute-in-33.ensures)

pub returns-in-34 : goal.returns-in-34
unfolding action_at actions
returns-in-34 c = acting _ _ _ 34 (sym c.action.ensures ∙ c.in-34.is) (λ z. omega (arith, z)) (λ e i p q n. computing_source _ _ 34 e i (sym c.action.ensures ∙ c.in-34.is) p q n c.requires.0 refl refl refl c.flag-in-34.ensures refl refl _ refl tt tt tt c.by_register-t-in-34.ensures c.compute-in-34.ensures)

pub returns-in-35 : goal.returns-in-35
unfolding action_at actions
returns-in-35 c = acting _ _ _ 35 (sym c.action.ensures ∙ c.in-35.is) (λ z. omega (arith, z)) (λ e i p q n. computing_source _ _ 35 e i (sym c.action.ensures ∙ c.in-35.is) p q n c.requires.0 refl refl refl c.flag-in-35.ensures refl refl _ refl tt tt tt c.by_register-t-in-35.ensures c.compute-in-35.ensures)

pub returns-in-36 : goal.returns-in-36
unfolding action_at actions
returns-in-36 c = acting _ _ _ 36 (sym c.action.ensures ∙ c.in-36.is) (λ z. omega (arith, z)) (λ e i p q n. bytes_source _ _ 36 e i (sym c.action.ensures ∙ c.in-36.is) p q n c.requires.0 refl refl refl c.flag-in-36.ensures c.value-in-36.ensures refl Bst refl tt tt tt c.by_register-t-in-36.ensures c.compute-in-36.ensures)

pub returns-in-37 : goal.returns-in-37
unfolding action_at actions
returns-in-37 c = acting _ _ _ 37 (sym c.action.ensures ∙ c.in-37.is) (λ z. omega (arith, z)) (λ e i p q n. bytes_source _ _ 37 e i (sym c.action.ensures ∙ c.in-37.is) p q n c.requires.0 refl refl refl c.flag-in-37.ensures c.value-in-37.ensures refl Bld refl tt tt tt c.by_register-t-in-37.ensures c.compute-in-37.ensures)

pub returns-in-38 : goal.returns-in-38
unfolding action_at actions
returns-in-38 c = acting _ _ _ 38 (sym c.action.ensures ∙ c.in-38.is) (λ z. omega (arith, z)) (λ e i p q n. bytes_source _ _ 38 e i (sym c.action.ensures ∙ c.in-38.is) p q n c.requires.0 refl refl refl c.flag-in-38.ensures c.value-in-38.ensures refl Blds refl tt tt tt c.by_register-t-in-38.ensures c.compute-in-38.ensures)

pub returns-in-39 : goal.returns-in-39
unfolding action_at actions
returns-in-39 c = acting _ _ _ 39 (sym c.action.ensures ∙ c.in-39.is) (λ z. omega (arith, z)) (λ e i p q n. load_index_is _ _ 39 e i (sym c.action.ensures ∙ c.in-39.is) p q n c.requires.0 refl refl refl c.flag-in-39.ensures refl refl refl tt tt tt c.source.ensures.0 c.destination.ensures.0 c.load_index.ensures)

pub returns-in-40 : goal.returns-in-40
unfolding action_at actions
returns-in-40 c = acting _ _ _ 40 (sym c.action.ensures ∙ c.in-40.is) (λ z. omega (arith, z)) (λ e i p q n. index_store_is _ _ 40 e i (sym c.action.ensures ∙ c.in-40.is) p q n c.requires.0 refl c.upper.ensures refl c.flag-in-40.ensures refl refl refl tt tt c.cell.ensures c.index_store.ensures)

pub returns-in-41 : goal.returns-in-41
unfolding action_at actions
returns-in-41 c = acting _ _ _ 41 (sym c.action.ensures ∙ c.in-41.is) (λ z. omega (arith, z)) (λ e i p q n. index_load_is _ _ 41 e i (sym c.action.ensures ∙ c.in-41.is) p q n c.requires.0 refl refl c.lower.ensures c.flag-in-41.ensures refl refl refl tt tt c.requires.2 c.index_load.ensures)

pub returns-in-42 : goal.returns-in-42
unfolding action_at actions
returns-in-42 c = acting _ _ _ 42 (sym c.action.ensures ∙ c.in-42.is) (λ z. omega (arith, z)) (λ e i p q n. move_is _ _ 42 e i (sym c.action.ensures ∙ c.in-42.is) p q n c.requires.0 c.place.ensures refl c.lower-in-42.ensures refl refl refl refl tt tt c.assign.ensures)

pub returns-in-43 : goal.returns-in-43
unfolding action_at actions
returns-in-43 c = acting _ _ _ 43 (sym c.action.ensures ∙ c.in-43.is) (λ z. omega (arith, z)) (λ e i p q n. load_constant_is _ _ 43 e i (sym c.action.ensures ∙ c.in-43.is) p q n c.requires.0 c.place-in-43.ensures refl refl refl c.value-in-43.ensures refl refl tt c.assign-in-43.ensures)

pub returns-in-44 : goal.returns-in-44
unfolding action_at actions
returns-in-44 c = acting _ _ _ 44 (sym c.action.ensures ∙ c.in-44.is) (λ z. omega (arith, z)) (λ e i p q n. load_register_is _ _ 44 e i (sym c.action.ensures ∙ c.in-44.is) p q n c.requires.0 c.place-in-44.ensures refl c.lower-in-44.ensures refl refl refl refl tt tt c.requires.2 c.load_register.ensures)

pub returns-in-45 : goal.returns-in-45
unfolding action_at actions
returns-in-45 c = acting _ _ _ 45 (sym c.action.ensures ∙ c.in-45.is) (λ z. omega (arith, z)) (λ e i p q n. load_direct_is _ _ 45 e i (sym c.action.ensures ∙ c.in-45.is) p q n c.requires.0 c.place-in-45.ensures refl refl refl c.value-in-45.ensures refl refl tt c.value_at.ensures c.assign-in-45.ensures)

pub returns-in-46 : goal.returns-in-46
unfolding action_at actions
returns-in-46 c = acting _ _ _ 46 (sym c.action.ensures ∙ c.in-46.is) (λ z. omega (arith, z)) (λ e i p q n. store_register_is _ _ 46 e i (sym c.action.ensures ∙ c.in-46.is) p q n c.requires.0 refl c.upper-in-46.ensures c.lower-in-46.ensures refl refl refl refl tt tt c.store_register.ensures)

pub returns-in-47 : goal.returns-in-47
unfolding action_at actions
returns-in-47 c = acting _ _ _ 47 (sym c.action.ensures ∙ c.in-47.is) (λ z. omega (arith, z)) (λ e i p q n. store_direct_is _ _ 47 e i (sym c.action.ensures ∙ c.in-47.is) p q n c.requires.0 refl c.upper-in-47.ensures refl refl c.value-in-47.ensures refl refl tt c.store_direct.ensures)

pub returns-in-48 : goal.returns-in-48
unfolding action_at actions
returns-in-48 c = acting _ _ _ 48 (sym c.action.ensures ∙ c.in-48.is) (λ z. omega (arith, z)) (λ e i p q n. port_read_is _ _ 48 e i (sym c.action.ensures ∙ c.in-48.is) p q n c.requires.0 c.place-in-48.ensures refl c.lower-in-48.ensures refl refl refl refl tt tt c.port_read.ensures)

pub returns-in-49 : goal.returns-in-49
unfolding action_at actions
returns-in-49 c = acting _ _ _ 49 (sym c.action.ensures ∙ c.in-49.is) (λ z. omega (arith, z)) (λ e i p q n. port_modify_is _ _ 49 e i (sym c.action.ensures ∙ c.in-49.is) p q n c.requires.0 c.place-in-49.ensures refl c.lower-in-49.ensures refl refl refl refl tt tt c.port_modify.ensures)

pub returns-in-50 : goal.returns-in-50
unfolding action_at actions
returns-in-50 c = acting _ _ _ 50 (sym c.action.ensures ∙ c.in-50.is) (λ z. omega (arith, z)) (λ e i p q n. port_write_source _ _ 50 e i (sym c.action.ensures ∙ c.in-50.is) p q n c.requires.0 refl c.upper-in-50.ensures c.lower-in-50.ensures refl refl refl refl tt tt c.port_write.ensures)

pub returns-in-51 : goal.returns-in-51
unfolding action_at actions
returns-in-51 c = acting _ _ _ 51 (sym c.action.ensures ∙ c.in-51.is) (λ z. omega (arith, z)) (λ e i p q n. port_write_immediate _ _ 51 e i (sym c.action.ensures ∙ c.in-51.is) p q n c.requires.0 refl c.upper-in-51.ensures refl refl c.value-in-51.ensures refl refl tt c.port_write-in-51.ensures)

pub returns-in-52 : goal.returns-in-52
unfolding action_at actions
returns-in-52 c = acting _ _ _ 52 (sym c.action.ensures ∙ c.in-52.is) (λ z. omega (arith, z)) (λ e i p q n. jump_is _ _ 52 e i (sym c.action.ensures ∙ c.in-52.is) p q n c.requires.0 refl refl refl refl c.value-in-52.ensures refl refl c.jump.ensures)

pub returns-in-53 : goal.returns-in-53
unfolding action_at actions
returns-in-53 c = acting _ _ _ 53 (sym c.action.ensures ∙ c.in-53.is) (λ z. omega (arith, z)) (λ e i p q n. branch_is _ _ 53 e i (sym c.action.ensures ∙ c.in-53.is) p q n c.requires.0 refl refl refl refl c.value-in-53.ensures c.taken.ensures refl c.branch-m.ensures)

pub returns-in-54 : goal.returns-in-54
unfolding action_at actions
returns-in-54 c = acting _ _ _ 54 (sym c.action.ensures ∙ c.in-54.is) (λ z. omega (arith, z)) (λ e i p q n. jump_register_is _ _ 54 e i (sym c.action.ensures ∙ c.in-54.is) p q n c.requires.0 refl c.upper-in-54.ensures refl refl refl refl refl tt c.jump-in-54.ensures)

pub returns-in-55 : goal.returns-in-55
unfolding action_at actions
returns-in-55 c = acting _ _ _ 55 (sym c.action.ensures ∙ c.in-55.is) (λ z. omega (arith, z)) (λ e i p q n. branch_register_is _ _ 55 e i (sym c.action.ensures ∙ c.in-55.is) p q n c.requires.0 refl c.upper-in-55.ensures refl refl refl c.taken-in-55.ensures refl tt c.branch-m-in-55.ensures)

pub returns-in-56 : goal.returns-in-56
unfolding action_at actions
returns-in-56 c = acting _ _ _ 56 (sym c.action.ensures ∙ c.in-56.is) (λ z. omega (arith, z)) (λ e i p q n. call_is _ _ 56 e i (sym c.action.ensures ∙ c.in-56.is) p q n c.requires.0 refl refl refl refl c.value-in-56.ensures refl refl c.requires.3 c.call.ensures)

pub returns-in-57 : goal.returns-in-57
unfolding action_at actions
returns-in-57 c = acting _ _ _ 57 (sym c.action.ensures ∙ c.in-57.is) (λ z. omega (arith, z)) (λ e i p q n. call_register_is _ _ 57 e i (sym c.action.ensures ∙ c.in-57.is) p q n c.requires.0 refl c.upper-in-57.ensures refl refl refl refl refl tt c.requires.3 c.call-in-57.ensures)

pub returns-in-58 : goal.returns-in-58
unfolding action_at actions
returns-in-58 c = acting _ _ _ 58 (sym c.action.ensures ∙ c.in-58.is) (λ z. omega (arith, z)) (λ e i p q n. ret_constant_is _ _ 58 e i (sym c.action.ensures ∙ c.in-58.is) p q n c.requires.0 c.place-in-58.ensures refl refl refl c.value-in-58.ensures refl refl tt c.ret_constant.ensures)

pub returns-in-59 : goal.returns-in-59
unfolding action_at actions
returns-in-59 c = acting _ _ _ 59 (sym c.action.ensures ∙ c.in-59.is) (λ z. omega (arith, z)) (λ e i p q n. enter_bank_is _ _ 59 e i (sym c.action.ensures ∙ c.in-59.is) p q n c.requires.0 refl refl refl refl refl refl refl c.context_of.ensures (rw (c.value-in-59-2.ensures, c.value-in-59.ensures) at c.enter_bank.ensures))

pub returns-in-60 : goal.returns-in-60
unfolding action_at actions
returns-in-60 c = acting _ _ _ 60 (sym c.action.ensures ∙ c.in-60.is) (λ z. omega (arith, z)) (λ e i p q n. ret_is _ _ 60 e i (sym c.action.ensures ∙ c.in-60.is) p q n c.requires.0 refl refl refl refl refl refl refl c.ret.ensures)

pub returns-in-61 : goal.returns-in-61
unfolding action_at actions
returns-in-61 c = acting _ _ _ 61 (sym c.action.ensures ∙ c.in-61.is) (λ z. omega (arith, z)) (λ e i p q n. leave_bank_is _ _ 61 e i (sym c.action.ensures ∙ c.in-61.is) p q n c.requires.0 refl refl refl refl refl refl refl c.cell-in-61.ensures c.leave_bank.ensures)

pub returns-in-62 : goal.returns-in-62
returns-in-62 c = beyond _ _ _ (omega (arith, (sym c.action.ensures ∙ c.in-62.is)))

pub returns-in_default : goal.returns-in_default
returns-in_default c = beyond _ _ _ (rw (sym c.action.ensures) (omega (arith, excluded _ 63 c.in_default.in_default-own.rest)))
