-- What exec.rt does, by kind, is `act`: laws over variables.
-- Assumes nothing.
use Prim.Native.Nat.{ℕ, zero, suc, ◌+◌, ◌-◌, ◌*◌, ◌/◌, ◌%◌, ◌<◌, ◌≤◌}
use native.Mathlib.Omega.{arith}
use native.Mathlib.Nat.{mod-eq_of_lt, le_of_lt, add-zero}
use mathlib.Core.Path.{◌≡◌, refl, sym, ap, ◌∙◌}
use mathlib.Core.Bool.{Bool, true, false, not, ◌&&◌}
use lib.Dec.{eqb, ltb, leb}
use lib.ListN.{length, get_or}
use Rattle.laws.specs.Choice.{pick}
use Rattle.laws.specs.Test.{imp}
use Rattle.words.specs.declared.Instruction.{Instruction}
use Rattle.words.specs.declared.Form.{Form}
use Rattle.words.specs.declared.Operation.{Operation}
use Rattle.words.specs.Kinds.{Operand, from_register, literal, counted, Condition, Z, NZ, GT, LT, GE, LE, NIRQ, B0, B1, NB0, NB1, BIO}
use Rattle.words.specs.Kinds.{Kind, marks_of, compute, compare, multiply, bytewise, load_index, index_store, index_load, move, load_constant, load_register, load_direct, store_register, store_direct, port_read, port_modify, port_write, jump, branch, jump_register, branch_register, call, call_register, ret, ret_constant, enter_bank, leave_bank}
use Rattle.words.specs.Facts.{facts_for}
use Rattle.words.specs.Actions.{flag', destination', source'}
use Rattle.words.specs.Lookup.{action_kind, entry_kind, reads}
use Rattle.arith.specs.Width.{bits, one}
use Rattle.arith.specs.Alu.{Within}
use Rattle.arith.proofs.Fits.{immediate_answer_fits}
use Rattle.state.specs.declared.Change.{Change}
use Rattle.state.specs.State.{top, stack_limit}
use Rattle.state.specs.Cores.{posting, flagged, indexed, multiplied, deep, masked, banked, taking, logging, off as no_write, write, change, stopped, moved, to_register, to_memory, to_stack, to_log}
use Rattle.state.specs.Operands.{View, cell, register, data_address, constant, operand, condition_met}
use Rattle.state.specs.Context.{context_of, wp_in, n_in, z_in, mask_in, address_in}
use Rattle.state.specs.Plans.{product, advanced, with_top_bit, register_target, compare_plan, compute_plan, plan_of}
use Rattle.state.specs.Plans.{multiply_plan, load_index_plan, index_store_plan, index_load_plan, move_plan, load_constant_plan, load_register_plan, load_direct_plan, store_register_plan, store_direct_plan, port_read_plan, port_modify_plan, port_write_plan, jump_plan, branch_plan, jump_register_plan, branch_register_plan, call_plan, call_register_plan, ret_plan, ret_constant_plan, enter_bank_plan, leave_bank_plan}
use Rattle.state.specs.Stops.{stops9to15}
use Rattle.state.proofs.Ranges.{top_byte}
use Rattle.cells.specs.Cell.{action_in, flag_in, destination_in, source_in, value_in, taken_in, operand_value, value_of, answers_of, taken_of, first_apart, Carries}
use Rattle.plans.specs.declared.Operands.{Operands}
use Rattle.plans.specs.Values.{operands, up, went, onward, further, computed, compared, taken_at}
use Rattle.machine.specs.Exec.{act, Small, Fit, Valued, Acts}

-- a test whose other half holds
pub trim : (b : Bool) (x y : Change) → pick b x y ≡ pick (b && true) x y
trim true x y = refl
trim false x y = refl

-- a sum that is not too large is the sum
one_more : (x : ℕ) → x ≤ 0x800000 → up x ≡ x + 1
unfolding up
one_more x h = mod-eq_of_lt (omega (arith, h))

-- the bit by 2 N + Z is the condition's answer

answers : (k : Condition) →
    (taken_at (answers_of k) 0 0 ≡ condition_met k 0 0) ×
    (taken_at (answers_of k) 0 1 ≡ condition_met k 0 1) ×
    (taken_at (answers_of k) 1 0 ≡ condition_met k 1 0) ×
    (taken_at (answers_of k) 1 1 ≡ condition_met k 1 1)
unfolding taken_at condition_met one pick
answers Z = (refl, refl, refl, refl)
answers NZ = (refl, refl, refl, refl)
answers GT = (refl, refl, refl, refl)
answers LT = (refl, refl, refl, refl)
answers GE = (refl, refl, refl, refl)
answers LE = (refl, refl, refl, refl)
answers NIRQ = (refl, refl, refl, refl)
answers B0 = (refl, refl, refl, refl)
answers B1 = (refl, refl, refl, refl)
answers NB0 = (refl, refl, refl, refl)
answers NB1 = (refl, refl, refl, refl)
answers BIO = (refl, refl, refl, refl)

answer_at : (k : Condition) (n z : ℕ) → n ≤ 1 → z ≤ 1 → taken_at (answers_of k) n z ≡ condition_met k n z
answer_at k zero zero h l = (answers k).0
answer_at k zero (suc zero) h l = (answers k).1
answer_at k (suc zero) zero h l = (answers k).2
answer_at k (suc zero) (suc zero) h l = (answers k).3
answer_at k (suc (suc n)) z h l = let f : ⊥ = omega (arith, h) in absurd f
answer_at k zero (suc (suc z)) h l = let f : ⊥ = omega (arith, l) in absurd f
answer_at k (suc zero) (suc (suc z)) h l = let f : ⊥ = omega (arith, l) in absurd f

-- what is answered for an action that is not 0
pub acting : (v : View) (x : ℕ) (r : Change) (b : ℕ) → action_in x ≡ b → (b ≡ 0 → ⊥) →
    ((e : ℕ) (i : Instruction) → Carries v.config x e i → Valued e i → v.core.mode ≡ 0 → r ≡ act v i (entry_kind e)) → Acts v x r
acting v x r b key t f =
    record { apart = λ z. absurd (t (sym key ∙ z)); acts = λ e i p q n m. f e i p q m }

-- and for a number that no cell has
pub beyond : (v : View) (x : ℕ) (r : Change) → first_apart ≤ action_in x → Acts v x r
beyond v x r h =
    record {
      apart = λ z. let f : ⊥ = omega (arith, h, z) in absurd f;
      acts = λ e i p q n m. let f : ⊥ = omega (arith, h, p.action, p.carried_out) in absurd f;
    }

-- Action b of cell w: at and d are the cell and the value of the destination register, s is the value of the source register; fl, val and tk are what the
-- readers of bit 26, of the value and of a jump's answers give.
module _ (v : View) (w b e : ℕ) (i : Instruction) {at d s fl val tk : ℕ}
    (key : action_in w ≡ b) (p : Carries v.config w e i) (valued : Valued e i) (normal : v.core.mode ≡ 0) (fit : Fit v.config v.core v.registers)
    (at_read : at ≡ v.core.wp + destination_in w)
    (d-read : d ≡ get_or v.registers (v.core.wp + destination_in w) 0)
    (s_read : s ≡ get_or v.registers (v.core.wp + source_in w) 0)
    (flag-read : fl ≡ flag_in w) (value_read : val ≡ value_in w) (taken-read : tk ≡ taken_in w) where
  entry_is : e / 0x4000000 ≡ b
  entry_is = sym p.action ∙ key

  small : Small v.core
  small = fit.small

  pc_is : up v.core.pc ≡ v.core.pc + 1
  pc_is = one_more _ (le_of_lt small.pc)

  rx_is : up v.core.rx ≡ v.core.rx + 1
  rx_is = one_more _ (omega (arith, small.rx))

  back_is : up v.core.pc % 0x100000000 ≡ v.core.pc + 1
  back_is = ap (λ x. x % 0x100000000) pc_is ∙ mod-eq_of_lt (omega (arith, small.pc))

  kind_is : entry_kind e ≡ action_kind b e
  kind_is = ap (λ a. action_kind a e) entry_is

  at_is : reads destination' b → at ≡ cell v i.destination
  at_is t = at_read ∙ ap (λ y. v.core.wp + y) (p.destination (rw entry_is t))

  d_is : reads destination' b → d ≡ register v i.destination
  d_is t = d-read ∙ ap (λ y. get_or v.registers (v.core.wp + y) 0) (p.destination (rw entry_is t))

  s_is : reads source' b → s ≡ register v i.source
  s_is t = s_read ∙ ap (λ y. get_or v.registers (v.core.wp + y) 0) (p.source (rw entry_is t))

  flag_is : reads flag' b → fl ≡ i.flag
  flag_is t = flag-read ∙ p.flag (rw entry_is t)

  abbrev K : Kind
  K = action_kind b e

  value_is : {k : Kind} → K ≡ k → val ≡ value_of v.config i k
  value_is q = value_read ∙ (p.value ∙ ap (value_of v.config i) (kind_is ∙ q))

  taken_is : {k : Kind} → K ≡ k → tk ≡ taken_of k
  taken_is q = taken-read ∙ (p.taken ∙ ap taken_of (kind_is ∙ q))

  -- the operands are words

  d_word : d < top v.config
  d_word = rw d-read (fit.words (v.core.wp + destination_in w))

  s_word : s < top v.config
  s_word = rw s_read (fit.words (v.core.wp + source_in w))

  within : (y : ℕ) → y < top v.config → Within (bits v.config.regwidth) d y v.core.n
  within y h = record { left = d_word; right = h; flag = fit.negative }

  immediate_word : (f : Form) (n : ℕ) → constant v.config f n < top v.config
  immediate_word f n = immediate_answer_fits v.config.regwidth n f

  count_word : (n : ℕ) → n < 16 → n < top v.config
  count_word n h = omega (arith, h, top_byte v.config)

  -- the operand: a register, an immediate, a count

  source_is : reads source' b → s ≡ operand v.config from_register (register v i.source) i.value
  unfolding operand
  source_is t = s_is t

  -- from action b to the entry
  entered : {r : Change} → r ≡ act v i (action_kind b e) → r ≡ act v i (entry_kind e)
  entered q = q ∙ ap (λ a. act v i (action_kind a e)) (sym entry_is)

  computing_is : {r : Change} → (o : Operation) {x : ℕ} {y : Operand} → K ≡ compute o y → reads flag' b → reads destination' b →
      x ≡ operand v.config y (register v i.source) i.value →
      r ≡ computed v.config v.core (fl) o (operands at d x) → r ≡ act v i (entry_kind e)
  unfolding act stops9to15 plan_of compute_plan computed facts_for marks_of pick
  computing_is o k f t x-is q = entered (q ∙ rw (pc_is, k, flag_is f, at_is t, d_is t, x-is))

  -- a byte operation, of the byte number
  bytes_is : {r : Change} → (o : ℕ → Operation) {x : ℕ} {n : Operation} → K ≡ bytewise o → reads flag' b → reads destination' b → o i.number ≡ n →
      x ≡ operand v.config from_register (register v i.source) i.value →
      r ≡ computed v.config v.core (fl) n (operands at d x) → r ≡ act v i (entry_kind e)
  unfolding act stops9to15 plan_of compute_plan computed facts_for marks_of pick
  bytes_is o k f t op x-is q = entered (q ∙ rw (pc_is, k, flag_is f, ← op, at_is t, d_is t, x-is))

  comparing_is : {r : Change} → (o : Operation) {x : ℕ} {y : Operand} → K ≡ compare o y → reads flag' b → reads destination' b →
      x ≡ operand v.config y (register v i.source) i.value →
      r ≡ compared v.config v.core (fl) o (operands at d x) → r ≡ act v i (entry_kind e)
  unfolding act stops9to15 plan_of compare_plan compared facts_for marks_of pick
  comparing_is o k f t x-is q = entered (q ∙ rw (pc_is, k, flag_is f, d_is t, x-is))

  multiply_is : {r : Change} → {x : ℕ} {y : Operand} → K ≡ multiply y → reads destination' b → x ≡ operand v.config y (register v i.source) i.value →
      r ≡ to_register (multiplied (onward v.core) (product v.config d x).high) at (product v.config d x).value → r ≡ act v i (entry_kind e)
  unfolding act stops9to15 plan_of facts_for marks_of pick multiply_plan
  multiply_is k t x-is q = entered (q ∙ rw (pc_is, k, at_is t, d_is t, x-is))

  pub load_index_is : {r : Change} → {x y : ℕ} → K ≡ load_index → reads flag' b → reads destination' b → reads source' b → x ≡ source_in w → y ≡ destination_in w →
      r ≡ moved (flagged (indexed (onward v.core) 1 x y) (fl) (one (eqb x y)) 0) → r ≡ act v i (entry_kind e)
  unfolding act stops9to15 plan_of facts_for marks_of pick load_index_plan
  load_index_is k f t u x-is y-is q = entered (q ∙ rw (pc_is, k, flag_is f, x-is ∙ p.source (rw entry_is u), y-is ∙ p.destination (rw entry_is t)))

  pub index_store_is : {r : Change} → {x : ℕ} → K ≡ index_store → reads flag' b → reads destination' b → x ≡ get_or v.registers (v.core.wp + v.core.rx) 0 →
      r ≡ pick (not (eqb v.core.loaded 0)) (pick (ltb (data_address d) v.config.dmsize) (to_memory (flagged (further v.config (onward v.core)) (fl) (one (eqb v.core.rx v.core.ry)) 0) (data_address d) x) (stopped v.core 13)) (stopped v.core 27) → r ≡ act v i (entry_kind e)
  unfolding act stops9to15 plan_of facts_for marks_of pick index_store_plan further advanced
  index_store_is k f t x-is q = entered (q ∙ rw (pc_is, rx_is, k, flag_is f, d_is t, x-is))

  pub index_load_is : {r : Change} → {l : ℕ} → K ≡ index_load → reads flag' b → reads source' b → l ≡ v.config.dmsize →
      r ≡ pick (not (eqb v.core.loaded 0)) (pick (ltb (data_address s) l) (to_register (flagged (further v.config (onward v.core)) (fl) (one (eqb v.core.rx v.core.ry)) 0) (v.core.wp + v.core.rx) (get_or v.memory (data_address s) 0)) (stopped v.core 13)) (stopped v.core 27) → r ≡ act v i (entry_kind e)
  unfolding act stops9to15 plan_of facts_for marks_of pick index_load_plan further advanced
  index_load_is k f u l-is q =
      entered
      (q ∙
      rw (pc_is, rx_is, l-is, k, flag_is f, s_is u)
      (ap (λ y. pick (not (eqb v.core.loaded 0)) y (stopped v.core 27)) (trim (ltb (data_address (register v i.source)) v.config.dmsize) _ _)))

  pub move_is : {r : Change} → K ≡ move → reads destination' b → reads source' b → r ≡ to_register (onward v.core) at s → r ≡ act v i (entry_kind e)
  unfolding act stops9to15 plan_of facts_for marks_of pick move_plan
  move_is k t u q = entered (q ∙ rw (pc_is, k, at_is t, s_is u, normal))

  pub load_constant_is : {r : Change} {f : Form} → K ≡ load_constant f → reads destination' b → r ≡ to_register (onward v.core) at (val) → r ≡ act v i (entry_kind e)
  unfolding act stops9to15 plan_of facts_for marks_of pick load_constant_plan value_of
  load_constant_is k t q = entered (q ∙ rw (pc_is, value_is k, k, at_is t))

  pub load_register_is : {r : Change} → {l : ℕ} → K ≡ load_register → reads destination' b → reads source' b → l ≡ v.config.dmsize →
      r ≡ pick (ltb (data_address s) l) (to_register (onward v.core) at (get_or v.memory (data_address s) 0)) (stopped v.core 13) → r ≡ act v i (entry_kind e)
  unfolding act stops9to15 plan_of facts_for marks_of pick load_register_plan
  load_register_is k t u l-is q = entered (q ∙ rw (pc_is, l-is, k, at_is t, s_is u) (trim (ltb (data_address (register v i.source)) v.config.dmsize) _ _))

  pub load_direct_is : {r : Change} → {x : ℕ} → K ≡ load_direct → reads destination' b → x ≡ get_or v.memory (val) 0 → r ≡ to_register (onward v.core) at x → r ≡ act v i (entry_kind e)
  unfolding act stops9to15 plan_of facts_for marks_of pick load_direct_plan value_of
  load_direct_is k t x-is q = entered (q ∙ rw (pc_is, x-is, value_is k, k, at_is t))

  pub store_register_is : {r : Change} → K ≡ store_register → reads destination' b → reads source' b →
      r ≡ pick (ltb (data_address d) v.config.dmsize) (to_memory (onward v.core) (data_address d) s) (stopped v.core 13) → r ≡ act v i (entry_kind e)
  unfolding act stops9to15 plan_of facts_for marks_of pick store_register_plan
  store_register_is k t u q = entered (q ∙ rw (pc_is, k, d_is t, s_is u))

  pub store_direct_is : {r : Change} → K ≡ store_direct → reads destination' b → r ≡ to_memory (onward v.core) (val) d → r ≡ act v i (entry_kind e)
  unfolding act stops9to15 plan_of facts_for marks_of pick store_direct_plan value_of
  store_direct_is k t q = entered (q ∙ rw (pc_is, value_is k, k, d_is t))

  pub port_read_is : {r : Change} → K ≡ port_read → reads destination' b → reads source' b →
      r ≡ pick (imp (eqb v.core.posted 1) (eqb v.core.port s)) (pick (ltb v.core.taken (length v.inputs)) (to_register (taking (onward v.core)) at (get_or v.inputs v.core.taken 0 % top v.config)) (stopped v.core 14)) (stopped v.core 9) → r ≡ act v i (entry_kind e)
  unfolding act stops9to15 plan_of facts_for marks_of pick port_read_plan
  port_read_is k t u q = entered (q ∙ rw (pc_is, k, at_is t, s_is u))

  pub port_modify_is : {r : Change} → K ≡ port_modify → reads destination' b → reads source' b →
      r ≡ pick (imp (eqb v.core.posted 1) (eqb v.core.port s)) (pick (ltb v.core.taken (length v.inputs)) (pick (ltb v.core.logged v.room) (change (posting (logging (taking (onward v.core))) 1 s) (write at (get_or v.inputs v.core.taken 0 % top v.config)) no_write no_write (write v.core.logged s) (write v.core.logged (with_top_bit v.config (get_or v.inputs v.core.taken 0 % top v.config)))) (stopped v.core 15)) (stopped v.core 14)) (stopped v.core 9) → r ≡ act v i (entry_kind e)
  unfolding act stops9to15 plan_of facts_for marks_of pick port_modify_plan
  port_modify_is k t u q = entered (q ∙ rw (pc_is, k, at_is t, s_is u))

  port_write_is : {r : Change} → {x : ℕ} {y : Operand} → K ≡ port_write y → reads destination' b → x ≡ operand v.config y (register v i.source) i.value →
      r ≡ pick (ltb v.core.logged v.room) (to_log (posting (logging (onward v.core)) 1 d) v.core.logged d x) (stopped v.core 15) → r ≡ act v i (entry_kind e)
  unfolding act stops9to15 plan_of facts_for marks_of pick port_write_plan
  port_write_is k t x-is q = entered (q ∙ rw (pc_is, k, d_is t, x-is))

  pub jump_is : {r : Change} → K ≡ jump → r ≡ moved (went v.core (val)) → r ≡ act v i (entry_kind e)
  unfolding act stops9to15 plan_of facts_for marks_of pick jump_plan value_of
  jump_is k q = entered (q ∙ rw (value_is k, k))

  pub branch_is : {r : Change} {k : Condition} → K ≡ branch k → r ≡ moved (pick (taken_at (tk) v.core.n v.core.z) (went v.core (val)) (onward v.core)) → r ≡ act v i (entry_kind e)
  unfolding act stops9to15 plan_of facts_for marks_of pick branch_plan value_of taken_of
  branch_is {k = k} z q = entered (q ∙ rw (pc_is, value_is z, taken_is z, answer_at k _ _ fit.negative fit.zero, z))

  pub jump_register_is : {r : Change} → K ≡ jump_register → reads destination' b → r ≡ moved (went v.core (register_target d)) → r ≡ act v i (entry_kind e)
  unfolding act stops9to15 plan_of facts_for marks_of pick jump_register_plan
  jump_register_is k t q = entered (q ∙ rw (k, d_is t))

  pub branch_register_is : {r : Change} {k : Condition} → K ≡ branch_register k → reads destination' b → r ≡ moved (pick (taken_at (tk) v.core.n v.core.z) (went v.core (register_target d)) (onward v.core)) → r ≡ act v i (entry_kind e)
  unfolding act stops9to15 plan_of facts_for marks_of pick branch_register_plan taken_of
  branch_register_is {k = k} z t q = entered (q ∙ rw (pc_is, taken_is z, answer_at k _ _ fit.negative fit.zero, z, d_is t))

  pub call_is : {r : Change} → {l : ℕ} → K ≡ call → l ≡ stack_limit v.config.pcstack →
      r ≡ pick (ltb v.core.depth l) (to_stack (deep (went v.core (val)) (v.core.depth + 1)) v.core.depth (up v.core.pc % 0x100000000)) (stopped v.core 10) → r ≡ act v i (entry_kind e)
  unfolding act stops9to15 plan_of facts_for marks_of pick call_plan value_of
  call_is k l-is q = entered (q ∙ rw (back_is, value_is k, k, l-is))

  pub call_register_is : {r : Change} → {l : ℕ} → K ≡ call_register → reads destination' b → l ≡ stack_limit v.config.pcstack →
      r ≡ pick (ltb v.core.depth l) (to_stack (deep (went v.core (register_target d)) (v.core.depth + 1)) v.core.depth (up v.core.pc % 0x100000000)) (stopped v.core 10) → r ≡ act v i (entry_kind e)
  unfolding act stops9to15 plan_of facts_for marks_of pick call_register_plan
  call_register_is k t l-is q = entered (q ∙ rw (back_is, k, d_is t, l-is))

  pub ret_is : {r : Change} → K ≡ ret → r ≡ pick (ltb 0 v.core.depth) (to_stack (deep (went v.core (get_or v.stack (v.core.depth - 1) 0)) (v.core.depth - 1)) (v.core.depth - 1) 0) (stopped v.core 11) → r ≡ act v i (entry_kind e)
  unfolding act stops9to15 plan_of facts_for marks_of pick ret_plan
  ret_is k q = entered (q ∙ rw (k))

  pub ret_constant_is : {r : Change} → K ≡ ret_constant → reads destination' b →
      r ≡ pick (ltb 0 v.core.depth) (change (deep (went v.core (get_or v.stack (v.core.depth - 1) 0)) (v.core.depth - 1)) (write at (val)) no_write (write (v.core.depth - 1) 0) no_write no_write) (stopped v.core 11) → r ≡ act v i (entry_kind e)
  unfolding act stops9to15 plan_of facts_for marks_of pick ret_constant_plan value_of
  ret_constant_is k t q = entered (q ∙ rw (value_is k, k, at_is t))

  -- JSRWP's unit and address

  unit_is : K ≡ enter_bank → val / 65536 ≡ i.destination
  unfolding value_of
  unit_is k = let h = valued.address (kind_is ∙ k) in let q = value_is k in omega arith

  address_is : K ≡ enter_bank → val % 65536 ≡ i.value
  unfolding value_of
  address_is k = let h = valued.address (kind_is ∙ k) in let q = value_is k in omega arith

  pub enter_bank_is : {r : Change} → {x : ℕ} → K ≡ enter_bank → x ≡ context_of v.core →
      r ≡ pick (leb (16 * (val / 65536) + v.config.regsize) v.config.rmsize) (to_register (banked (went v.core (val % 65536)) (16 * (val / 65536))) (16 * (val / 65536)) x) (stopped v.core 12) → r ≡ act v i (entry_kind e)
  unfolding act stops9to15 plan_of facts_for marks_of pick enter_bank_plan
  enter_bank_is k x-is q = entered (q ∙ rw (x-is, unit_is k, address_is k, k) (trim (leb (16 * i.destination + v.config.regsize) v.config.rmsize) _ _))

  pub leave_bank_is : {r : Change} → {x : ℕ} → K ≡ leave_bank → x ≡ get_or v.registers v.core.wp 0 →
      r ≡ pick (leb (wp_in x + v.config.regsize) v.config.rmsize) (moved (masked (flagged (banked (went v.core (address_in x)) (wp_in x)) 0 (z_in x) (n_in x)) (mask_in x) v.core.saved v.core.mode)) (stopped v.core 12) → r ≡ act v i (entry_kind e)
  unfolding act stops9to15 plan_of facts_for marks_of pick leave_bank_plan
  leave_bank_is k x-is q = entered (q ∙ rw (k, x-is ∙ ap (λ y. get_or v.registers y 0) (sym (add-zero v.core.wp))))

  -- the same, with the operands y from where the action has them: what the arms cite, so that none writes the view out

  abbrev computes : Operation → Operands → Change
  computes o y = computed v.config v.core (fl) o y

  abbrev compares : Operation → Operands → Change
  compares o y = compared v.config v.core (fl) o y

  abbrev multiplies : Operands → Change
  multiplies y = to_register (multiplied (onward v.core) (product v.config y.d y.x).high) y.at (product v.config y.d y.x).value

  abbrev Words-in : Operands → Type 0
  Words-in y = Within (bits v.config.regwidth) y.d y.x v.core.n

  pub computing_source : {r : Change} {y : Operands} (o : Operation) → K ≡ compute o from_register → reads flag' b → reads destination' b → reads source' b →
      y ≡ operands at d s → (Words-in y → r ≡ computes o y) → r ≡ act v i (entry_kind e)
  computing_source o k f t u z q = computing_is o k f t (source_is u) (q (rw z (within s s_word)) ∙ ap (computes o) z)

  pub computing_immediate : {r : Change} {y : Operands} (o : Operation) {g : Form} → K ≡ compute o (literal g) → reads flag' b → reads destination' b →
      y ≡ operands at d (val) → (Words-in y → r ≡ computes o y) → r ≡ act v i (entry_kind e)
  unfolding value_of operand_value operand
  computing_immediate o {g = g} k f t z q =
      computing_is o k f t (value_is k) (q (rw z (within (val) (rw (value_is k) (immediate_word g i.value)))) ∙ ap (computes o) z)

  pub computing_count : {r : Change} {y : Operands} (o : Operation) → K ≡ compute o counted → reads flag' b → reads destination' b →
      y ≡ operands at d (val) → (Words-in y → r ≡ computes o y) → r ≡ act v i (entry_kind e)
  unfolding value_of operand_value operand
  computing_count o k f t z q =
      computing_is o k f t (value_is k)
      (q (rw z (within (val) (rw (value_is k) (count_word i.value (valued.count o (kind_is ∙ k)))))) ∙ ap (computes o) z)

  pub bytes_source : {r : Change} {y : Operands} (o : ℕ → Operation) → K ≡ bytewise o → reads flag' b → reads destination' b →
      reads source' b → y ≡ operands at d s → (Words-in y → r ≡ computes (o val) y) → r ≡ act v i (entry_kind e)
  unfolding value_of
  bytes_source o k f t u z q =
      bytes_is o k f t (ap o (sym (value_is k))) (source_is u) (q (rw z (within s s_word)) ∙ ap (computes (o val)) z)

  pub comparing_source : {r : Change} {y : Operands} (o : Operation) → K ≡ compare o from_register → reads flag' b → reads destination' b → reads source' b →
      y ≡ operands at d s → (Words-in y → r ≡ compares o y) → r ≡ act v i (entry_kind e)
  comparing_source o k f t u z q = comparing_is o k f t (source_is u) (q (rw z (within s s_word)) ∙ ap (compares o) z)

  pub comparing_immediate : {r : Change} {y : Operands} (o : Operation) {g : Form} → K ≡ compare o (literal g) → reads flag' b → reads destination' b →
      y ≡ operands at d (val) → (Words-in y → r ≡ compares o y) → r ≡ act v i (entry_kind e)
  unfolding value_of operand_value operand
  comparing_immediate o {g = g} k f t z q =
      comparing_is o k f t (value_is k) (q (rw z (within (val) (rw (value_is k) (immediate_word g i.value)))) ∙ ap (compares o) z)

  pub multiply_source : {r : Change} {y : Operands} → K ≡ multiply from_register → reads destination' b → reads source' b →
      y ≡ operands at d s → r ≡ multiplies y → r ≡ act v i (entry_kind e)
  multiply_source k t u z q = multiply_is k t (source_is u) (q ∙ ap multiplies z)

  pub multiply_immediate : {r : Change} {y : Operands} {g : Form} → K ≡ multiply (literal g) → reads destination' b →
      y ≡ operands at d (val) → r ≡ multiplies y → r ≡ act v i (entry_kind e)
  unfolding value_of operand_value operand
  multiply_immediate k t z q = multiply_is k t (value_is k) (q ∙ ap multiplies z)

  pub port_write_source : {r : Change} → K ≡ port_write from_register → reads destination' b → reads source' b →
      r ≡ pick (ltb v.core.logged v.room) (to_log (posting (logging (onward v.core)) 1 d) v.core.logged d s) (stopped v.core 15) → r ≡ act v i (entry_kind e)
  port_write_source k t u q = port_write_is k t (source_is u) q

  pub port_write_immediate : {r : Change} {g : Form} → K ≡ port_write (literal g) → reads destination' b →
      r ≡ pick (ltb v.core.logged v.room) (to_log (posting (logging (onward v.core)) 1 d) v.core.logged d (val)) (stopped v.core 15) → r ≡ act v i (entry_kind e)
  unfolding value_of operand_value operand
  port_write_immediate k t q = port_write_is k t (value_is k) q
