-- What an instruction changes is sound, shown for each plan under what the step's stops tell.
-- Assumes nothing.
use Prim.Native.Nat.{ℕ, suc, ◌+◌, ◌*◌, ◌/◌, ◌%◌, ◌<◌, ◌≤◌}
use mathlib.Core.Path.{◌≡◌, refl, ◌∙◌}
use mathlib.Core.Logic.{inl, inr}
use native.Mathlib.Nat.{mod-lt}
use native.Mathlib.Numerals.{add-one}
use native.Mathlib.Omega.{arith}
use lib.Dec.{T, eqb}
use lib.ListN.{length, get_or}
use Rattle.std.specs.Prelude.{Option}
use Rattle.laws.specs.Choice.{pick, either}
use Rattle.laws.specs.Test.{eq→eqb, Holds}
use Rattle.laws.specs.Cells.{below_at, below_above, below_from}
use Rattle.words.specs.declared.Config.{Config}
use Rattle.words.specs.declared.Instruction.{Instruction}
use Rattle.words.specs.Parts.{register as register-part, target as target-part, is, in_range}
use Rattle.words.specs.Kinds.{Operand, Condition}
use Rattle.words.specs.Kinds.{Kind, marks_of, unsupported, compute, compare, multiply, bytewise, load_index, index_store, index_load, move, load_constant, load_register, load_direct, store_register, store_direct, port_read, port_modify, port_write, jump, branch, jump_register, branch_register, call, call_register, ret, ret_constant, enter_bank, leave_bank, enter_special, leave_special}
use Rattle.words.specs.Rows.{Row, row_at}
use Rattle.words.specs.Words.{fits}
use Rattle.words.specs.Facts.{facts_for}
use Rattle.words.specs.declared.Form.{Form}
use Rattle.words.specs.declared.Operation.{Operation}
use Rattle.arith.specs.Width.{bits}
use Rattle.arith.proofs.Fits.{Fits, one_le, answer_fits, product_answer_fits, immediate_answer_fits}
use Rattle.state.specs.declared.Core.{Core}
use Rattle.state.specs.declared.Write.{Write}
use Rattle.state.specs.State.{Env, State, top, stack_limit}
use Rattle.state.specs.Cores.{at, flagged, off, write, change, moved, to_register, to_memory}
use Rattle.state.specs.Operands.{View, view_of, cell, register, data_address, constant, condition_met, special_register}
use Rattle.state.specs.Context.{context_of, wp_in}
use Rattle.state.specs.Plans.{advanced, register_target, D, S, X, M, result, compare_plan, compute_plan, multiply_plan, load_index_plan, index_core, index_store_plan, index_load_plan, move_plan, load_constant_plan, load_register_plan, load_direct_plan, store_register_plan, store_direct_plan, port_read_plan, port_write_plan, port_modify_plan, jump_plan, branched, branch_plan, jump_register_plan, branch_register_plan, called, call_plan, call_register_plan, newest, returned, ret_plan, ret_constant_plan, enter_bank_plan, leave_bank_plan, enter_special_plan, leave_special_plan, plan_of}
use Rattle.state.specs.Stops.{parts_at, kind_at}
use Rattle.state.specs.Step.{put_of, plan_at}
use Rattle.state.specs.Good.{Indices, InBank, Posted, Ranged, Good}
use Rattle.state.proofs.Ranges.{Bounds, bounds, top_byte}
use Rattle.state.proofs.Stops.{tells, a_register, a_target, an_address, with_banks, Passed, Told, told_value}
use Rattle.state.proofs.Cores.{kept_at, kept_banked, kept_indexed, kept_flagged, kept_multiplied, kept_deep, kept_masked, kept_posting, kept_taking, kept_logging}
use Rattle.state.specs.Landing.{Inside}
use Rattle.state.proofs.Step.{Small, Sound}

module _ (e : Env) (s : State) (g : Good e s) where
  abbrev c : Config
  c = e.config

  abbrev v : View
  v = view_of e s

  abbrev i : Instruction
  i = parts_at e s

  abbrev r : Row
  r = row_at i.row

  abbrev In : Core → Type 0
  In m = Ranged e.config (length e.inputs) (length s.addresses) m

  law : Bounds c
  law = bounds c g.lawful

  -- words

  some : 0 < top c
  some = omega (arith, top_byte c)

  cut : (x : ℕ) → x % top c < top c
  cut x = mod-lt x some

  pub register_word : (r : ℕ) → register v r < top c
  register_word r = below_at (top c) s.registers (cell v r) some g.cells

  pub memory_word : (a : ℕ) → get_or s.memory a 0 < top c
  memory_word a = below_at (top c) s.memory a some g.words

  constant_word : (o : Form) (x : ℕ) → constant c o x < top c
  constant_word o x = immediate_answer_fits c.regwidth x o

  module _ (t : Told e s) where
    fits_value : Holds (in_range c r.value i.value)
    fits_value = told_value e s t

    fits_source : Holds (in_range c r.source i.source)
    unfolding fits
    fits_source = t.fit.1.1.1.0

    fits_destination : Holds (in_range c r.destination i.destination)
    unfolding fits
    fits_destination = t.fit.1.1.0

    -- cores

    quiet : Posted c 0 0
    quiet = record { mark = omega arith; word = some; none = λ z. refl }

    loud : {a : ℕ} → a < top c → Posted c 1 a
    loud h = record { mark = omega arith; word = h; none = λ z. let x : ⊥ = omega arith in absurd x }

    onward : In (M v i)
    onward = kept_posting (kept_at g.core (omega (arith, t.pc, law.image))) quiet

    to : {a : ℕ} → a < 0x800000 → In (at (M v i) a)
    to h = kept_at onward h

    -- changes that leave the return stack
    plain : {m : Core} {reg dm at' val' : Option Write} →
        In m →
        m.depth ≡ s.core.depth →
        Small (top c) reg →
        Inside c.rmsize reg →
        Small (top c) dm →
        Inside c.dmsize dm →
        Inside (length s.addresses) at' →
        Inside (length s.addresses) val' →
        Sound e s (change m reg dm off at' val')
    unfolding put_of pick
    plain h d r r' q q' a v =
        record {
          core = h;
          reg = r;
          dm = q;
          stack = tt;
          landing = record { reg = r'; dm = q'; stack = tt; logat = a; logval = v };
          zeros = rw d g.zeros;
        }

    moved_sound : {m : Core} → In m → m.depth ≡ s.core.depth → Sound e s (moved m)
    moved_sound h d = plain h d tt tt tt tt tt tt

    register_sound : {m : Core} {r x : ℕ} → In m → m.depth ≡ s.core.depth → x < top c → r < c.rmsize → Sound e s (to_register m r x)
    register_sound h d q l = plain h d q l tt tt tt tt

    memory_sound : {m : Core} {a x : ℕ} → In m → m.depth ≡ s.core.depth → x < top c → a < c.dmsize → Sound e s (to_memory m a x)
    memory_sound h d q l = plain h d tt tt q l tt tt

    -- cells of the active bank
    in-bank : {r : ℕ} → r < c.regsize → cell v r < c.rmsize
    in-bank h = omega (arith, g.core.bank.inside)

    assigned : T (is r.destination register-part) → cell v i.destination < c.rmsize
    assigned k = in-bank (a_register c r.destination i.destination k fits_destination)

    -- arithmetic

    result_fits : (o : Operation) (x : Operand) → Fits (bits c.regwidth) (result v i o x)
    result_fits o x = answer_fits c.regwidth _ _ _ o

    flagged_in : (o : Operation) (x : Operand) → In (flagged (M v i) i.flag (result v i o x).z (result v i o x).n)
    flagged_in o x = kept_flagged onward i.flag (result_fits o x).zero_flag (result_fits o x).negative_flag

    compare_sound : (o : Operation) (x : Operand) → Sound e s (compare_plan v i o x)
    unfolding compare_plan
    compare_sound o x = moved_sound (flagged_in o x) refl

    compute_sound : (o : Operation) (x : Operand) → T (is r.destination register-part) → Sound e s (compute_plan v i o x)
    unfolding compute_plan
    compute_sound o x k = register_sound (flagged_in o x) refl (result_fits o x).word (assigned k)

    multiply_sound : (x : Operand) → T (is r.destination register-part) → Sound e s (multiply_plan v i x)
    unfolding multiply_plan
    multiply_sound x k =
        let p = product_answer_fits c.regwidth (D v i) (X v i x) in
        register_sound (kept_multiplied onward (record { word = p.high_is_word; none = λ z. p.high_none (omega (arith, law.same_width)) })) refl
        p.word
        (assigned k)

    -- indices

    load_index_sound : Indices c 1 i.source i.destination → Sound e s (load_index_plan v i)
    unfolding load_index_plan
    load_index_sound k = moved_sound (kept_flagged (kept_indexed onward k) i.flag (one_le _) (omega arith)) refl

    index_in : (s.core.loaded ≡ 0 → ⊥) → In (index_core v i)
    unfolding advanced
    index_in k =
        let q = g.core.indices in
        kept_flagged (kept_indexed onward (record { x = around; y = q.y; mark = q.mark; none = λ z. absurd (k z) })) i.flag (one_le _)
        (omega arith)
      where
        around : pick (eqb (s.core.rx + 1) c.regsize) 0 (s.core.rx + 1) < c.regsize
        around =
            either (λ x. x < c.regsize) (eqb (s.core.rx + 1) c.regsize) 0 (s.core.rx + 1) (λ u. omega (arith, law.registers_some))
            (λ u. let n : s.core.rx + 1 ≡ c.regsize → ⊥ = λ q. u (eq→eqb (s.core.rx + 1) c.regsize q) in
            omega (arith, g.core.indices.x))

    index_store_sound : (s.core.loaded ≡ 0 → ⊥) → data_address (D v i) < c.dmsize → Sound e s (index_store_plan v i)
    unfolding index_store_plan advanced
    index_store_sound l k = memory_sound (index_in l) refl (register_word s.core.rx) k

    index_load_sound : (s.core.loaded ≡ 0 → ⊥) → Sound e s (index_load_plan v i)
    unfolding index_load_plan advanced
    index_load_sound l = register_sound (index_in l) refl (memory_word _) (in-bank g.core.indices.x)

    -- moves

    move_sound : T (is r.destination register-part) → Sound e s (move_plan v i)
    unfolding move_plan special_register
    move_sound k =
        register_sound onward refl
        (either (λ x. x < top c) (eqb s.core.mode 1) (special_register c s.core.spr7 i.source) (S v i) (λ u. cut _)
        (λ u. register_word i.source))
        (assigned k)

    load_constant_sound : (f : Form) → T (is r.destination register-part) → Sound e s (load_constant_plan v i f)
    unfolding load_constant_plan
    load_constant_sound f k = register_sound onward refl (constant_word _ _) (assigned k)

    load_register_sound : T (is r.destination register-part) → Sound e s (load_register_plan v i)
    unfolding load_register_plan
    load_register_sound k = register_sound onward refl (memory_word _) (assigned k)

    load_direct_sound : T (is r.destination register-part) → Sound e s (load_direct_plan v i)
    unfolding load_direct_plan
    load_direct_sound k = register_sound onward refl (memory_word _) (assigned k)

    store_register_sound : data_address (D v i) < c.dmsize → Sound e s (store_register_plan v i)
    unfolding store_register_plan
    store_register_sound k = memory_sound onward refl (register_word i.source) k

    store_direct_sound : i.value < c.dmsize → Sound e s (store_direct_plan v i)
    unfolding store_direct_plan
    store_direct_sound k = memory_sound onward refl (register_word i.destination) k

    -- ports

    port_read_sound : s.core.taken < length e.inputs → T (is r.destination register-part) → Sound e s (port_read_plan v i)
    unfolding port_read_plan
    port_read_sound k l = register_sound (kept_taking onward k) refl (cut _) (assigned l)

    port_write_sound : (x : Operand) → s.core.logged < length s.addresses → Sound e s (port_write_plan v i x)
    unfolding port_write_plan
    port_write_sound x k =
        plain (kept_posting (kept_logging onward k) (loud (register_word i.destination))) refl tt tt tt tt
        k
        k

    port_modify_sound : s.core.taken < length e.inputs → s.core.logged < length s.addresses → T (is r.destination register-part) → Sound e s (port_modify_plan v i)
    unfolding port_modify_plan
    port_modify_sound k l a =
        plain (kept_posting (kept_logging (kept_taking onward k) l) (loud (register_word i.source))) refl (cut _)
        (assigned a)
        tt
        tt
        l
        l

    -- control

    register_target_lem : register_target (D v i) < 0x800000
    register_target_lem = omega arith

    direct_target : T (is r.value target-part) → i.value < 0x800000
    direct_target p = omega (arith, a_target c r.value i.value (inl p) fits_value, law.image)

    jump_sound : {a : ℕ} → a < 0x800000 → Sound e s (moved (at (M v i) a))
    jump_sound h = moved_sound (to h) refl

    branch_sound : (k : Condition) (a : ℕ) → a < 0x800000 → Sound e s (moved (branched v i k a))
    branch_sound k a h =
        either (λ m. Sound e s (moved m)) (condition_met k s.core.n s.core.z) (at (M v i) a) (M v i) (λ u. jump_sound h)
        (λ u. moved_sound onward refl)

    call_sound : (a : ℕ) → s.core.depth < stack_limit c.pcstack → a < 0x800000 → Sound e s (called v i a)
    unfolding put_of pick
    call_sound a d h =
        record {
          core = kept_deep (to h) (omega arith);
          reg = tt;
          dm = tt;
          stack = omega (arith, t.pc);
          landing =
              record { reg = tt; dm = tt; stack = omega (arith, law.stack); logat = tt; logval = tt };
          zeros = rw (add-one s.core.depth) (below_above 1 s.stack s.core.depth (s.core.pc + 1) g.zeros);
        }

    ret_sound : {reg : Option Write} →
        0 < s.core.depth →
        Small (top c) reg →
        Inside c.rmsize reg →
        Sound e s (change (returned v i) reg off (write (newest v i) 0) off off)
    unfolding put_of pick
    ret_sound d q l =
        let n = newest v i in
        let u : suc n ≡ s.core.depth = omega arith in
        record {
          core =
              kept_deep (to (omega (arith, below_at (c.imsize + 1) s.stack n (omega arith) g.addresses, law.image)))
              (omega (arith, g.core.depth));
          reg = q;
          dm = tt;
          stack = omega arith;
          landing =
              record {
                reg = l;
                dm = tt;
                stack = omega (arith, g.core.depth, law.stack);
                logat = tt;
                logval = tt;
              };
          zeros = below_from 1 s.stack n 0 (omega arith) (rw u g.zeros);
        }

    -- banks and modes

    -- the context of a core with its bank, flags, mask and PC in their ranges
    context_word : (m : Core) → m.wp / 16 < 64 → m.n ≤ 1 → m.z ≤ 1 → m.imask ≤ 15 → m.pc < c.imsize → c.regsize < c.rmsize → context_of m < top c
    unfolding context_of
    context_word m w n z i p k =
        let wide : bits c.regwidth ≡ 32 = law.same_width ∙ law.banks_wide k in
        rw wide (omega (arith, w, n, z, i, p, law.image))

    in-unit : (u : ℕ) → 16 * u + c.regsize ≤ c.rmsize → InBank c (16 * u)
    in-unit u h = record { whole = omega arith; inside = h }

    enter_bank_sound : i.value < c.imsize → 16 * i.destination + c.regsize ≤ c.rmsize → c.regsize < c.rmsize → Sound e s (enter_bank_plan v i)
    unfolding enter_bank_plan
    enter_bank_sound a b k =
        register_sound (kept_banked (to (omega (arith, a, law.image))) (in-unit i.destination b)) refl
        (context_word _ (omega (arith, g.core.bank.inside, b, law.registers_some, law.banks)) g.core.flags.negative g.core.flags.zero
        g.core.masks.now
        t.pc
        k)
        (omega (arith, g.core.bank.inside, b, law.registers_some))

    leave_bank_sound : wp_in (register v 0) + c.regsize ≤ c.rmsize → Sound e s (leave_bank_plan v i)
    unfolding leave_bank_plan
    leave_bank_sound k =
        let m = g.core.masks in
        moved_sound
        (kept_masked (kept_flagged (kept_banked (to (omega arith)) (in-unit _ k)) 0 (omega arith) (omega arith))
        (record { now = omega arith; kept = m.kept; special = m.special }))
        refl

    enter_special_sound : Sound e s (enter_special_plan v i)
    unfolding enter_special_plan
    enter_special_sound = moved_sound (kept_masked onward (record { now = omega arith; kept = g.core.masks.now; special = omega arith })) refl

    leave_special_sound : Sound e s (leave_special_plan v i)
    unfolding leave_special_plan
    leave_special_sound =
        moved_sound (kept_masked onward (record { now = g.core.masks.kept; kept = g.core.masks.kept; special = omega arith })) refl

    -- whatever the kind
    by_kind : (k : Kind) → Holds (tells k r) → Passed v i (facts_for k) → Sound e s (plan_of v i k)
    unfolding tells facts_for marks_of plan_of jump_plan branch_plan jump_register_plan branch_register_plan call_plan call_register_plan ret_plan ret_constant_plan
    by_kind unsupported p q = moved_sound onward refl
    by_kind (compute o x) p q = compute_sound o x p.0
    by_kind (compare o x) p q = compare_sound o x
    by_kind (multiply x) p q = multiply_sound x p
    by_kind (bytewise o) p q = compute_sound _ _ p
    by_kind load_index p q =
        load_index_sound
        (record {
          x = a_register c r.source i.source p.1 fits_source;
          y = a_register c r.destination i.destination p.0 fits_destination;
          mark = omega arith;
          none = λ z. let x : ⊥ = omega arith in absurd x;
        })
    by_kind index_store p q = index_store_sound (q.index tt) (q.address.1 tt)
    by_kind index_load p q = index_load_sound (q.index tt)
    by_kind move p q = move_sound p
    by_kind (load_constant f) p q = load_constant_sound f p
    by_kind load_register p q = load_register_sound p
    by_kind load_direct p q = load_direct_sound p
    by_kind store_register p q = store_register_sound (q.address.1 tt)
    by_kind store_direct p q = store_direct_sound (an_address c r.value i.value p fits_value)
    by_kind port_read p q = port_read_sound (q.input tt) p
    by_kind port_modify p q = port_modify_sound (q.input tt) (q.room tt) p
    by_kind (port_write x) p q = port_write_sound x (q.room tt)
    by_kind jump p q = jump_sound (direct_target p)
    by_kind (branch k) p q = branch_sound k i.value (direct_target p)
    by_kind jump_register p q = jump_sound register_target_lem
    by_kind (branch_register k) p q = branch_sound k (register_target (D v i)) register_target_lem
    by_kind call p q = call_sound i.value (q.not_full tt) (direct_target p)
    by_kind call_register p q = call_sound (register_target (D v i)) (q.not_full tt) register_target_lem
    by_kind ret p q = ret_sound (q.not_empty tt) tt tt
    by_kind ret_constant p q = ret_sound (q.not_empty tt) (constant_word _ _) (assigned p)
    by_kind enter_bank p q =
        enter_bank_sound (a_target c r.value i.value (inr p.0) fits_value) (q.bank.0 tt) (with_banks c r.option p.1 t.option)
    by_kind leave_bank p q = leave_bank_sound (q.bank.1 tt)
    by_kind enter_special p q = enter_special_sound
    by_kind leave_special p q = leave_special_sound

    pub plan_sound : Sound e s (plan_at e s)
    unfolding plan_at
    plan_sound = by_kind (kind_at e s) t.parts t.stops
