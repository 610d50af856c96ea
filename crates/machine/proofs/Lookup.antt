-- What the cell of the word at PC tells of the step: laws from the definitions of words, state and cells.
-- Assumes nothing.
use Prim.Native.Nat.{ℕ, ◌/◌, ◌%◌, ◌<◌}
use mathlib.Core.Path.{◌≡◌, refl, sym, ap, ◌∙◌}
use mathlib.Core.Bool.{Bool, true, false, not, ◌&&◌}
use mathlib.Core.List.{[], ◌∷◌, ◌++◌}
use borrow.Author.Tests.{lt-ltb, ne_eqb}
use lib.Dec.{T, eqb}
use lib.ListN.{get_or}
use Rattle.laws.specs.Choice.{pick, true_is}
use Rattle.laws.specs.Test.{test, Holds, and_left, and_right}
use Rattle.laws.specs.First.{first_failing, first_append, numbered, obeyed}
use Rattle.laws.specs.Table.{every, at_every}
use Rattle.words.specs.declared.Config.{Config}
use Rattle.words.specs.declared.Form.{Form}
use Rattle.words.specs.declared.Instruction.{Instruction}
use Rattle.words.specs.Parts.{Part, count, bank_address, is, in_range, never, needs}
use Rattle.words.specs.Kinds.{Kind, Condition, marks_of}
use Rattle.words.specs.Frames.{frame_of}
use Rattle.words.specs.Rows.{rows, row_count, row_at}
use Rattle.words.specs.Words.{refusals567, fits, answered, parts_of, read_by, read_lawful}
use Rattle.words.specs.Configs.{lawful}
use Rattle.words.specs.Claims.{understood}
use Rattle.words.specs.Facts.{facts_for, facts_of}
use Rattle.words.specs.Codes.{form_at, condition_at}
use Rattle.words.specs.Actions.{actions}
use Rattle.words.specs.Lookup.{action_at, entry_at, entry_kind}
use Rattle.words.proofs.Keys.{most_of}
use Rattle.words.proofs.RoundTrip.{decoded, Bounds, bounds, range_most}
use Rattle.words.proofs.Checks.{entry_kind_lem, is_it, needs_it}
use Rattle.words.proofs.Lookup.{read_row}
use Rattle.state.specs.State.{Env, State}
use Rattle.state.specs.Cores.{stopped}
use Rattle.state.specs.Operands.{view_of}
use Rattle.state.specs.Stops.{stop8, stops9to15, parts_at, kind_at, facts_at, stops}
use Rattle.state.specs.Step.{plan_at}
use Rattle.cells.specs.Cell.{first_apart}
use Rattle.machine.specs.Exec.{act, change_at, verdict_of, Valued}
use Rattle.machine.proofs.advance.Laws.{unless_first}

-- 5 to 8

module _ (c : Config) (w : ℕ) where
  -- 5, 6, 7
  abbrev reads : ℕ
  reads = first_failing (refusals567 c (row_at (parts_of c w).row) (parts_of c w))

  read_is : read_lawful c w ≡ answered reads (parts_of c w)
  unfolding read_lawful read_by parts_of
  read_is = refl

  module _ (mode : ℕ) where
    verdict_is : verdict_of c mode w ≡
        pick (eqb reads 0) (pick (test (stop8 mode (parts_of c w).source (facts_of (parts_of c w).row))) 0 8) reads
    unfolding verdict_of refusals567
    verdict_is =
        first_append (refusals567 c (row_at (parts_of c w).row) (parts_of c w))
        ((8, stop8 mode (parts_of c w).source (facts_of (parts_of c w).row)) ∷ [])
        tt

    -- a word that is refused
    pub refused_verdict : (n : ℕ) → (read_lawful c w).number ≡ n → (n ≡ 0 → ⊥) → verdict_of c mode w ≡ n
    unfolding answered pick
    refused_verdict n q h =
        let r : reads ≡ n = sym (ap (λ x. x.number) read_is) ∙ q in
        verdict_is ∙ rw (r, ne_eqb n 0 h)

    -- a word that is read
    pub read_verdict : (i : Instruction) (b : Bool) → read_lawful c w ≡ understood i → test (stop8 mode i.source (facts_of i.row)) ≡ b →
        verdict_of c mode w ≡ pick b 0 8
    unfolding pick
    read_verdict i b q t =
        let d = decoded reads (parts_of c w) i (sym read_is ∙ q) in
        verdict_is ∙ rw (d.0, d.1, t)

-- The step at an address that is there, whose word is read as i or refused

module _ (e : Env) (s : State) (h : s.core.pc < e.config.imsize) where
  abbrev word : ℕ
  word = get_or e.image s.core.pc 0

  abbrev verdict : ℕ
  verdict = verdict_of e.config s.core.mode word

  inside : change_at e s ≡ pick (eqb verdict 0) (act (view_of e s) (parts_at e s) (kind_at e s)) (stopped s.core verdict)
  unfolding change_at stops refusals567 act plan_at pick verdict_of
  inside =
      rw (lt-ltb _ _ h)
      (unless_first
      (refusals567 e.config (row_at (parts_at e s).row) (parts_at e s) ++ ((8, stop8 s.core.mode (parts_at e s).source (facts_at e s)) ∷ []))
      (stops9to15 (view_of e s) (parts_at e s) (facts_at e s))
      s.core
      (plan_at e s)
      tt)

  -- 5 to 8
  pub stopped_here : (n : ℕ) → verdict ≡ n → (n ≡ 0 → ⊥) → change_at e s ≡ stopped s.core n
  unfolding pick
  stopped_here n q z = inside ∙ rw (q, ne_eqb n 0 z)

  module _ (i : Instruction) (read : read_lawful e.config word ≡ understood i) where
    parts_here : i ≡ parts_at e s
    parts_here = (read_row e.config word i read).2

    kind_here : entry_kind (entry_at i.row) ≡ kind_at e s
    kind_here = entry_kind_lem i.row (read_row e.config word i read).1 ∙ ap (λ (j : Instruction). (row_at j.row).kind) parts_here

    pub facts_here : facts_for (entry_kind (entry_at i.row)) ≡ facts_at e s
    facts_here = ap facts_for kind_here

    pub acted_here : verdict ≡ 0 → change_at e s ≡ act (view_of e s) i (entry_kind (entry_at i.row))
    unfolding pick
    acted_here z =
        inside ∙
        (rw z (sym (ap (act (view_of e s) i) kind_here ∙ ap (λ (j : Instruction). act (view_of e s) j (kind_at e s)) parts_here)))

-- The values of an instruction that is read

abbrev value_right : ℕ → Bool
value_right n = pick (needs (row_at n).option never) true (is (row_at n).value (frame_of (row_at n).kind).value)

all_values : T (every row_count value_right)
unfolding pick rows row_at
all_values = tt

value_part : (n : ℕ) → n < row_count → ((row_at n).option ≡ never → ⊥) → (row_at n).value ≡ (frame_of (row_at n).kind).value
unfolding pick
value_part n h o = go (needs (row_at n).option never) refl
  where
    go : (b : Bool) → needs (row_at n).option never ≡ b → (row_at n).value ≡ (frame_of (row_at n).kind).value
    go true q = absurd (o (needs_it _ _ (rw q tt)))
    go false q = is_it _ _ (rw q at (at_every row_count value_right n all_values h))

few : (c : Config) (p : Part) (v : ℕ) → p ≡ count → Holds (in_range c p v) → v < 16
unfolding in_range
few c p v q h = let t = rw q at h in t.0

low : (c : Config) (p : Part) (v : ℕ) → Bounds c → p ≡ bank_address → Holds (in_range c p v) → v < 65536
unfolding most_of
low c p v b q h = rw q at (range_most c p v b h)

pub valued : (c : Config) (w : ℕ) (i : Instruction) → Holds (lawful c) → read_lawful c w ≡ understood i → Valued (entry_at i.row) i
unfolding refusals567 fits
valued c w i hc q =
    let tests = refusals567 c (row_at (parts_of c w).row) (parts_of c w) in
    let d = decoded (reads c w) (parts_of c w) i (sym (read_is c w) ∙ q) in
    let o = obeyed tests (numbered tests tt) d.0 in
    let r = read_row c w i q in
    let range : Holds (in_range c (row_at i.row).value i.value) = rw r.2 o.1.1.0.1.1.1.1 in
    let part = value_part i.row r.0 r.1 in
    let kind = entry_kind_lem i.row r.1 in
    record {
      count = λ a k. few c _ i.value (part ∙ ap (λ (x : Kind). (frame_of x).value) (sym kind ∙ k)) range;
      address = λ k. low c _ i.value (bounds c hc) (part ∙ ap (λ (x : Kind). (frame_of x).value) (sym kind ∙ k)) range;
    }

-- What the loop carries out switches no mode, and reads a special register by MOV alone

abbrev plain_mode : Form → Condition → ℕ → Bool
plain_mode f c a = let k = facts_for ((action_at a).does f c) in not k.enters && not k.leaves

all_plain : (f : Form) (c : Condition) → T (every first_apart (plain_mode f c))
unfolding action_at actions facts_for marks_of
all_plain f c = tt

untrue : (b : Bool) → T (not b) → b ≡ true → ⊥
untrue true t q = t
untrue false t q = true_is false q

pub keeps_mode : (e : ℕ) → e / 0x4000000 < first_apart →
    ((facts_for (entry_kind e)).enters ≡ true → ⊥) × ((facts_for (entry_kind e)).leaves ≡ true → ⊥)
keeps_mode e h =
    let t = at_every first_apart (plain_mode (form_at (e / 4096 % 4)) (condition_at (e / 256 % 16))) (e / 0x4000000) (all_plain _ _) h in
    let k = facts_for (entry_kind e) in
    (untrue k.enters (and_left (not k.enters) (not k.leaves) t), untrue k.leaves (and_right (not k.enters) (not k.leaves) t))
