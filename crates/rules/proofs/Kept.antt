-- The rules at a used address, by name, about the instruction that a step carries out there.
-- Assumes nothing.
use Prim.Native.Nat.{ℕ, ◌+◌, ◌<◌, ◌≤◌}
use mathlib.Core.Path.{◌≡◌}
use mathlib.Core.Bool.{Bool}
use mathlib.Core.List.{List}
use lib.Dec.{T, eqb}
use lib.ListN.{get_or}
use Rattle.laws.specs.Choice.{pick, pick_yes}
use Rattle.laws.specs.Test.{Holds, eq→eqb, and_both}
use Rattle.laws.specs.First.{Obeyed, numbered, obeyed}
use Rattle.words.specs.declared.Config.{Config}
use Rattle.words.specs.declared.Instruction.{Instruction}
use Rattle.words.specs.declared.Facts.{Facts}
use Rattle.words.specs.Rows.{row_at}
use Rattle.words.specs.Words.{zeros, answered, parts_of, read_by, read_lawful, refusals567}
use Rattle.words.specs.Facts.{facts_of}
use Rattle.state.specs.State.{stack_limit}
use Rattle.state.specs.Stops.{stop8}
use Rattle.rules.specs.Marks.{mark_at, used, level_of, sub_of, mode_of}
use Rattle.rules.specs.Successors.{Successor, successors}
use Rattle.rules.specs.Rules.{mode_after, rules, rules_at, read_at, facts_at, reads_port}
use Rattle.rules.proofs.Successors.{◌∈◌, one_of}

-- a word that can be read: reading gives its parts, and 5, 6 and 7 let it pass
pub read_parts : (c : Config) (w : ℕ) → (read_lawful c w).number ≡ 0 → (read_lawful c w).instruction ≡ parts_of c w
unfolding read_lawful read_by answered parts_of
read_parts c w z = let n = (read_lawful c w).number in pick_yes (eqb n 0) (parts_of c w) zeros (eq→eqb n 0 z)

pub read_passes : (c : Config) (w : ℕ) → (read_lawful c w).number ≡ 0 → Obeyed (refusals567 c (row_at (parts_of c w).row) (parts_of c w))
unfolding read_lawful read_by answered parts_of refusals567
read_passes c w z =
    let l = refusals567 c (row_at (parts_of c w).row) (parts_of c w) in obeyed l (numbered l tt) z

-- rules 4 to 7 about a successor s of a word that has facts f and mark x
pub record Follows (c : Config) (certificate : List ℕ) (f : Facts) (x : ℕ) (s : Successor) : Type 0 where
  pub below : s.address < c.imsize
  pub used : T (used (mark_at certificate s.address))
  pub sub : sub_of (mark_at certificate s.address) ≡ pick s.by_call 1 (sub_of x)
  pub level : level_of (mark_at certificate s.address) ≤ level_of x
  pub lower : T s.by_call → level_of (mark_at certificate s.address) < level_of x
  pub mode : mode_of (mark_at certificate s.address) ≡ mode_after f (mode_of x)

-- rules 2 to 8 at address a, whose parts are i and facts f; reads: the next word is a port read or
-- IORMW
pub record Kept (c : Config) (certificate : List ℕ) (a : ℕ) (i : Instruction) (f : Facts) (reads : Bool) : Type 0 where
  pub level : level_of (mark_at certificate a) ≤ stack_limit c.pcstack
  pub free : T f.barred → ⊥
  pub follows : (s : Successor) → s ∈ successors f a i.value → Follows c certificate f (mark_at certificate a) s
  pub return_mark : T f.returns → sub_of (mark_at certificate a) ≡ 1
  pub special : Holds (stop8 (mode_of (mark_at certificate a)) i.source f)
  pub port : T f.output → T reads → ⊥

module _ (c : Config) (image certificate : List ℕ) (a : ℕ) (h : Obeyed (rules_at c image certificate a)) (u : T (used (mark_at certificate a))) where
  as_read : Kept c certificate a (read_at c image a).instruction (facts_at c image a) (reads_port c image (a + 1))
  unfolding rules
  as_read =
      let r4 = h.1.1.1.0 u in
      let r5 = h.1.1.1.1.0 u in
      let r6 = h.1.1.1.1.1.0 u in
      let r7 = h.1.1.1.1.1.1.0 u in
      record {
        level = h.1.0 u;
        free = (h.1.1.0 u).1;
        follows =
            λ s e.
            let s4 = one_of (mark_at certificate) _ r4 e in
            let s6 = one_of (mark_at certificate) _ r6 e in
            record {
              below = s4.0;
              used = s4.1;
              sub = one_of (mark_at certificate) _ r5.0 e;
              level = s6.0;
              lower = s6.1;
              mode = one_of (mark_at certificate) _ r7.1.1 e;
            };
        return_mark = r5.1;
        special = r7.1.0;
        port = h.1.1.1.1.1.1.1.0 u;
      }

  pub can_read : (read_at c image a).number ≡ 0
  unfolding rules
  can_read = (h.1.1.0 u).0

  -- the rules speak of the parts that a step goes by
  pub kept_rules : Kept c certificate a (parts_of c (get_or image a 0)) (facts_of (parts_of c (get_or image a 0)).row) (reads_port c image (a + 1))
  kept_rules = rw (read_parts c (get_or image a 0) can_read) at as_read

  pub passes_567 : Obeyed (refusals567 c (row_at (parts_of c (get_or image a 0)).row) (parts_of c (get_or image a 0)))
  passes_567 = read_passes c (get_or image a 0) can_read

  -- a port read there is one to rule 8 at the address before
  pub seen_reading : T (facts_of (parts_of c (get_or image a 0)).row).input → T (reads_port c image a)
  seen_reading t =
      let e = read_parts c (get_or image a 0) can_read in
      let t' : T (facts_at c image a).input = rw e t in
      and_both (eqb (read_at c image a).number 0) (facts_at c image a).input (eq→eqb (read_at c image a).number 0 can_read) t'
