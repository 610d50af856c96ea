-- Flat records read back as themselves.
-- Assumes nothing.
use mathlib.Core.Path.{◌≡◌, refl, sym, ap, ◌∙◌}
use mathlib.Core.List.{List, ◌++◌}
use Prim.Native.Nat.{ℕ, zero, suc, ◌^◌, ◌<◌, ◌≤◌}
use native.Mathlib.Nat.{mod-eq_of_lt, lt_of_lt_of_le}
use native.Mathlib.Omega.{arith}
use lib.ListN.{length, drop, replicate, length-append}
use lib.Pow.{pow_mono}
use lib.Seq.{drop-drop, take_at, drop_at, get_or_at}
use Rattle.laws.specs.Choice.{pick}
use Rattle.laws.specs.Test.{Holds, Below}
use Rattle.words.specs.declared.Config.{Config}
use Rattle.arith.specs.Width.{bits}
use Rattle.arith.proofs.Fits.{bits_width}
use Rattle.state.specs.declared.Core.{Core}
use Rattle.state.specs.State.{Env, State, top}
use Rattle.state.specs.Cores.{positioned}
use Rattle.state.specs.Good.{Good}
use Rattle.state.proofs.Ranges.{bounds, good}
use Rattle.yam_c.specs.Flat.{low, high, wide, config_of, instruction_of, core_words, added_words, machine_words, core_in, stack_in, shaped, machine_of}
use Rattle.yam_c.specs.Claims.{ConfigBack, InstructionBack, MachineBack}
use Rattle.yam_c.proofs.Machines.{machine_in}

pub config_back : ConfigBack
unfolding config_of pick
config_back c = refl

pub instruction_back : InstructionBack
unfolding instruction_of pick
instruction_back i = refl

-- a number below 2^32 is its low word, and any number is that of its two words
low_same : (n : ℕ) → n < 2 ^ 32 → low n ≡ n
low_same n h = mod-eq_of_lt h

wide_same : (n : ℕ) → wide (low n) (high n) ≡ n
wide_same n = omega arith

-- the numbers of a core that have one word each
pub record OneWord (m : Core) : Type 0 where
  pub pc : m.pc < 2 ^ 32
  pub wp : m.wp < 2 ^ 32
  pub rx : m.rx < 2 ^ 32
  pub ry : m.ry < 2 ^ 32
  pub n : m.n < 2 ^ 32
  pub z : m.z < 2 ^ 32
  pub spr7 : m.spr7 < 2 ^ 32
  pub depth : m.depth < 2 ^ 32
  pub imask : m.imask < 2 ^ 32
  pub saved : m.saved < 2 ^ 32
  pub mode : m.mode < 2 ^ 32
  pub posted : m.posted < 2 ^ 32
  pub port : m.port < 2 ^ 32

same-positions : (m : Core) {taken logged : ℕ} → taken ≡ m.taken → logged ≡ m.logged → positioned m taken logged ≡ m
same-positions m p q = rw (p, q)

core_back : (m : Core) (stack : List ℕ) → length stack ≡ 63 → OneWord m → core_in (core_words m ++ (stack ++ added_words m)) ≡ m
core_back m stack l h =
    rw (
      get_or_at stack m.loaded (replicate 19 0) 0 63 l,
      low_same m.pc h.pc,
      low_same m.wp h.wp,
      low_same m.rx h.rx,
      low_same m.ry h.ry,
      low_same m.n h.n,
      low_same m.z h.z,
      low_same m.spr7 h.spr7,
      low_same m.depth h.depth,
      low_same m.imask h.imask,
      low_same m.saved h.saved,
      low_same m.mode h.mode,
      low_same m.posted h.posted,
      low_same m.port h.port,
    )
    (same-positions m (wide_same m.taken) (wide_same m.logged))

module _ (m : Core) (stack : List ℕ) (l : length stack ≡ 63) where
  pub words_length : length (machine_words m stack) ≡ 100
  unfolding machine_words
  words_length = omega (arith, l, length-append stack (added_words m))

  words_zeros : drop 81 (machine_words m stack) ≡ replicate 19 0
  unfolding machine_words
  words_zeros = sym (drop-drop 1 63 (stack ++ added_words m)) ∙ ap (drop 1) (drop_at stack (added_words m) 63 l)

  words_shaped : Holds (shaped (machine_words m stack))
  words_shaped = (words_length, rw words_zeros (below_zeros 19))
    where
      below_zeros : (k : ℕ) → Below 1 (replicate k 0)
      below_zeros zero = tt
      below_zeros (suc k) = (omega arith, below_zeros k)

  words_stack : stack_in (machine_words m stack) ≡ stack
  unfolding machine_words
  words_stack = take_at stack (added_words m) 63 l

  pub words_back : OneWord m → machine_of (machine_words m stack) ≡ record { core = m; stack = stack }
  unfolding machine_words
  words_back h =
      machine_in (machine_words m stack) words_shaped ∙ rw (words_stack, core_back m stack l h)

top_most : (c : Config) → top c ≤ 2 ^ 32
top_most c = pow_mono {i = bits c.regwidth} {j = 32} (bits_width c.regwidth).most

pub one_word : (e : Env) (s : State) → Good e s → OneWord s.core
one_word e s g =
    let b = bounds e.config g.lawful in
    let m = g.core in
    record {
      pc = omega (arith, m.pc);
      wp = omega (arith, m.bank.inside, b.banks);
      rx = omega (arith, m.indices.x, b.registers);
      ry = omega (arith, m.indices.y, b.registers);
      n = omega (arith, m.flags.negative);
      z = omega (arith, m.flags.zero);
      spr7 = lt_of_lt_of_le m.high.word (top_most e.config);
      depth = omega (arith, m.depth, b.stack);
      imask = omega (arith, m.masks.now);
      saved = omega (arith, m.masks.kept);
      mode = omega (arith, m.masks.special);
      posted = omega (arith, m.posted.mark);
      port = lt_of_lt_of_le m.posted.word (top_most e.config);
    }

pub machine_back : MachineBack
machine_back e s v l = words_back s.core s.stack l (one_word e s (good e s v))
