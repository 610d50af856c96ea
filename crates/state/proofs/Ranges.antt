-- What it tells of a configuration that it is lawful, and of a state that 1, 2 and 3 let pass it, in facts with names; and the way back.
-- Assumes nothing.
use Prim.Native.Nat.{ℕ, ◌-◌, ◌*◌, ◌<◌, ◌≤◌}
use mathlib.Core.Path.{◌≡◌}
use mathlib.Core.Logic.{◌⊎◌, inl, inr}
use mathlib.Core.List.{List}
use native.Mathlib.Omega.{arith}
use lib.Dec.{T, eqb, eqb→eq}
use lib.Pow.{pow_mono}
use Rattle.laws.specs.Choice.{either}
use Rattle.laws.specs.Test.{most, ◌and◌, test, Holds, holds, Member, eq→eqb}
use Rattle.laws.specs.First.{first_failing, numbered, obeyed, none_fails}
use Rattle.laws.specs.Lists.{all, all_at, ◌also◌}
use Rattle.words.specs.declared.Config.{Config}
use Rattle.words.specs.Configs.{widths, register_sizes, bank_sizes, data_sizes, lawful}
use Rattle.arith.specs.Width.{bits}
use Rattle.arith.proofs.Fits.{bits_lawful, bits_width}
use Rattle.state.specs.State.{Env, State, top, stack_limit}
use Rattle.state.specs.Ranges.{in_ranges, guards}
use Rattle.state.specs.Claims.{Valid}
use Rattle.state.specs.Good.{Good}

-- Of a lawful configuration

pub record Bounds (c : Config) : Type 0 where
  pub width : Member c.regwidth widths
  pub same_width : bits c.regwidth ≡ c.regwidth
  pub image_some : 0 < c.imsize
  pub image : c.imsize ≤ 32768
  pub registers_some : 8 ≤ c.regsize
  pub registers : c.regsize ≤ 128
  pub one_bank : c.regsize ≤ c.rmsize
  pub banks : c.rmsize ≤ 1024
  pub banks_wide : c.regsize < c.rmsize → c.regwidth ≡ 32
  pub memory : c.dmsize ≤ 32768
  pub stack_some : 0 < stack_limit c.pcstack
  pub stack : stack_limit c.pcstack ≤ 63
  pub level : c.alulevel ≤ 2
  pub mult : c.alumult ≤ 1
  pub clock : c.yamclk ≤ 1023
  pub constant : c.yamsreg3 ≤ 65535

-- a number of a list whose numbers lie from a to b
between : (a b : ℕ) (l : List ℕ) (n : ℕ) → T (all (λ x. test (most a x and most x b)) l) → Member n l → (a ≤ n) × (n ≤ b)
between a b l n t h = holds (most a n and most n b) (all_at (λ x. test (most a x and most x b)) l n t h)

-- what the rule for RM_SIZE tells
record Banks (width size rm : ℕ) : Type 0 where
  one : size ≤ rm
  few : rm ≤ 1024
  wide : size < rm → width ≡ 32

bank_rule : {width size rm : ℕ} → size ≤ 128 → (rm ≡ size) ⊎ ((width ≡ 32) × ((2 * size ≤ rm) × Member rm bank_sizes)) → Banks width size rm
bank_rule h (inl e) = record { one = omega arith; few = omega arith; wide = λ l. let z : ⊥ = omega arith in absurd z }
bank_rule {rm = rm} h (inr p) =
    record { one = omega (arith, p.1.0); few = (between 16 1024 bank_sizes rm tt p.1.1).1; wide = λ l. p.0 }

record Limit (n : ℕ) : Type 0 where
  some : 0 < n
  few : n ≤ 63

stack_rule : (n : ℕ) → 0 < n → n ≤ 64 → Limit (stack_limit n)
unfolding stack_limit
stack_rule n h k =
    either Limit (eqb n 1) 1 (n - 1) (λ t. record { some = omega arith; few = omega arith })
    (λ f. let g : n ≡ 1 → ⊥ = λ e. f (eq→eqb n 1 e) in record { some = omega arith; few = omega arith })

pub bounds : (c : Config) → Holds (lawful c) → Bounds c
unfolding lawful
bounds c h =
    let r = between 8 128 register_sizes c.regsize tt h.1.0.1 in
    let b = bank_rule r.1 h.1.1.0 in
    let m = h.1.1.1.0 in
    let s = stack_rule c.pcstack m.0 m.1.0 in
    let o = h.1.1.1.1.0 in
    let k = h.1.1.1.1.1 in
    record {
      width = h.1.0.0;
      same_width = bits_lawful c.regwidth h.1.0.0;
      image_some = h.0.1.0;
      image = h.0.1.1;
      registers_some = r.0;
      registers = r.1;
      one_bank = b.one;
      banks = b.few;
      banks_wide = b.wide;
      memory = (between 0 32768 data_sizes c.dmsize tt m.1.1.0).1;
      stack_some = s.some;
      stack = s.few;
      level = o.0;
      mult = o.1.1.0;
      clock = k.0;
      constant = k.1.0;
    }

-- 2^W is more than a byte, under any configuration
pub top_byte : (c : Config) → 256 ≤ top c
top_byte c = pow_mono {i = 8} {j = bits c.regwidth} (bits_width c.regwidth).least

-- Of a state: the facts with names are what 1, 2 and 3 test

pub good : (e : Env) (s : State) → Valid e s → Good e s
unfolding guards in_ranges
good e s h =
    let l = h.1.0 in
    let r = h.1.1.0 in
    let p = r.0 in
    let m = r.1.0 in
    let o = r.1.1.0 in
    let k = r.1.1.1 in
    record {
      lawful = h.0;
      image = l.0;
      registers = l.1.0;
      memory = l.1.1.0;
      log = l.1.1.1;
      core =
          record {
            pc = p.0;
            bank = record { whole = p.1.0; inside = p.1.1.0 };
            indices =
                record {
                  x = p.1.1.1.0;
                  y = p.1.1.1.1.0;
                  mark = p.1.1.1.1.1.0;
                  none = λ q. p.1.1.1.1.1.1 (eq→eqb s.core.loaded 0 q);
                };
            flags = record { negative = m.0; zero = m.1.0 };
            high = record { word = m.1.1.1.1.1.1.0; none = λ q. m.1.1.1.1.1.1.1 (eq→eqb e.config.regwidth 32 q) };
            depth = o.0;
            masks = record { now = m.1.1.1.1.0; kept = m.1.1.1.1.1.0; special = m.1.1.0 };
            posted = record { mark = m.1.1.1.0; word = o.1.0; none = λ q. o.1.1.0 (eq→eqb s.core.posted 0 q) };
            taken = o.1.1.1.0;
            logged = o.1.1.1.1;
          };
      addresses = k.0;
      zeros = k.1.0;
      cells = k.1.1.0;
      words = k.1.1.1;
    }

pub valid : (e : Env) (s : State) → Good e s → Valid e s
unfolding guards in_ranges
valid e s g =
    let m = g.core in
    let indices : T (eqb s.core.loaded 0) → (s.core.rx ≡ 0) × (s.core.ry ≡ 0) = λ t. m.indices.none (eqb→eq s.core.loaded 0 t) in
    let places =
    m.pc also
    m.bank.whole also
    m.bank.inside also
    m.indices.x also
    m.indices.y also
    m.indices.mark also
    indices in
    let product : T (eqb e.config.regwidth 32) → s.core.spr7 ≡ 0 = λ t. m.high.none (eqb→eq e.config.regwidth 32 t) in
    let address : T (eqb s.core.posted 0) → s.core.port ≡ 0 = λ t. m.posted.none (eqb→eq s.core.posted 0 t) in
    let marks =
    m.flags.negative also
    m.flags.zero also
    m.masks.special also
    m.posted.mark also
    m.masks.now also
    m.masks.kept also
    m.high.word also
    product in
    let positions = m.depth also m.posted.word also address also m.taken also m.logged in
    let cells = g.addresses also g.zeros also g.cells also g.words in
    g.lawful also (g.image also g.registers also g.memory also g.log) also (places also marks also positions also cells) also tt

-- and of the number that they answer
pub accepted : (e : Env) (s : State) → first_failing (guards e s) ≡ 0 → Good e s
unfolding guards
accepted e s h = good e s (obeyed (guards e s) (numbered (guards e s) tt) h)

pub passes : (e : Env) (s : State) → Good e s → first_failing (guards e s) ≡ 0
passes e s g = none_fails (guards e s) (valid e s g)
