-- `words::decode::fields_in` meets its contract. Assumes nothing.
use Prim.Native.Nat.{ℕ, ◌+◌, ◌-◌, ◌*◌, ◌/◌, ◌%◌, ◌<◌}
use mathlib.Core.Path.{◌≡◌, refl}
use mathlib.Core.Bool.{Bool, true, false, not, ◌&&◌}
use lib.Dec.{T, eqb}
use Rattle.laws.specs.Choice.{pick}
use Rattle.laws.specs.Table.{at_every}
use Rattle.words.specs.declared.Fields.{Fields}
use Rattle.words.specs.declared.Config.{Config}
use Rattle.words.specs.Words.{Layout, registers, upper_value, whole, flag_in, layout_of, upper_in, lower_in, value_in, fields_in}
use native.Mathlib.Omega.{arith}
use Rattle.words.specs.Kinds.{unsupported}
use Rattle.words.specs.Codes.{part_at}
use Rattle.words.specs.Packed.{unpack}
use Rattle.words.proofs.Parts.{unused_code, target_code}
use Rattle.words.proofs.decode.fields_in.Goals as goal

-- the layout by the two tests of what the value part holds
abbrev laid_by : Bool → Bool → Layout
laid_by a b = pick a registers (pick b whole upper_value)

-- what is unused is no target
apart : (h : ℕ) → h < 16 → T (not (eqb h 0 && eqb h 10))
apart h l = at_every 16 (λ n. not (eqb n 0 && eqb n 10)) h tt l

upper_by : (a b : Bool) (f : ℕ) → T (not (a && b)) → pick b 0 (f / 65536) ≡ upper_in (laid_by a b) f
unfolding pick upper_in
upper_by true true f t = absurd t
upper_by true false f t = refl
upper_by false true f t = refl
upper_by false false f t = refl

lower_by : (a b : Bool) (f : ℕ) → pick a (f % 65536) 0 ≡ lower_in (laid_by a b) f
unfolding pick lower_in
lower_by true b f = refl
lower_by false true f = refl
lower_by false false f = refl

value_by : (a b : Bool) (f : ℕ) → T (not (a && b)) → pick b f (pick a 0 (f % 65536)) ≡ value_in (laid_by a b) f
unfolding pick value_in
value_by true true f t = absurd t
value_by true false f t = refl
value_by false true f t = refl
value_by false false f t = refl

laid : (c : Config) (n base p k f rest flag number h upper lower v value : ℕ) → rest ≡ f - base % 0x800000 → flag ≡ flag_in (part_at (p % 16)) k →
    number ≡ k - (base / 0x800000 + 8 * flag) → h ≡ p / 0x10000 % 16 → upper ≡ pick (eqb h 10) 0 (rest / 65536) →
    lower ≡ pick (eqb h 0) (rest % 65536) 0 → v ≡ pick (eqb h 0) 0 (rest % 65536) → value ≡ pick (eqb h 10) rest v →
    ◌≡◌ {A = Fields} (record { row = n; flag = flag; number = number; upper = upper; lower = lower; value = value })
    (fields_in c n (unpack base p unsupported) k f)
unfolding fields_in layout_of
laid c n base p k f rest flag number h upper lower v value er ef en eh eupper elower ev evalue =
    let t = apart h (omega (arith, eh)) in
    rw (evalue, ev, elower, eupper, upper_by (eqb h 0) (eqb h 10) rest t, lower_by (eqb h 0) (eqb h 10) rest, value_by (eqb h 0) (eqb h 10) rest t, en, ef, eh, er, ← unused_code (p / 0x10000 % 16) (omega arith), ← target_code (p / 0x10000 % 16) (omega arith))

pub returns : goal.returns
returns c = laid _ _ _ _ _ _ _ _ _ _ _ _ _ _ c.saturating_sub-rest.ensures c.flag_in-flag.ensures.0 c.saturating_sub-number.ensures c.digit-holds.ensures c.pick.ensures c.pick-2.ensures c.pick-3.ensures c.pick-4.ensures
