-- What a lawful configuration is known to have, as image files need it. Assumes nothing.
use Rattle.std.proofs.Common.{◌≡◌, ℕ, ◌<◌, ◌≤◌, true, T, ltb, List, inl, inr, arith, ltb→lt}
use Rattle.laws.specs.Choice.{true_is}
use Rattle.laws.specs.Test.{test, Holds, holds, Member, Below}
use Rattle.laws.specs.Lists.{all, all_at, ◌also◌}
use Rattle.words.specs.declared.Config.{Config}
use Rattle.words.specs.Configs.{lawful, lawful_banks, widths, register_sizes, bank_sizes, data_sizes}
use Rattle.image.specs.Storing.{head_of}

pub size : (c : Config) → Holds (lawful c) → (0 < c.imsize) × (c.imsize ≤ 32768)
unfolding lawful
size c h = h.0.1

pub size_of : (c : Config) → test (lawful c) ≡ true → (0 < c.imsize) × (c.imsize ≤ 32768)
size_of c e = size c (holds (lawful c) (true_is _ e))

-- what block 0 does not carry is fixed
pub record Fixed (c : Config) : Type 0 where
  pub imwidth : c.imwidth ≡ 32
  pub alu3op : c.alu3op ≡ 0
  pub irqif : c.irqif ≡ 0
  pub copmsize : c.copmsize ≡ 0
  pub yamdbg : c.yamdbg ≡ 0

pub fixed : (c : Config) → Holds (lawful c) → Fixed c
unfolding lawful
fixed c h =
    let r = h.1.1.1.1.1.1.1 in
    record { imwidth = h.0.0; alu3op = r.0; irqif = r.1.0; copmsize = r.1.1.0; yamdbg = r.1.1.1 }

-- what block 0 carries is small
one_of : (n : ℕ) (xs : List ℕ) → T (all (λ x. ltb x 0x100000000) xs) → Member n xs → n < 0x100000000
one_of n xs t m = ltb→lt n 0x100000000 (all_at (λ x. ltb x 0x100000000) xs n t m)

banked : (rm size width : ℕ) → size < 0x100000000 → Holds (lawful_banks width size rm) → rm < 0x100000000
banked rm size width h (inl e) = omega arith
banked rm size width h (inr b) = one_of rm bank_sizes tt b.1.1

pub small : (c : Config) → Holds (lawful c) → Below 0x100000000 (head_of c)
unfolding lawful head_of
small c h =
    let i = h.0 in
    let g = h.1.0 in
    let b = h.1.1.0 in
    let m = h.1.1.1.0 in
    let o = h.1.1.1.1.0 in
    let r = h.1.1.1.1.1 in
    let w = one_of c.regwidth widths tt g.0 in
    let z = one_of c.regsize register_sizes tt g.1 in
    let d = one_of c.dmsize data_sizes tt m.1.1.0 in
    let k = banked c.rmsize c.regsize c.regwidth z b in
    omega arith also omega arith also omega arith also omega arith also omega arith also omega arith also omega arith also omega arith also omega arith also omega arith also omega arith also omega arith also omega arith also omega arith also tt
