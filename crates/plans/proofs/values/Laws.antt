-- What the readers of values.rt compute is state's Operands: past the ends of its lists.
-- Assumes nothing.
use Rattle.std.proofs.Common.{◌≡◌, ℕ, ◌+◌, ◌*◌, ◌%◌, ◌<◌, ◌≤◌, [], ◌∷◌, get_or, sym, ap, ◌∙◌}
use lib.ListN.{get_or-eq_default}
use Rattle.laws.specs.Lists.{get_d_inside}
use Rattle.words.specs.declared.Config.{Config}
use Rattle.state.specs.State.{top}
use Rattle.state.specs.Operands.{log2, special_register}

pub special_inside : (c : Config) (spr7 k a b d e : ℕ) → a ≡ 4096 * c.alumult + 1024 * c.alulevel + c.yamclk →
    b ≡ 256 * c.regwidth + 16 * log2 c.rmsize + log2 c.regsize → d ≡ log2 c.dmsize → e ≡ c.yamsreg3 → k < 4 →
    get_or (a ∷ b ∷ d ∷ e ∷ []) k 0 % top c ≡ special_register c spr7 k
unfolding special_register
special_inside c spr7 k a b d e p q r s h =
    ap (λ (x : ℕ). x % top c) (get_d_inside (a ∷ b ∷ d ∷ e ∷ []) k 0 spr7 h) ∙ rw (p, q, r, s)

pub special_beyond : (c : Config) (spr7 k : ℕ) → 4 ≤ k → spr7 % top c ≡ special_register c spr7 k
unfolding special_register
special_beyond c spr7 k h =
    ap (λ (x : ℕ). x % top c)
    (sym (
    get_or-eq_default
    ((4096 * c.alumult + 1024 * c.alulevel + c.yamclk) ∷
    (256 * c.regwidth + 16 * log2 c.rmsize + log2 c.regsize) ∷
    log2 c.dmsize ∷
    c.yamsreg3 ∷
    [])
    spr7
    h
    ))
