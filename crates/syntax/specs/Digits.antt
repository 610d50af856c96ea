-- Numbers as text: so many digits to a base, the highest first.
use Rattle.std.specs.Prelude.{ℕ, zero, suc, ◌+◌, ◌/◌, ◌%◌, List, [], ◌∷◌, ◌++◌, ltb}
use Rattle.laws.specs.Choice.{pick}

-- the low w digits of n to the base b, each as f has it
unfoldable pub spelled : (ℕ → ℕ) → ℕ → ℕ → ℕ → List ℕ
spelled f b zero n = []
spelled f b (suc w) n = spelled f b w (n / b) ++ (f (n % b) ∷ [])

-- "small letters for digits": the hex digit of d, below 16
unfoldable pub digit : ℕ → ℕ
digit d = pick (ltb d 10) (d + 48) (d + 87)

abbrev pub hex : ℕ → ℕ → List ℕ
hex w n = spelled digit 16 w n

-- the w bytes that a number packs
abbrev pub unpacked : ℕ → ℕ → List ℕ
unpacked w n = spelled (λ x. x) 256 w n
