-- MUL (5.4): the low 16 bits of each, the product's low w bits. "SPR7 takes product bits W+15 to W if W ≤ 16, else 0" (4.7).
use Rattle.std.specs.Prelude.{ℕ, ◌*◌, ◌/◌, ◌%◌, ◌^◌, nat_le}
use Rattle.laws.specs.Choice.{pick}
use Rattle.arith.specs.declared.Product.{Product}

unfoldable pub mul_of : ℕ → ℕ → ℕ → Product
mul_of w a b =
    let p = a % 65536 * (b % 65536) in
    record { value = p % 2 ^ w; high = pick (nat_le w 16) (p / 2 ^ w % 65536) 0 }
