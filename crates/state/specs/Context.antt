-- The context, the word that JSRWP stores in %00 of the new bank and RETWP takes back from there, and what stands in it: "WP/16 in 31-26, SR in 25-20 (N bit
-- 21, Z bit 20, others 0), IMask 19-16, PC+1 in 15-0. RETWP takes them back from %00, ignoring 25-22."
use Rattle.std.specs.Prelude.{ℕ, ◌+◌, ◌*◌, ◌/◌, ◌%◌}
use Rattle.state.specs.declared.Core.{Core}

-- the context of a core at a JSRWP
unfoldable pub context_of : Core → ℕ
context_of m = 0x4000000 * (m.wp / 16) + 0x200000 * m.n + 0x100000 * m.z + 65536 * m.imask + (m.pc + 1)

-- WP, N, Z, the interrupt mask and the address in the context x

abbrev pub wp_in : ℕ → ℕ
wp_in x = 16 * (x / 0x4000000)

abbrev pub n_in : ℕ → ℕ
n_in x = x / 0x200000 % 2

abbrev pub z_in : ℕ → ℕ
z_in x = x / 0x100000 % 2

abbrev pub mask_in : ℕ → ℕ
mask_in x = x / 65536 % 16

abbrev pub address_in : ℕ → ℕ
address_in x = x % 65536
