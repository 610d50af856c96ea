-- What the table of labels holds, answers and becomes. Nothing here is to be believed: proofs/labels/Laws.antt ties it to syntax's Labels.
use Rattle.std.specs.Prelude.{ℕ, suc, ◌≡◌, ◌<◌, List, length, set, Option}
use Rattle.syntax.specs.Labels.{Label}
use Rattle.assembler.specs.Chains.{lookup, Keyed, capped, place_of}
use Rattle.assembler.specs.Entries.{keys_of, places_of}
use Rattle.assembler.specs.declared.labels.Labels.{Labels}

-- the table holds these labels, the last one first
pub record Tabled (t : Labels) (labels : List Label) : Type 0 where
  pub many : t.count ≡ length labels
  pub keyed : Keyed (keys_of t.entries) (places_of t.entries) labels

-- the last entry of number x, and its address, if there is one

abbrev pub index_of : Labels → ℕ → Option ℕ
index_of t x = lookup (keys_of t.entries) t.count x

abbrev pub address_of : Labels → ℕ → Option ℕ
address_of t x = place_of (places_of t.entries) (index_of t x)

-- the table after label x is added
pub record Inserted (t : Labels) (x address : ℕ) (t' : Labels) : Type 0 where
  pub inside : t.count < length t.entries
  pub counted : t'.count ≡ suc t.count
  pub keys_set : keys_of t'.entries ≡ set (keys_of t.entries) t.count x
  pub places_set : places_of t'.entries ≡ set (places_of t.entries) t.count (capped address)
