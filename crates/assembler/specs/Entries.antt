-- The columns of the table of labels (specs/Chains.antt).
use Rattle.std.specs.Prelude.{ℕ, List}
use Rattle.laws.specs.Lists.{column}
use Rattle.assembler.specs.declared.labels.Entry.{Entry}

abbrev pub keys_of : List Entry → List ℕ
keys_of = column (λ e. e.key)

abbrev pub places_of : List Entry → List ℕ
places_of = column (λ e. e.place)

abbrev pub nexts_of : List Entry → List ℕ
nexts_of = column (λ e. e.next)
