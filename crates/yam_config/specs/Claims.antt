-- What shows that the generics are printed as `pack` reads them; `put_generics` cites it.
use Rattle.std.specs.Prelude.{◌^◌, ◌≡◌, Ok}
use Rattle.laws.specs.Test.{Below}
use Rattle.words.specs.declared.Config.{Config}
use Rattle.parsing.specs.Generics.{gathered_in, generics_of}
use Rattle.yam_config.specs.Generics.{values_of, generics_text}

-- "Packed again": the generics' text names the configuration that it was printed of. (Of the words' text parsing's `PrintedWords` says it.)
abbrev pub ReadBack : Type 0
ReadBack = (c : Config) → Below (2 ^ 32) (values_of c) → generics_of (gathered_in (generics_text c)) ≡ Ok c
