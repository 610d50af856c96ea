-- What the check promises of its answer r: the equation with the definition, and what is proved beside it.
use Rattle.std.specs.Prelude.{ℕ, ◌≡◌, List}
use Rattle.words.specs.declared.Config.{Config}
use Rattle.rules.specs.Check.{Answer, check_of, Exact}
use Rattle.rules.specs.Demand.{Demand3}
use Rattle.rules.specs.Claims.{NamesFirst, CaughtBy3}
use Rattle.certificate.specs.Demand.{Demand3Calls}

pub record Checks (c : Config) (image certificate : List ℕ) (r : Answer) : Type 0 where
  pub answer : r ≡ check_of c image certificate
  pub exact : Exact
  pub names_first : NamesFirst
  pub caught_by_3 : CaughtBy3
  pub demand3 : Demand3
  pub demand3_calls : Demand3Calls
