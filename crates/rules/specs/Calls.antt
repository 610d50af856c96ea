-- A list of step and run calls: what each comes to, from the state that the last one left.
use Rattle.std.specs.Prelude.{List, [], ◌∷◌}
use Rattle.state.specs.State.{Env, State}
use Rattle.state.specs.Calls.{Call, Done, call_of}

-- "Each call gets the machine, memories and log that the last one returned or left", all the same configuration, image and inputs
unfoldable pub trace : Env → List Call → State → List (Call × Done)
trace e [] s = []
trace e (c ∷ cs) s = let d = call_of e c s in (c, d) ∷ trace e cs d.last
