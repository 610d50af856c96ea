-- A bad line, and a malformed entry, has a number from 1 on. Assumes nothing.
use Prim.Native.Nat.{ℕ, suc, ◌+◌, ◌*◌}
use mathlib.Core.Bool.{Bool, true, false, not, ◌&&◌}
use mathlib.Core.List.{List, [], ◌∷◌}
use native.Mathlib.Omega.{arith}
use lib.Dec.{eqb, ltb}
use lib.ListN.{get_or, set}
use Rattle.laws.specs.Choice.{pick, either}
use Rattle.syntax.specs.Lines.{newline}
use Rattle.parsing.specs.Words.{Reading, good, bad, hex_value, before, words_from, words_in}
use Rattle.parsing.specs.Entries.{entries_of}
use Rattle.parsing.specs.Generics.{generic_count, given_by, malformed, gather, gathered_in}
use Rattle.parsing.specs.Claims.{LineFromOne, EntryFromOne}

before_counted : (w : ℕ) (r : Reading) → LineFromOne r → LineFromOne (before w r)
before_counted w (good ws) h = tt
before_counted w (bad k) h = omega arith

from_counted : (d v : ℕ) (t : List ℕ) → LineFromOne (words_from d v t)
unfolding words_from
from_counted d v [] = tt
from_counted d v (b ∷ t) =
    let rest = before v (words_from 0 0 t) in
    let more = words_from (suc d) (16 * v + hex_value b) t in
    either LineFromOne (eqb b newline) (pick (eqb d 0) (bad 1) rest) (pick (ltb (hex_value b) 16 && ltb d 8) more (bad 1))
    (λ _. either LineFromOne (eqb d 0) (bad 1) rest (λ _. omega arith) (λ _. before_counted v (words_from 0 0 t) (from_counted 0 0 t)))
    (λ _. either LineFromOne (ltb (hex_value b) 16 && ltb d 8) more (bad 1) (λ _. from_counted (suc d) (16 * v + hex_value b) t) (λ _. omega arith))

pub line_from_one : (t : List ℕ) → LineFromOne (words_in t)
unfolding words_in
line_from_one t = from_counted 0 0 t

gather_counted : (n : ℕ) (marks : List Bool) (vs : List ℕ) (es : List (List ℕ)) → EntryFromOne (gather n marks vs es)
unfolding gather
gather_counted n marks vs [] = tt
gather_counted n marks vs (e ∷ es) =
    let g = given_by e in
    let marks' = set marks g.place true in
    let vs' = set vs g.place g.value in
    either EntryFromOne (ltb g.place generic_count && not (get_or marks g.place false)) (gather (suc n) marks' vs' es) (malformed (suc n))
    (λ _. gather_counted (suc n) marks' vs' es) (λ _. omega arith)

pub entry_from_one : (t : List ℕ) → EntryFromOne (gathered_in t)
unfolding gathered_in
entry_from_one t = gather_counted 0 _ _ (entries_of t)
