-- What a writer leaves that takes any page and any place: the bytes t stored from `at` on where they have room, and else a place beyond the page, from which
-- no later writer finds room. So writers come one after another without a test between them, and the last place tells whether all had room.
use Rattle.std.specs.Prelude.{ℕ, ◌+◌, ◌≤◌, ◌<◌, ◌≡◌, List, length}
use Rattle.text.specs.Pages.{Wrote}

pub record Puts (p : List ℕ) (at : ℕ) (t : List ℕ) (r : ℕ) (q : List ℕ) : Type 0 where
  pub kept : length q ≡ length p
  pub fits : at + length t ≤ length p → Wrote p at t r q
  pub over : length p < at + length t → length p < r
