-- What a search found, as far as tests rest on it.
use Rattle.std.specs.Prelude.{ℕ, Bool, false, List, []}
use Rattle.bpf_explore.specs.Outcomes.{Found}

-- data races: a line each, as it is printed after a test, whether there is one, and whether they are all
pub record Raced : Type 0 where
  pub lines : List ℕ
  pub some : Bool
  pub all : Bool

-- none was looked for
abbrev pub no_races : Raced
no_races = record { lines = []; some = false; all = false }

-- the answers, whether they are all, how many states were kept, whether the search was patient, schedules
-- to states from which no end can be reached, and data races
pub record Findings : Type 0 where
  pub answers : List Found
  pub all : Bool
  pub states : ℕ
  pub patient : Bool
  pub hung : List (List (ℕ × ℕ))
  pub raced : Raced
