-- Bytes that more was put after begin with what was there.
use Rattle.std.proofs.Common.{◌≡◌, ℕ, List, ◌++◌, Result, Ok, Err, OnErr}
use Rattle.std.specs.Io.{StartsWith}
use Rattle.std.proofs.Transfers.{starts_with_of_append, starts_with_trans}

-- so where memory is refused in a later part
pub still_starts : {A : Type 0} {E : Type 0} (r : Result A E) (old mid new more : List ℕ) → mid ≡ old ++ more → StartsWith new mid → OnErr r
    (StartsWith new old)
still_starts (Ok a) old mid new more e starts = tt
still_starts (Err x) old mid new more e starts = starts_with_trans new mid old starts (starts_with_of_append mid old more e)
