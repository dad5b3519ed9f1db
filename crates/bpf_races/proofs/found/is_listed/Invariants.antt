use Rattle.std.proofs.Common.{◌≡◌, ℕ, ◌<◌, Some}
use Rattle.std.specs.Prelude.{slice_get}
use Rattle.bpf_races.specs.Races.{RaceFound, spot_of}
use Rattle.bpf_races.proofs.found.is_listed.Given as goal

abbrev pub invariant-loop-k : goal.invariant-loop-k
invariant-loop-k l = (i : ℕ) (race : RaceFound) → i < l.k → slice_get l.races i ≡ Some race → spot_of race ≡ spot_of l.race → ⊥
