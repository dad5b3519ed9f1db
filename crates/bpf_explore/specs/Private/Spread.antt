-- Ends that came about by an exchange of two CPUs, after machines that came about by turns.
use Rattle.std.specs.Prelude.{◌≡◌, ℕ, ◌+◌, ◌<◌, List, [], ◌∷◌, length, map, slice_index_or, take}
use Rattle.bpf_machine.specs.Machine.{MachineState}
use Rattle.bpf_machine.specs.Schedule.{World}
use Rattle.bpf_equal.specs.Permutations.{Permutation, exchanged}
use Rattle.bpf_equal.specs.Worlds.{IsPermuted}
use Rattle.bpf_explore.specs.declared.explorer.Origin.{Origin}
use Rattle.bpf_explore.specs.declared.spread.Swap.{Swap}
use Rattle.bpf_explore.specs.Album.{HaveEndedAt, LeadsThrough}
use Rattle.bpf_explore.specs.Private.Peers.{AreStill}
use Rattle.bpf_explore.specs.Private.Trail.{AreOrigins, StayAndJoin}

-- runs that stay and join, that leave of jobs what turns leave, and that are permuted
pub record AreRuns (runs : World → List ℕ → World → Type 0) : Type 0 where
  pub join : StayAndJoin runs
  pub still : (cs : List ℕ) (w z : World) → runs w cs z → AreStill w.jobs z.jobs
  pub permuted : (cpus jobs : Permutation) (w v z : World) (schedule : List ℕ)
      → IsPermuted cpus jobs w v → runs w schedule z
      → (y : World) × runs v (map cpus.to schedule) y × IsPermuted cpus jobs z y

abbrev pub no_swap : Swap
no_swap = record { from = 0; one = 0; other = 0 }

abbrev pub swap_at : List Swap → ℕ → Swap
swap_at swaps s = slice_index_or swaps s no_swap

-- the schedule where two CPUs change places for each of these, the last of them first
abbrev pub exchanged_by : List Swap → List ℕ → List ℕ
exchanged_by [] schedule = schedule
exchanged_by (swap ∷ swaps) schedule =
    map (exchanged swap.one swap.other) (exchanged_by swaps schedule)

-- what leads to an earlier one, leads to the i-th, which has ended, where the two CPUs change places in it
pub record IsSwap (runs : World → List ℕ → World → Type 0) (kept : List MachineState) (i : ℕ)
    (swap : Swap) : Type 0 where
  pub before : swap.«from» < i
  pub ended : HaveEndedAt kept i
  pub leads : (schedule : List ℕ) → LeadsThrough runs kept 0 schedule swap.«from»
      → LeadsThrough runs kept 0 (map (exchanged swap.one swap.other) schedule) i

-- the first ones came about by turns, and each after them by an exchange
pub record AreSpread (runs : World → List ℕ → World → Type 0) (kept : List MachineState)
    (origins : List Origin) (swaps : List Swap) : Type 0 where
  pub turns : AreOrigins runs (take (length origins) kept) origins
  pub count : length kept ≡ length origins + length swaps
  pub each : (s : ℕ) → s < length swaps → IsSwap runs kept (length origins + s) (swap_at swaps s)
