use Rattle.std.proofs.Common.{◌<◌, ℕ, List, length}
use Rattle.bpf_machine.specs.Schedule.{unrolled}
use Rattle.bpf_explore.specs.Album.{LeadsThrough}
use Rattle.bpf_explore.specs.Private.Spread.{exchanged_by}
use Rattle.bpf_explore.proofs.spread.Spread.way.Given as goal

abbrev pub invariant-loop-state : goal.invariant-loop-state
invariant-loop-state g l = record {
  inside : l.state < length l.self-inside.album.kept;
  leads : (schedule : List ℕ) → LeadsThrough g.R.Runs.runs l.self-inside.album.kept 0 schedule l.state
      → LeadsThrough g.R.Runs.runs l.self-inside.album.kept 0 (exchanged_by l.noted.items schedule) l.place;
}

abbrev pub decreases-loop-state : goal.decreases-loop-state
decreases-loop-state g l = l.state

abbrev pub invariant-loop-swap : goal.invariant-loop-swap
invariant-loop-swap g l = LeadsThrough g.R.Runs.runs l.self.kept 0 (exchanged_by l.noted.items (unrolled l.by.items)) l.place

abbrev pub decreases-loop-swap : goal.decreases-loop-swap
decreases-loop-swap g l = length l.noted.items
