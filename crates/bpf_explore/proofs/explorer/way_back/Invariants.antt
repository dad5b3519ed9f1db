use Rattle.std.proofs.Common.{◌<◌, List, length, reverse}
use Rattle.bpf_machine.specs.Machine.{MachineState}
use Rattle.bpf_machine.specs.Schedule.{unrolled}
use Rattle.bpf_explore.specs.Album.{LeadsThrough}
use Rattle.bpf_explore.specs.Private.Trail.{AreOrigins}
use Rattle.bpf_explore.proofs.explorer.way_back.Given as goal

abbrev pub invariant-loop-state : goal.invariant-loop-state
invariant-loop-state g l = record {
  inside : l.state < length l.origins;
  leads : (kept : List MachineState) → AreOrigins g.R.Runs.runs kept l.origins → LeadsThrough g.R.Runs.runs kept l.state
      (unrolled (reverse l.by.items)) l.place;
}

abbrev pub decreases-loop-state : goal.decreases-loop-state
decreases-loop-state g l = l.state
