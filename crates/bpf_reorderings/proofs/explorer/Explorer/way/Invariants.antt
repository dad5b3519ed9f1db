use Rattle.std.proofs.Common.{◌<◌, length, map, reverse}
use Rattle.bpf_machine.specs.Schedule.{unrolled}
use Rattle.bpf_buffering.specs.Search.{move_of}
use Rattle.bpf_reorderings.specs.Private.Trail.{LeadsBy}
use Rattle.bpf_reorderings.proofs.explorer.Explorer.way.Given as goal

abbrev pub invariant-loop-state : goal.invariant-loop-state
invariant-loop-state l = record {
  inside : l.state < length l.self-inside.album.kept;
  leads : LeadsBy l.self-inside.patient l.self-inside.album.kept l.state (map move_of (unrolled (reverse l.by.items))) l.place;
}

abbrev pub decreases-loop-state : goal.decreases-loop-state
decreases-loop-state l = l.state
