use Rattle.std.proofs.Common.{◌≡◌}
use Rattle.bpf_names.specs.Names.{names_of}
use Rattle.bpf_machine.specs.Schedule.{World}
use Rattle.bpf_explore.specs.Private.Answers.{AreSorted, IsFirst, KeepsAll}
use Rattle.bpf_explore.specs.Private.Patience.{AllEndPatiently}
use Rattle.bpf_explore.proofs.dives.dive_patiently.Given as goal

abbrev pub invariant-loop-number : goal.invariant-loop-number
invariant-loop-number l = record {
  same : l.spread.kept ≡ l.fn.spread.kept;
  sorted : AreSorted l.answers.items;
  keeps : KeepsAll l.fn.answers.items l.answers.items;
  ends : (w : World) → IsFirst l.fn.spread.kept w → AllEndPatiently w (names_of l.names) l.maps l.answers.items;
}
