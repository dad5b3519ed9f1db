use Rattle.bpf_explore.specs.Private.Kept.{ArePartsPut}
use Rattle.bpf_explore.proofs.parts.Parts.widen.Given as goal

abbrev pub invariant-loop-number : goal.invariant-loop-number
invariant-loop-number l = ArePartsPut l.self-inside.kept.items l.slots.items l.number
