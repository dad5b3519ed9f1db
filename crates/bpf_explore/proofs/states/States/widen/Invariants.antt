use Rattle.bpf_explore.specs.Private.States.{AreStatesPut}
use Rattle.bpf_explore.proofs.states.States.widen.Given as goal

abbrev pub invariant-loop-number : goal.invariant-loop-number
invariant-loop-number l = AreStatesPut l.self-inside.tuples l.self-inside.hashes.items l.slots.items l.number
