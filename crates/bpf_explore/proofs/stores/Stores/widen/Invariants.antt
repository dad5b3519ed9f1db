use Rattle.bpf_explore.specs.Private.Kept.{AreStoresPut}
use Rattle.bpf_explore.proofs.stores.Stores.widen.Given as goal

abbrev pub invariant-loop-number : goal.invariant-loop-number
invariant-loop-number l = AreStoresPut l.self-inside.kept.items l.slots.items l.number
