use Rattle.bpf_explore.proofs.SlotLaws.{Passed}
use Rattle.bpf_explore.proofs.KeptLaws.{IsStoreOf}
use Rattle.bpf_explore.proofs.stores.Stores.find.Given as goal

abbrev pub invariant-loop-step : goal.invariant-loop-step
invariant-loop-step l = Passed l.self-inside.slots.items l.hash l.step (IsStoreOf l.self-inside.kept.items l.bytes)
