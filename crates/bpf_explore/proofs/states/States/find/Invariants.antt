use Rattle.bpf_explore.specs.Tuples.{IsTuple}
use Rattle.bpf_explore.proofs.SlotLaws.{Passed}
use Rattle.bpf_explore.proofs.states.States.find.Given as goal

abbrev pub invariant-loop-step : goal.invariant-loop-step
invariant-loop-step l = Passed l.self-inside.slots.items l.hash l.step (λ n. IsTuple l.fn.self.tuples n l.numbers)
