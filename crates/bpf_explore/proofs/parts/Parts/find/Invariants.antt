use Rattle.std.specs.Prelude.{slice_get}
use Rattle.bpf_explore.proofs.SlotLaws.{Passed}
use Rattle.bpf_explore.proofs.KeptLaws.{IsPartOf}
use Rattle.bpf_explore.proofs.parts.Parts.find.Given as goal

abbrev pub invariant-loop-step : goal.invariant-loop-step
invariant-loop-step l = Passed l.self-inside.slots.items l.hash l.step (IsPartOf l.self-inside.kept.items (slice_get l.machine.jobs l.job))
