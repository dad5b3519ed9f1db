use Rattle.std.proofs.Common.{ℕ, ◌<◌}
use Rattle.std.specs.Prelude.{slice_index_or}
use Rattle.bpf_mem.specs.declared.frames.Caller.{Caller}
use Rattle.bpf_loader.specs.Places.{IsStart}
use Rattle.bpf_cpu.proofs.ready.return_to_starts.Given as goal

abbrev pub invariant-loop-caller : goal.invariant-loop-caller
invariant-loop-caller l = (k : ℕ) (d : Caller) → k < l.caller-index → IsStart l.program.instructions (slice_index_or l.callers k d).return_pc
