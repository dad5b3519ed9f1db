use Rattle.std.proofs.Common.{take}
use Rattle.std.specs.Prelude.{All}
use Rattle.bpf_mem.specs.Saved.{IsCaller}
use Rattle.bpf_mem.proofs.frames.saving.are_callers.Given as goal

abbrev pub invariant-loop-caller : goal.invariant-loop-caller
invariant-loop-caller l = All IsCaller (take l.caller-index l.callers)
