use Rattle.std.proofs.Common.{◌≡◌, ◌++◌, take}
use Rattle.std.specs.List.{flat_map}
use Rattle.bpf_mem.specs.Saved.{caller_saved}
use Rattle.bpf_mem.proofs.frames.saving.save_callers.Given as goal

abbrev pub invariant-loop-caller : goal.invariant-loop-caller
invariant-loop-caller l = l.out.items ≡ l.fn.out.items ++ flat_map caller_saved (take l.caller-index l.callers)
