use Rattle.std.proofs.Common.{◌≡◌, ◌++◌, take}
use Rattle.std.specs.Prelude.{All}
use Rattle.std.specs.List.{flat_map}
use Rattle.bpf_mem.specs.Saved.{caller_saved, IsCaller}
use Rattle.bpf_mem.proofs.frames.saving.read_callers.Given as goal

abbrev pub invariant-loop-i : goal.invariant-loop-i
invariant-loop-i l = record {
  each : All IsCaller (take l.i l.callers);
  read : l.bytes ≡ flat_map caller_saved (take l.i l.callers) ++ l.rest;
}
