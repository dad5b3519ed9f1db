use Rattle.std.proofs.Common.{take}
use Rattle.std.specs.Prelude.{All}
use Rattle.bpf_mem.specs.Saved.{IsFrame}
use Rattle.bpf_mem.proofs.frames.saving.are_frames.Given as goal

abbrev pub invariant-loop-frame : goal.invariant-loop-frame
invariant-loop-frame l = All IsFrame (take l.frame-index l.frames)
