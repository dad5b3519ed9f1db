use Rattle.std.proofs.Common.{◌≡◌, ◌++◌, take}
use Rattle.std.specs.List.{flat_map}
use Rattle.bpf_mem.specs.Saved.{frame_saved}
use Rattle.bpf_mem.proofs.frames.saving.save_frames.Given as goal

abbrev pub invariant-loop-frame : goal.invariant-loop-frame
invariant-loop-frame l = l.out.items ≡ l.fn.out.items ++ flat_map frame_saved (take l.frame-index l.frames)
