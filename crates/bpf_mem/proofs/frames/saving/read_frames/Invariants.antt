use Rattle.std.proofs.Common.{◌≡◌, ◌++◌, length, take}
use Rattle.std.specs.Prelude.{All}
use Rattle.std.specs.List.{flat_map}
use Rattle.bpf_mem.specs.Limits.{frame_bytes}
use Rattle.bpf_mem.specs.Saved.{frame_saved, IsFrame}
use Rattle.bpf_mem.proofs.frames.saving.read_frames.Given as goal

abbrev pub invariant-loop-depth : goal.invariant-loop-depth
invariant-loop-depth l = record {
  sized : All (λ frame. length frame ≡ frame_bytes) l.frames;
  each : All IsFrame (take l.depth l.frames);
  read : l.bytes ≡ flat_map frame_saved (take l.depth l.frames) ++ l.rest;
}
