-- The arrays after the frames: as long as their types say, with at least one frame live.
use Rattle.std.specs.Prelude.{◌≡◌, ◌≤◌, All, length}
use Rattle.bpf_mem.specs.Limits.{max_frames, frame_bytes}
use Rattle.bpf_mem.specs.declared.frames.Frames.TheInside.{Inside}

pub record IsFilled (s : Inside) : Type 0 where
  pub some : 1 ≤ s.live
  pub bounded : s.live ≤ max_frames
  pub frames : length s.frames ≡ max_frames
  pub callers : length s.callers ≡ max_frames
  pub sized : All (λ frame. length frame ≡ frame_bytes) s.frames
