-- What the frames of one CPU hold. No definition here names the type of the code.
use Rattle.std.specs.Prelude.{◌≡◌, ℕ, ◌+◌, ◌≤◌, List, All, length, replicate}
use Rattle.bpf_mem.specs.Limits.{max_frames, frame_bytes}
use Rattle.bpf_mem.specs.declared.frames.Caller.{Caller}

-- The live frames, the oldest first, each its 512 bytes; and for each frame above the oldest what
-- its caller gets back, in the same order.
pub record Stack : Type 0 where
  pub live : List (List ℕ)
  pub callers : List Caller

-- 1 to 8 frames of 512 bytes, each above the oldest with its caller
pub record IsStack (stack : Stack) : Type 0 where
  pub some : 1 ≤ length stack.live
  pub bounded : length stack.live ≤ max_frames
  pub sized : All (λ frame. length frame ≡ frame_bytes) stack.live
  pub paired : length stack.callers + 1 ≡ length stack.live

-- a frame as a function finds it
unfoldable pub zeroed : List ℕ
zeroed = replicate frame_bytes 0
