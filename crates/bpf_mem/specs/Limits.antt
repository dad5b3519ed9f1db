-- How much private memory a CPU has. The size of a frame is that of Linux, the rest our own choice.
use Rattle.std.specs.Prelude.{ℕ}

-- the bytes of a context, at most
abbrev pub max_context : ℕ
max_context = 4096

-- the bytes of a packet, at most
abbrev pub max_packet : ℕ
max_packet = 16384

-- the frames that can be live at once
abbrev pub max_frames : ℕ
max_frames = 8

-- the bytes of a frame
abbrev pub frame_bytes : ℕ
frame_bytes = 512
