-- Where the parts of the private memory begin. All of these are our own choice but the size of a
-- frame.
use Rattle.std.specs.Prelude.{ℕ, ◌+◌, ◌-◌, ◌*◌}
use Rattle.bpf_mem.specs.Limits.{frame_bytes}

-- where the packet begins: its addresses have 32 bits, as many as a context has room for
abbrev pub packet_base : ℕ
packet_base = 0x10000000

-- where the context begins
abbrev pub context_base : ℕ
context_base = 0x200000000

-- where the frame above d others begins
abbrev pub frame_base : ℕ → ℕ
frame_base d = 0x300000000 + 0x1000 * d

-- the end of the newest of some frames, which R10 holds (the calling convention of Linux)
abbrev pub top_of : ℕ → ℕ
top_of frames = frame_base (frames - 1) + frame_bytes
