-- Which address a place stands for.
use Rattle.std.specs.Prelude.{ℕ, ◌+◌, ◌<◌, ◌≤◌, length}
use Rattle.bpf_mem.specs.declared.memory.PrivateMemory.{PrivateMemory}
use Rattle.bpf_mem.specs.declared.place.Place.{Place}
use Rattle.bpf_mem.specs.declared.place.Place.TheVariants.{Context, Frame, Packet}
use Rattle.bpf_mem.specs.Addresses.{context_base, frame_base, packet_base}
use Rattle.bpf_mem.specs.Limits.{frame_bytes}

abbrev pub address_of : Place → ℕ
address_of (Context offset) = context_base + offset
address_of (Frame depth offset) = frame_base depth + offset
address_of (Packet offset) = packet_base + offset

-- n bytes from the place on lie in one area
abbrev pub IsWithin : PrivateMemory → Place → ℕ → Type 0
IsWithin m (Context offset) n = offset + n ≤ length m.context
IsWithin m (Packet offset) n = offset + n ≤ length m.packet
IsWithin m (Frame depth offset) n = (depth < length m.frames.live) × (offset + n ≤ frame_bytes)
