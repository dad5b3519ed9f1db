-- Bytes of a packet, by addresses.
use Rattle.std.specs.Prelude.{ℕ, ◌+◌, ◌-◌, Bool, ◌&&◌, nat_le, List, length}
use Rattle.bpf_mem.specs.Addresses.{packet_base}

-- whether the packet has the n bytes from an address on
abbrev pub in_packet : List ℕ → ℕ → ℕ → Bool
in_packet packet a n = nat_le packet_base a && nat_le (a - packet_base + n) (length packet)
