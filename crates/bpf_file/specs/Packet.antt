-- What a program is given to read with a packet: the first fields of Linux's structures
-- (include/uapi/linux/bpf.h), numbers of 32 bits each, low byte first.
use Rattle.std.specs.Prelude.{ℕ, ◌+◌, List, [], ◌∷◌, ◌++◌, get_or, length, replicate}
use Rattle.std.specs.Int.{w32, to_le_bytes}
use Rattle.bpf_mem.specs.Addresses.{packet_base}
use Rattle.bpf_file.specs.declared.packet.Hook.{Hook}
use Rattle.bpf_file.specs.declared.packet.Hook.TheVariants.{Xdp, Tc}

-- where a packet begins, and where one of n bytes ends
abbrev pub start_field : List ℕ
start_field = to_le_bytes w32 packet_base

abbrev pub end_field : ℕ → List ℕ
end_field n = to_le_bytes w32 (packet_base + n)

-- struct xdp_md: data, data_end, data_meta (of which there is none), ingress_ifindex, rx_queue_index,
-- egress_ifindex
abbrev pub xdp_context : ℕ → ℕ → List ℕ
xdp_context cpu n =
    start_field ++ end_field n ++ start_field ++ to_le_bytes w32 0 ++ to_le_bytes w32 cpu
    ++ to_le_bytes w32 0

-- the type of an Ethernet packet, as its bytes lie
abbrev pub protocol : List ℕ → List ℕ
protocol packet = get_or packet 12 0 ∷ get_or packet 13 0 ∷ 0 ∷ 0 ∷ []

-- struct __sk_buff: len, protocol, data, data_end and data_meta (of which there is none), and all else
-- is 0
abbrev pub tc_context : List ℕ → List ℕ
tc_context packet =
    to_le_bytes w32 (length packet) ++ replicate 12 0 ++ protocol packet ++ replicate 56 0
    ++ start_field ++ end_field (length packet) ++ replicate 56 0 ++ start_field ++ replicate 48 0

abbrev pub packet_context : Hook → ℕ → List ℕ → List ℕ
packet_context Xdp cpu packet = xdp_context cpu (length packet)
packet_context Tc cpu packet = tc_context packet
