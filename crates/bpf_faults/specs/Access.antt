-- Which bytes an access and an address are about.
use Rattle.std.specs.Prelude.{◌≡◌, ◌⊎◌, ℕ, ◌+◌, ◌*◌, ◌<◌, ◌≤◌, ℤ, pos}
use Rattle.bpf_insn.specs.declared.register.Reg.{Reg}
use Rattle.bpf_insn.specs.declared.register.Reg.TheVariants.{R1}
use Rattle.bpf_insn.specs.declared.instruction.Insn.{Insn}
use Rattle.bpf_insn.specs.declared.instruction.Insn.TheVariants as insn
use Rattle.bpf_mem.specs.Addresses.{context_base, packet_base}
use Rattle.bpf_mem.specs.Bytes.{length_of, size_of}
use Rattle.bpf_mem.specs.Limits.{max_context, max_packet}
use Rattle.bpf_helpers.specs.Arrays.{array_start}
use Rattle.bpf_helpers.specs.Calls.{lock_number, unlock_number}
use Rattle.bpf_shared.specs.declared.shapes.ArrayShape.{ArrayShape}
use Rattle.bpf_shared.specs.Shape.{array_stride, copies, first_value, fixed_span, map_area}
use Rattle.bpf_cpu.specs.Row.{plain_size}
use Rattle.bpf_faults.specs.declared.area.Region.{Region}
use Rattle.bpf_faults.specs.declared.area.Region.TheVariants.{Array, Context, Packet, Values, Other}

-- the instruction loads or stores bytes itself: this many, at this register's value and this offset
-- from it (RFC 9669, section 5); or it takes or frees the lock at R1, which has four bytes
abbrev pub Accesses : Insn → (base : Reg) → (offset : ℤ) → (length : ℕ) → Type 0
Accesses (insn.Load z d b o) base offset length =
    (b ≡ base) × (o ≡ offset) × (length_of z ≡ length)
Accesses (insn.LoadSigned z d b o) base offset length =
    (b ≡ base) × (o ≡ offset) × (length_of (plain_size z) ≡ length)
Accesses (insn.StoreImmediate z b o n) base offset length =
    (b ≡ base) × (o ≡ offset) × (length_of z ≡ length)
Accesses (insn.Store z b o s) base offset length =
    (b ≡ base) × (o ≡ offset) × (length_of z ≡ length)
Accesses (insn.Atomic w op b o s) base offset length =
    (b ≡ base) × (o ≡ offset) × (length_of (size_of w) ≡ length)
Accesses (insn.CallHelper n) base offset length =
    ((n ≡ lock_number) ⊎ (n ≡ unlock_number)) × (R1 ≡ base) × (pos 0 ≡ offset) × (4 ≡ length)
Accesses _ base offset length = ⊥

-- the address is one of the context's, however long it may be
abbrev pub IsOfContext : ℕ → Type 0
IsOfContext address = (context_base ≤ address) × (address < context_base + max_context)

-- or one of a packet's
abbrev pub IsOfPacket : ℕ → Type 0
IsOfPacket address = (packet_base ≤ address) × (address < packet_base + max_packet)

-- what an address is for: areas of arrays follow those of sixteen maps, and are counted on past the
-- last one that may be there
abbrev pub IsInRegion : ℕ → Region → Type 0
IsInRegion address Context = IsOfContext address
IsInRegion address Packet = IsOfPacket address
IsInRegion address (Values map) = (first_value + map_area * map ≤ address)
    × (address < first_value + map_area * (map + 1)) × (map < 16)
IsInRegion address (Array array) = (array_start array ≤ address) × (address < array_start (array + 1))
IsInRegion address Other =
    (address < first_value) × (IsOfContext address → ⊥) × (IsOfPacket address → ⊥)

-- the value of the i-th index of the k-th CPU, which begins at this place, has the byte at the
-- address or ends last before it
pub record IsAt (cpus a : ℕ) (g : ArrayShape) (k i at address : ℕ) : Type 0 where
  pub has_copy : k < copies cpus g
  pub has_index : i < g.max
  pub is : at ≡ (fixed_span a g k i).at
  pub from : at ≤ address
  pub to : address < at + array_stride g
