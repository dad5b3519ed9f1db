-- The memory that a program reaches on its own, by addresses: its packet, its context and its live
-- frames.
use Rattle.std.specs.Prelude.{◌≡◌, ℕ, zero, suc, ◌+◌, ◌-◌, ◌<◌, ◌≤◌, ◌⊎◌, nat_lt, if◌then◌else◌, Option, Some, None, option_map}
use Rattle.std.specs.Prelude.{option_and_then, List, [], ◌∷◌, ◌++◌, length, map, slice_get}
use Rattle.std.specs.Option.{option_or}
use Rattle.bpf_mem.specs.declared.memory.PrivateMemory.{PrivateMemory}
use Rattle.bpf_mem.specs.Addresses.{context_base, frame_base, packet_base}
use Rattle.bpf_base.specs.Bytes.{little_endian}

-- bytes at consecutive addresses
pub record Area : Type 0 where
  pub base : ℕ
  pub bytes : List ℕ

-- the frames above d others
abbrev pub frame_areas : ℕ → List (List ℕ) → List Area
frame_areas d [] = []
frame_areas d (bytes ∷ frames) =
    record { base = frame_base d; bytes = bytes } ∷ frame_areas (suc d) frames

-- what a program reaches: the frames of the functions that haven't returned, its context, and its
-- packet
abbrev pub areas : PrivateMemory → List Area
areas m =
    frame_areas 0 m.frames.live
    ++ record { base = context_base; bytes = m.context }
    ∷ record { base = packet_base; bytes = m.packet } ∷ []

-- the byte that an area has at an address
abbrev pub byte_in : Area → ℕ → Option ℕ
byte_in area address = if nat_lt address area.base then None
    else slice_get area.bytes (address - area.base)

-- the byte at an address of some area
unfoldable pub byte_among : List Area → ℕ → Option ℕ
byte_among [] address = None
byte_among (area ∷ others) address = option_or (byte_in area address) (byte_among others address)

-- the byte at an address; `None` where no area reaches
unfoldable pub byte_at : PrivateMemory → ℕ → Option ℕ
byte_at m address = byte_among (areas m) address

-- the n bytes from an address on; `None` where one of them is missing
unfoldable pub bytes_at : PrivateMemory → ℕ → ℕ → Option (List ℕ)
bytes_at m address zero = Some []
bytes_at m address (suc n) =
    option_and_then (λ byte. option_map (λ bytes. byte ∷ bytes) (bytes_at m (suc address) n))
    (byte_at m address)

-- the number whose n bytes are at an address
abbrev pub number_at : PrivateMemory → ℕ → ℕ → Option ℕ
number_at m address n = option_map little_endian (bytes_at m address n)

-- The new memory has these bytes at an address, and all else as the old one has it.
pub record Writes (old : PrivateMemory) (address : ℕ) (bytes : List ℕ)
    (new : PrivateMemory) : Type 0 where
  pub written : bytes_at new address (length bytes) ≡ Some bytes
  pub others : (other : ℕ) → (other < address) ⊎ (address + length bytes ≤ other)
      → byte_at new other ≡ byte_at old other
  pub frames : map length new.frames.live ≡ map length old.frames.live
  pub context : length new.context ≡ length old.context
  pub packet : length new.packet ≡ length old.packet
  pub callers : new.frames.callers ≡ old.frames.callers
