-- What a CPU sees while stores wait: of each byte its own newest store, or else memory; and nothing
-- of another CPU's buffer.
use Rattle.std.specs.Prelude.{◌≡◌, ◌≢◌, ℕ, ◌+◌, ◌-◌, ◌<◌, nat_le, nat_lt, Bool, ◌&&◌, if◌then◌else◌, List, [], ◌∷◌, Option, slice_get}
use Rattle.bpf_base.specs.Bytes.{little_endian, low_bytes}
use Rattle.bpf_shared.specs.Access.{bytes_in}
use Rattle.bpf_shared.specs.declared.events.Size.{Size}
use Rattle.bpf_shared.specs.declared.events.Event.{Event}
use Rattle.bpf_shared.specs.declared.events.Event.TheVariants.{Load, Store}
use Rattle.bpf_shared.specs.Store.{Plain, IsLive}
use Rattle.bpf_shared.specs.Sound.{IsSoundStore}
use Rattle.bpf_x86.specs.Buffers.{Buffered, Sees, Calls}

-- the address is one of the n from a on
abbrev pub within : ℕ → ℕ → ℕ → Bool
within a n b = nat_le a b && nat_lt b (a + n)

-- the byte at the address b after a store of n bytes at a
abbrev pub written : ℕ → ℕ → ℕ → ℕ → Option ℕ → Option ℕ
written a n x b old = if within a n b then slice_get (low_bytes n x) (b - a) else old

abbrev pub byte_after : Event → ℕ → Option ℕ → Option ℕ
byte_after (Store a size x) b old = written a (bytes_in size) x b old
byte_after _ b old = old

-- and after several, the oldest first
abbrev pub overlaid : List Event → ℕ → Option ℕ → Option ℕ
overlaid [] b old = old
overlaid (e ∷ es) b old = overlaid es b (byte_after e b old)

-- what waits are stores alone
abbrev pub AreStores : List Event → Type 0
AreStores [] = Unit {0}
AreStores (Store a size x ∷ es) = AreStores es
AreStores (e ∷ es) = ⊥

-- each byte of a value is what the CPU's newest waiting store to it wrote, or else memory's
abbrev pub NewestStoresAreSeen : Type 0
NewestStoresAreSeen = (b : Buffered) (c : ℕ) (s : Plain) → IsSoundStore b.memory
    → AreStores (b.buffers c) → Sees b c s → (v i : ℕ) → IsLive b.memory v
    → i < (b.memory.value v).span.size
    → slice_get (s.value v).bytes i
    ≡ overlaid (b.buffers c) ((b.memory.value v).span.at + i) (slice_get (b.memory.value v).bytes i)

-- a load of what the CPU stored last finds it, whatever waits
abbrev pub LoadsFindOwnStores : Type 0
LoadsFindOwnStores = (b m t : Buffered) (c a : ℕ) (size : Size) (x found : ℕ)
    → IsSoundStore b.memory → Calls b c (Store a size x) m → Calls m c (Load a size found) t
    → found ≡ little_endian (low_bytes (bytes_in size) x)

-- another CPU's calls find what they find without it
abbrev pub OthersDontSeeStores : Type 0
OthersDontSeeStores = (b m t : Buffered) (c d a : ℕ) (size : Size) (x : ℕ) (e : Event)
    → d ≢ c → Calls b c (Store a size x) m → Calls m d e t
    → (u : Buffered) × Calls b d e u × (u.memory ≡ t.memory) × (u.buffers d ≡ t.buffers d)
