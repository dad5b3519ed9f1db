-- How a helper reads its keys and values.
use Rattle.std.specs.Prelude.{◌≡◌, ◌≢◌, ℕ, ◌+◌, ◌%◌, ◌<◌, suc, true, ◌⊎◌, Some, None, is_some, List, [], ◌∷◌, length}
use Rattle.bpf_base.specs.Bytes.{little_endian}
use Rattle.bpf_mem.specs.declared.memory.PrivateMemory.{PrivateMemory}
use Rattle.bpf_mem.specs.Memory.{bytes_at}
use Rattle.bpf_shared.specs.declared.events.Span.{Span}
use Rattle.bpf_shared.specs.declared.events.Size.TheVariants.{Byte, Word}
use Rattle.bpf_shared.specs.declared.events.Event.{Event}
use Rattle.bpf_shared.specs.declared.events.Event.TheVariants.{Load}
use Rattle.bpf_shared.specs.Shape.{Shape}
use Rattle.bpf_helpers.specs.Arrays.{IsInArray}
use Rattle.bpf_helpers.specs.Held.{reaches}

-- each of the n bytes from the address on is in a value that is held, or in an array's
abbrev pub AreReached : Shape → List Span → ℕ → ℕ → Type 0
AreReached h held a n = (k : ℕ) → k < n → (reaches held (a + k) ≡ true) ⊎ IsInArray h (a + k) 1

-- the n bytes at an address are a CPU's own, or in values that its run may read
abbrev pub IsReadable : Shape → PrivateMemory → List Span → ℕ → ℕ → Type 0
IsReadable h m held a n = (is_some (bytes_at m a n) ≡ true) ⊎ AreReached h held a n

-- a load for each byte, by rising addresses
abbrev pub loads : ℕ → List ℕ → List Event
loads a [] = []
loads a (byte ∷ bytes) = Load a Byte byte ∷ loads (suc a) bytes

-- no load
abbrev pub no_loads : ℕ → List ℕ → List Event
no_loads a bytes = []

-- the n bytes at an address are these: a CPU's own are read as they are, bytes of values one by one
abbrev pub Reads : Shape → PrivateMemory → List Span → ℕ → ℕ → List ℕ → List Event → Type 0
Reads h m held a n bytes events =
    ((bytes_at m a n ≡ Some bytes) × (events ≡ []))
    ⊎ ((bytes_at m a n ≡ None) × AreReached h held a n × (length bytes ≡ n)
    × (events ≡ loads a bytes))

-- an array's key is four bytes, which are the index, little endian: a CPU's own, or four of values,
-- which are loaded at once

-- they can be read, but not at once
abbrev pub IsOddKey : Shape → PrivateMemory → List Span → ℕ → Type 0
IsOddKey h m held a = (bytes_at m a 4 ≡ None) × AreReached h held a 4 × (a % 4 ≢ 0)

abbrev pub ReadsIndex : Shape → PrivateMemory → List Span → ℕ → ℕ → List Event → Type 0
ReadsIndex h m held a index events =
    ((key : List ℕ) × (bytes_at m a 4 ≡ Some key) × (index ≡ little_endian key) × (events ≡ []))
    ⊎ ((bytes_at m a 4 ≡ None) × AreReached h held a 4 × (a % 4 ≡ 0)
    × (events ≡ Load a Word index ∷ []))
