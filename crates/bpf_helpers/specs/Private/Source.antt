-- Where the bytes of a key or a value lie.
use Rattle.std.specs.Prelude.{◌≡◌, ◌≢◌, ℕ, ◌%◌, ◌<◌, None, is_some, true, List}
use Rattle.bpf_mem.specs.declared.memory.PrivateMemory.{PrivateMemory}
use Rattle.bpf_mem.specs.Memory.{bytes_at}
use Rattle.bpf_mem.specs.Place.{address_of, IsWithin}
use Rattle.bpf_shared.specs.declared.events.Span.{Span}
use Rattle.bpf_shared.specs.Shape.{Shape}
use Rattle.bpf_helpers.specs.declared.reading.Source.{Source}
use Rattle.bpf_helpers.specs.declared.reading.Source.TheVariants.{Private, Shared}
use Rattle.bpf_helpers.specs.Arrays.{array_start}
use Rattle.bpf_helpers.specs.Reads.{AreReached}

abbrev pub IsSource : Shape → PrivateMemory → List Span → ℕ → ℕ → Source → Type 0
IsSource h m held a n (Private place) =
    (address_of place ≡ a) × IsWithin m place n × (is_some (bytes_at m a n) ≡ true)
IsSource h m held a n Shared =
    (bytes_at m a n ≡ None) × AreReached h held a n × (a < array_start 16)

-- an array's key there can't be loaded at once
abbrev pub IsOdd : Source → ℕ → Type 0
IsOdd (Private place) a = ⊥
IsOdd Shared a = a % 4 ≢ 0
