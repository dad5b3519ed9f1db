-- The part of a value that is copied next.
use Rattle.std.specs.Prelude.{◌≡◌, ℕ, ◌<◌, ◌≤◌}
use Rattle.bpf_shared.specs.declared.events.Size.{Size}
use Rattle.bpf_shared.specs.declared.events.Size.TheVariants.{Byte, Half, Word, Double}

-- the part of this size is the next one, where so many bytes are left
abbrev pub IsNextPart : ℕ → Size → Type 0
IsNextPart rest Double = 8 ≤ rest
IsNextPart rest Word = (4 ≤ rest) × (rest < 8)
IsNextPart rest Half = (2 ≤ rest) × (rest < 4)
IsNextPart rest Byte = rest ≡ 1
