-- Which maps and arrays a program may name.
use Rattle.std.specs.Prelude.{ℕ, ◌+◌, ◌<◌, ◌≤◌, ◌⊎◌}
use Rattle.bpf_loader.specs.declared.named.Named.{Named}

-- there is a map or an array of this number: arrays have those from 16 on (our own choice)
abbrev pub IsNamed : Named → ℕ → Type 0
IsNamed named m = (m < named.maps) ⊎ ((16 ≤ m) × (m < 16 + named.arrays))

-- there is none
abbrev pub IsUnknown : Named → ℕ → Type 0
IsUnknown named m = (named.maps ≤ m) × ((m < 16) ⊎ (16 + named.arrays ≤ m))
