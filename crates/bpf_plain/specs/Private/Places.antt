-- Where among the bytes of a `PlainStore`'s arrays an address is.
use Rattle.std.specs.Prelude.{ℕ, ◌-◌, ◌/◌, ◌%◌}

-- the array in whose area the address is
abbrev pub array_at : ℕ → ℕ
array_at a = (a - 0x10_0000_0000) / 0x1000_0000 - 16

-- its offset from the array's first value
abbrev pub offset_at : ℕ → ℕ
offset_at a = (a - 0x10_0000_0000) % 0x1000_0000
