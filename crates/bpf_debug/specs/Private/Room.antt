-- Room for lines that are chosen later.
use Rattle.std.specs.Prelude.{◌≡◌, ℕ, ◌+◌, ◌≤◌, List, [], ◌∷◌, length, map, string_bytes, string_capacity, string_len}
use Rattle.bpf_debug.specs.declared.show.Shown.{Shown}

-- how many bytes some lines have
abbrev pub total : List (List ℕ) → ℕ
total [] = 0
total (line ∷ lines) = length line + total lines

-- a line for each register, and room for all of them
pub record HasRoom (s : Shown) : Type 0 where
  pub lines : length s.lines.items ≡ length s.registers
  pub room : string_len s.room + total (map string_bytes s.lines.items) ≤ string_capacity s.room
