-- Values of arrays that addresses name, and what an update of an array answers and copies.
use Rattle.std.specs.Prelude.{ℕ, ◌+◌, ◌-◌, ◌≤◌, ◌*◌, ◌/◌, ◌%◌, ◌^◌, nat_lt, nat_le, List, [], ◌∷◌, ◌++◌, Option, Some, None, ◌==◌}
use Rattle.std.specs.Prelude.{if◌then◌else◌, take, drop, replicate}
use Rattle.bpf_base.specs.Bytes.{little_endian}
use Rattle.bpf_shared.specs.declared.events.Event.{Event}
use Rattle.bpf_shared.specs.declared.events.Event.TheVariants.{Store}
use Rattle.bpf_shared.specs.declared.events.Size.{Size}
use Rattle.bpf_shared.specs.declared.events.Size.TheVariants.{Byte, Half, Word, Double}
use Rattle.bpf_shared.specs.declared.shapes.ArrayShape.{ArrayShape}
use Rattle.bpf_shared.specs.Access.{bytes_in}
use Rattle.bpf_shared.specs.Shape.{Shape, IsArray, IsWithin, first_value, map_area}

-- where an array's values begin
abbrev pub array_start : ℕ → ℕ
array_start a = first_value + map_area * (16 + a)

-- of an address from there on, the number of the array whose area it is in, and the offset in it
abbrev pub area_of : ℕ → ℕ
area_of at = (at - array_start 0) / map_area

abbrev pub offset_of : ℕ → ℕ
offset_of at = (at - array_start 0) % map_area

-- the n bytes from the address on are in one value of an array
pub record IsInArray (h : Shape) (at n : ℕ) : Type 0 where
  pub array : ArrayShape
  pub after : array_start 0 ≤ at
  pub is : IsArray h.arrays (area_of at) array
  pub within : IsWithin h.cpus array (offset_of at) n

-- ---- updates

-- the answer where no byte is copied (bpf-helpers(7); EINVAL 22, EPERM 1, E2BIG 7, EEXIST 17)
abbrev pub array_refusal : ArrayShape → ℕ → ℕ → Option ℕ
array_refusal g index flags =
    if nat_lt 2 flags then Some (2 ^ 64 - 22)
    else if g.frozen then Some (2 ^ 64 - 1)
    else if nat_le g.max index then Some (2 ^ 64 - 7)
    else if flags == 1 then Some (2 ^ 64 - 17)
    else None

-- in which parts a value of n bytes is copied: of eight bytes, then of four, two and one for the rest
abbrev pub parts_of : ℕ → List Size
parts_of n =
    replicate (n / 8) Double
    ++ (if nat_lt (n % 8) 4 then [] else Word ∷ [])
    ++ (if nat_lt (n % 4) 2 then [] else Half ∷ [])
    ++ (if n % 2 == 0 then [] else Byte ∷ [])

-- the bytes are copied in these parts, each read at once and then stored
abbrev pub copies : (ℕ → List ℕ → List Event) → ℕ → ℕ → List Size → List ℕ → List Event
copies reading from to [] bytes = []
copies reading from to (size ∷ sizes) bytes =
    reading from (take (bytes_in size) bytes)
    ++ Store to size (little_endian (take (bytes_in size) bytes))
    ∷ copies reading (from + bytes_in size) (to + bytes_in size) sizes (drop (bytes_in size) bytes)
