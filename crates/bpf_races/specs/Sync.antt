-- Bytes that are left out, by the texts that name them: `NAME` of a map or a variable, or
-- `NAME+AT:SIZE` of a map. Our own choice.
use Rattle.std.specs.Prelude.{◌≡◌, ℕ, ◌+◌, ◌^◌, ◌==◌, ◌⊎◌, Bool, nat_le, nat_lt, if◌then◌else◌, List, Option, Some, None, option_and_then}
use Rattle.std.specs.Prelude.{option_map, length, slice_get}
use Rattle.std.specs.List.{after_first, before_first}
use Rattle.bpf_schedule.specs.Spelling.{number_below}
use Rattle.bpf_shared.specs.declared.shapes.MapShape.{MapShape}
use Rattle.bpf_shared.specs.Access.{bytes_in}
use Rattle.bpf_shared.specs.Shape.{IsMap, element_stride, map_area}
use Rattle.bpf_names.specs.Names.{Names, Variable, variable_named}
use Rattle.bpf_races.specs.declared.sync.Part.{Part}
use Rattle.bpf_races.specs.Touch.{IsAmong}

-- ---- texts

abbrev pub is_mark : ℕ → ℕ → Bool
is_mark mark b = b == mark

-- the mark is in the text
abbrev pub has_mark : ℕ → List ℕ → Bool
has_mark mark text = nat_lt (length (before_first (is_mark mark) text)) (length text)

-- the bytes that a text spells by a number, `:` and a number: the first of them, and the one after the
-- last
abbrev pub range_of : List ℕ → Option (ℕ × ℕ)
range_of text =
    option_and_then (λ from. option_map (λ size. (from, from + size))
    (number_below (2 ^ 32) (after_first (is_mark 58) text)))
    (number_below (2 ^ 32) (before_first (is_mark 58) text))

-- the bytes of values of this size that a text names: all of them; or those that it spells after its
-- first `+`, if the values have them
abbrev pub range_in : List ℕ → ℕ → Option (ℕ × ℕ)
range_in text value = if has_mark 43 text
    then option_and_then (λ range. if nat_le range.1 value then Some range else None)
    (range_of (after_first (is_mark 43) text))
    else Some (0, value)

-- ---- of maps of these names and shapes, by their numbers

-- the text names these bytes of this map
pub record SaysOfMap (names : List (List ℕ)) (maps : List MapShape) (text : List ℕ) (part : Part)
    : Type 0 where
  pub shape : MapShape
  pub map : IsMap maps part.map shape
  pub named : slice_get names part.map ≡ Some (before_first (is_mark 43) text)
  pub stride : part.stride ≡ element_stride shape
  pub range : range_in text shape.value ≡ Some (part.from, part.past)

-- the bytes of a variable: counted from its array's first one, since they are of the first value
abbrev pub variable_part : Variable → Part
variable_part v = record {
  map = 16 + v.array;
  stride = map_area;
  from = v.at;
  past = v.at + bytes_in v.size;
}

-- the text names the variable of these bytes, or these of a map
abbrev pub Says : Names → List MapShape → (text : List ℕ) → Part → Type 0
Says names maps text part =
    (option_map variable_part (variable_named text names.variables) ≡ Some part)
    ⊎ SaysOfMap names.maps maps text part

-- these are the bytes that the texts name
pub record ArePartsOf (names : Names) (maps : List MapShape) (sync : List (List ℕ))
    (parts : List Part) : Type 0 where
  pub said : (part : Part) → IsAmong parts part
      → (text : List ℕ) × IsAmong sync text × Says names maps text part
  pub each : (text : List ℕ) → IsAmong sync text
      → (part : Part) × IsAmong parts part × Says names maps text part

-- one of the texts names none
abbrev pub IsAnyUnknown : Names → List MapShape → (sync : List (List ℕ)) → Type 0
IsAnyUnknown names maps sync = (text : List ℕ) × IsAmong sync text
    × ((part : Part) → Says names maps text part → ⊥)
