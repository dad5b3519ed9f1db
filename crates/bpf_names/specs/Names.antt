-- The names that a run file gives: of its maps and arrays, and of variables in arrays (our own
-- choice).
use Rattle.std.specs.Prelude.{ℕ, ◌+◌, ◌*◌, ◌==◌, ◌&&◌, nat_le, nat_lt, Bool, if◌then◌else◌, List, [], ◌∷◌, Option, Some, None, length, map, string_bytes}
use Rattle.std.specs.Str.{bytes_eq}
use Rattle.bpf_base.specs.Bytes.{little_endian, part}
use Rattle.bpf_shared.specs.declared.events.Size.{Size}
use Rattle.bpf_shared.specs.Access.{bytes_in}
use Rattle.bpf_shared.specs.Shape.{first_value, map_area}
use Rattle.bpf_names.specs.declared.names.Variable.{Variable as NamedBytes}
use Rattle.bpf_names.specs.declared.names.Names.{Names as Given}

-- a name for bytes of the first value of an array, as C has it for a global variable: the array's
-- number, where the bytes begin in the value, and their size
pub record Variable : Type 0 where
  pub name : List ℕ
  pub array : ℕ
  pub at : ℕ
  pub size : Size

-- those of the maps by their numbers, and after them those of the arrays; and the variables, in the
-- order of their lines
pub record Names : Type 0 where
  pub maps : List (List ℕ)
  pub variables : List Variable

-- of a file that names nothing
abbrev pub no_names : Names
no_names = record { maps = []; variables = [] }

-- ---- one variable

-- the number that its bytes of a value are, the lowest first; 0 where the value has fewer
abbrev pub number_in : Variable → List ℕ → ℕ
number_in v bytes =
    if nat_le (v.at + bytes_in v.size) (length bytes)
    then little_endian (part bytes v.at (bytes_in v.size)) else 0

-- the byte at this offset of the first value of an array is one of its bytes
abbrev pub has_byte : (array at : ℕ) → Variable → Bool
has_byte array at v =
    v.array == array && (nat_le v.at at && nat_lt at (v.at + bytes_in v.size))

-- where its bytes lie: arrays' areas follow those of sixteen maps
abbrev pub address_of : Variable → ℕ
address_of v = first_value + map_area * (16 + v.array) + v.at

-- the first that has a byte at this address
abbrev pub variable_at : ℕ → List Variable → Option Variable
variable_at a [] = None
variable_at a (v ∷ vs) =
    if nat_le (address_of v) a && nat_lt a (address_of v + bytes_in v.size)
    then Some v else variable_at a vs

-- the first of this name
abbrev pub variable_named : List ℕ → List Variable → Option Variable
variable_named name [] = None
variable_named name (v ∷ vs) = if bytes_eq v.name name then Some v else variable_named name vs

-- ---- what values of the program show

abbrev pub variable_of : NamedBytes → Variable
variable_of v = record {
  name = string_bytes v.name;
  array = v.array;
  at = v.at;
  size = v.size;
}

abbrev pub names_of : Given → Names
names_of n = record {
  maps = map string_bytes n.maps.items;
  variables = map variable_of n.variables.items;
}
