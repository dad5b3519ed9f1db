-- What the names of a run file stand for in its programs (our own choice).
use Rattle.std.specs.Prelude.{ℕ, ◌+◌, ◌-◌, ◌*◌, nat_lt, if◌then◌else◌, List, [], ◌∷◌, length, slice_get, Option, Some, None}
use Rattle.std.specs.Option.{option_map, option_or}
use Rattle.std.specs.Str.{bytes_eq}
use Rattle.bpf_shared.specs.Shape.{first_value, map_area}
use Rattle.bpf_shared.specs.declared.shapes.ArrayShape.{ArrayShape}
use Rattle.bpf_text.specs.declared.symbols.Symbol.{Symbol}
use Rattle.bpf_text.specs.declared.symbols.Symbol.TheVariants as symbol
use Rattle.bpf_text.specs.Symbols.{Table}
use Rattle.bpf_names.specs.Names.{Variable, address_of}
use Rattle.bpf_file.specs.File.{File}
use Rattle.bpf_file.specs.Version.{has_arrays}
use Rattle.bpf_file.specs.Parts.{Part}

-- an array by its number: arrays' numbers and areas follow those of sixteen maps, and where each
-- CPU has its own values there is no one address
abbrev pub array_symbol : ℕ → ArrayShape → Symbol
array_symbol a g =
    if g.per_cpu then symbol.Map (16 + a)
    else symbol.Array (16 + a) (first_value + map_area * (16 + a))

-- what the k-th name of maps and arrays stands for, where there are this many maps
abbrev pub symbol_at : ℕ → List ArrayShape → ℕ → Option Symbol
symbol_at maps arrays k =
    if nat_lt k maps then Some (symbol.Map k)
    else option_map (array_symbol (k - maps)) (slice_get arrays (k - maps))

-- the names of maps and arrays, from the k-th on
abbrev pub maps_from : (ℕ → Option Symbol) → ℕ → List (List ℕ) → Table
maps_from symbol_at k [] q = None
maps_from symbol_at k (n ∷ ns) q =
    option_or (if bytes_eq n q then symbol_at k else None) (maps_from symbol_at (k + 1) ns q)

abbrev pub variables_from : List Variable → Table
variables_from [] q = None
variables_from (v ∷ vs) q =
    option_or (if bytes_eq v.name q then Some (symbol.Variable (address_of v)) else None)
    (variables_from vs q)

-- the names of maps, arrays and variables
abbrev pub symbols_of : File → Table
symbols_of f q =
    option_or (maps_from (symbol_at (length f.maps) f.arrays) 0 f.names.maps q)
    (variables_from f.names.variables q)

-- THE TABLE of names that programs may use, in files that may have arrays
abbrev pub names_for : Part → Option Table
names_for p = if has_arrays p.version then Some (symbols_of p.file) else None
