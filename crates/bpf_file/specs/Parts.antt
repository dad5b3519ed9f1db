-- How far a run file goes: what the lines before one have said, and which line may follow (our
-- own choice).
use Rattle.std.specs.Prelude.{ℕ, ◌+◌, ◌-◌, ◌==◌, ◌&&◌, ◌||◌, nat_le, nat_lt, Bool, if◌then◌else◌, is_some, List, [], ◌∷◌, ◌++◌, length}
use Rattle.std.specs.Prelude.{slice_index_or, slice_set, Option, Some, None}
use Rattle.std.specs.Option.{option_map}
use Rattle.std.specs.Str.{bytes_eq}
use Rattle.bpf_shared.specs.declared.shapes.ArrayShape.{ArrayShape}
use Rattle.bpf_shared.specs.declared.shapes.MapShape.{MapShape}
use Rattle.bpf_names.specs.Names.{Names, Variable, no_names, variable_named}
use Rattle.bpf_pairs.specs.Pairs.{Pair}
use Rattle.bpf_loader.specs.Loaded.{Loaded}
use Rattle.bpf_cpu.specs.Task.{Task}
use Rattle.bpf_file.specs.Limits.{most_programs, most_jobs}
use Rattle.bpf_file.specs.declared.key.Key.TheVariants as key
use Rattle.bpf_file.specs.declared.version.Version.{Version}
use Rattle.bpf_file.specs.declared.version.Version.TheVariants.{First}
use Rattle.bpf_file.specs.Key.{is_key}
use Rattle.bpf_file.specs.File.{File}
use Rattle.bpf_file.specs.Contents.{laid}

-- the group of the last line that said something, 0 before the first one; the version, by the first
-- line; the programs' names by their numbers; and the file as far as it goes
pub record Part : Type 0 where
  pub group : ℕ
  pub version : Version
  pub titles : List (List ℕ)
  pub file : File

-- after a line that is no program's; or after some lines of a program's assembly: the line of its
-- `prog`, its name, and those lines
pub data State : Type 0 where
  Between : Part → State
  Within : Part → ℕ → List ℕ → List (List ℕ) → State

-- before the first line
abbrev pub nothing : Part
nothing = record {
  group = 0;
  version = First;
  titles = [];
  file = record {
    cpus = 1;
    seed = 0;
    names = no_names;
    maps = [];
    arrays = [];
    contents = [];
    pairs = [];
    programs = [];
    jobs = [];
  };
}

-- ---- groups

-- the group of a line, by its first word: the first line, CPUs, seed, maps, arrays, arrays' bytes,
-- variables and pairs, programs, jobs; more than that for a line of none
abbrev pub group_of : List ℕ → ℕ
group_of word =
    if is_key key.RunFile word then 1
    else (if is_key key.Cpus word then 2
    else (if is_key key.Seed word then 3
    else (if is_key key.Map word then 4
    else (if is_key key.Array word then 5
    else (if (is_key key.Data word || is_key key.Variable word) || is_key key.Put word then 6
    else (if is_key key.Program word then 7
    else (if is_key key.Job word then 8
    else 9)))))))

-- groups follow one another in this order; those from the maps on have many lines
abbrev pub is_in_order : ℕ → ℕ → Bool
is_in_order last group = nat_lt last group || ((last == group) && nat_le 4 group)

-- as many programs or jobs as there may be
abbrev pub is_full : Part → ℕ → Bool
is_full p group =
    ((group == 7) && nat_le most_programs (length p.titles))
    || ((group == 8) && nat_le most_jobs (length p.file.jobs))

-- ---- names

-- the number of the first of this name
abbrev pub place_of : List ℕ → List (List ℕ) → Option ℕ
place_of name [] = None
place_of name (n ∷ ns) =
    if bytes_eq n name then Some 0 else option_map (λ k. k + 1) (place_of name ns)

-- the number of the array of this name: arrays' names follow those of the maps
abbrev pub past : ℕ → Option ℕ → Option ℕ
past maps (Some k) = if nat_lt k maps then None else Some (k - maps)
past maps None = None

abbrev pub array_place : File → List ℕ → Option ℕ
array_place f name = past (length f.maps) (place_of name f.names.maps)

-- a map, an array or a variable has this name
abbrev pub is_taken : File → List ℕ → Bool
is_taken f name =
    is_some (place_of name f.names.maps) || is_some (variable_named name f.names.variables)

-- with one name more, of a map or an array
abbrev pub with_name : Names → List ℕ → Names
with_name n name = record n { maps = n.maps ++ name ∷ [] }

-- ---- what one more line adds

abbrev pub with_first : Part → Version → Part
with_first p version = record p { group = 1; version = version }

abbrev pub with_cpus : Part → ℕ → Part
with_cpus p n = record p { group = 2; file = record p.file { cpus = n } }

abbrev pub with_seed : Part → ℕ → Part
with_seed p n = record p { group = 3; file = record p.file { seed = n } }

abbrev pub with_map : Part → List ℕ → MapShape → Part
with_map p name h = record p {
  group = 4;
  file = record p.file { names = with_name p.file.names name; maps = p.file.maps ++ h ∷ [] };
}

-- one that has nothing but zeros at first
abbrev pub with_array : Part → List ℕ → ArrayShape → Part
with_array p name g = record p {
  group = 5;
  file = record p.file {
    names = with_name p.file.names name;
    arrays = p.file.arrays ++ g ∷ [];
    contents = p.file.contents ++ [] ∷ [];
  };
}

-- bytes of the a-th array from an offset on
abbrev pub with_data : Part → ℕ → ℕ → List ℕ → Part
with_data p a at bytes = record p {
  group = 6;
  file = record p.file {
    contents = slice_set p.file.contents a (laid (slice_index_or p.file.contents a []) at bytes);
  };
}

-- one pair of a map more
abbrev pub with_pair : Part → Pair → Part
with_pair p pair = record p {
  group = 6;
  file = record p.file { pairs = p.file.pairs ++ pair ∷ [] };
}

-- one variable more
abbrev pub with_variable : Part → Variable → Part
with_variable p v = record p {
  group = 6;
  file = record p.file {
    names = record p.file.names { variables = p.file.names.variables ++ v ∷ [] };
  };
}

abbrev pub with_program : Part → List ℕ → Loaded → Part
with_program p name program = record p {
  group = 7;
  titles = p.titles ++ name ∷ [];
  file = record p.file { programs = p.file.programs ++ program ∷ [] };
}

abbrev pub with_job : Part → Task → Part
with_job p task = record p { group = 8; file = record p.file { jobs = p.file.jobs ++ task ∷ [] } }
