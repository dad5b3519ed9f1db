-- What is printed of the maps, the arrays, the variables and the jobs (our own choice).
use Rattle.std.specs.Prelude.{ℕ, zero, suc, ◌+◌, Bool, if◌then◌else◌, List, [], ◌++◌, Option, Some, None, codes, length, slice_get, slice_index_or}
use Rattle.std.specs.Fmt.{decimal}
use Rattle.bpf_shared.specs.declared.shapes.ArrayShape.{ArrayShape}
use Rattle.bpf_shared.specs.declared.shapes.MapShape.{MapShape}
use Rattle.bpf_shared.specs.Access.{bytes_in}
use Rattle.bpf_shared.specs.Shape.{Shape}
use Rattle.bpf_names.specs.Names.{Names, Variable}
use Rattle.bpf_cpu.specs.declared.outcome.Outcome.{Outcome}
use Rattle.bpf_cpu.specs.Lines.{job_line}
use Rattle.bpf_cpu.specs.Task.{Task, ended}

-- ---- maps

abbrev pub grow_word : Bool → List ℕ
grow_word grow = if grow then codes " grow" else []

abbrev pub sizes_text : MapShape → List ℕ
sizes_text h =
    codes " key " ++ decimal h.key ++ codes " value " ++ decimal h.value ++ codes " max "
    ++ decimal h.max ++ codes " spare " ++ decimal h.spare ++ grow_word h.grow

-- as a run file says it
abbrev pub shape_line : List ℕ → MapShape → List ℕ
shape_line name h = codes "map " ++ name ++ sizes_text h ++ codes "\n"

abbrev pub named_line : List ℕ → Option MapShape → List ℕ
named_line name None = []
named_line name (Some h) = shape_line name h

-- a line a map, of the first n names
abbrev pub shape_lines : List (List ℕ) → List MapShape → ℕ → List ℕ
shape_lines names maps zero = []
shape_lines names maps (suc n) =
    shape_lines names maps n ++ named_line (slice_index_or names n []) (slice_get maps n)

-- ---- arrays

abbrev pub per_cpu_word : Bool → List ℕ
per_cpu_word per_cpu = if per_cpu then codes " percpu" else []

abbrev pub frozen_word : Bool → List ℕ
frozen_word frozen = if frozen then codes " frozen" else []

-- as a run file says it
abbrev pub array_line : List ℕ → ArrayShape → List ℕ
array_line name g =
    codes "array " ++ name ++ codes " value " ++ decimal g.value ++ codes " max " ++ decimal g.max
    ++ per_cpu_word g.per_cpu ++ frozen_word g.frozen ++ codes "\n"

abbrev pub named_array : List ℕ → Option ArrayShape → List ℕ
named_array name None = []
named_array name (Some g) = array_line name g

-- a line an array, of the first n, whose names follow those of the maps
abbrev pub array_lines : List (List ℕ) → ℕ → List ArrayShape → ℕ → List ℕ
array_lines names maps arrays zero = []
array_lines names maps arrays (suc n) =
    array_lines names maps arrays n
    ++ named_array (slice_index_or names (maps + n) []) (slice_get arrays n)

-- ---- variables

-- as a run file says it: with the array's name, and where its bytes begin there
abbrev pub place_line : List ℕ → Variable → List ℕ
place_line array v =
    codes "var " ++ v.name ++ codes " " ++ array ++ codes " " ++ decimal v.at ++ codes " "
    ++ decimal (bytes_in v.size) ++ codes "\n"

abbrev pub named_place : List (List ℕ) → ℕ → Option Variable → List ℕ
named_place names maps None = []
named_place names maps (Some v) = place_line (slice_index_or names (maps + v.array) []) v

-- a line a variable, of the first n
abbrev pub place_lines : List (List ℕ) → ℕ → List Variable → ℕ → List ℕ
place_lines names maps variables zero = []
place_lines names maps variables (suc n) =
    place_lines names maps variables n ++ named_place names maps (slice_get variables n)

-- the lines of a store's maps, then those of its arrays, and then those of the variables in them
abbrev pub store_lines : Names → Shape → List ℕ
store_lines names h =
    shape_lines names.maps h.maps (length names.maps)
    ++ (array_lines names.maps (length h.maps) h.arrays (length h.arrays)
    ++ place_lines names.maps (length h.maps) names.variables (length names.variables))

-- ---- jobs

-- one that hasn't ended
abbrev pub open_line : ℕ → ℕ → List ℕ
open_line j c = codes "job " ++ decimal j ++ codes " cpu " ++ decimal c ++ codes " open\n"

abbrev pub told_line : ℕ → ℕ → Option Outcome → List ℕ
told_line j c None = open_line j c
told_line j c (Some end) = job_line j c end

abbrev pub told_job : ℕ → Option Task → List ℕ
told_job j None = []
told_job j (Some task) = told_line j task.cpu (ended task.stage)

-- a line a job, of the first n
abbrev pub told_jobs : ℕ → List Task → List ℕ
told_jobs zero jobs = []
told_jobs (suc n) jobs = told_jobs n jobs ++ told_job n (slice_get jobs n)

-- ---- marks

abbrev pub mark_line : ℕ → List ℕ
mark_line n = codes "mark " ++ decimal n ++ codes "\n"
