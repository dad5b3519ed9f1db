-- What is printed of jobs that are run in rounds. Our own choice.
use Rattle.std.specs.Prelude.{◌≡◌, ℕ, zero, suc, ◌+◌, ◌++◌, ◌&&◌, ◌||◌, ◌==◌, Bool, true, false, not, if◌then◌else◌, List, [], ◌∷◌, Option}
use Rattle.std.specs.Prelude.{Some, None, codes, length, map, slice_get, slice_index_or}
use Rattle.std.specs.Fmt.{decimal}
use Rattle.std.specs.List.{list_any}
use Rattle.hex.specs.Hex.{encode_lower}
use Rattle.bpf_shared.specs.declared.shapes.ArrayShape.{ArrayShape}
use Rattle.bpf_shared.specs.Shape.{Shape, copies}
use Rattle.bpf_shared.specs.Store.{Plain, fixed_number}
use Rattle.bpf_shared.specs.Listing.{Pair, pair_at, IsListing}
use Rattle.bpf_names.specs.Names.{Names, Variable, has_byte, number_in, variable_of}
use Rattle.bpf_pairs.specs.Pairs.{Pair as FirstPair, pair_of}
use Rattle.bpf_pairs.specs.Filled.{filled}
use Rattle.bpf_loader.specs.Loaded.{Loaded}
use Rattle.bpf_cpu.specs.declared.outcome.Outcome.{Outcome}
use Rattle.bpf_cpu.specs.declared.outcome.Outcome.TheVariants as outcome
use Rattle.bpf_cpu.specs.Lines.{job_line}
use Rattle.bpf_cpu.specs.declared.setup.Setup.{Setup}
use Rattle.bpf_cpu.specs.Task.{Task, ended, outcome_at, waiting}
use Rattle.bpf_jobs.specs.declared.arrays.NamedArray.{NamedArray}
use Rattle.bpf_machine.specs.Listings.{first_lists, made_keys}
use Rattle.bpf_machine.specs.Schedule.{World, unrolled}
use Rattle.bpf_machine.specs.Rounds.{RunsBy}

-- ---- jobs
abbrev pub end_line : ℕ → Task → Option Outcome → List ℕ
end_line j task None = []
end_line j task (Some end) = job_line j task.cpu end

-- the line of the j-th job, where it has ended
abbrev pub task_line : ℕ → Option Task → List ℕ
task_line j None = []
task_line j (Some task) = end_line j task (ended task.stage)

-- a line a job, of the first n
abbrev pub job_lines : ℕ → List Task → List ℕ
job_lines zero jobs = []
job_lines (suc n) jobs = job_lines n jobs ++ task_line n (slice_get jobs n)

-- it ended in a fault or out of budget
abbrev pub is_stop : Option Outcome → Bool
is_stop None = false
is_stop (Some (outcome.Exit r0)) = false
is_stop (Some (outcome.Fault fault pc)) = true
is_stop (Some (outcome.OutOfBudget pc)) = true

-- one of the first n did
abbrev pub any_stopped : ℕ → List Task → Bool
any_stopped zero jobs = false
any_stopped (suc n) jobs = any_stopped n jobs || is_stop (outcome_at jobs n)

-- ---- maps
-- a key of a map with its value, both in lower case hex
abbrev pub key_line : List ℕ → List ℕ → List ℕ → List ℕ
key_line name key value =
    codes "map " ++ name ++ codes " " ++ encode_lower key ++ codes "=" ++ encode_lower value
    ++ codes "\n"

-- a line a key, of the first n
abbrev pub key_lines : List ℕ → ℕ → List Pair → List ℕ
key_lines name zero pairs = []
key_lines name (suc n) pairs =
    key_lines name n pairs ++ key_line name (pair_at pairs n).0 (pair_at pairs n).1

-- the lines of the first n maps, which have these names: each lists its keys in their bytes' order
abbrev pub AreMapLines : Plain → List (List ℕ) → ℕ → List ℕ → Type 0
AreMapLines s names zero text = text ≡ []
AreMapLines s names (suc m) text = (before : List ℕ) × (pairs : List Pair)
    × AreMapLines s names m before × IsListing s m pairs
    × (text ≡ before ++ key_lines (slice_index_or names m []) (length pairs) pairs)

-- ---- variables
-- the number that a variable is in its array's first value
abbrev pub variable_line : Variable → List ℕ → List ℕ
variable_line v bytes =
    codes "var " ++ v.name ++ codes "=" ++ decimal (number_in v bytes) ++ codes "\n"

-- none where the array, of this shape, may only be read
abbrev pub variable_text : Plain → Variable → Option ArrayShape → List ℕ
variable_text s v None = []
variable_text s v (Some g) =
    if g.frozen then [] else variable_line v (s.value (fixed_number v.array 0 0)).bytes

abbrev pub line_of_variable : Plain → Option Variable → List ℕ
line_of_variable s None = []
line_of_variable s (Some v) = variable_text s v (slice_get s.shape.arrays v.array)

-- of the first n variables
abbrev pub variable_lines : Plain → List Variable → ℕ → List ℕ
variable_lines s variables zero = []
variable_lines s variables (suc n) =
    variable_lines s variables n ++ line_of_variable s (slice_get variables n)

-- ---- arrays
-- an array as its lines name it: its number, its name, and the file's variables
pub record Called : Type 0 where
  pub number : ℕ
  pub name : List ℕ
  pub variables : List Variable

-- the a-th one: arrays' names follow those of the maps
abbrev pub called : Plain → Names → ℕ → Called
called s names a = record {
  number = a;
  name = slice_index_or names.maps (length s.shape.maps + a) [];
  variables = names.variables;
}

-- what a value of the program shows
abbrev pub called_by : NamedArray → Called
called_by array = record {
  number = array.number;
  name = array.name.now;
  variables = map variable_of array.variables.now;
}

-- some byte isn't zero
abbrev pub is_set : List ℕ → Bool
is_set bytes = list_any (λ byte. not (byte == 0)) bytes

-- a byte at an offset of its first value isn't zero, and is none of a variable
unfoldable pub is_shown : Called → (at byte : ℕ) → Bool
is_shown array at byte =
    not (byte == 0) && not (list_any (has_byte array.number at) array.variables)

-- of its bytes from an offset on some are
abbrev pub is_set_outside : Called → ℕ → List ℕ → Bool
is_set_outside array at [] = false
is_set_outside array at (byte ∷ bytes) =
    is_shown array at byte || is_set_outside array (at + 1) bytes

-- the value of an index and a CPU has a line: a variable's line shows a variable's bytes
abbrev pub has_line : Called → (i k : ℕ) → List ℕ → Bool
has_line array i k bytes =
    if i == 0 && k == 0 then is_set_outside array 0 bytes else is_set bytes

-- which of an array's values: its index, and the CPU's number where each CPU has its own
abbrev pub place_text : Bool → ℕ → ℕ → List ℕ
place_text per_cpu i k =
    if per_cpu then decimal i ++ codes " cpu " ++ decimal k else decimal i

-- the line of a value, which shows all its bytes, in lower case hex
abbrev pub value_line : Called → Bool → ℕ → ℕ → List ℕ → List ℕ
value_line array per_cpu i k bytes =
    if has_line array i k bytes
    then codes "array " ++ array.name ++ codes " " ++ place_text per_cpu i k ++ codes "="
    ++ encode_lower bytes ++ codes "\n"
    else []

-- of an index of an array of this shape, of the first n CPUs
abbrev pub index_lines : Plain → Called → ArrayShape → ℕ → ℕ → List ℕ
index_lines s array g i zero = []
index_lines s array g i (suc k) =
    index_lines s array g i k
    ++ value_line array g.per_cpu i k (s.value (fixed_number array.number k i)).bytes

-- of its first n indices, each CPU's value
abbrev pub value_lines : Plain → Called → ArrayShape → ℕ → List ℕ
value_lines s array g zero = []
value_lines s array g (suc i) =
    value_lines s array g i ++ index_lines s array g i (copies s.shape.cpus g)

-- of all of them; none of an array that may only be read
abbrev pub array_text : Plain → Called → Option ArrayShape → List ℕ
array_text s array None = []
array_text s array (Some g) = if g.frozen then [] else value_lines s array g g.max

-- of the first n arrays
abbrev pub array_lines : Plain → Names → ℕ → List ℕ
array_lines s names zero = []
array_lines s names (suc a) =
    array_lines s names a ++ array_text s (called s names a) (slice_get s.shape.arrays a)

-- ---- lists of keys
-- a blank and the key in lower case hex
abbrev pub key_word : List ℕ → List ℕ
key_word key = codes " " ++ encode_lower key

-- of the first n keys
abbrev pub key_words : ℕ → List (List ℕ) → List ℕ
key_words zero keys = []
key_words (suc n) keys = key_words n keys ++ key_word (slice_index_or keys n [])

-- the line of the keys of a map that a CPU has listed
abbrev pub list_line : ℕ → List ℕ → List (List ℕ) → List ℕ
list_line cpu name keys =
    codes "keys cpu " ++ decimal cpu ++ codes " " ++ name ++ key_words (length keys) keys
    ++ codes "\n"

-- a line a map, of the first n, which have these names
abbrev pub cpu_lines : ℕ → List (List ℕ) → ℕ → List (List (List ℕ)) → List ℕ
cpu_lines cpu names zero lists = []
cpu_lines cpu names (suc m) lists =
    cpu_lines cpu names m lists
    ++ list_line cpu (slice_index_or names m []) (slice_index_or lists m [])

-- of the first n CPUs, what each has listed
abbrev pub list_lines : (ℕ → List (List (List ℕ))) → List (List ℕ) → ℕ → List ℕ
list_lines lists names zero = []
list_lines lists names (suc c) =
    list_lines lists names c ++ cpu_lines c names (length (lists c)) (lists c)

-- ---- a run
-- a new store whose maps have these pairs, with these programs and jobs
abbrev pub first_world : Shape → List FirstPair → List Loaded → List Task → World
first_world h pairs programs jobs =
    record { store = filled h pairs; programs = programs; jobs = jobs; lists = first_lists false }

-- the same, in which lists of keys are asked for or not
abbrev pub asked_world : Bool → Shape → List FirstPair → List Loaded → List Task → World
asked_world keys h pairs programs jobs =
    record (first_world h pairs programs jobs) { lists = first_lists keys }

-- those of what a machine is made of
abbrev pub first_of : Setup → World
first_of s = first_world s.shape (map pair_of s.pairs.items) s.programs.items
    (map waiting s.jobs.items)

abbrev pub asked_of : Bool → Setup → World
asked_of keys s = asked_world keys s.shape (map pair_of s.pairs.items) s.programs.items
    (map waiting s.jobs.items)

-- of the variables, in the order of their lines in the file, and then of the arrays
abbrev pub fixed_lines : Plain → Names → List ℕ
fixed_lines s names =
    variable_lines s names.variables (length names.variables)
    ++ array_lines s names (length s.shape.arrays)

-- the lines of the maps, and then those
abbrev pub AreMapsAsked : Bool → Plain → Names → List ℕ → Type 0
AreMapsAsked false s names text = text ≡ []
AreMapsAsked true s names text =
    (lines : List ℕ) × AreMapLines s names.maps (length s.shape.maps) lines
    × (text ≡ lines ++ fixed_lines s names)

-- the text has the lines of the jobs, then these of lists, and then, where they are asked for, those
-- of the maps, variables and arrays; and whether some job ended in a fault or out of budget
abbrev pub TellsWith : List ℕ → Plain → List Task → Names → Bool → List ℕ → Bool → Type 0
TellsWith lists s jobs names maps text stopped =
    (lines : List ℕ) × AreMapsAsked maps s names lines
    × (text ≡ job_lines (length jobs) jobs ++ (lists ++ lines))
    × (stopped ≡ any_stopped (length jobs) jobs)

-- without lists
abbrev pub Tells : Plain → List Task → Names → Bool → List ℕ → Bool → Type 0
Tells s jobs names maps text stopped = TellsWith [] s jobs names maps text stopped

-- what the CPUs of a machine have listed
abbrev pub lines_of_lists : World → List (List ℕ) → List ℕ
lines_of_lists z names = list_lines (λ c. made_keys (z.lists c)) names z.store.shape.cpus

-- the turns of a schedule, CPUs each with how many turns it takes before the next, and rounds after
-- them lead to a last machine, of which this is printed
abbrev pub IsReportBy : World → List (ℕ × ℕ) → Names → Bool → List ℕ → Bool → Type 0
IsReportBy w runs names maps text stopped = (z : World) × RunsBy w (unrolled runs) z
    × TellsWith (lines_of_lists z names.maps) z.store z.jobs names maps text stopped
