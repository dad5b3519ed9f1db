-- What one line adds to a run file, a row for each thing that it may say; or why it is refused
-- (our own choice).
use Rattle.std.specs.Prelude.{◌≡◌, ℕ, ◌+◌, ◌-◌, ◌*◌, ◌/◌, ◌==◌, ◌&&◌, ◌||◌, not, nat_le, nat_lt, Bool, if◌then◌else◌, List, [], ◌∷◌, ◌++◌}
use Rattle.std.specs.Prelude.{length, slice_get, Option, Some, None, Result, Ok, Err}
use Rattle.std.specs.Option.{option_map}
use Rattle.hex.specs.Hex.{decode_of}
use Rattle.hex.specs.declared.error.FromHexError.{FromHexError}
use Rattle.bpf_shared.specs.First.{first_of}
use Rattle.bpf_shared.specs.Refusals.{map_tests, array_tests, outside}
use Rattle.bpf_shared.specs.declared.shapes.ArrayShape.{ArrayShape}
use Rattle.bpf_shared.specs.declared.shapes.MapShape.{MapShape}
use Rattle.bpf_shared.specs.declared.shapes.ShapeError.TheVariants as shape
use Rattle.bpf_shared.specs.declared.events.Size.{Size}
use Rattle.bpf_shared.specs.Access.{bytes_in}
use Rattle.bpf_shared.specs.Shape.{array_stride}
use Rattle.bpf_base.specs.Bytes.{low_bytes, modulus}
use Rattle.bpf_file.specs.Contents.{up_to}
use Rattle.std.specs.List.{slice_split}
use Rattle.bpf_pairs.specs.Pairs.{Pair, has_key, pairs_in}
use Rattle.bpf_lines.specs.Words.{written_number}
use Rattle.bpf_loader.specs.Loaded.{Loaded}
use Rattle.bpf_helpers.specs.declared.given.Given.{Given}
use Rattle.bpf_cpu.specs.declared.input.Input.{Input}
use Rattle.bpf_cpu.specs.Task.{Waiting}
use Rattle.bpf_base.specs.declared.budget.TheConstants.{DEFAULT_BUDGET}
use Rattle.bpf_file.specs.declared.error.FileError.{FileError}
use Rattle.bpf_file.specs.declared.error.FileError.TheVariants.{Refused}
use Rattle.bpf_file.specs.declared.error.Reason.{Reason}
use Rattle.bpf_file.specs.declared.error.Reason.TheVariants as reason
use Rattle.bpf_file.specs.declared.line.LineError.{LineError}
use Rattle.bpf_file.specs.declared.line.LineError.TheVariants as line
use Rattle.bpf_file.specs.declared.packet.Hook.{Hook}
use Rattle.bpf_file.specs.Form.{is_there}
use Rattle.bpf_file.specs.Limits.{most_pairs, most_variables}
use Rattle.bpf_file.specs.Statement.{Said, JobSaid, Version, Cpus, Seed, Map, Array, Data, Variable, Put, PutNumbers, Program, Words, Job}
use Rattle.bpf_file.specs.File.{File, named_by}
use Rattle.bpf_file.specs.Parts.{Part, State, Between, Within, group_of, is_in_order, is_full, is_taken, place_of, array_place, with_first}
use Rattle.bpf_file.specs.Parts.{with_cpus, with_seed, with_map, with_array, with_data, with_pair, with_variable, with_program, with_job}
use Rattle.bpf_file.specs.Packet.{packet_context}
use Rattle.bpf_file.specs.Programs.{OfDigits}

-- the file goes on, or the line is refused for this reason
abbrev pub unless : ℕ → Option Reason → Part → Result State FileError
unless n None p = Ok (Between p)
unless n (Some why) p = Err (Refused n why)

-- ---- which line may be here

-- the first line that says anything
abbrev pub first_said : Result Said LineError → Result Said Reason
first_said (Ok (Version version)) = Ok (Version version)
first_said said = Err reason.BadFirstLine

-- any other
abbrev pub later_said : Result Said LineError → Result Said Reason
later_said (Ok said) = Ok said
later_said (Err line.BadForm) = Err reason.BadLine
later_said (Err line.BadNumber) = Err reason.BadNumber
later_said (Err line.OutOfMemory) = Err reason.BadLine

-- one of this group may come next
abbrev pub may_stand : Part → ℕ → Bool
may_stand p group = is_in_order p.group group && not (is_full p group)

-- what a line says, by its first word and all of it, if it may be here
abbrev pub placed : Part → List ℕ → Result Said LineError → Result Said Reason
placed p word said =
    if p.group == 0 then first_said said
    else (if may_stand p (group_of word) then later_said said else Err reason.BadLine)

-- ---- CPUs and maps

abbrev pub cpus_refusal : ℕ → Option Reason
cpus_refusal n = if outside 1 16 n then Some (reason.Shape shape.CpuCount) else None

abbrev pub map_refusal : Part → List ℕ → MapShape → Option Reason
map_refusal p name h =
    if is_taken p.file name then Some reason.TwiceName
    else (if nat_le 16 (length p.file.maps) then Some (reason.Shape shape.TooManyMaps)
    else option_map reason.Shape (first_of (map_tests (length p.file.maps) h)))

-- ---- arrays

abbrev pub array_refusal : Part → List ℕ → ArrayShape → Option Reason
array_refusal p name g =
    if is_taken p.file name then Some reason.TwiceName
    else (if nat_le 16 (length p.file.arrays) then Some (reason.Shape shape.TooManyArrays)
    else option_map reason.Shape (first_of (array_tests p.file.cpus 0 (length p.file.arrays) g)))

-- of an array of this shape, to be filled up to this byte
abbrev pub size_refusal : ℕ → ℕ → ℕ → Option ArrayShape → Option Reason
size_refusal cpus filled a (Some g) =
    option_map reason.Shape (first_of (array_tests cpus filled a g))
size_refusal cpus filled a None = Some reason.Unknown

abbrev pub data_refusal : File → ℕ → ℕ → Option Reason
data_refusal f a filled = size_refusal f.cpus filled a (slice_get f.arrays a)

abbrev pub data_laid : ℕ → Part → ℕ → ℕ → Result (List ℕ) FromHexError → Result State FileError
data_laid n p a at (Ok bytes) = Ok (Between (with_data p a at bytes))
data_laid n p a at (Err e) = Err (Refused n reason.NotHex)

abbrev pub or_refused : ℕ → Option Reason → Result State FileError → Result State FileError
or_refused n None r = r
or_refused n (Some why) r = Err (Refused n why)

-- bytes that end past the array are refused before their digits are looked at
abbrev pub data_added : ℕ → Part → Option ℕ → ℕ → List ℕ → Result State FileError
data_added n p (Some a) at digits =
    or_refused n (data_refusal p.file a (at + length digits / 2))
    (data_laid n p a at (decode_of digits))
data_added n p None at digits = Err (Refused n reason.Unknown)

-- ---- variables

-- there may be one more variable, of a name that nothing has yet
abbrev pub name_refusal : File → List ℕ → Option Reason
name_refusal f name =
    if nat_le most_variables (length f.names.variables) then Some reason.BadLine
    else (if is_taken f name then Some reason.TwiceName else None)

-- why the array of this number and shape has no such bytes of one value for all CPUs
abbrev pub place_refusal : ℕ → ℕ → Size → Option ArrayShape → Option Reason
place_refusal a at size None = Some reason.Unknown
place_refusal a at size (Some g) =
    if g.per_cpu || nat_lt g.value (at + bytes_in size)
    then Some (reason.Shape (shape.ArrayContents a)) else None

-- of bytes of the first value of this array
abbrev pub variable_added : ℕ → Part → List ℕ → Option ℕ → ℕ → Size → Result State FileError
variable_added n p name (Some a) at size =
    unless n (place_refusal a at size (slice_get p.file.arrays a))
    (with_variable p (record { name = name; array = a; at = at; size = size }))
variable_added n p name None at size = Err (Refused n reason.Unknown)

-- ---- pairs of maps, and values of arrays

-- a key and a value of these sizes are a map's
abbrev pub is_sized : (key value : ℕ) → MapShape → Bool
is_sized key value h = key == h.key && value == h.value

-- this number is that of a key, and this size is no more than that of a value
abbrev pub is_numbered : (key value : ℕ) → MapShape → Bool
is_numbered key value h = nat_lt key (modulus h.key) && nat_le value h.value

-- why the map of this number and shape can't have one more pair at first, which is to fit it
abbrev pub pair_refusal : File → ℕ → (fits : Bool) → MapShape → Option Reason
pair_refusal f m fits h =
    if nat_le most_pairs (length f.pairs) then Some reason.BadLine
    else (if fits && nat_lt (pairs_in m f.pairs) h.max then None else Some reason.BadPair)

-- a key that its map doesn't have yet
abbrev pub pair_put : ℕ → Part → Pair → Result State FileError
pair_put n p pair =
    if has_key pair.map pair.key p.file.pairs then Err (Refused n reason.BadPair)
    else Ok (Between (with_pair p pair))

-- whether the key is there is tested before the value's digits are looked at
abbrev pub value_put : ℕ → Part → ℕ → List ℕ → Result (List ℕ) FromHexError
    → Result State FileError
value_put n p m key (Ok value) = pair_put n p (record { map = m; key = key; value = value })
value_put n p m key (Err e) =
    if has_key m key p.file.pairs then Err (Refused n reason.BadPair)
    else Err (Refused n reason.NotHex)

abbrev pub key_put : ℕ → Part → ℕ → (key value : Result (List ℕ) FromHexError)
    → Result State FileError
key_put n p m (Ok key) value = value_put n p m key value
key_put n p m (Err e) value = Err (Refused n reason.NotHex)

-- sizes are tested before digits are looked at
abbrev pub pair_added : ℕ → Part → ℕ → (key value : List ℕ) → Option MapShape
    → Result State FileError
pair_added n p m key value None = Err (Refused n reason.Unknown)
pair_added n p m key value (Some h) =
    or_refused n (pair_refusal p.file m (is_sized (length key / 2) (length value / 2) h) h)
    (key_put n p m (decode_of key) (decode_of value))

-- where the value of an index begins in the array of this number and shape, if it has one, which is
-- to have its size
abbrev pub value_place : (array : ℕ) → ArrayShape → (fits : Bool) → (index : Option ℕ)
    → Result ℕ Reason
value_place a g fits (Some i) =
    if nat_lt i g.max && fits then Ok (i * array_stride g)
    else Err (reason.Shape (shape.ArrayContents a))
value_place a g fits None = Err reason.BadLine

abbrev pub element_put : ℕ → Part → (array : ℕ) → Result ℕ Reason
    → Result (List ℕ) FromHexError → Result State FileError
element_put n p a (Ok at) bytes = data_laid n p a at bytes
element_put n p a (Err why) bytes = Err (Refused n why)

abbrev pub element_added : ℕ → Part → (array : ℕ) → (index : Option ℕ) → (value : List ℕ)
    → Option ArrayShape → Result State FileError
element_added n p a i value None = Err (Refused n reason.Unknown)
element_added n p a i value (Some g) =
    element_put n p a (value_place a g (length value / 2 == g.value) i) (decode_of value)

-- ---- by numbers

abbrev pub is_comma : ℕ → Bool
is_comma b = b == 44

-- a number of its size
abbrev pub number_of : Size → Option ℕ → Result ℕ Reason
number_of size (Some n) = if nat_lt n (modulus (bytes_in size)) then Ok n else Err reason.BadNumber
number_of size None = Err reason.BadLine

abbrev pub one_more : List ℕ → Result (List ℕ) Reason → Result (List ℕ) Reason
one_more bytes (Ok more) = Ok (bytes ++ more)
one_more bytes (Err why) = Err why

-- its bytes before those of others
abbrev pub with_others : Size → Result ℕ Reason → Result (List ℕ) Reason → Result (List ℕ) Reason
with_others size (Ok n) others = one_more (low_bytes (bytes_in size) n) others
with_others size (Err why) others = Err why

abbrev pub numbers_of : Size → List (List ℕ) → Result (List ℕ) Reason
numbers_of size [] = Ok []
numbers_of size (word ∷ words) =
    with_others size (number_of size (written_number word)) (numbers_of size words)

-- their bytes, the lowest of each first
abbrev pub numbered_bytes : Size → List ℕ → Result (List ℕ) Reason
numbered_bytes size numbers = numbers_of size (slice_split is_comma numbers)

abbrev pub pair_numbered : ℕ → Part → ℕ → (key : ℕ) → (bytes : List ℕ) → Option MapShape
    → Result State FileError
pair_numbered n p m k bytes None = Err (Refused n reason.Unknown)
pair_numbered n p m k bytes (Some h) =
    or_refused n (pair_refusal p.file m (is_numbered k (length bytes) h) h)
    (pair_put n p (record { map = m; key = low_bytes h.key k; value = up_to h.value bytes }))

abbrev pub element_numbered : ℕ → Part → (array index : ℕ) → (bytes : List ℕ)
    → Option ArrayShape → Result State FileError
element_numbered n p a i bytes None = Err (Refused n reason.Unknown)
element_numbered n p a i bytes (Some g) =
    element_put n p a (value_place a g (nat_le (length bytes) g.value) (Some i))
    (Ok (up_to g.value bytes))

-- ---- of the map or the array of a place among the names

abbrev pub put_added : ℕ → Part → Option ℕ → (key value : List ℕ) → Result State FileError
put_added n p (Some k) key value =
    if nat_lt k (length p.file.maps) then pair_added n p k key value (slice_get p.file.maps k)
    else element_added n p (k - length p.file.maps) (written_number key) value
    (slice_get p.file.arrays (k - length p.file.maps))
put_added n p None key value = Err (Refused n reason.Unknown)

abbrev pub numbers_put : ℕ → Part → Option ℕ → (key : ℕ) → (bytes : List ℕ)
    → Result State FileError
numbers_put n p (Some k) key bytes =
    if nat_lt k (length p.file.maps)
    then pair_numbered n p k key bytes (slice_get p.file.maps k)
    else element_numbered n p (k - length p.file.maps) key bytes
    (slice_get p.file.arrays (k - length p.file.maps))
numbers_put n p None key bytes = Err (Refused n reason.Unknown)

abbrev pub numbers_added : ℕ → Part → Option ℕ → (key : ℕ) → Result (List ℕ) Reason
    → Result State FileError
numbers_added n p place key (Ok bytes) = numbers_put n p place key bytes
numbers_added n p place key (Err why) = Err (Refused n why)

-- ---- programs

-- a name that no program has yet
abbrev pub if_new : ℕ → Part → List ℕ → Result State FileError → Result State FileError
if_new n p name r = if is_there (place_of name p.titles) then Err (Refused n reason.TwiceName)
    else r

abbrev pub program_added : Part → List ℕ → Result Loaded FileError → Result State FileError
program_added p name (Ok program) = Ok (Between (with_program p name program))
program_added p name (Err e) = Err e

-- a program on one line, where it has a name that is before, or a new one
abbrev pub WordsAdd : Option ℕ → ℕ → Part → List ℕ → List ℕ → Result State FileError → Type 0
WordsAdd (Some k) n p name digits r = r ≡ Err (Refused n reason.TwiceName)
WordsAdd None n p name digits r =
    (o : Result Loaded FileError) × OfDigits n (named_by p.file) digits o
    × (r ≡ program_added p name o)

-- ---- jobs

-- the CPU, if the file has it
abbrev pub served : ℕ → Option ℕ → Option ℕ
served cpus (Some n) = if nat_lt n cpus then Some n else None
served cpus None = None

-- the bytes of a context, none where the line has no digits
abbrev pub context_of : Option (List ℕ) → Result (List ℕ) FromHexError
context_of (Some digits) = decode_of digits
context_of None = Ok []

abbrev pub number_or : ℕ → Option ℕ → ℕ
number_or other (Some n) = n
number_or other None = other

-- what else the job of a number is given: without a line's word the time 0, and its number as seed
abbrev pub given_by : ℕ → JobSaid → Given
given_by number line =
    record { job = number; time = number_or 0 line.time; seed = number_or number line.seed }

-- all that it is given: a context and no packet, or a packet and its context
abbrev pub without_packet : Given → Result (List ℕ) FromHexError → Result Input FromHexError
without_packet given (Ok bytes) = Ok (record { context = bytes; packet = []; given = given })
without_packet given (Err e) = Err e

abbrev pub around_packet : Given → Hook → ℕ → Result (List ℕ) FromHexError
    → Result Input FromHexError
around_packet given hook cpu (Ok bytes) =
    Ok (record { context = packet_context hook cpu bytes; packet = bytes; given = given })
around_packet given hook cpu (Err e) = Err e

abbrev pub input_of : Given → ℕ → Option (List ℕ) → Option (Hook × List ℕ)
    → Result Input FromHexError
input_of given cpu context None = without_packet given (context_of context)
input_of given cpu context (Some packet) = around_packet given packet.0 cpu (decode_of packet.1)

abbrev pub input_said : ℕ → ℕ → JobSaid → Result Input FromHexError
input_said number cpu line = input_of (given_by number line) cpu line.context line.packet

-- the next job, on this CPU and of this program
abbrev pub job_put : ℕ → Part → (cpu program : ℕ) → JobSaid → Result Input FromHexError
    → Result State FileError
job_put n p cpu program line (Ok input) = Ok (Between (with_job p (record {
  cpu = cpu;
  program = program;
  budget = number_or DEFAULT_BUDGET line.budget;
  stage = Waiting input;
})))
job_put n p cpu program line (Err e) = Err (Refused n reason.NotHex)

abbrev pub job_added : ℕ → Part → Option ℕ → Option ℕ → JobSaid → Result State FileError
job_added n p (Some cpu) (Some program) line =
    job_put n p cpu program line (input_said (length p.file.jobs) cpu line)
job_added n p (Some cpu) None line = Err (Refused n reason.Unknown)
job_added n p None program line = Err (Refused n reason.Unknown)

-- ---- THE ROWS

-- after so much of the file its n-th line says this: then the file goes on so, or is refused
abbrev pub AddsLine : ℕ → Part → Said → Result State FileError → Type 0
AddsLine n p (Version version) r = r ≡ Ok (Between (with_first p version))
AddsLine n p (Cpus c) r = r ≡ unless n (cpus_refusal c) (with_cpus p c)
AddsLine n p (Seed s) r = r ≡ Ok (Between (with_seed p s))
AddsLine n p (Map name h) r = r ≡ unless n (map_refusal p name h) (with_map p name h)
AddsLine n p (Array name g) r = r ≡ unless n (array_refusal p name g) (with_array p name g)
AddsLine n p (Data name at digits) r = r ≡ data_added n p (array_place p.file name) at digits
AddsLine n p (Variable name array at size) r =
    r ≡ or_refused n (name_refusal p.file name)
    (variable_added n p name (array_place p.file array) at size)
AddsLine n p (Put name key value) r =
    r ≡ put_added n p (place_of name p.file.names.maps) key value
AddsLine n p (PutNumbers name key size numbers) r =
    r ≡ numbers_added n p (place_of name p.file.names.maps) key (numbered_bytes size numbers)
AddsLine n p (Program name) r = r ≡ if_new n p name (Ok (Within p n name []))
AddsLine n p (Words name digits) r = WordsAdd (place_of name p.titles) n p name digits r
AddsLine n p (Job line) r =
    r ≡ job_added n p (served p.file.cpus line.cpu) (place_of line.program p.titles) line
