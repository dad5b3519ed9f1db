-- What a line of a run file says, where it isn't assembly (our own choice).
use Rattle.std.specs.Prelude.{◌≡◌, ℕ, ◌-◌, ◌%◌, ◌^◌, ◌==◌, nat_le, nat_lt, Bool, true, false, if◌then◌else◌, List, [], ◌∷◌, ◌++◌, Option}
use Rattle.std.specs.Prelude.{Some, None, Result, Ok, Err, codes, length, take, drop, option_and_then, option_map}
use Rattle.std.specs.List.{after_first, before_first}
use Rattle.std.specs.Str.{bytes_eq}
use Rattle.std.specs.Option.{option_copied}
use Rattle.bpf_base.specs.declared.budget.TheConstants.{MAX_BUDGET}
use Rattle.bpf_shared.specs.Access.{bytes_in}
use Rattle.bpf_shared.specs.declared.events.Size.{Size}
use Rattle.bpf_shared.specs.declared.events.Size.TheVariants.{Byte, Half, Word, Double}
use Rattle.bpf_shared.specs.declared.shapes.ArrayShape.{ArrayShape}
use Rattle.bpf_shared.specs.declared.shapes.MapShape.{MapShape}
use Rattle.bpf_lines.specs.Words.{written_number}
use Rattle.bpf_file.specs.declared.line.LineError.{LineError}
use Rattle.bpf_file.specs.declared.line.LineError.TheVariants.{BadForm, BadNumber}
use Rattle.bpf_file.specs.declared.packet.Hook.{Hook}
use Rattle.bpf_file.specs.declared.packet.Hook.TheVariants.{Xdp, Tc}
use Rattle.bpf_file.specs.declared.packet.PacketLine.{PacketLine}
use Rattle.bpf_file.specs.declared.statement.JobLine.{JobLine}
use Rattle.bpf_file.specs.declared.statement.Statement.{Statement}
use Rattle.bpf_file.specs.declared.statement.Statement.TheVariants as statement
use Rattle.bpf_file.specs.declared.version.Version.{Version as Edition}
use Rattle.bpf_file.specs.declared.version.Version.TheVariants.{First, Second, Third}
use Rattle.bpf_file.specs.Version.{may_grow, has_arrays}
use Rattle.bpf_file.specs.declared.form.Part.TheVariants.{Name}
use Rattle.bpf_file.specs.Form.{has_form, field_at, is_part, version_form, second_version_form, third_version_form, cpus_form, seed_form}
use Rattle.bpf_file.specs.Form.{map_form, masked_map_form, growing_map_form, growing_masked_map_form, array_form, per_cpu_form, frozen_form}
use Rattle.bpf_file.specs.Form.{data_form, variable_form, put_form, put_numbers_form, program_form, words_form, job_form, budget_form}
use Rattle.bpf_file.specs.Form.{context_form, xdp_form, tc_form, time_form, random_form}

-- a job: its CPU, where 64 bits hold its number, its program's name, and its budget, its context's
-- digits or its packet's and where the program hangs, its time and its seed, where the line has them
pub record JobSaid : Type 0 where
  pub cpu : Option ℕ
  pub program : List ℕ
  pub budget : Option ℕ
  pub context : Option (List ℕ)
  pub packet : Option (Hook × List ℕ)
  pub time : Option ℕ
  pub seed : Option ℕ

-- the first line, by the version that it says; how many CPUs there are; the seed of the maps; a map
-- by its name; an array by its name; bytes that an array has at first: its name, where they begin,
-- and their hex digits; a variable by its name and its array's, where its bytes begin, and their
-- size; a pair of a map, or a value of an array: its name, a key's digits or an index, and a value's
-- digits, or its name, the number of a key or an index, and numbers of a size; a program by its name,
-- its assembly following, or with its words as hex digits; a job
pub data Said : Type 0 where
  Version : Edition → Said
  Cpus : ℕ → Said
  Seed : ℕ → Said
  Map : List ℕ → MapShape → Said
  Array : List ℕ → ArrayShape → Said
  Data : List ℕ → ℕ → List ℕ → Said
  Variable : (name array : List ℕ) → (at : ℕ) → Size → Said
  Put : (name key value : List ℕ) → Said
  PutNumbers : (name : List ℕ) → (key : ℕ) → Size → (numbers : List ℕ) → Said
  Program : List ℕ → Said
  Words : List ℕ → List ℕ → Said
  Job : JobSaid → Said

-- ---- numbers

-- the greatest size, offset or number of CPUs that a line may have
abbrev pub most_count : ℕ
most_count = 2 ^ 32 - 1

-- a number up to the greatest of its range
abbrev pub limited : ℕ → Option ℕ → Result ℕ LineError
limited most (Some n) = if nat_le n most then Ok n else Err BadNumber
limited most None = Err BadForm

abbrev pub count_at : List (List ℕ) → ℕ → ℕ → Result ℕ LineError
count_at fields at most = limited most (written_number (field_at fields at))

-- a number of any size, where 64 bits hold it
abbrev pub in_64_bits : Option ℕ → Option ℕ
in_64_bits (Some n) = if nat_lt n (2 ^ 64) then Some n else None
in_64_bits None = None

abbrev pub held_at : List (List ℕ) → ℕ → Option ℕ
held_at fields at = in_64_bits (written_number (field_at fields at))

abbrev pub with_number : Result ℕ LineError → (ℕ → Result Said LineError) → Result Said LineError
with_number (Ok n) said = said n
with_number (Err e) said = Err e

-- ---- the lines, by their forms

abbrev pub cpus_said : List (List ℕ) → Result Said LineError
cpus_said fields = with_number (count_at fields 1 most_count) (λ n. Ok (Cpus n))

abbrev pub seed_said : List (List ℕ) → Result Said LineError
seed_said fields = with_number (count_at fields 1 (2 ^ 64 - 1)) (λ n. Ok (Seed n))

abbrev pub map_said : List (List ℕ) → ℕ → Bool → Result Said LineError
map_said fields mask grow =
    with_number (count_at fields 3 most_count) (λ key.
    with_number (count_at fields 5 most_count) (λ value.
    with_number (count_at fields 7 most_count) (λ max.
    with_number (count_at fields 9 most_count) (λ spare.
    Ok (Map (field_at fields 1)
    (record { key = key; value = value; max = max; spare = spare; mask = mask; grow = grow }))))))

abbrev pub masked_said : List (List ℕ) → Bool → Result Said LineError
masked_said fields grow =
    with_number (count_at fields 11 most_count) (λ mask. map_said fields mask grow)

abbrev pub array_said : List (List ℕ) → Bool → Bool → Result Said LineError
array_said fields per_cpu frozen =
    with_number (count_at fields 3 most_count) (λ value.
    with_number (count_at fields 5 most_count) (λ max.
    Ok (Array (field_at fields 1)
    (record { value = value; max = max; per_cpu = per_cpu; frozen = frozen }))))

abbrev pub data_said : List (List ℕ) → Result Said LineError
data_said fields =
    with_number (count_at fields 2 most_count) (λ at.
    Ok (Data (field_at fields 1) at (field_at fields 3)))

-- the size of this many bytes
abbrev pub size_of : ℕ → Option Size
size_of bytes =
    if bytes == 1 then Some Byte
    else (if bytes == 2 then Some Half
    else (if bytes == 4 then Some Word
    else (if bytes == 8 then Some Double
    else None)))

-- a variable begins at a multiple of its size
abbrev pub variable_at : (name array : List ℕ) → (at : ℕ) → Option Size → Result Said LineError
variable_at name array at (Some size) =
    if at % bytes_in size == 0 then Ok (Variable name array at size) else Err BadNumber
variable_at name array at None = Err BadNumber

abbrev pub variable_said : List (List ℕ) → Result Said LineError
variable_said fields =
    with_number (count_at fields 3 most_count) (λ at.
    with_number (count_at fields 4 most_count) (λ bytes.
    variable_at (field_at fields 1) (field_at fields 2) at (size_of bytes)))

abbrev pub put_said : List (List ℕ) → Result Said LineError
put_said fields = Ok (Put (field_at fields 1) (field_at fields 2) (field_at fields 3))

-- ---- `put NAME[K] of SIZE = N,N,..`

abbrev pub is_open : ℕ → Bool
is_open b = b == 91

-- `u8`, `u16`, `u32` or `u64`
abbrev pub size_named : List ℕ → Option Size
size_named word =
    if bytes_eq word (codes "u8") then Some Byte
    else (if bytes_eq word (codes "u16") then Some Half
    else (if bytes_eq word (codes "u32") then Some Word
    else (if bytes_eq word (codes "u64") then Some Double else None)))

-- what is before the last byte, if that is `]`
abbrev pub closed : List ℕ → Option (List ℕ)
closed [] = None
closed (b ∷ []) = if b == 93 then Some [] else None
closed (b ∷ c ∷ bytes) = option_map (λ rest. b ∷ rest) (closed (c ∷ bytes))

-- the number between brackets
abbrev pub key_number : List ℕ → Result ℕ LineError
key_number place = limited (2 ^ 64 - 1) (option_and_then written_number (closed (after_first is_open place)))

abbrev pub with_size : Option Size → (Size → Result Said LineError) → Result Said LineError
with_size (Some size) said = said size
with_size None said = Err BadForm

abbrev pub numbers_at : (name place : List ℕ) → Option Size → List ℕ → Result Said LineError
numbers_at name place size numbers =
    if is_part Name name
    then with_number (key_number place) (λ k. with_size size (λ s. Ok (PutNumbers name k s numbers)))
    else Err BadForm

abbrev pub numbers_said : List (List ℕ) → Result Said LineError
numbers_said fields = numbers_at (before_first is_open (field_at fields 1)) (field_at fields 1)
    (size_named (field_at fields 3)) (field_at fields 5)

abbrev pub job_said : List (List ℕ) → Option ℕ → Option (List ℕ) → Result Said LineError
job_said fields budget context = Ok (Job (record {
  cpu = held_at fields 1;
  program = field_at fields 2;
  budget = budget;
  context = context;
  packet = None;
  time = None;
  seed = None;
}))

abbrev pub budgeted_said : List (List ℕ) → Option (List ℕ) → Result Said LineError
budgeted_said fields context =
    with_number (count_at fields 4 MAX_BUDGET) (λ n. job_said fields (Some n) context)

-- a line about a program or a job
abbrev pub work_of : List (List ℕ) → Result Said LineError
work_of fields =
    if has_form program_form fields then Ok (Program (field_at fields 1))
    else (if has_form words_form fields then Ok (Words (field_at fields 1) (field_at fields 3))
    else (if has_form job_form fields then job_said fields None None
    else (if has_form (job_form ++ budget_form) fields then budgeted_said fields None
    else (if has_form (job_form ++ context_form) fields
    then job_said fields None (Some (field_at fields 4))
    else (if has_form (job_form ++ budget_form ++ context_form) fields
    then budgeted_said fields (Some (field_at fields 6))
    else Err BadForm)))))

-- what more is said of a job
abbrev pub with_job : Result Said LineError → (JobSaid → Result Said LineError) → Result Said LineError
with_job (Ok (Job line)) more = more line
with_job (Ok other) more = Err BadForm
with_job (Err e) more = Err e

-- the last two fields, those before them, and the number that the last one is
abbrev pub last_two : List (List ℕ) → List (List ℕ)
last_two fields = drop (length fields - 2) fields

abbrev pub before_two : List (List ℕ) → List (List ℕ)
before_two fields = take (length fields - 2) fields

abbrev pub last_number : List (List ℕ) → Result ℕ LineError
last_number fields = count_at (last_two fields) 1 (2 ^ 64 - 1)

-- a job with this packet, in the place of a context
abbrev pub packet_for : Hook × List ℕ → JobSaid → Option (List ℕ) → Result Said LineError
packet_for packet line None = Ok (Job (record line { packet = Some packet }))
packet_for packet line (Some context) = Err BadForm

abbrev pub with_packet : Hook → List (List ℕ) → Result Said LineError
with_packet hook fields = with_job (work_of (before_two fields)) (λ line.
    packet_for (hook, field_at (last_two fields) 1) line line.context)

-- a line about a program or a job, which may have a packet at its end
abbrev pub packeted_of : List (List ℕ) → Result Said LineError
packeted_of fields =
    if has_form xdp_form (last_two fields) then with_packet Xdp fields
    else (if has_form tc_form (last_two fields) then with_packet Tc fields
    else work_of fields)

-- and a time after that
abbrev pub timed_of : List (List ℕ) → Result Said LineError
timed_of fields =
    if has_form time_form (last_two fields) then with_job (packeted_of (before_two fields)) (λ line.
    with_number (last_number fields) (λ n. Ok (Job (record line { time = Some n }))))
    else packeted_of fields

-- and a seed after that
abbrev pub seeded_of : List (List ℕ) → Result Said LineError
seeded_of fields =
    if has_form random_form (last_two fields) then with_job (timed_of (before_two fields)) (λ line.
    with_number (last_number fields) (λ n. Ok (Job (record line { seed = Some n }))))
    else timed_of fields

-- a line about an array, a variable or a pair, or about a program or a job
abbrev pub arrays_of : List (List ℕ) → Result Said LineError
arrays_of fields =
    if has_form array_form fields then array_said fields false false
    else (if has_form (array_form ++ per_cpu_form) fields then array_said fields true false
    else (if has_form (array_form ++ frozen_form) fields then array_said fields false true
    else (if has_form (array_form ++ per_cpu_form ++ frozen_form) fields
    then array_said fields true true
    else (if has_form data_form fields then data_said fields
    else (if has_form variable_form fields then variable_said fields
    else (if has_form put_form fields then put_said fields
    else (if has_form put_numbers_form fields then numbers_said fields
    else seeded_of fields)))))))

-- a line about a map that grows, about an array or a variable, where there may be such, or about a
-- program or a job
abbrev pub growing_of : Edition → List (List ℕ) → Result Said LineError
growing_of version fields =
    if has_form growing_map_form fields then map_said fields (2 ^ 32 - 1) true
    else (if has_form growing_masked_map_form fields then masked_said fields true
    else (if has_arrays version then arrays_of fields
    else work_of fields))

-- WHAT A LINE SAYS, by the file's version and its fields
abbrev pub statement_of : Edition → List (List ℕ) → Result Said LineError
statement_of version fields =
    if has_form version_form fields then Ok (Version First)
    else (if has_form second_version_form fields then Ok (Version Second)
    else (if has_form third_version_form fields then Ok (Version Third)
    else (if has_form cpus_form fields then cpus_said fields
    else (if has_form seed_form fields then seed_said fields
    else (if has_form map_form fields then map_said fields (2 ^ 32 - 1) false
    else (if has_form masked_map_form fields then masked_said fields false
    else (if may_grow version then growing_of version fields
    else work_of fields)))))))

-- ---- what a reader answers

abbrev pub packet_said : PacketLine → Hook × List ℕ
packet_said p = (p.hook, p.digits.now)

abbrev pub job_line : JobLine → JobSaid
job_line j = record {
  cpu = j.cpu;
  program = j.program.now;
  budget = j.budget;
  context = option_copied j.context;
  packet = option_map packet_said j.packet;
  time = j.time;
  seed = j.seed;
}

abbrev pub said_by : Statement → Said
said_by (statement.Version version) = Version version
said_by (statement.Cpus n) = Cpus n
said_by (statement.Seed n) = Seed n
said_by (statement.Map name shape) = Map name.now shape
said_by (statement.Array name shape) = Array name.now shape
said_by (statement.Data d) = Data d.array.now d.at d.digits.now
said_by (statement.Variable v) = Variable v.name.now v.array.now v.at v.size
said_by (statement.Put p) = Put p.name.now p.key.now p.value.now
said_by (statement.PutNumbers p) = PutNumbers p.name.now p.key p.size p.numbers.now
said_by (statement.Program name) = Program name.now
said_by (statement.Words name digits) = Words name.now digits.now
said_by (statement.Job j) = Job (job_line j)

abbrev pub Says : Result Statement LineError → Result Said LineError → Type 0
Says (Ok s) said = said ≡ Ok (said_by s)
Says (Err e) said = said ≡ Err e
