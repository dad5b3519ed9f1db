-- The forms of the lines of a run file: what each field has to be (our own choice).
use Rattle.std.specs.Prelude.{ℕ, ◌*◌, Bool, true, false, ◌&&◌, nat_le, List, [], ◌∷◌, ◌++◌, length, get_or, Option, Some, None}
use Rattle.bpf_mem.specs.Limits.{max_context, max_packet}
use Rattle.bpf_lines.specs.Words.{written_number, is_name}
use Rattle.bpf_file.specs.declared.form.Part.{Part}
use Rattle.bpf_file.specs.declared.form.Part.TheVariants.{Word, Name, Number, Context, Packet, Words}
use Rattle.bpf_file.specs.declared.key.Key.TheVariants as key
use Rattle.bpf_file.specs.Key.{is_key}

abbrev pub is_there : Option ℕ → Bool
is_there (Some n) = true
is_there None = false

-- a number, of any size
abbrev pub is_number : List ℕ → Bool
is_number field = is_there (written_number field)

abbrev pub is_part : Part → List ℕ → Bool
is_part (Word k) field = is_key k field
is_part Name field = is_name field && nat_le (length field) 32
is_part Number field = is_number field
is_part Context field = nat_le (length field) (2 * max_context)
is_part Packet field = nat_le (length field) (2 * max_packet)
is_part Words field = true

-- the fields are those of the form, one by one
abbrev pub has_form : List Part → List (List ℕ) → Bool
has_form [] [] = true
has_form (p ∷ ps) (f ∷ fs) = is_part p f && has_form ps fs
has_form [] (f ∷ fs) = false
has_form (p ∷ ps) [] = false

abbrev pub field_at : List (List ℕ) → ℕ → List ℕ
field_at fields at = get_or fields at []

-- ---- the forms

-- `ebpf-run 1`
abbrev pub version_form : List Part
version_form = Word key.RunFile ∷ Word key.One ∷ []

-- `ebpf-run 2`
abbrev pub second_version_form : List Part
second_version_form = Word key.RunFile ∷ Word key.Two ∷ []

-- `ebpf-run 3`
abbrev pub third_version_form : List Part
third_version_form = Word key.RunFile ∷ Word key.Three ∷ []

-- `cpus N`
abbrev pub cpus_form : List Part
cpus_form = Word key.Cpus ∷ Number ∷ []

-- `seed N`
abbrev pub seed_form : List Part
seed_form = Word key.Seed ∷ Number ∷ []

-- `map NAME key K value V max M spare P`, and with `mask X` after it
abbrev pub map_form : List Part
map_form =
    Word key.Map ∷ Name ∷ Word key.KeySize ∷ Number ∷ Word key.ValueSize ∷ Number
    ∷ Word key.Max ∷ Number ∷ Word key.Spare ∷ Number ∷ []

abbrev pub masked_map_form : List Part
masked_map_form = map_form ++ Word key.Mask ∷ Number ∷ []

-- from version 2 on also with `grow` after that
abbrev pub growing_map_form : List Part
growing_map_form = map_form ++ Word key.Grow ∷ []

abbrev pub growing_masked_map_form : List Part
growing_masked_map_form = masked_map_form ++ Word key.Grow ∷ []

-- in version 3: `array NAME value V max M`, with `percpu`, `frozen`, or both after it
abbrev pub array_form : List Part
array_form =
    Word key.Array ∷ Name ∷ Word key.ValueSize ∷ Number ∷ Word key.Max ∷ Number ∷ []

abbrev pub per_cpu_form : List Part
per_cpu_form = Word key.PerCpu ∷ []

abbrev pub frozen_form : List Part
frozen_form = Word key.Frozen ∷ []

-- in version 3: `data NAME AT DIGITS`
abbrev pub data_form : List Part
data_form = Word key.Data ∷ Name ∷ Number ∷ Words ∷ []

-- in version 3: `var NAME ARRAY AT SIZE`
abbrev pub variable_form : List Part
variable_form = Word key.Variable ∷ Name ∷ Name ∷ Number ∷ Number ∷ []

-- in version 3: `put NAME KEY VALUE`
abbrev pub put_form : List Part
put_form = Word key.Put ∷ Name ∷ Words ∷ Words ∷ []

-- in version 3: `put NAME[K] of SIZE = N,N,..`
abbrev pub put_numbers_form : List Part
put_numbers_form =
    Word key.Put ∷ Words ∷ Word key.Of ∷ Words ∷ Word key.Equals ∷ Words ∷ []

-- `prog NAME`, and `prog NAME hex DIGITS`
abbrev pub program_form : List Part
program_form = Word key.Program ∷ Name ∷ []

abbrev pub words_form : List Part
words_form = program_form ++ Word key.Hex ∷ Words ∷ []

-- `job CPU NAME`, with `budget N`, `ctx DIGITS`, or both after it
abbrev pub job_form : List Part
job_form = Word key.Job ∷ Number ∷ Name ∷ []

abbrev pub budget_form : List Part
budget_form = Word key.Budget ∷ Number ∷ []

abbrev pub context_form : List Part
context_form = Word key.Context ∷ Context ∷ []

-- `xdp DIGITS` and `tc DIGITS`, at the end of a job, in version 3
abbrev pub xdp_form : List Part
xdp_form = Word key.Xdp ∷ Packet ∷ []

abbrev pub tc_form : List Part
tc_form = Word key.Tc ∷ Packet ∷ []

-- in version 3 also with `time N`, `random N`, or both at its end
abbrev pub time_form : List Part
time_form = Word key.Time ∷ Number ∷ []

abbrev pub random_form : List Part
random_form = Word key.Random ∷ Number ∷ []
