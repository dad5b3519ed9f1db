-- Which claims words make of a file's outcomes. Our own choice.
use Rattle.std.specs.Prelude.{ℕ, zero, suc, ◌+◌, ◌^◌, ◌==◌, ◌&&◌, ◌++◌, Bool, List, [], ◌∷◌, Option, Some, None, codes, if◌then◌else◌}
use Rattle.std.specs.Prelude.{length, nat_le, nat_lt, option_and_then, option_map, slice_index_or}
use Rattle.std.specs.Fmt.{decimal}
use Rattle.std.specs.List.{after_first, before_first, list_any, slice_split}
use Rattle.std.specs.Str.{bytes_eq}
use Rattle.hex.specs.Hex.{encode_lower}
use Rattle.bpf_base.specs.Bytes.{low_bytes, modulus}
use Rattle.bpf_shared.specs.Access.{bytes_in}
use Rattle.bpf_shared.specs.declared.events.Size.{Size}
use Rattle.bpf_shared.specs.declared.events.Size.TheVariants.{Byte, Half, Word, Double}
use Rattle.bpf_shared.specs.declared.shapes.MapShape.{MapShape}
use Rattle.bpf_check.specs.Claim.{Part}
use Rattle.bpf_check.specs.Subjects.{Subjects, at, can_print_all, cpu_of, map_of, number_in, stands, variable_size}
use Rattle.bpf_check.specs.declared.claim.Comparison.{Comparison}
use Rattle.bpf_check.specs.declared.claim.Field.{Field}
use Rattle.bpf_check.specs.declared.claim.Join.{Join}
use Rattle.bpf_check.specs.declared.claim.Join.TheVariants as join
use Rattle.bpf_check.specs.declared.claim.Kind.TheVariants as kind
use Rattle.bpf_check.specs.declared.claim.Relation.{Relation}
use Rattle.bpf_check.specs.declared.claim.Relation.TheVariants as relation
use Rattle.bpf_check.specs.declared.parts.Wanted.{Wanted}

-- the first n words, each after a blank
abbrev pub words_behind : ℕ → List (List ℕ) → List ℕ
words_behind zero words = []
words_behind (suc n) words = words_behind n words ++ (32 ∷ slice_index_or words n [])

-- ---- a number, compared

abbrev pub relation_in : List ℕ → Option Relation
relation_in word =
    if bytes_eq word (codes "=") then Some relation.Equal
    else (if bytes_eq word (codes "!=") then Some relation.Unequal
    else (if bytes_eq word (codes "<") then Some relation.Below
    else (if bytes_eq word (codes "<=") then Some relation.AtMost
    else (if bytes_eq word (codes ">") then Some relation.Above
    else (if bytes_eq word (codes ">=") then Some relation.AtLeast else None)))))

-- a relation and a number
abbrev pub comparison_in : (word number : List ℕ) → Option Comparison
comparison_in word number = option_and_then (λ r.
    option_map (λ n. record { relation = r; number = n }) (number_in number)) (relation_in word)

-- ---- `r0 of job J REL N`

abbrev pub is_result_form : List (List ℕ) → Bool
is_result_form words = length words == 6 && (stands words 0 (codes "r0")
    && (stands words 1 (codes "of") && stands words 2 (codes "job")))

-- how the line of a job that ends with a number begins
abbrev pub result_start : (job cpu : ℕ) → List ℕ
result_start job cpu = codes "job " ++ (decimal job ++ (codes " cpu " ++ (decimal cpu ++ codes " r0=")))

abbrev pub result_part : Subjects → (job : ℕ) → Comparison → Option Part
result_part s job c = option_map (λ cpu. record { kind = kind.Result c; bytes = result_start job cpu })
    (cpu_of s (Some job))

abbrev pub result_in : Subjects → List (List ℕ) → Option Part
result_in s words = option_and_then (λ job. option_and_then (result_part s job)
    (comparison_in (at words 4) (at words 5))) (number_in (at words 3))

-- ---- `map NAME[K]+AT of SIZE REL N`, where `+AT` may be missing

abbrev pub is_field_form : List (List ℕ) → Bool
is_field_form words = length words == 6 && (stands words 0 (codes "map") && stands words 2 (codes "of"))

abbrev pub size_in : List ℕ → Option Size
size_in word =
    if bytes_eq word (codes "u8") then Some Byte
    else (if bytes_eq word (codes "u16") then Some Half
    else (if bytes_eq word (codes "u32") then Some Word
    else (if bytes_eq word (codes "u64") then Some Double else None)))

abbrev pub is_open : ℕ → Bool
is_open b = b == 91

abbrev pub is_close : ℕ → Bool
is_close b = b == 93

-- the number between brackets
abbrev pub index_in : List ℕ → Option ℕ
index_in word = if list_any is_close (after_first is_open word)
    then number_in (before_first is_close (after_first is_open word)) else None

-- of 16 bits: no value has more bytes than they can count
abbrev pub in_16_bits : ℕ → Option ℕ
in_16_bits n = if nat_lt n (2 ^ 16) then Some n else None

-- nothing, or `+` and a number
abbrev pub offset_in : List ℕ → Option ℕ
offset_in [] = Some 0
offset_in (b ∷ bytes) = if b == 43 then option_and_then in_16_bits (number_in bytes) else None

abbrev pub field_in : (place size : List ℕ) → Option Field
field_in place size = option_and_then (λ n.
    option_map (λ o. record { offset = o; size = n }) (offset_in (after_first is_close place))) (size_in size)

-- which key's value, by its number, which number in it, and what is claimed of that
abbrev pub wanted_in : List (List ℕ) → Option Wanted
wanted_in words = option_and_then (λ k. option_and_then (λ f.
    option_map (λ c. record { index = k; field = f; comparison = c }) (comparison_in (at words 4) (at words 5)))
    (field_in (at words 1) (at words 3))) (index_in (at words 1))

-- a map of these sizes has keys of this number, and room for the field in its values
abbrev pub has_field : MapShape → Wanted → Bool
has_field h w = nat_lt w.index (modulus h.key) && nat_le (w.field.offset + bytes_in w.field.size) h.value

-- how the line of a pair begins, by the map's name and the key
abbrev pub pair_start : (name key : List ℕ) → List ℕ
pair_start name key = codes "map " ++ (name ++ (codes " " ++ (encode_lower key ++ codes "=")))

abbrev pub field_part : (name : List ℕ) → Wanted → MapShape → Option Part
field_part name w h = if has_field h w then Some (record {
  kind = kind.Field w.field w.comparison;
  bytes = pair_start name (low_bytes h.key w.index);
}) else None

abbrev pub name_in : List (List ℕ) → List ℕ
name_in words = before_first is_open (at words 1)

abbrev pub pair_part : Subjects → List (List ℕ) → Option Part
pair_part s words = option_and_then (λ w.
    option_and_then (field_part (name_in words) w) (map_of s (name_in words))) (wanted_in words)

-- ---- `var NAME REL N`

abbrev pub is_variable_form : List (List ℕ) → Bool
is_variable_form words = length words == 4 && stands words 0 (codes "var")

-- how the line of a variable begins
abbrev pub variable_start : List ℕ → List ℕ
variable_start name = codes "var " ++ (name ++ codes "=")

-- of a variable that has a line
abbrev pub shown_part : List ℕ → Comparison → Option Size → Option Part
shown_part name c None = None
shown_part name c (Some size) =
    Some (record { kind = kind.Result c; bytes = variable_start name })

abbrev pub variable_part : Subjects → List (List ℕ) → Option Part
variable_part s words = option_and_then
    (λ c. shown_part (at words 1) c (variable_size s (at words 1)))
    (comparison_in (at words 2) (at words 3))

-- ---- a part, and a claim

abbrev pub line_part : List ℕ → Part
line_part line = record { kind = kind.Line; bytes = line }

abbrev pub fault_part : Part
fault_part = record { kind = kind.Fault; bytes = [] }

-- words as a line, with one blank between two
abbrev pub line_of : List (List ℕ) → List ℕ
line_of [] = []
line_of (first ∷ more) = first ++ words_behind (length more) more

abbrev pub is_fault_form : List (List ℕ) → Bool
is_fault_form words = length words == 1 && stands words 0 (codes "fault")

abbrev pub compared_part : Subjects → List (List ℕ) → Option Part
compared_part s words = if is_result_form words then result_in s words
    else (if is_field_form words then pair_part s words
    else (if is_variable_form words then variable_part s words else None))

-- a line that the file's outcomes can have; `fault`; or a comparison
unfoldable pub part_in : Subjects → List (List ℕ) → Option Part
part_in s words = if can_print_all s words then Some (line_part (line_of words))
    else (if is_fault_form words then Some fault_part else compared_part s words)

-- the parts that these are, if each is one
abbrev pub all_parts : Subjects → List (List (List ℕ)) → Option (List Part)
all_parts s [] = Some []
all_parts s (words ∷ more) = option_and_then (λ p. option_map (λ ps. p ∷ ps) (all_parts s more)) (part_in s words)

abbrev pub is_joint : (joint word : List ℕ) → Bool
is_joint joint word = bytes_eq word joint

-- what is between words of a kind
abbrev pub parts_in : Subjects → (joint : List ℕ) → List (List ℕ) → Option (List Part)
parts_in s joint words = all_parts s (slice_split (is_joint joint) words)

-- what parts are joined by, in words that have at most one of both kinds
abbrev pub joint_of : Join → List ℕ
joint_of join.All = codes "and"
joint_of join.Any = codes "or"

abbrev pub join_in : List (List ℕ) → Join
join_in words = if list_any (is_joint (codes "or")) words then join.Any else join.All
