-- The lines that a file's outcomes can have, by their words. Our own choice.
use Rattle.std.specs.Prelude.{ℕ, ◌+◌, ◌/◌, ◌%◌, ◌^◌, ◌==◌, ◌&&◌, ◌||◌, Bool, true, false, List, [], ◌∷◌, Option, Some, None, codes, drop}
use Rattle.std.specs.Prelude.{if◌then◌else◌, length, nat_eq, nat_le, nat_lt, not, option_and_then, option_map, slice_get, slice_index_or}
use Rattle.std.specs.List.{after_first, before_first, list_all, list_any, starts_with}
use Rattle.std.specs.Str.{bytes_eq}
use Rattle.std.specs.Str.Parse.{digits_value}
use Rattle.bpf_lines.specs.Words.{is_numeral}
use Rattle.bpf_base.specs.Bytes.{modulus}
use Rattle.bpf_shared.specs.declared.events.Size.{Size}
use Rattle.bpf_shared.specs.Access.{bytes_in}
use Rattle.bpf_shared.specs.declared.shapes.ArrayShape.{ArrayShape}
use Rattle.bpf_shared.specs.declared.shapes.MapShape.{MapShape}
use Rattle.bpf_names.specs.Names.{Names, Variable, variable_named}

-- what lines speak of: the CPU of each job, how many CPUs there are, the names of maps, arrays and
-- variables, the sizes of maps and arrays, whether lists of keys are among the lines, whether it may be
-- asked if schedules can end, and whether the CPUs have store buffers
pub record Subjects : Type 0 where
  pub jobs : List ℕ
  pub cpus : ℕ
  pub names : Names
  pub maps : List MapShape
  pub arrays : List ArrayShape
  pub lists : Bool
  pub ends : Bool
  pub x86 : Bool

-- ---- words

-- decimal digits, of which the first is 0 only where it is the only one
abbrev pub has_plain_digits : List ℕ → Bool
has_plain_digits word =
    is_numeral 10 word && (length word == 1 || not (starts_with nat_eq word (codes "0")))

-- the number of 64 bits that a word is, as numbers are printed
abbrev pub number_in : List ℕ → Option ℕ
number_in word =
    if has_plain_digits word && nat_lt (digits_value 10 word) (2 ^ 64)
    then Some (digits_value 10 word) else None

abbrev pub is_some_number : Option ℕ → Bool
is_some_number None = false
is_some_number (Some n) = true

abbrev pub is_number : List ℕ → Bool
is_number word = is_some_number (number_in word)

abbrev pub is_same : Option ℕ → Option ℕ → Bool
is_same (Some a) (Some b) = a == b
is_same None b = false
is_same (Some a) None = false

-- `r0=` and a number
abbrev pub is_result : List ℕ → Bool
is_result word = starts_with nat_eq word (codes "r0=") && is_number (drop 3 word)

-- F1 to F7
abbrev pub is_fault : List ℕ → Bool
is_fault (f ∷ n ∷ []) = f == 70 && (nat_le 49 n && nat_le n 55)
is_fault [] = false
is_fault (f ∷ []) = false
is_fault (f ∷ n ∷ b ∷ more) = false

abbrev pub is_hex_digit : ℕ → Bool
is_hex_digit b = (nat_le 48 b && nat_le b 57) || (nat_le 97 b && nat_le b 102)

-- n bytes in lower case hex
abbrev pub are_bytes : ℕ → List ℕ → Bool
are_bytes count word =
    length word % 2 == 0 && (length word / 2 == count && list_all is_hex_digit word)

abbrev pub is_equals : ℕ → Bool
is_equals b = b == 61

-- `KEY=VALUE`, of the sizes of a map
abbrev pub is_pair : Option MapShape → List ℕ → Bool
is_pair None word = false
is_pair (Some m) word =
    are_bytes m.key (before_first is_equals word) && are_bytes m.value (after_first is_equals word)

abbrev pub is_zero : ℕ → Bool
is_zero b = b == 48

-- n bytes that aren't all zeros: no other value of an array has a line
abbrev pub is_value : ℕ → List ℕ → Bool
is_value count word = are_bytes count word && not (list_all is_zero word)

abbrev pub is_below : ℕ → Option ℕ → Bool
is_below limit None = false
is_below limit (Some n) = nat_lt n limit

-- `N=VALUE`, of a number below the limit and a value of this many bytes
abbrev pub is_numbered : (limit count : ℕ) → List ℕ → Bool
is_numbered limit count word =
    is_below limit (number_in (before_first is_equals word))
    && is_value count (after_first is_equals word)

abbrev pub are_keys : Option MapShape → List (List ℕ) → Bool
are_keys None words = false
are_keys (Some m) words = list_all (are_bytes m.key) words

-- ---- what words name

-- the CPU of the job of this number
abbrev pub cpu_of : Subjects → Option ℕ → Option ℕ
cpu_of s job = option_and_then (slice_get s.jobs) job

-- some job is on this CPU
abbrev pub has_jobs : Subjects → Option ℕ → Bool
has_jobs s cpu = list_any (λ own. is_same (Some own) cpu) s.jobs

-- the number of the first of this name
abbrev pub place_of : List ℕ → List (List ℕ) → Option ℕ
place_of name [] = None
place_of name (known ∷ names) =
    if bytes_eq known name then Some 0 else option_map (λ k. k + 1) (place_of name names)

-- the sizes of the map of this name
abbrev pub map_of : Subjects → List ℕ → Option MapShape
map_of s name = option_and_then (slice_get s.maps) (place_of name s.names.maps)

-- the sizes of the array of this name
abbrev pub array_of : Subjects → List ℕ → Option ArrayShape
array_of s name =
    option_and_then (slice_get s.arrays) (place_of name (drop (length s.maps) s.names.maps))

-- the size of a variable, where its array isn't one that may only be read: then it has a line
abbrev pub size_shown : Variable → Option ArrayShape → Option Size
size_shown v None = None
size_shown v (Some g) = if g.frozen then None else Some v.size

-- of the variable of this name
abbrev pub variable_size : Subjects → List ℕ → Option Size
variable_size s name = option_and_then (λ v. size_shown v (slice_get s.arrays v.array))
    (variable_named name s.names.variables)

-- ---- lines

-- the word at place n
abbrev pub at : List (List ℕ) → ℕ → List ℕ
at words n = slice_index_or words n []

-- it is this one
abbrev pub stands : List (List ℕ) → ℕ → List ℕ → Bool
stands words n word = bytes_eq (at words n) word

-- `r0=N`, after three words
abbrev pub is_exit : List (List ℕ) → Bool
is_exit words = length words == 4 && is_result (at words 3)

-- `fault F at PC`
abbrev pub is_fault_end : List (List ℕ) → Bool
is_fault_end words = length words == 7 && (stands words 3 (codes "fault") && (is_fault (at words 4)
    && (stands words 5 (codes "at") && is_number (at words 6))))

-- `out of budget at PC`
abbrev pub is_budget_end : List (List ℕ) → Bool
is_budget_end words = length words == 8 && (stands words 3 (codes "out")
    && (stands words 4 (codes "of") && (stands words 5 (codes "budget")
    && (stands words 6 (codes "at") && is_number (at words 7)))))

-- how a job ends
abbrev pub is_end : List (List ℕ) → Bool
is_end words = is_exit words || (is_fault_end words || is_budget_end words)

-- after `job`: J, `cpu`, C and how it ends, where C is the CPU of job J
abbrev pub is_job_line : Subjects → List (List ℕ) → Bool
is_job_line s words = stands words 1 (codes "cpu")
    && (is_same (cpu_of s (number_in (at words 0))) (number_in (at words 2)) && is_end words)

-- after `map`: NAME and KEY=VALUE
abbrev pub is_map_line : Subjects → List (List ℕ) → Bool
is_map_line s words = length words == 2 && is_pair (map_of s (at words 0)) (at words 1)

-- after `array`: NAME and INDEX=VALUE
abbrev pub is_shared_value : ArrayShape → List (List ℕ) → Bool
is_shared_value g words = length words == 2 && is_numbered g.max g.value (at words 1)

-- NAME, INDEX, `cpu` and CPU=VALUE, where each CPU has values of its own
abbrev pub is_own_value : (cpus : ℕ) → ArrayShape → List (List ℕ) → Bool
is_own_value cpus g words = length words == 4 && (is_below g.max (number_in (at words 1))
    && (stands words 2 (codes "cpu") && is_numbered cpus g.value (at words 3)))

-- of an array of these sizes; nothing of one that may only be read
abbrev pub is_array_value : (cpus : ℕ) → Option ArrayShape → List (List ℕ) → Bool
is_array_value cpus None words = false
is_array_value cpus (Some g) words =
    if g.frozen then false
    else (if g.per_cpu then is_own_value cpus g words else is_shared_value g words)

abbrev pub is_array_line : Subjects → List (List ℕ) → Bool
is_array_line s words = is_array_value s.cpus (array_of s (at words 0)) words

-- this many bytes hold the number
abbrev pub is_of_size : Option Size → Option ℕ → Bool
is_of_size (Some size) (Some n) = nat_lt n (modulus (bytes_in size))
is_of_size (Some size) None = false
is_of_size None n = false

-- after `var`: NAME=N
abbrev pub is_variable_line : Subjects → List (List ℕ) → Bool
is_variable_line s words = length words == 1
    && is_of_size (variable_size s (before_first is_equals (at words 0)))
    (number_in (after_first is_equals (at words 0)))

-- after `keys`: `cpu`, C, NAME and keys, of a CPU that has jobs
abbrev pub is_keys_line : Subjects → List (List ℕ) → Bool
is_keys_line s (cpu ∷ c ∷ name ∷ keys) =
    bytes_eq cpu (codes "cpu") && (has_jobs s (number_in c) && are_keys (map_of s name) keys)
is_keys_line s _ = false

-- A LINE THAT OUTCOMES OF THIS FILE CAN HAVE; those of keys only where lists are asked for
unfoldable pub can_print : Subjects → (first : List ℕ) → List (List ℕ) → Bool
can_print s first more =
    if bytes_eq first (codes "job") then is_job_line s more
    else (if bytes_eq first (codes "map") then is_map_line s more
    else (if bytes_eq first (codes "array") then is_array_line s more
    else (if bytes_eq first (codes "var") then is_variable_line s more
    else (s.lists && (bytes_eq first (codes "keys") && is_keys_line s more)))))

abbrev pub can_print_all : Subjects → List (List ℕ) → Bool
can_print_all s [] = false
can_print_all s (first ∷ more) = can_print s first more
