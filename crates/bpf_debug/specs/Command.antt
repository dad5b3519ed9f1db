-- What a line says to the debugger (our own choice).
use Rattle.std.specs.Prelude.{ℕ, Bool, ◌^◌, ◌&&◌, ◌||◌, nat_le, nat_lt, if◌then◌else◌, List, [], ◌∷◌, codes, length, Option, Some, None}
use Rattle.std.specs.Prelude.{option_map, option_and_then}
use Rattle.std.specs.List.{list_all}
use Rattle.std.specs.Str.{bytes_eq}
use Rattle.bpf_lines.specs.Words.{written_number, is_name}
use Rattle.bpf_schedule.specs.Spelling.{run_in}
use Rattle.bpf_debug.specs.declared.command.Command.{Command}
use Rattle.bpf_debug.specs.declared.command.Command.TheVariants as command

-- a command; a number that is too large to be a CPU's, a pc or an address is none
pub data Order : Type 0 where
  -- `break C P`: the pc P is a breakpoint of the CPU C
  Break : Option ℕ → Option ℕ → Order
  -- `delete C P`: it is one no more
  Delete : Option ℕ → Option ℕ → Order
  -- `step C`: one turn
  Step : Option ℕ → Order
  -- `step C N`: N turns
  StepTimes : Option ℕ → ℕ → Order
  -- `steps S`: the turns of a schedule, CPUs each with how many turns it makes before the next
  Steps : List (ℕ × ℕ) → Order
  -- `go`: turns up to a breakpoint, or until no work is left
  Go : Order
  -- `regs C`
  Registers : Option ℕ → Order
  -- `where C`
  Where : Option ℕ → Order
  -- `mem C A N`: N bytes at the address A
  Memory : Option ℕ → Option ℕ → ℕ → Order
  -- `map NAME`
  Map : List ℕ → Order
  -- `keys NAME`
  Keys : List ℕ → Order
  -- `schedule`: the turns made so far
  Schedule : Order
  -- `back N`: the last N turns are undone
  Back : ℕ → Order
  -- `go C until P`, `step C until P`: turns of C up to the pc P, or until it has no work left
  GoTo : Option ℕ → Option ℕ → Order
  -- `maps`
  Maps : Order
  -- `vars`
  Variables : Order
  -- `var NAME`
  Number : List ℕ → Order
  -- `jobs`
  Jobs : Order
  -- `mark N`
  Mark : ℕ → Order
  -- `help`
  Help : Order
  -- `held C`
  Held : Option ℕ → Order
  -- `list C`
  Nearby : Option ℕ → Order
  -- `last C`
  Last : Option ℕ → Order
  -- `show C`
  Show : Option ℕ → Order
  -- `watch NAME KEY`: the value of a key of a map, or of an index of an array, is watched; the key as
  -- it is written
  Watch : List ℕ → List ℕ → Order
  -- `watch NAME`: a variable is
  WatchVariable : List ℕ → Order
  -- `watch`: no value is watched any more
  Unwatch : Order

-- a word is a number of any size, and this one where it is below the limit
abbrev pub number_below : ℕ → List ℕ → Option (Option ℕ)
number_below limit word =
    option_map (λ n. if nat_lt n limit then Some n else None) (written_number word)

abbrev pub cpu_in : List ℕ → Option (Option ℕ)
cpu_in = number_below (2 ^ 8)

abbrev pub pc_in : List ℕ → Option (Option ℕ)
pc_in = number_below (2 ^ 32)

abbrev pub address_in : List ℕ → Option (Option ℕ)
address_in = number_below (2 ^ 64)

-- how many bytes are shown at once, at most
abbrev pub most_shown : ℕ
most_shown = 256

-- a number from 1 to the most
abbrev pub few_of : ℕ → ℕ → Option ℕ
few_of most n = if nat_le 1 n && nat_le n most then Some n else None

-- a number of bytes
abbrev pub count_in : List ℕ → Option ℕ
count_in word = option_and_then (few_of most_shown) (written_number word)

-- how many turns are made at once, at most
abbrev pub most_turns : ℕ
most_turns = 1000000

-- a number of turns
abbrev pub turns_in : List ℕ → Option ℕ
turns_in word = option_and_then (few_of most_turns) (written_number word)

-- a number of 64 bits
abbrev pub mark_in : List ℕ → Option ℕ
mark_in word =
    option_and_then (λ n. if nat_lt n (2 ^ 64) then Some n else None) (written_number word)

-- ---- commands by the number of their words
abbrev pub one_word : List ℕ → Option Order
one_word w =
    if bytes_eq (codes "go") w then Some Go
    else (if bytes_eq (codes "schedule") w then Some Schedule
    else (if bytes_eq (codes "maps") w then Some Maps
    else (if bytes_eq (codes "vars") w then Some Variables
    else (if bytes_eq (codes "jobs") w then Some Jobs
    else (if bytes_eq (codes "help") w then Some Help
    else (if bytes_eq (codes "watch") w then Some Unwatch
    else None))))))

abbrev pub two_words : List ℕ → List ℕ → Option Order
two_words w a =
    if bytes_eq (codes "step") w then option_map Step (cpu_in a)
    else (if bytes_eq (codes "regs") w then option_map Registers (cpu_in a)
    else (if bytes_eq (codes "where") w then option_map Where (cpu_in a)
    else (if bytes_eq (codes "map") w then (if is_name a then Some (Map a) else None)
    else (if bytes_eq (codes "keys") w then (if is_name a then Some (Keys a) else None)
    else (if bytes_eq (codes "var") w then (if is_name a then Some (Number a) else None)
    else (if bytes_eq (codes "watch") w then (if is_name a then Some (WatchVariable a) else None)
    else (if bytes_eq (codes "mark") w then option_map Mark (mark_in a)
    else (if bytes_eq (codes "back") w then option_map Back (turns_in a)
    else (if bytes_eq (codes "held") w then option_map Held (cpu_in a)
    else (if bytes_eq (codes "list") w then option_map Nearby (cpu_in a)
    else (if bytes_eq (codes "last") w then option_map Last (cpu_in a)
    else (if bytes_eq (codes "show") w then option_map Show (cpu_in a)
    else None))))))))))))

abbrev pub three_words : List ℕ → List ℕ → List ℕ → Option Order
three_words w a b =
    if bytes_eq (codes "break") w
    then option_and_then (λ c. option_map (Break c) (pc_in b)) (cpu_in a)
    else (if bytes_eq (codes "delete") w
    then option_and_then (λ c. option_map (Delete c) (pc_in b)) (cpu_in a)
    else (if bytes_eq (codes "step") w
    then option_and_then (λ c. option_map (StepTimes c) (turns_in b)) (cpu_in a)
    else (if bytes_eq (codes "watch") w then (if is_name a then Some (Watch a b) else None)
    else None)))

abbrev pub four_words : List ℕ → List ℕ → List ℕ → List ℕ → Option Order
four_words w a b c =
    if bytes_eq (codes "mem") w
    then option_and_then (λ cpu. option_and_then (λ at. option_map (Memory cpu at) (count_in c))
    (address_in b)) (cpu_in a)
    else (if (bytes_eq (codes "go") w || bytes_eq (codes "step") w) && bytes_eq (codes "until") b
    then option_and_then (λ cpu. option_map (GoTo cpu) (pc_in c)) (cpu_in a)
    else None)

abbrev pub few_words : List (List ℕ) → Option Order
few_words (w ∷ []) = one_word w
few_words (w ∷ a ∷ []) = two_words w a
few_words (w ∷ a ∷ b ∷ []) = three_words w a b
few_words (w ∷ a ∷ b ∷ c ∷ []) = four_words w a b c
few_words fields = None

-- ---- a schedule: any number of words

-- what each word of a list is read as, where each is something
abbrev pub read_all : (List ℕ → Option (ℕ × ℕ)) → List (List ℕ) → Option (List (ℕ × ℕ))
read_all f [] = Some []
read_all f (w ∷ ws) =
    option_and_then (λ run. option_map (λ runs. run ∷ runs) (read_all f ws)) (f w)

abbrev pub is_short : ℕ × ℕ → Bool
is_short run = nat_le run.1 most_turns

-- one run or more, each of this many turns at most
abbrev pub steps_of : List (ℕ × ℕ) → Option Order
steps_of runs = if nat_lt 0 (length runs) && list_all is_short runs then Some (Steps runs) else None

abbrev pub schedule_in : List (List ℕ) → Option Order
schedule_in words = option_and_then steps_of (read_all run_in words)

-- WHAT A LINE'S FIELDS SAY, if that is a command
abbrev pub order_of : List (List ℕ) → Option Order
order_of [] = None
order_of (w ∷ words) =
    if bytes_eq (codes "steps") w then schedule_in words else few_words (w ∷ words)

-- ---- what a reader answers
abbrev pub command_order : Command → Order
command_order (command.Break c p) = Break c p
command_order (command.Delete c p) = Delete c p
command_order (command.Step c) = Step c
command_order (command.StepTimes c n) = StepTimes c n
command_order command.Go = Go
command_order (command.Registers c) = Registers c
command_order (command.Where c) = Where c
command_order (command.Memory c a n) = Memory c a n
command_order (command.Map name) = Map name.now
command_order (command.Keys name) = Keys name.now
command_order command.Schedule = Schedule
command_order (command.GoTo c p) = GoTo c p
command_order command.Maps = Maps
command_order command.Variables = Variables
command_order (command.Number name) = Number name.now
command_order command.Jobs = Jobs
command_order (command.Mark n) = Mark n
command_order (command.Back n) = Back n
command_order command.Help = Help
command_order (command.Held c) = Held c
command_order (command.Nearby c) = Nearby c
command_order (command.Last c) = Last c
command_order (command.Show c) = Show c
command_order (command.Watch name key) = Watch name.now key.now
command_order (command.WatchVariable name) = WatchVariable name.now
command_order command.Unwatch = Unwatch
