-- What a line says to the debugger of CPUs with store buffers: what it says without them, and two
-- commands more (our own choice).
use Rattle.std.specs.Prelude.{ℕ, if◌then◌else◌, List, [], ◌∷◌, codes, Option, Some, None, option_map, option_and_then}
use Rattle.std.specs.Str.{bytes_eq}
use Rattle.bpf_schedule.specs.Moves.{moves_in}
use Rattle.bpf_debug.specs.Command as plain
use Rattle.bpf_debug.specs.Command.{command_order, cpu_in, read_all, steps_of}
use Rattle.bpf_buffer_debug.specs.declared.command.Asked.{Asked}
use Rattle.bpf_buffer_debug.specs.declared.command.Asked.TheVariants as asked

pub data Order : Type 0 where
  -- a command that there is without store buffers; the numbers of `steps` are moves
  Plain : plain.Order → Order
  -- `flush C`: the oldest store that waits in C's buffer reaches memory
  Flush : Option ℕ → Order
  -- `buffer C`: the stores that wait there
  Buffer : Option ℕ → Order

-- two words that are a command of CPUs with store buffers alone
abbrev pub own_words : List ℕ → List ℕ → Option Order
own_words w a =
    if bytes_eq (codes "flush") w then option_map Flush (cpu_in a)
    else (if bytes_eq (codes "buffer") w then option_map Buffer (cpu_in a)
    else None)

abbrev pub or_plain : Option Order → List (List ℕ) → Option Order
or_plain None fields = option_map Plain (plain.few_words fields)
or_plain (Some order) fields = Some order

abbrev pub few_words : List (List ℕ) → Option Order
few_words (w ∷ a ∷ []) = or_plain (own_words w a) (w ∷ a ∷ [])
few_words fields = option_map Plain (plain.few_words fields)

-- ---- a schedule: any number of words, each some moves
abbrev pub schedule_in : List (List ℕ) → Option Order
schedule_in words = option_map Plain (option_and_then steps_of (read_all moves_in words))

-- WHAT A LINE'S FIELDS SAY, if that is a command
abbrev pub order_of : List (List ℕ) → Option Order
order_of [] = None
order_of (w ∷ words) =
    if bytes_eq (codes "steps") w then schedule_in words else few_words (w ∷ words)

-- ---- what a reader answers
abbrev pub asked_order : Asked → Order
asked_order (asked.Plain command) = Plain (command_order command)
asked_order (asked.Flush c) = Flush c
asked_order (asked.Buffer c) = Buffer c
