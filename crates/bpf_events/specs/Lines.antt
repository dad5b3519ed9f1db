-- How a history is printed: a line an event. Our own choice.
use Rattle.std.specs.Prelude.{ℕ, false, ◌++◌, List, [], ◌∷◌, Option, Some, None, codes, length, slice_index_or}
use Rattle.std.specs.Fmt.{decimal, digits}
use Rattle.hex.specs.Hex.{encode_lower}
use Rattle.bpf_base.specs.declared.atomic.Change.{Change}
use Rattle.bpf_base.specs.declared.atomic.Change.TheVariants as change
use Rattle.bpf_shared.specs.declared.events.Span.{Span}
use Rattle.bpf_shared.specs.declared.events.MapAnswer.{MapAnswer}
use Rattle.bpf_shared.specs.declared.events.MapAnswer.TheVariants as answer
use Rattle.bpf_shared.specs.declared.events.Size.{Size}
use Rattle.bpf_shared.specs.declared.events.Size.TheVariants as size
use Rattle.bpf_shared.specs.declared.events.Event.{Event}
use Rattle.bpf_shared.specs.declared.events.Event.TheVariants as event
use Rattle.bpf_jobs.specs.Printed.{key_words}
use Rattle.bpf_machine.specs.Happenings.{Happening}

-- the name of a map; none for no map's number
abbrev pub name_of : List (List ℕ) → ℕ → List ℕ
name_of names m = slice_index_or names m []

-- an address, in hex
abbrev pub address_text : ℕ → List ℕ
address_text at = codes "0x" ++ digits 16 false at

-- where a value lies
abbrev pub place_text : Option Span → List ℕ
place_text None = codes "none"
place_text (Some span) = address_text span.at

-- the answer to an update or a deletion
abbrev pub answer_text : MapAnswer → List ℕ
answer_text answer.Done = codes "done"
answer_text answer.Invalid = codes "EINVAL"
answer_text answer.Busy = codes "EBUSY"
answer_text answer.Exists = codes "EEXIST"
answer_text answer.Absent = codes "ENOENT"
answer_text answer.Full = codes "E2BIG"
answer_text answer.NoMemory = codes "ENOMEM"

abbrev pub change_text : Change → List ℕ
change_text change.Add = codes "add"
change_text change.Or = codes "or"
change_text change.And = codes "and"
change_text change.Xor = codes "xor"
change_text change.Exchange = codes "xchg"
change_text change.CompareExchange = codes "cmpxchg"

abbrev pub size_text : Size → List ℕ
size_text size.Byte = codes "1"
size_text size.Half = codes "2"
size_text size.Word = codes "4"
size_text size.Double = codes "8"

-- this many bytes, from an address on
abbrev pub bytes_text : ℕ → Size → List ℕ
bytes_text at size = size_text size ++ (codes " at " ++ address_text at)

-- the operand, and where an exchange looks at it the number that is expected
abbrev pub operand_text : Change → ℕ → ℕ → List ℕ
operand_text change.CompareExchange operand expected =
    decimal operand ++ (codes " expected " ++ decimal expected)
operand_text op operand expected = decimal operand

-- a value and the flags of its update
abbrev pub value_text : List ℕ → ℕ → List ℕ
value_text value flags =
    encode_lower value ++ (codes " flags " ++ decimal flags ++ codes " = ")

abbrev pub load_text : ℕ → Size → ℕ → List ℕ
load_text at size found = codes "load " ++ bytes_text at size ++ codes " = " ++ decimal found

abbrev pub store_text : ℕ → Size → ℕ → List ℕ
store_text at size word = codes "store " ++ bytes_text at size ++ codes " " ++ decimal word

abbrev pub atomic_text : ℕ → Size → Change → ℕ → ℕ → ℕ → List ℕ
atomic_text at size op operand expected found =
    change_text op ++ codes " " ++ bytes_text at size ++ codes " " ++ operand_text op operand expected
    ++ codes " = " ++ decimal found

-- a call with its reply after '='
abbrev pub event_text : List (List ℕ) → Event → List ℕ
event_text names event.Begin = codes "begin"
event_text names event.End = codes "end"
event_text names (event.Lookup m key found) =
    codes "lookup " ++ name_of names m ++ codes " " ++ encode_lower key ++ codes " = "
    ++ place_text found
event_text names (event.Update m key value flags reply) =
    codes "update " ++ name_of names m ++ codes " " ++ encode_lower key ++ codes " "
    ++ value_text value flags ++ answer_text reply
event_text names (event.Delete m key reply) =
    codes "delete " ++ name_of names m ++ codes " " ++ encode_lower key ++ codes " = "
    ++ answer_text reply
event_text names (event.Keys m keys) =
    codes "keys " ++ name_of names m ++ codes " =" ++ key_words (length keys) keys
event_text names (event.Load at size found) = load_text at size found
event_text names (event.Store at size word) = store_text at size word
event_text names (event.Atomic at size op operand expected found) =
    atomic_text at size op operand expected found

-- THE LINE OF AN EVENT
abbrev pub happening_line : List (List ℕ) → Happening → List ℕ
happening_line names h =
    codes "cpu " ++ decimal h.cpu ++ codes " job " ++ decimal h.job ++ codes " pc " ++ decimal h.pc
    ++ codes " " ++ event_text names h.event ++ codes "\n"

-- those of a history
abbrev pub history_lines : List (List ℕ) → List Happening → List ℕ
history_lines names [] = []
history_lines names (h ∷ rest) = happening_line names h ++ history_lines names rest
