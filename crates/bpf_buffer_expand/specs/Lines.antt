-- What is printed of the states that moves lead to. Our own choice.
use Rattle.std.specs.Prelude.{ℕ, zero, suc, ◌+◌, ◌++◌, Bool, false, true, List, [], Option, None, Some, codes, slice_get}
use Rattle.std.specs.Fmt.{decimal}
use Rattle.hex.specs.Hex.{encode_lower}
use Rattle.bpf_buffer_expand.specs.declared.successor.Successor.{Successor}

-- a turn, or the flush of the oldest store that waits
abbrev pub move_text : (is_flush : Bool) → List ℕ
move_text false = codes "*"
move_text true = codes "!*"

-- the CPU, its move, and how often it made it
abbrev pub by_text : Successor → List ℕ
by_text s = codes " by " ++ (decimal s.cpu ++ (move_text s.is_flush
    ++ (decimal (s.ahead + 1) ++ codes "\n")))

abbrev pub successor_line : Successor → List ℕ
successor_line s = codes "state " ++ (encode_lower s.bytes.items ++ by_text s)

abbrev pub line_of : Option Successor → List ℕ
line_of None = []
line_of (Some s) = successor_line s

-- a line each, of the first n
abbrev pub successor_lines : ℕ → List Successor → List ℕ
successor_lines zero found = []
successor_lines (suc n) found = successor_lines n found ++ line_of (slice_get found n)
