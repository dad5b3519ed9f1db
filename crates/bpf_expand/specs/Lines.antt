-- States as lines, and what is printed of those that they lead to. Our own choice.
use Rattle.std.specs.Prelude.{ℕ, zero, suc, ◌+◌, ◌++◌, List, [], Option, None, Some, codes, slice_get}
use Rattle.std.specs.Fmt.{decimal}
use Rattle.hex.specs.Hex.{encode_lower}
use Rattle.bpf_codes.specs.CodeText.{code_text}
use Rattle.bpf_codes.specs.declared.code.Code.TheVariants as code
use Rattle.bpf_expand.specs.declared.successor.Successor.{Successor}

-- a state
abbrev pub state_line : List ℕ → List ℕ
state_line bytes = encode_lower bytes ++ codes "\n"

-- the CPU, and how many turns it made
abbrev pub by_text : Successor → List ℕ
by_text s =
    codes " by " ++ (decimal s.cpu ++ (codes "*" ++ (decimal (s.ahead + 1) ++ codes "\n")))

abbrev pub successor_line : Successor → List ℕ
successor_line s = codes "state " ++ (encode_lower s.bytes.items ++ by_text s)

abbrev pub line_of : Option Successor → List ℕ
line_of None = []
line_of (Some s) = successor_line s

-- a line each, of the first n
abbrev pub successor_lines : ℕ → List Successor → List ℕ
successor_lines zero found = []
successor_lines (suc n) found = successor_lines n found ++ line_of (slice_get found n)

-- what is printed of an end
abbrev pub report_line : List ℕ → List ℕ
report_line report = codes "report " ++ (encode_lower report ++ codes "\n")

-- with the number of a state that has it
abbrev pub end_line : List ℕ → ℕ → List ℕ
end_line report number =
    codes "report " ++ (encode_lower report ++ (codes " of " ++ (decimal number ++ codes "\n")))

-- the line of this number, counted from 1, is no state
abbrev pub no_state_line : ℕ → List ℕ
no_state_line n =
    codes "refused " ++ (code_text code.X1 ++ (codes " " ++ (decimal n ++ codes "\n")))
