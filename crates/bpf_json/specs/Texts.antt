-- Parts of printed lines, and of JSON (RFC 8259). Our own choice.
use Rattle.std.specs.Prelude.{ℕ, Bool, List, [], ◌++◌, Option, Some, None, codes, map, nat_lt, not, ◌==◌, ◌&&◌, option_and_then, slice_get}
use Rattle.std.specs.Prelude.{string_bytes, if◌then◌else◌}
use Rattle.std.specs.Fmt.{decimal}
use Rattle.bpf_json.specs.declared.digits.Digits.{Digits}
use Rattle.bpf_json.specs.declared.known.Known.{Known}

-- ---- of lines

abbrev pub verdict : Bool → List ℕ
verdict ok = if ok then codes "ok" else codes "not ok"

abbrev pub all_text : Bool → List ℕ
all_text all = if all then codes "all" else codes "not all"

abbrev pub by_text : List ℕ → List ℕ
by_text [] = codes "by"
by_text schedule = codes "by " ++ schedule

-- ---- of JSON

-- a byte that is between quotes as it is
abbrev pub is_plain : ℕ → Bool
is_plain b = nat_lt 31 b && (nat_lt b 127 && (not (b == 34) && not (b == 92)))

-- any other, which no printed line has, is shown as `?`
abbrev pub shown_byte : ℕ → ℕ
shown_byte b = if is_plain b then b else 63

abbrev pub quoted : List ℕ → List ℕ
quoted text = codes "\"" ++ (map shown_byte text ++ codes "\"")

abbrev pub truth : Bool → List ℕ
truth test = if test then codes "true" else codes "false"

-- a member that is a text
abbrev pub text_member : (name text : List ℕ) → List ℕ
text_member name text = codes "\"" ++ (name ++ (codes "\":" ++ quoted text))

-- an object of one text
abbrev pub member : (name text : List ℕ) → List ℕ
member name text = codes "{" ++ (text_member name text ++ codes "}")

-- a number of 64 bits is a text, too: some readers of JSON round numbers
abbrev pub exact_members : (name : List ℕ) → ℕ → List ℕ
exact_members name n = codes "\"" ++ (name ++ (codes "\":" ++ (decimal n ++ (codes ",\"" ++ (name
    ++ (codes "_text\":\"" ++ (decimal n ++ codes "\"")))))))

-- members, and a comma between them
unfoldable pub joined : (one other : List ℕ) → List ℕ
joined one other = one ++ (codes "," ++ other)

-- the number of a line, where there is one, after a comma
abbrev pub line_member : Option ℕ → List ℕ
line_member None = []
line_member (Some n) = codes ",\"line\":" ++ decimal n

-- the member for the number, after a comma
abbrev pub number_member : List ℕ → Option ℕ → List ℕ
number_member name None = []
number_member name (Some n) = codes ",\"" ++ (name ++ (codes "_number\":" ++ decimal n))

abbrev pub digits_members : List ℕ → Digits → List ℕ
digits_members name d = text_member name (string_bytes d.hex) ++ number_member name d.number

-- ---- what is known of the file

abbrev pub some_line : ℕ → Option ℕ
some_line n = if n == 0 then None else Some n

-- the number of the line from which the instruction of a program at a pc comes
abbrev pub line_at : Known → (program pc : ℕ) → Option ℕ
line_at k program pc = option_and_then (λ lines. option_and_then some_line (slice_get lines.items pc))
    (slice_get k.lines.items program)

-- that of a job
abbrev pub line_of_job : Known → (job pc : ℕ) → Option ℕ
line_of_job k job pc =
    option_and_then (λ program. line_at k program pc) (slice_get k.jobs.items job)
