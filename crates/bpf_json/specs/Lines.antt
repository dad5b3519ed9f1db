-- What printed lines are as JSON (RFC 8259): an object a line. Our own choice.
use Rattle.std.specs.Prelude.{◌≡◌, ℕ, List, [], ◌++◌, ◌⊎◌, All, Option, Some, None, IfSome, String, codes, flat_map, ◌==◌, string_bytes, if◌then◌else◌}
use Rattle.std.specs.Fmt.{decimal}
use Rattle.std.specs.declared.alloc.Global.{Global}
use Rattle.bpf_base.specs.Bytes.{little_endian}
use Rattle.bpf_lines.specs.HexText.{IsHexOf}
use Rattle.bpf_json.specs.Texts.{all_text, by_text, digits_members, exact_members, joined, line_at, line_member, line_of_job, member}
use Rattle.bpf_json.specs.Texts.{text_member, truth, verdict}
use Rattle.bpf_json.specs.declared.digits.Digits.{Digits}
use Rattle.bpf_json.specs.declared.event.Call.{Call}
use Rattle.bpf_json.specs.declared.event.Call.TheVariants as call
use Rattle.bpf_json.specs.declared.event.Change.{Change}
use Rattle.bpf_json.specs.declared.event.Change.TheVariants as change
use Rattle.bpf_json.specs.declared.event.Event.{Event}
use Rattle.bpf_json.specs.declared.job.End.{End}
use Rattle.bpf_json.specs.declared.job.End.TheVariants as ends
use Rattle.bpf_json.specs.declared.job.Job.{Job}
use Rattle.bpf_json.specs.declared.known.Known.{Known}
use Rattle.bpf_json.specs.declared.line.Line.{Line}
use Rattle.bpf_json.specs.declared.line.Line.TheVariants as line
use Rattle.bpf_json.specs.declared.race.Place.{Place}
use Rattle.bpf_json.specs.declared.race.Race.{Race}
use Rattle.bpf_json.specs.declared.race.Raced.{Raced}
use Rattle.bpf_json.specs.declared.race.Raced.TheVariants as raced
use Rattle.bpf_json.specs.declared.test.Remark.{Remark}
use Rattle.bpf_json.specs.declared.test.Remark.TheVariants as remark
use Rattle.bpf_json.specs.declared.test.Test.{Test}
use Rattle.bpf_json.specs.declared.value.Value.{Value}
use Rattle.bpf_json.specs.declared.value.Value.TheVariants as left

-- ---- numbers

-- the bytes that the digits spell read as the number, the lowest byte first
abbrev pub IsNumberOf : List ℕ → ℕ → Type 0
IsNumberOf digits n = (bytes : List ℕ) × IsHexOf digits bytes × (n ≡ little_endian bytes)

abbrev pub IsRightNumber : Digits → Type 0
IsRightNumber d = (n : ℕ) → d.number ≡ Some n → IsNumberOf (string_bytes d.hex) n

abbrev pub IsRightValue : Value → Type 0
IsRightValue (left.Pair name key value) = IsRightNumber key × IsRightNumber value
IsRightValue (left.Element name index cpu value) = IsRightNumber value
IsRightValue (left.Variable name n) = Unit {0}

abbrev pub IsRightCall : Call → Type 0
IsRightCall (call.Lookup name key answer) = IsRightNumber key
IsRightCall (call.Update name key value flags answer) = IsRightNumber key × IsRightNumber value
IsRightCall (call.Delete name key answer) = IsRightNumber key
IsRightCall _ = Unit {0}

abbrev pub IsRightRaced : Raced → Type 0
IsRightRaced (raced.Pair name key) = IfSome key IsRightNumber
IsRightRaced (raced.Element name index) = IsRightNumber index
IsRightRaced (raced.Variable name) = Unit {0}

-- numbers are there beside digits that spell them
abbrev pub IsRight : Line → Type 0
IsRight (line.Value value) = IsRightValue value
IsRight (line.Event event) = IsRightCall event.call
IsRight (line.Race race) = IsRightRaced race.at
IsRight _ = Unit {0}

-- ---- jobs

abbrev pub end_text : End → List ℕ
end_text (ends.Exit r0) = codes "r0=" ++ decimal r0
end_text (ends.Fault code pc) =
    codes "fault " ++ (string_bytes code ++ (codes " at " ++ decimal pc))
end_text (ends.OutOfBudget pc) = codes "out of budget at " ++ decimal pc

abbrev pub job_text : Job → List ℕ
job_text j = codes "job " ++ (decimal j.job ++ (codes " cpu " ++ (decimal j.cpu
    ++ (codes " " ++ end_text j.«end»))))

-- with the line of the file from which the instruction at the pc comes, where that is known
abbrev pub end_members : Known → (job : ℕ) → End → List ℕ
end_members k job (ends.Exit r0) = exact_members (codes "r0") r0
end_members k job (ends.Fault code pc) =
    text_member (codes "fault") (string_bytes code) ++ (codes ",\"pc\":" ++ (decimal pc
    ++ line_member (line_of_job k job pc)))
end_members k job (ends.OutOfBudget pc) =
    codes "\"out_of_budget\":true,\"pc\":" ++ (decimal pc ++ line_member (line_of_job k job pc))

abbrev pub job_object : Known → Job → List ℕ
job_object k j = codes "{\"job\":" ++ (decimal j.job ++ (codes ",\"cpu\":" ++ (decimal j.cpu
    ++ (codes "," ++ (end_members k j.job j.«end» ++ codes "}")))))

-- ---- events

-- the numbers of an access, or of an atomic operation
abbrev pub change_text : Change → List ℕ
change_text (change.Loaded n) = codes " = " ++ decimal n
change_text (change.Stored n) = codes " " ++ decimal n
change_text (change.Changed operand found) =
    codes " " ++ (decimal operand ++ (codes " = " ++ decimal found))
change_text (change.Compared operand expected found) =
    codes " " ++ (decimal operand ++ (codes " expected " ++ (decimal expected ++ (codes " = "
    ++ decimal found))))

-- a number of 64 bits before other members
unfoldable pub number_first : (name : List ℕ) → ℕ → (others : List ℕ) → List ℕ
number_first name n others = joined (exact_members name n) others

abbrev pub change_members : Change → List ℕ
change_members (change.Loaded n) = exact_members (codes "value") n
change_members (change.Stored n) = exact_members (codes "value") n
change_members (change.Changed operand found) =
    number_first (codes "operand") operand (exact_members (codes "found") found)
change_members (change.Compared operand expected found) =
    number_first (codes "operand") operand
    (number_first (codes "expected") expected (exact_members (codes "found") found))

abbrev pub call_text : Call → List ℕ
call_text (call.Job name) = string_bytes name
call_text (call.Lookup name key answer) =
    codes "lookup " ++ (string_bytes name ++ (codes " " ++ (string_bytes key.hex ++ (codes " = "
    ++ string_bytes answer))))
call_text (call.Update name key value flags answer) =
    codes "update " ++ (string_bytes name ++ (codes " " ++ (string_bytes key.hex ++ (codes " "
    ++ (string_bytes value.hex ++ (codes " flags " ++ (decimal flags ++ (codes " = "
    ++ string_bytes answer))))))))
call_text (call.Delete name key answer) =
    codes "delete " ++ (string_bytes name ++ (codes " " ++ (string_bytes key.hex ++ (codes " = "
    ++ string_bytes answer))))
call_text (call.Access name size at what) =
    string_bytes name ++ (codes " " ++ (decimal size ++ (codes " at " ++ (string_bytes at
    ++ change_text what))))

-- of an update its map and its key, and its flags with the answer
unfoldable pub update_members : (name : List ℕ) → Digits → List ℕ
update_members name key = codes "\"event\":\"update\"," ++ (text_member (codes "map") name
    ++ (codes "," ++ digits_members (codes "key") key))

unfoldable pub flags_members : ℕ → (answer : List ℕ) → List ℕ
flags_members flags answer =
    joined (exact_members (codes "flags") flags) (text_member (codes "answer") answer)

abbrev pub call_members : Call → List ℕ
call_members (call.Job name) = text_member (codes "event") (string_bytes name)
call_members (call.Lookup name key answer) =
    codes "\"event\":\"lookup\"," ++ (text_member (codes "map") (string_bytes name) ++ (codes ","
    ++ (digits_members (codes "key") key ++ (codes "," ++ text_member (codes "answer") (string_bytes answer)))))
call_members (call.Update name key value flags answer) =
    joined (joined (update_members (string_bytes name) key) (digits_members (codes "value") value))
    (flags_members flags (string_bytes answer))
call_members (call.Delete name key answer) =
    codes "\"event\":\"delete\"," ++ (text_member (codes "map") (string_bytes name) ++ (codes ","
    ++ (digits_members (codes "key") key ++ (codes "," ++ text_member (codes "answer") (string_bytes answer)))))
call_members (call.Access name size at what) =
    text_member (codes "event") (string_bytes name) ++ (codes ",\"size\":" ++ (decimal size
    ++ (codes "," ++ (text_member (codes "at") (string_bytes at) ++ (codes "," ++ change_members what)))))

abbrev pub event_text : Event → List ℕ
event_text e = codes "cpu " ++ (decimal e.cpu ++ (codes " job " ++ (decimal e.job ++ (codes " pc "
    ++ (decimal e.pc ++ (codes " " ++ call_text e.call))))))

abbrev pub event_object : Known → Event → List ℕ
event_object k e = codes "{\"cpu\":" ++ (decimal e.cpu ++ (codes ",\"job\":" ++ (decimal e.job
    ++ (codes ",\"pc\":" ++ (decimal e.pc ++ (line_member (line_of_job k e.job e.pc) ++ (codes ","
    ++ (call_members e.call ++ codes "}"))))))))

-- a waiting store of this many bytes that reaches memory
unfoldable pub store_text : ℕ → (at : List ℕ) → ℕ → List ℕ
store_text size at n =
    codes "store " ++ (decimal size ++ (codes " at " ++ (at ++ (codes " " ++ decimal n))))

unfoldable pub flush_text : (cpu size : ℕ) → (at : List ℕ) → ℕ → List ℕ
flush_text cpu size at n =
    codes "cpu " ++ (decimal cpu ++ (codes " flush " ++ store_text size at n))

unfoldable pub word_members : (at : List ℕ) → ℕ → List ℕ
word_members at n = joined (text_member (codes "at") at) (exact_members (codes "value") n)

unfoldable pub flush_members : (size : ℕ) → (at : List ℕ) → ℕ → List ℕ
flush_members size at n = codes "\"event\":\"flush\"," ++ (codes "\"size\":" ++ (decimal size
    ++ (codes "," ++ word_members at n)))

unfoldable pub flush_object : (cpu size : ℕ) → (at : List ℕ) → ℕ → List ℕ
flush_object cpu size at n = codes "{\"cpu\":" ++ (decimal cpu ++ (codes ","
    ++ (flush_members size at n ++ codes "}")))

-- ---- values

-- the CPU whose value it is, where each has one
abbrev pub owner_text : Option ℕ → List ℕ
owner_text None = []
owner_text (Some c) = codes " cpu " ++ decimal c

abbrev pub owner_member : Option ℕ → List ℕ
owner_member None = []
owner_member (Some c) = codes ",\"cpu\":" ++ decimal c

abbrev pub value_text : Value → List ℕ
value_text (left.Pair name key value) =
    codes "map " ++ (string_bytes name ++ (codes " " ++ (string_bytes key.hex ++ (codes "="
    ++ string_bytes value.hex))))
value_text (left.Element name index cpu value) =
    codes "array " ++ (string_bytes name ++ (codes " " ++ (decimal index ++ (owner_text cpu
    ++ (codes "=" ++ string_bytes value.hex)))))
value_text (left.Variable name n) = codes "var " ++ (string_bytes name ++ (codes "=" ++ decimal n))

abbrev pub value_object : Value → List ℕ
value_object (left.Pair name key value) =
    codes "{" ++ (text_member (codes "map") (string_bytes name) ++ (codes ","
    ++ (digits_members (codes "key") key ++ (codes "," ++ (digits_members (codes "value") value
    ++ codes "}")))))
value_object (left.Element name index cpu value) =
    codes "{" ++ (text_member (codes "array") (string_bytes name) ++ (codes ",\"index\":"
    ++ (decimal index ++ (owner_member cpu ++ (codes "," ++ (digits_members (codes "value") value
    ++ codes "}"))))))
value_object (left.Variable name n) =
    codes "{" ++ (text_member (codes "var") (string_bytes name) ++ (codes ","
    ++ (exact_members (codes "value") n ++ codes "}")))

-- ---- races

-- a CPU, its program, and where it is in that
abbrev pub place_text : Place → List ℕ
place_text at = codes "cpu " ++ (decimal at.cpu ++ (codes " prog " ++ (decimal at.program
    ++ (codes " pc " ++ decimal at.pc))))

abbrev pub place_object : Known → Place → List ℕ
place_object k at =
    codes "{\"cpu\":" ++ (decimal at.cpu ++ (codes ",\"prog\":" ++ (decimal at.program
    ++ (codes ",\"pc\":" ++ (decimal at.pc ++ (line_member (line_at k at.program at.pc)
    ++ codes "}"))))))

-- a key in hex, or that none leads to the value any more
abbrev pub key_text : Option Digits → List ℕ
key_text None = codes "deleted"
key_text (Some key) = string_bytes key.hex

abbrev pub key_members : Option Digits → List ℕ
key_members None = codes "\"key\":null"
key_members (Some key) = digits_members (codes "key") key

-- the value for which two CPUs race
abbrev pub raced_text : Raced → List ℕ
raced_text (raced.Pair name key) =
    codes "map " ++ (string_bytes name ++ (codes " " ++ key_text key))
raced_text (raced.Element name index) =
    codes "array " ++ (string_bytes name ++ (codes " " ++ string_bytes index.hex))
raced_text (raced.Variable name) = codes "var " ++ string_bytes name

abbrev pub raced_members : Raced → List ℕ
raced_members (raced.Pair name key) =
    text_member (codes "map") (string_bytes name) ++ (codes "," ++ key_members key)
raced_members (raced.Element name index) =
    text_member (codes "array") (string_bytes name) ++ (codes "," ++ digits_members (codes "index") index)
raced_members (raced.Variable name) = text_member (codes "var") (string_bytes name)

abbrev pub race_text : Race → List ℕ
race_text r = codes "race " ++ (place_text r.one ++ (codes " " ++ (place_text r.other
    ++ (codes " " ++ (raced_text r.at ++ (codes " " ++ by_text (string_bytes r.by)))))))

abbrev pub race_object : Known → Race → List ℕ
race_object k r = codes "{\"race\":[" ++ (place_object k r.one ++ (codes "," ++ (place_object k r.other
    ++ (codes "]," ++ (raced_members r.at ++ (codes "," ++ (text_member (codes "by") (string_bytes r.by)
    ++ codes "}")))))))

-- ---- tests

-- what is said of a test on the line after it
abbrev pub remark_text : Remark → List ℕ
remark_text (remark.By schedule) = by_text (string_bytes schedule)
remark_text (remark.HungBy schedule) = codes "hung " ++ by_text (string_bytes schedule)
remark_text (remark.Note text) = string_bytes text

abbrev pub remark_member : Remark → List ℕ
remark_member (remark.By schedule) = text_member (codes "by") (string_bytes schedule)
remark_member (remark.HungBy schedule) = text_member (codes "hung_by") (string_bytes schedule)
remark_member (remark.Note text) = text_member (codes "note") (string_bytes text)

abbrev pub remark_object : Remark → List ℕ
remark_object r = member (codes "note") (remark_text r)

abbrev pub said_text : Option Remark → List ℕ
said_text None = []
said_text (Some r) = codes "\n# " ++ remark_text r

abbrev pub said_members : Option Remark → List ℕ
said_members None = []
said_members (Some r) = codes "," ++ remark_member r

abbrev pub said_objects : Option Remark → List ℕ
said_objects None = []
said_objects (Some r) = codes "\n" ++ remark_object r

-- the file's name, where there are several
abbrev pub file_text : Option (String Global) → List ℕ
file_text None = []
file_text (Some file) = string_bytes file ++ codes ": "

abbrev pub name_member : Option (String Global) → List ℕ
name_member None = []
name_member (Some file) = codes "," ++ text_member (codes "file") (string_bytes file)

-- else the one that is known
abbrev pub file_member : Known → Option (String Global) → List ℕ
file_member k None = name_member k.file
file_member k (Some file) = name_member (Some file)

-- the number of the line of a file that expects it, where there is one
abbrev pub at_text : Option ℕ → List ℕ
at_text None = []
at_text (Some n) = codes "line " ++ (decimal n ++ codes " ")

-- its line, and that of a remark
abbrev pub test_text : Test → List ℕ
test_text t = at_text t.line ++ (verdict t.ok ++ (codes " " ++ (decimal t.number ++ (codes " - "
    ++ (file_text t.file ++ (string_bytes t.name ++ said_text t.remark))))))

-- its object, and that of a remark, which is an object of its own as well
abbrev pub test_object : Known → Test → List ℕ
test_object k t = codes "{\"test\":" ++ (decimal t.number ++ (codes ",\"ok\":" ++ (truth t.ok
    ++ (codes "," ++ (text_member (codes "name") (file_text t.file ++ string_bytes t.name)
    ++ (file_member k t.file ++ (line_member t.line ++ (said_members t.remark ++ (codes "}"
    ++ said_objects t.remark)))))))))

-- how many tests follow; where none does, that they are skipped
abbrev pub plan_text : ℕ → List ℕ
plan_text count = if count == 0 then codes "1..0 # SKIP no expectations"
    else codes "1.." ++ decimal count

-- how many states were searched, of which file where there are several, as a comment
abbrev pub states_text : Option (String Global) → ℕ → List ℕ
states_text file n = codes "# " ++ (file_text file ++ (decimal n ++ codes " states"))

abbrev pub states_object : Known → Option (String Global) → ℕ → List ℕ
states_object k file n =
    codes "{\"states\":" ++ (decimal n ++ (file_member k file ++ codes "}"))

-- ---- packets

abbrev pub packet_text : ℕ → String Global → List ℕ
packet_text job bytes = codes "packet " ++ (decimal job ++ (codes " " ++ string_bytes bytes))

abbrev pub packet_object : ℕ → String Global → List ℕ
packet_object job bytes = codes "{\"job\":" ++ (decimal job ++ (codes ","
    ++ (text_member (codes "packet") (string_bytes bytes) ++ codes "}")))

-- ---- lines

-- as it is printed, without its end
abbrev pub plain : Line → List ℕ
plain (line.Job job) = job_text job
plain (line.Event event) = event_text event
plain (line.Flush cpu size at n) = flush_text cpu size (string_bytes at) n
plain (line.Packet job bytes) = packet_text job bytes
plain (line.Value value) = value_text value
plain (line.By schedule) = by_text (string_bytes schedule)
plain (line.Hung schedule) = codes "hung " ++ by_text (string_bytes schedule)
plain (line.Counts all outcomes states) =
    all_text all ++ (codes ": " ++ (decimal outcomes ++ (codes " outcomes, " ++ (decimal states
    ++ codes " states"))))
plain (line.Race race) = race_text race
plain (line.Races all races) =
    all_text all ++ (codes ": " ++ (decimal races ++ codes " races"))
plain (line.Plan count) = plan_text count
plain (line.Test test) = test_text test
plain (line.States file n) = states_text file n
plain (line.Note text) = codes "# " ++ string_bytes text
plain (line.Refused why) = codes "refused " ++ string_bytes why
plain (line.Other text) = string_bytes text

-- as JSON, with what is known beside it
abbrev pub object : Known → Line → List ℕ
object k (line.Job job) = job_object k job
object k (line.Event event) = event_object k event
object k (line.Flush cpu size at n) = flush_object cpu size (string_bytes at) n
object k (line.Packet job bytes) = packet_object job bytes
object k (line.Value value) = value_object value
object k (line.By schedule) = member (codes "by") (string_bytes schedule)
object k (line.Hung schedule) = member (codes "hung_by") (string_bytes schedule)
object k (line.Counts all outcomes states) =
    codes "{\"all\":" ++ (truth all ++ (codes ",\"outcomes\":" ++ (decimal outcomes
    ++ (codes ",\"states\":" ++ (decimal states ++ codes "}")))))
object k (line.Race race) = race_object k race
object k (line.Races all races) =
    codes "{\"all\":" ++ (truth all ++ (codes ",\"races\":" ++ (decimal races ++ codes "}")))
object k (line.Plan count) = codes "{\"tests\":" ++ (decimal count ++ codes "}")
object k (line.Test test) = test_object k test
object k (line.States file n) = states_object k file n
object k (line.Note text) = member (codes "note") (string_bytes text)
object k (line.Refused why) = member (codes "refused") (string_bytes why)
object k (line.Other text) = member (codes "line") (string_bytes text)

-- ---- a text

-- of what the line says; a remark on a test is of the same line as the test
abbrev pub IsObjectOf : Known → (text made : List ℕ) → Type 0
IsObjectOf k text made = (l : Line) × IsRight l × (plain l ≡ text) × (made ≡ object k l)

-- it is appended
abbrev pub IsLineOf : Known → (text old new : List ℕ) → Type 0
IsLineOf k text old new =
    (made : List ℕ) × IsObjectOf k text made × (new ≡ old ++ (made ++ codes "\n"))

-- so written, each on a line
abbrev pub lines_of : (Line → List ℕ) → List Line → List ℕ
lines_of write lines = flat_map (λ l. write l ++ codes "\n") lines

-- the text is that of these lines, and the last of them may lack its end; their objects are these
abbrev pub AreObjectsOf : Known → (text objects : List ℕ) → Type 0
AreObjectsOf k text objects = (lines : List Line) × All IsRight lines
    × ((text ≡ lines_of plain lines) ⊎ (text ++ codes "\n" ≡ lines_of plain lines))
    × (objects ≡ lines_of (object k) lines)
