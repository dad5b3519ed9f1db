-- What the reader has gathered so far, and what its functions answer. Private functions cite this.
use Rattle.std.specs.Prelude.{◌≡◌, ℕ, ◌*◌, ◌≤◌, List, [], length, map, Result, Ok, Err, Option, Some, None}
use Rattle.std.specs.Option.{option_copied}
use Rattle.bpf_mem.specs.Limits.{max_context, max_packet}
use Rattle.bpf_lines.specs.Lines.{lines_behind}
use Rattle.bpf_cpu.specs.Task.{waiting}
use Rattle.bpf_file.specs.declared.draft.Draft.{Draft}
use Rattle.bpf_file.specs.declared.draft.Next.{Next}
use Rattle.bpf_file.specs.declared.draft.Next.TheVariants.{Line, Assembly}
use Rattle.bpf_file.specs.declared.error.FileError.{FileError}
use Rattle.bpf_file.specs.declared.error.FileError.TheVariants.{Refused, OutOfMemory}
use Rattle.bpf_file.specs.declared.error.Reason.TheVariants.{NotHex}
use Rattle.hex.specs.declared.error.FromHexError.{FromHexError}
use Rattle.bpf_loader.specs.Loaded.{Loaded}
use Rattle.bpf_shared.specs.Contents.{bytes_of_all}
use Rattle.bpf_names.specs.Names.{names_of}
use Rattle.bpf_pairs.specs.Pairs.{pair_of}
use Rattle.bpf_file.specs.Programs.{OfAssembly}
use Rattle.bpf_file.specs.Symbols.{names_for}
use Rattle.bpf_file.specs.declared.packet.Hook.{Hook}
use Rattle.bpf_file.specs.declared.statement.Statement.{Statement}
use Rattle.bpf_file.specs.File.{File, file_of, named_by}
use Rattle.bpf_file.specs.declared.file.RunFile.{RunFile}
use Rattle.bpf_file.specs.Parts.{Part, State, Between, Within}
use Rattle.bpf_file.specs.Statement.{Said, Job, said_by}
use Rattle.bpf_file.specs.Rows.{AddsLine, program_added}
use Rattle.bpf_file.specs.Reading.{AreRead}
use Rattle.bpf_file.specs.Private.Answers.{OrMemory}
use denote.Ref.{Bor}

abbrev pub part_of : Draft → Part
part_of d = record {
  group = d.group;
  version = d.version;
  titles = map (λ t. t.now) d.titles.items;
  file = record {
    cpus = d.cpus;
    seed = d.seed;
    names = names_of d.names;
    maps = d.maps.items;
    arrays = d.arrays.items;
    contents = bytes_of_all d.contents.items;
    pairs = map pair_of d.pairs.items;
    programs = d.programs.items;
    jobs = map waiting d.jobs.items;
  };
}

-- what is said, without where names and digits lie
abbrev pub said_in : {E : Type 0} → Result Statement E → Result Said E
said_in (Ok s) = Ok (said_by s)
said_in (Err e) = Err e

-- where a line's answer leads, the draft being this part then
abbrev pub after : ℕ → Part → Result Next FileError → Result State FileError
after n p (Ok Line) = Ok (Between p)
after n p (Ok (Assembly name)) = Ok (Within p n name.now [])
after n p (Err e) = Err e

-- where the end of an assembly leads
abbrev pub closed : {X : Type 0} → Part → Result X FileError → Result State FileError
closed p (Ok x) = Ok (Between p)
closed p (Err e) = Err e

-- no more digits than a context or a packet may have
abbrev pub IsShort : Option (List ℕ) → Type 0
IsShort (Some digits) = length digits ≤ 2 * max_context
IsShort None = Unit {0}

abbrev pub IsBrief : Option (Hook × List ℕ) → Type 0
IsBrief (Some packet) = length packet.1 ≤ 2 * max_packet
IsBrief None = Unit {0}

abbrev pub IsShortSaid : Said → Type 0
IsShortSaid (Job line) = IsShort line.context × IsBrief line.packet
IsShortSaid s = Unit {0}

-- the line of this number, which says this, made the one part the other
abbrev pub Added : ℕ → Part → Said → Part → Result Next FileError → Type 0
Added n p said q result = OrMemory (λ a. AddsLine n p said (after n q a)) result

-- what a line's hex digits give, or their refusal
abbrev pub ReadsDigits : {V X : Type 0} → (V → X) → ℕ → Result X FromHexError
    → Result V FileError → Type 0
ReadsDigits items n c (Ok v) = c ≡ Ok (items v)
ReadsDigits items n c (Err OutOfMemory) = Unit {0}
ReadsDigits items n c (Err (Refused m why)) =
    (m ≡ n) × (why ≡ NotHex) × (e : FromHexError) × (c ≡ Err e)

-- the end of a program's assembly
abbrev pub Ends : ℕ → Part → List ℕ → List ℕ → Result State FileError → Type 0
Ends from p name text r =
    (o : Result Loaded FileError) × OfAssembly from (named_by p.file) (names_for p) text o
    × (r ≡ program_added p name o)

-- what lines are read as follows of what those after are, from there on
abbrev pub ReadsOnFrom : ℕ → State → List (List ℕ) → Part
    → Result (ℕ × Option (Bor (List ℕ))) FileError → Type 0
ReadsOnFrom n s ls p (Ok r) =
    (o : Result File FileError) → AreRead r.0 (Between p) (lines_behind (option_copied r.1)) o
    → AreRead n s ls o
ReadsOnFrom n s ls p (Err OutOfMemory) = Unit {0}
ReadsOnFrom n s ls p (Err (Refused m why)) = AreRead n s ls (Err (Refused m why))

-- what a whole answer says
abbrev pub file_answer : Result RunFile FileError → Result File FileError
file_answer (Ok f) = Ok (file_of f)
file_answer (Err e) = Err e
