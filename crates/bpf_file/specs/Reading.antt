-- The relation between a text and the run file that it is, line by line (our own choice). A line
-- that is refused is the first; after it nothing counts.
use Rattle.std.specs.Prelude.{◌≡◌, ℕ, ◌+◌, ◌==◌, Bool, true, false, if◌then◌else◌, List, [], ◌∷◌, ◌++◌, Result, Ok, Err, MatchResult}
use Rattle.bpf_lines.specs.Lines.{lines_of, fields_of}
use Rattle.bpf_loader.specs.Loaded.{Loaded}
use Rattle.bpf_file.specs.declared.error.FileError.{FileError}
use Rattle.bpf_file.specs.declared.error.FileError.TheVariants.{Refused}
use Rattle.bpf_file.specs.declared.error.Reason.{Reason}
use Rattle.bpf_file.specs.declared.error.Reason.TheVariants as reason
use Rattle.bpf_file.specs.declared.key.Key.TheVariants as key
use Rattle.bpf_file.specs.Key.{is_key}
use Rattle.bpf_file.specs.Statement.{Said, statement_of}
use Rattle.bpf_file.specs.File.{File, named_by}
use Rattle.bpf_file.specs.Parts.{Part, State, Between, Within, nothing}
use Rattle.bpf_file.specs.Programs.{text_of_lines, OfAssembly}
use Rattle.bpf_file.specs.Symbols.{names_for}
use Rattle.bpf_file.specs.Rows.{placed, program_added, AddsLine}

-- ---- one line, outside of assembly

abbrev pub AddsOrRefuses : ℕ → Part → Result Said Reason → Result State FileError → Type 0
AddsOrRefuses n p (Ok said) r = AddsLine n p said r
AddsOrRefuses n p (Err why) r = r ≡ Err (Refused n why)

-- by its fields: a line without any says nothing
abbrev pub FieldsSay : ℕ → Part → List (List ℕ) → Result State FileError → Type 0
FieldsSay n p [] r = r ≡ Ok (Between p)
FieldsSay n p (f ∷ fs) r = AddsOrRefuses n p (placed p f (statement_of p.version (f ∷ fs))) r

-- ---- one line of a program

-- its only word is `end`
abbrev pub is_end_alone : List (List ℕ) → Bool
is_end_alone [] = false
is_end_alone (f ∷ []) = is_key key.End f
is_end_alone (f ∷ g ∷ fs) = false

abbrev pub is_end : List ℕ → Bool
is_end line = is_end_alone (fields_of line)

-- the end makes the lines after `prog` a program; any other line is one of them
abbrev pub Belongs : Bool → Part → ℕ → List ℕ → List (List ℕ) → List ℕ → Result State FileError
    → Type 0
Belongs true p from name lines line r =
    (o : Result Loaded FileError)
    × OfAssembly from (named_by p.file) (names_for p) (text_of_lines lines) o
    × (r ≡ program_added p name o)
Belongs false p from name lines line r = r ≡ Ok (Within p from name (lines ++ line ∷ []))

-- ---- whole files

-- what the n-th line makes of what the lines before it said
abbrev pub ReadsLine : ℕ → State → List ℕ → Result State FileError → Type 0
ReadsLine n (Between p) line r = FieldsSay n p (fields_of line) r
ReadsLine n (Within p from name lines) line r = Belongs (is_end line) p from name lines line r

-- what follows the last line: a file, where there was a first line and no program is open
abbrev pub finished : State → Result File FileError
finished (Between p) = if p.group == 0 then Err (Refused 1 reason.BadFirstLine) else Ok p.file
finished (Within p from name lines) = Err (Refused from reason.NoEnd)

-- the lines from the n-th on, one after the other
abbrev pub AreRead : ℕ → State → List (List ℕ) → Result File FileError → Type 0
AreRead n s [] r = r ≡ finished s
AreRead n s (l ∷ ls) r =
    (t : Result State FileError) × ReadsLine n s l t
    × MatchResult t (λ u. AreRead (n + 1) u ls r) (λ e. r ≡ Err e)

-- THE RELATION between a text and the file that it says, or its refusal
abbrev pub IsRunFile : List ℕ → Result File FileError → Type 0
IsRunFile text r = AreRead 1 (Between nothing) (lines_of text) r
