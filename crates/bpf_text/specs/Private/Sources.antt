-- What the reader's lines stand for, without where their names lie.
use Rattle.std.specs.Prelude.{◌≡◌, ℕ, ◌+◌, Bool, true, false, ◌&&◌, ◌||◌, if◌then◌else◌, List, [], ◌∷◌, Option, Some, None, Result, Ok, Err}
use Rattle.std.specs.Option.{option_copied}
use Rattle.bpf_text.specs.declared.reading.LineError.{LineError}
use Rattle.bpf_text.specs.declared.reading.LineError.TheVariants.{BadNumber}
use Rattle.bpf_text.specs.declared.source.Body.{Body}
use Rattle.bpf_text.specs.declared.source.Body.TheVariants.{Empty, Code, Named, Refused}
use Rattle.bpf_text.specs.declared.source.SourceLine.{SourceLine}
use Rattle.bpf_text.specs.Line.{Written}
use Rattle.bpf_insn.specs.declared.instruction.Insn.{Insn}
use Rattle.bpf_text.specs.declared.assembly.Kept.{Kept}
use Rattle.bpf_text.specs.declared.error.TextError.{TextError}
use Rattle.bpf_text.specs.declared.labels.Place.{Place}
use Rattle.bpf_text.specs.Symbols.{Table}
use Rattle.bpf_text.specs.Assembly.{Source, AreLinesWith, words_of, first_place, meaning_of, then_meaning}
use Rattle.bpf_lines.specs.Lines.{lines_of}

abbrev pub body_of : Body → Result (Option Written) LineError
body_of Empty = Ok None
body_of (Code i) = Ok (Some (record { insn = i; name = None }))
body_of (Named i name) = Ok (Some (record { insn = i; name = Some name.now }))
body_of (Refused e) = Err e

abbrev pub source_of : SourceLine → Source
source_of s = record { label = option_copied s.label; body = body_of s.body }

abbrev pub is_bad_number : Result (Option Written) LineError → Bool
is_bad_number (Err BadNumber) = true
is_bad_number body = false

-- ---- lines that say something

-- a line with neither a label nor an instruction
abbrev pub nothing_is : Option (List ℕ) → Result (Option Written) LineError → Bool
nothing_is None (Ok None) = true
nothing_is label body = false

abbrev pub nothing_said : Source → Bool
nothing_said s = nothing_is s.label s.body

-- a line, and how many lines are before it
pub record KeptLine : Type 0 where
  pub line : ℕ
  pub source : Source

abbrev pub kept_view : Kept → KeptLine
kept_view k = record { line = k.line; source = source_of k.source }

-- ---- lines that are kept: after a line that is refused no other refused one counts

abbrev pub is_refused : Result (Option Written) LineError → Bool
is_refused (Ok o) = false
is_refused (Err e) = true

abbrev pub any_refused : List Source → Bool
any_refused [] = false
any_refused (s ∷ ss) = is_refused s.body || any_refused ss

-- where one was refused before, or none
abbrev pub is_left_out : Bool → Source → Bool
is_left_out refused s = nothing_said s || (refused && is_refused s.body)

-- the lines that are kept, lines being counted on from here
abbrev pub kept_of : Bool → ℕ → List Source → List KeptLine
kept_of refused line [] = []
kept_of refused line (s ∷ ss) =
    if is_left_out refused s then kept_of refused (line + 1) ss
    else record { line = line; source = s } ∷ kept_of (refused || is_refused s.body) (line + 1) ss

-- what these lines mean one after the other, or the first one's refusal
abbrev pub kept_program : (List ℕ → Option Place) → ℕ → List KeptLine
    → Result (List Insn) TextError
kept_program labels pc [] = Ok []
kept_program labels pc (k ∷ ks) =
    then_meaning (meaning_of labels k.line pc k.source)
    (kept_program labels (pc + words_of k.source.body) ks)

-- a text's lines that are kept, and the place of each label
pub record Gathers (names : Option Table) (text : List ℕ) (labels : List ℕ
    → Option Place) (kept : List KeptLine) : Type 0 where
  pub sources : List Source
  pub lines : AreLinesWith names (lines_of text) sources
  pub places : (name : List ℕ) → labels name ≡ first_place sources 0 0 name
  pub kept_lines : kept ≡ kept_of false 0 sources
