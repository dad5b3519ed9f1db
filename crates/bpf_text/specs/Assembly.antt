-- The assembly language: what a line is, what a label names, and what a whole text stands for
-- (our own choice).
use Rattle.std.specs.Prelude.{◌≡◌, ◌≢◌, ℕ, ◌+◌, ◌^◌, ◌==◌, ◌&&◌, nat_lt, nat_le, Bool, true, false, not, if◌then◌else◌, List, [], ◌∷◌, ◌++◌}
use Rattle.std.specs.Prelude.{Option, Some, None, option_to_list, Result, Ok, Err, ℤ, pos, ◌-ℤ◌}
use Rattle.std.specs.Str.{bytes_eq}
use Rattle.bpf_insn.specs.Table.{words}
use Rattle.bpf_insn.specs.Encoding.{Fits}
use Rattle.bpf_insn.specs.declared.instruction.Insn.{Insn}
use Rattle.bpf_insn.specs.declared.instruction.Insn.TheVariants as insn
use Rattle.bpf_text.specs.declared.error.TextError.{TextError}
use Rattle.bpf_text.specs.declared.error.TextError.TheVariants as refusal
use Rattle.bpf_text.specs.declared.labels.Place.{Place}
use Rattle.bpf_text.specs.declared.reading.LineError.{LineError}
use Rattle.bpf_text.specs.declared.reading.LineError.TheVariants.{BadLine, BadNumber, UnknownName}
use Rattle.bpf_spelling.specs.declared.signs.Sign.TheVariants.{Colon}
use Rattle.bpf_lines.specs.Lines.{lines_of}
use Rattle.bpf_spelling.specs.Token.{Tok, Mark}
use Rattle.bpf_spelling.specs.Helpers.{helper_named, helper_number}
use Rattle.bpf_spelling.specs.declared.helpers.Helper.{Helper}
use Rattle.bpf_text.specs.Tokens.{IsTokens}
use Rattle.bpf_text.specs.Line.{Written, IsSpelled, name_of}
use Rattle.bpf_text.specs.Symbols.{Table, Load, load_of, loaded}

-- ---- lines

-- the label that a line begins with, a name and a colon
unfoldable pub label_of : List Tok → Option (List ℕ)
label_of (t ∷ Mark Colon ∷ ts) = name_of t
label_of ts = None

-- what follows a label, if there is one
abbrev pub cut : Option (List ℕ) → List Tok → List Tok → List Tok
cut (Some name) rest ts = rest
cut None rest ts = ts

unfoldable pub unlabelled : List Tok → List Tok
unlabelled (t ∷ Mark Colon ∷ ts) = cut (name_of t) ts (t ∷ Mark Colon ∷ ts)
unlabelled ts = ts

-- a line as it is written: its label, and its instruction, if it has one, or why it is refused
pub record Source : Type 0 where
  pub label : Option (List ℕ)
  pub body : Result (Option Written) LineError

-- nothing; an instruction whose numbers fit; one with a number that doesn't; something that no
-- form has
abbrev pub IsBody : Result (Option Written) LineError → List Tok → Type 0
IsBody (Ok None) ts = ts ≡ []
IsBody (Ok (Some i)) ts = IsSpelled i ts × Fits i.insn
IsBody (Err BadNumber) ts = (i : Written) × IsSpelled i ts × (Fits i.insn → ⊥)
IsBody (Err BadLine) ts = (ts ≢ []) × ((i : Written) → IsSpelled i ts → ⊥)
IsBody (Err UnknownName) ts = ⊥

-- what is loaded by a name, or else any other line
abbrev pub IsBodyOr : Table → Option Load → Result (Option Written) LineError → List Tok → Type 0
IsBodyOr table (Some load) body ts = body ≡ loaded table load
IsBodyOr table None body ts = IsBody body ts

-- with a table of names, or with none
abbrev pub IsBodyWith : Option Table → Result (Option Written) LineError → List Tok → Type 0
IsBodyWith None body ts = IsBody body ts
IsBodyWith (Some table) body ts = IsBodyOr table (load_of ts) body ts

pub record IsLineWith (names : Option Table) (line : List ℕ) (s : Source) : Type 0 where
  pub tokens : List Tok
  pub cut_up : IsTokens line tokens
  pub labelled : s.label ≡ label_of tokens
  pub body : IsBodyWith names s.body (unlabelled tokens)

abbrev pub IsLine : List ℕ → Source → Type 0
IsLine line s = IsLineWith None line s

abbrev pub AreLinesWith : Option Table → List (List ℕ) → List Source → Type 0
AreLinesWith names [] [] = Unit {0}
AreLinesWith names (l ∷ ls) (s ∷ ss) = IsLineWith names l s × AreLinesWith names ls ss
AreLinesWith names [] (s ∷ ss) = ⊥
AreLinesWith names (l ∷ ls) [] = ⊥

-- ---- labels

-- how many words a line has: none where it is refused
abbrev pub words_of : Result (Option Written) LineError → ℕ
words_of (Ok None) = 0
words_of (Ok (Some i)) = words i.insn
words_of (Err e) = 0

abbrev pub is_named : List ℕ → Option (List ℕ) → Bool
is_named name None = false
is_named name (Some l) = bytes_eq l name

-- the first line with this label, lines and words being counted on from here
abbrev pub first_place : List Source → ℕ → ℕ → List ℕ → Option Place
first_place [] line pc name = None
first_place (s ∷ ss) line pc name =
    if is_named name s.label then Some (record { line = line; pc = pc })
    else first_place ss (line + 1) (pc + words_of s.body) name

-- a line before this one has the same label
abbrev pub is_other : ℕ → Option Place → Bool
is_other line None = false
is_other line (Some p) = not (p.line == line)

abbrev pub is_twice : (List ℕ → Option Place) → ℕ → Option (List ℕ) → Bool
is_twice labels line None = false
is_twice labels line (Some name) = is_other line (labels name)

-- ---- targets

-- a distance from one word to another, up to 2 ^ 15 or 2 ^ 31 words back, or one less forward
abbrev pub reaches : ℕ → ℕ → ℕ → Bool
reaches far next to = nat_lt to (next + far) && nat_le next (to + far)

abbrev pub distance_to : ℕ → ℕ → ℕ → Option ℤ
distance_to far next to = if reaches far next to then Some (pos to -ℤ pos next) else None

abbrev pub with_distance : (ℤ → Insn) → Option ℤ → Option Insn
with_distance f (Some z) = Some (f z)
with_distance f None = None

-- the instruction with its target at this word, the next instruction being at next
unfoldable pub targeted : Insn → ℕ → ℕ → Option Insn
targeted (insn.Jump o) next to = with_distance insn.Jump (distance_to (2 ^ 15) next to)
targeted (insn.JumpLong o) next to = with_distance insn.JumpLong (distance_to (2 ^ 31) next to)
targeted (insn.JumpIf w c d s o) next to =
    with_distance (insn.JumpIf w c d s) (distance_to (2 ^ 15) next to)
targeted (insn.CallLocal o) next to = with_distance insn.CallLocal (distance_to (2 ^ 31) next to)
targeted i next to = Some i

-- ---- what a line means, or the first refusal that applies, in the order of their numbers;
-- lines count from 1

abbrev pub or_far : ℕ → Option Insn → Result (Option Insn) TextError
or_far line (Some i) = Ok (Some i)
or_far line None = Err (refusal.FarLabel (line + 1))

abbrev pub unless_twice : Bool → ℕ → Result (Option Insn) TextError → Result (Option Insn) TextError
unless_twice true line r = Err (refusal.TwiceLabel (line + 1))
unless_twice false line r = r

-- the call of a helper that a call of a function stands for by the helper's name
abbrev pub helper_call : Insn → Option Helper → Option Insn
helper_call (insn.CallLocal o) (Some h) = Some (insn.CallHelper (helper_number h))
helper_call i h = None

-- what is called, if it is a helper; else the name is unknown
abbrev pub or_unknown : Bool → ℕ → Option Insn → Result (Option Insn) TextError
or_unknown twice line (Some i) = unless_twice twice line (Ok (Some i))
or_unknown twice line None = Err (refusal.UnknownLabel (line + 1))

abbrev pub at_label : Bool → ℕ → ℕ → Insn → Place → Result (Option Insn) TextError
at_label twice line pc i to =
    unless_twice twice line (or_far line (targeted i (pc + words i) to.pc))

-- a name is a label's where some line has it; else it may be that of a helper that is called
abbrev pub at_target : Bool → ℕ → ℕ → Insn → List ℕ → Option Place
    → Result (Option Insn) TextError
at_target twice line pc i name None = or_unknown twice line (helper_call i (helper_named name))
at_target twice line pc i name (Some to) = at_label twice line pc i to

abbrev pub named_meaning : (List ℕ → Option Place) → Bool → ℕ → ℕ → Insn → Option (List ℕ)
    → Result (Option Insn) TextError
named_meaning labels twice line pc i None = unless_twice twice line (Ok (Some i))
named_meaning labels twice line pc i (Some name) =
    at_target twice line pc i name (labels name)

abbrev pub body_meaning : (List ℕ → Option Place) → Bool → ℕ → ℕ
    → Result (Option Written) LineError → Result (Option Insn) TextError
body_meaning labels twice line pc (Err BadLine) = Err (refusal.BadLine (line + 1))
body_meaning labels twice line pc (Err BadNumber) = Err (refusal.BadNumber (line + 1))
body_meaning labels twice line pc (Err UnknownName) = Err (refusal.UnknownLabel (line + 1))
body_meaning labels twice line pc (Ok None) = unless_twice twice line (Ok None)
body_meaning labels twice line pc (Ok (Some i)) = named_meaning labels twice line pc i.insn i.name

unfoldable pub meaning_of : (List ℕ → Option Place) → ℕ → ℕ → Source
    → Result (Option Insn) TextError
meaning_of labels line pc s = body_meaning labels (is_twice labels line s.label) line pc s.body

-- ---- whole texts

abbrev pub then_meaning : Result (Option Insn) TextError → Result (List Insn) TextError
    → Result (List Insn) TextError
then_meaning (Ok i) (Ok is) = Ok (option_to_list i ++ is)
then_meaning (Ok i) (Err e) = Err e
then_meaning (Err e) r = Err e

-- what lines mean one after the other, or the first line's refusal
abbrev pub program_of : (List ℕ → Option Place) → ℕ → ℕ → List Source → Result (List Insn) TextError
program_of labels line pc [] = Ok []
program_of labels line pc (s ∷ ss) =
    then_meaning (meaning_of labels line pc s) (program_of labels (line + 1)
    (pc + words_of s.body) ss)

-- THE RELATION between a text and its instructions, or its refusal, with a table of names or none
pub record AssemblesWith (names : Option Table) (text : List ℕ) (outcome : Result (List Insn) TextError) : Type 0 where
  pub sources : List Source
  pub lines : AreLinesWith names (lines_of text) sources
  pub meant : outcome ≡ program_of (first_place sources 0 0) 0 0 sources

-- with none
abbrev pub Assembles : List ℕ → Result (List Insn) TextError → Type 0
Assembles text outcome = AssemblesWith None text outcome
