-- A refusal of assembly names a line that the text has.
use Rattle.std.proofs.Common.{◌≡◌, ℕ, ◌+◌, ◌<◌, ◌≤◌, ◌^◌, ◌==◌, Bool, true, false, List, [], ◌∷◌, length, Option, Some, None, Result, Ok}
use Rattle.std.proofs.Common.{Err, ◌⊎◌, inl, inr, refl, sym, ap, subst, arith}
use Rattle.std.proofs.lemmas.List.Splits.{length-slice_split}
use Rattle.std.proofs.lemmas.List.Sums.{count_by-le-length}
use Rattle.bpf_insn.specs.declared.instruction.Insn.{Insn}
use Rattle.bpf_text.specs.declared.error.TextError.{TextError}
use Rattle.bpf_text.specs.declared.error.TextError.TheVariants.{OutOfMemory}
use Rattle.bpf_text.specs.declared.labels.Place.{Place}
use Rattle.bpf_text.specs.declared.reading.LineError.{LineError}
use Rattle.bpf_text.specs.declared.reading.LineError.TheVariants.{BadLine, BadNumber, UnknownName}
use Rattle.bpf_text.specs.Line.{Written}
use Rattle.bpf_lines.specs.Lines.{lines_of}
use Rattle.bpf_text.specs.Symbols.{Table}
use Rattle.bpf_text.specs.Assembly.{Source, AreLinesWith, AssemblesWith, words_of, is_twice, first_place, or_far, unless_twice, or_unknown}
use Rattle.bpf_text.specs.Assembly.{at_target, named_meaning, body_meaning, meaning_of, then_meaning, program_of}
use Rattle.bpf_file.specs.Private.Lines.{line_named}

-- a refusal names this line or one before it
abbrev Up : {X : Type 0} → ℕ → Result X TextError → Type 0
Up n (Ok x) = Unit {0}
Up n (Err e) = line_named e ≤ n

or_far_up : (line : ℕ) (o : Option Insn) → Up (line + 1) (or_far line o)
or_far_up line (Some i) = tt
or_far_up line None = omega arith

unless_twice_up : (twice : Bool) (line : ℕ) (r : Result (Option Insn) TextError) → Up (line + 1) r → Up (line + 1) (unless_twice twice line r)
unless_twice_up true line r h = omega arith
unless_twice_up false line r h = h

or_unknown_up : (twice : Bool) (line : ℕ) (o : Option Insn) → Up (line + 1) (or_unknown twice line o)
or_unknown_up twice line (Some i) = unless_twice_up twice line (Ok (Some i)) tt
or_unknown_up twice line None = omega arith

at_target_up : (twice : Bool) (line pc : ℕ) (i : Insn) (name : List ℕ) (to : Option Place) → Up (line + 1) (at_target twice line pc i name to)
at_target_up twice line pc i name None = or_unknown_up twice line _
at_target_up twice line pc i name (Some to) = unless_twice_up twice line _ (or_far_up line _)

named_up : (labels : List ℕ → Option Place) (twice : Bool) (line pc : ℕ) (i : Insn) (name : Option (List ℕ)) → Up (line + 1)
    (named_meaning labels twice line pc i name)
named_up labels twice line pc i None = unless_twice_up twice line (Ok (Some i)) tt
named_up labels twice line pc i (Some name) = at_target_up twice line pc i name (labels name)

body_up : (labels : List ℕ → Option Place) (twice : Bool) (line pc : ℕ) (body : Result (Option Written) LineError) → Up (line + 1)
    (body_meaning labels twice line pc body)
body_up labels twice line pc (Err BadLine) = omega arith
body_up labels twice line pc (Err BadNumber) = omega arith
body_up labels twice line pc (Err UnknownName) = omega arith
body_up labels twice line pc (Ok None) = unless_twice_up twice line (Ok None) tt
body_up labels twice line pc (Ok (Some i)) = named_up labels twice line pc i.insn i.name

meaning_up : (labels : List ℕ → Option Place) (line pc : ℕ) (s : Source) → Up (line + 1) (meaning_of labels line pc s)
unfolding meaning_of
meaning_up labels line pc s = body_up labels (is_twice labels line s.label) line pc s.body

then_up : (n m : ℕ) (o : Result (Option Insn) TextError) (r : Result (List Insn) TextError) → n ≤ m → Up n o → Up m r → Up m (then_meaning o r)
then_up n m (Ok i) (Ok is) h a b = tt
then_up n m (Ok i) (Err e) h a b = b
then_up n m (Err e) r h a b = omega arith

program_up : (labels : List ℕ → Option Place) (ss : List Source) (line pc : ℕ) → Up (line + length ss) (program_of labels line pc ss)
program_up labels [] line pc = tt
program_up labels (s ∷ ss) line pc =
    let counted : (line + 1) + length ss ≡ line + length (s ∷ ss) = omega arith in
    let next = pc + words_of s.body in
    let P : ℕ → Type 0 = λ n. Up n (program_of labels (line + 1) next ss) in
    then_up (line + 1) (line + length (s ∷ ss)) (meaning_of labels line pc s) (program_of labels (line + 1) next ss)
    (omega arith) (meaning_up labels line pc s) (subst P counted (program_up labels ss (line + 1) next))

as_many : (names : Option Table) (ls : List (List ℕ)) (ss : List Source) → AreLinesWith names ls ss → length ss ≡ length ls
as_many names [] [] a = refl
as_many names (l ∷ ls) (s ∷ ss) a = let more = as_many names ls ss a.1 in omega (arith, more)
as_many names [] (s ∷ ss) a = absurd a
as_many names (l ∷ ls) [] a = absurd a

assembled_up : (names : Option Table) (text : List ℕ) (e : TextError) → AssemblesWith names text (Err e) → line_named e ≤ length text + 1
assembled_up names text e a =
    let U : Result (List Insn) TextError → Type 0 = Up (0 + length a.sources) in
    let named : line_named e ≤ 0 + length a.sources = subst U (sym a.meant) (program_up (first_place a.sources 0 0) a.sources 0 0) in
    let many = as_many names (lines_of text) a.sources a.lines in
    let lines : length (lines_of text) ≤ length text + 1 =
    let parts = length-slice_split (λ b. b == 10) text in
    let some = count_by-le-length (λ b. b == 10) text in
    omega (arith, parts, some) in
    omega (arith, named, many, lines)

-- so its line of the file has a number
pub line_has_number : (names : Option Table) (text : List ℕ) (line : ℕ) (e : TextError) → (e ≡ OutOfMemory) ⊎ AssemblesWith names text
    (Err e) → line + length text + 2 < 2 ^ 64 → line + line_named e < 2 ^ 64
line_has_number names text line e (inl memory) h = let none : line_named e ≡ 0 = ap line_named memory in omega (arith, none, h)
line_has_number names text line e (inr a) h = let named = assembled_up names text e a in omega (arith, named, h)
