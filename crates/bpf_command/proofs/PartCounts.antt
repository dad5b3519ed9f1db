-- Where `clap` finds no fault, the number of parts that `expand` is given is in its range.
use Rattle.std.proofs.Common.{unwrap_or, ◌∙◌, sym, subst, ◌≡◌, List, [], ◌∷◌, false, codes, refl}
use Rattle.std.specs.Prelude.{IfSome, find}
use Rattle.clap.specs.Simple.{filled, Shape, built, label_of}
use Rattle.clap.specs.Faults.{level_fault}
use Rattle.clap.specs.Walk.{with_default, values_or_missing, Held, Row, Rule, Text, answers_to, finished, has_row, nothing_held, rows_after, settled, walk}
use Rattle.clap.specs.Words.{fault_of, subcommand_of}
use Rattle.bpf_command.specs.declared.command.TheConstants.{MAX_PARTS}
use Rattle.bpf_command.specs.CommandLine.{HasParts, ebpf, expand, explained, file, first, into, parts, patient, races, seen, state_files, x86}
use Rattle.bpf_command.proofs.Counted.{counted_keeps, has_count}
use Rattle.bpf_command.proofs.Ranges as range
use Rattle.bpf_command.proofs.Ranges.{no_default}
use Rattle.bpf_command.proofs.Subcommands.{AllHave, found_known, other_name}
use Rattle.bpf_command.proofs.Walks.{Keeps}

abbrev AreFine : List Row → Type 0
AreFine = range.AreFine (codes "parts") 1 MAX_PARTS

-- ---- the rules

-- `expand` as it is built, and its options with what building fills in
abbrev expand_built : Shape
expand_built =
    unwrap_or (find (λ s. answers_to (codes "expand") (label_of s)) (built ebpf).subs) expand.top

abbrev rules : List Rule
rules = expand_built.rules

parts_keep : Keeps AreFine false (filled parts)
parts_keep = counted_keeps (codes "parts") MAX_PARTS

explained_keeps : Keeps AreFine false (filled explained)
explained_keeps values rows e fine =
    range.other_used_fine (codes "parts") 1 MAX_PARTS (codes "explain") (values_or_missing (filled explained) values) rows refl fine

first_keeps : Keeps AreFine false (filled first)
first_keeps values rows e fine =
    range.other_used_fine (codes "parts") 1 MAX_PARTS (codes "first") (values_or_missing (filled first) values) rows refl fine

patient_keeps : Keeps AreFine false (filled patient)
patient_keeps values rows e fine =
    range.other_used_fine (codes "parts") 1 MAX_PARTS (codes "patient") (values_or_missing (filled patient) values) rows refl fine

x86_keeps : Keeps AreFine false (filled x86)
x86_keeps values rows e fine =
    range.other_used_fine (codes "parts") 1 MAX_PARTS (codes "x86") (values_or_missing (filled x86) values) rows refl fine

races_keep : Keeps AreFine false (filled races)
races_keep values rows e fine =
    range.other_used_fine (codes "parts") 1 MAX_PARTS (codes "races") (values_or_missing (filled races) values) rows refl fine

into_keeps : Keeps AreFine false (filled into)
into_keeps values rows e fine =
    range.other_used_fine (codes "parts") 1 MAX_PARTS (codes "into") (values_or_missing (filled into) values) rows refl fine

seen_keeps : Keeps AreFine false (filled seen)
seen_keeps values rows e fine =
    range.more_used_fine (codes "parts") 1 MAX_PARTS (codes "seen") (values_or_missing (filled seen) values) rows refl fine

file_keeps : Keeps AreFine false (filled file)
file_keeps values rows e fine =
    range.other_used_fine (codes "parts") 1 MAX_PARTS (codes "file") (values_or_missing (filled file) values) rows refl fine

states_keep : Keeps AreFine false (filled state_files)
states_keep values rows e fine =
    range.more_used_fine (codes "parts") 1 MAX_PARTS (codes "states") (values_or_missing (filled state_files) values) rows refl fine

rules_keep : range.AllKeep (codes "parts") 1 MAX_PARTS rules
rules_keep = (
  explained_keeps,
  (
    first_keeps,
    (
      patient_keeps,
      (
        x86_keeps,
        (
          races_keep,
          (
            into_keeps,
            (parts_keep, (seen_keeps, (file_keeps, (states_keep, ((λ values rows e fine. fine), tt))))),
          ),
        ),
      ),
    ),
  ),
)

-- ---- the rows

-- the flags have defaults, and no other option of `expand` has one
finished_parts : (h : Held) → AreFine (settled rules h).rows → HasParts (finished rules h)
finished_parts h fine =
    let start = with_default (settled rules h).rows (filled explained) in
    let begun = with_default start (filled first) in
    let waits = with_default begun (filled patient) in
    let buffered = with_default waits (filled x86) in
    let asked = with_default buffered (filled races) in
    let named = with_default asked (filled into) in
    let counted = with_default named (filled parts) in
    let known = with_default counted (filled seen) in
    let filed = with_default known (filled file) in
    let last = with_default filed (filled state_files) in
    let started = range.default_fine (codes "parts") 1 MAX_PARTS (codes "explain") (codes "false" ∷ []) (settled rules h).rows refl fine in
    let begins = range.default_fine (codes "parts") 1 MAX_PARTS (codes "first") (codes "false" ∷ []) start refl started in
    let waited = range.default_fine (codes "parts") 1 MAX_PARTS (codes "patient") (codes "false" ∷ []) begun refl begins in
    let flushed = range.default_fine (codes "parts") 1 MAX_PARTS (codes "x86") (codes "false" ∷ []) waits refl waited in
    let all = range.default_fine (codes "parts") 1 MAX_PARTS (codes "races") (codes "false" ∷ []) buffered refl flushed in
    let same =
    no_default (has_row (codes "help") last) last ∙ (no_default (has_row (codes "states") filed) filed
    ∙ (no_default (has_row (codes "file") known) known ∙ (no_default (has_row (codes "seen") counted) counted
    ∙ (no_default (has_row (codes "parts") named) named ∙ no_default (has_row (codes "into") asked) asked))))
    in
    subst HasParts (sym same) (has_count (codes "parts") MAX_PARTS asked all)

-- the options of `expand`, after a parse of its words with no fault
expand_parts : (words : List Text) → level_fault expand_built [] nothing_held words false [] ≡ [] → HasParts (rows_after rules [] words)
expand_parts words e =
    finished_parts (walk rules [] nothing_held words).held (range.settled_fine (codes "parts") 1 MAX_PARTS expand_built refl rules_keep words e)

-- ---- the subcommands

-- for `expand`, the number of parts that is given is in its range
abbrev pub PartsKnown : Text × List Row → Type 0
PartsKnown found = found.0 ≡ codes "expand" → HasParts found.1

all_known : AllHave PartsKnown (built ebpf).subs
all_known = (
  (λ words e is. absurd (other_name (codes "expand") (codes "hex") refl is)),
  (
    (λ words e is. absurd (other_name (codes "expand") (codes "asm") refl is)),
    (
      (λ words e is. absurd (other_name (codes "expand") (codes "disasm") refl is)),
      (
        (λ words e is. absurd (other_name (codes "expand") (codes "run") refl is)),
        (
          (λ words e is. absurd (other_name (codes "expand") (codes "explore") refl is)),
          (
            (λ words e is. absurd (other_name (codes "expand") (codes "check") refl is)),
            (
              (λ words e is. expand_parts words e),
              (
                (λ words e is. absurd (other_name (codes "expand") (codes "debug") refl is)),
                ((λ words e is. absurd (other_name (codes "expand") (codes "explain") refl is)), tt),
              ),
            ),
          ),
        ),
      ),
    ),
  ),
)

pub parts_known : (words : List Text) → fault_of ebpf words ≡ [] → IfSome (subcommand_of ebpf words) PartsKnown
parts_known words e = found_known PartsKnown all_known words e
