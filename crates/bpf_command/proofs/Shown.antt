-- Where `clap` finds no fault, the number of an outcome that `explore` is given is in its range.
use Rattle.std.proofs.Common.{unwrap_or, ◌∙◌, sym, subst, ◌≡◌, List, [], ◌∷◌, false, codes, refl}
use Rattle.std.specs.Prelude.{IfSome, find}
use Rattle.clap.specs.Simple.{filled, Shape, built, label_of}
use Rattle.clap.specs.Faults.{level_fault}
use Rattle.clap.specs.Walk.{with_default, values_or_missing, Held, Row, Rule, Text, answers_to, finished, has_row, nothing_held, rows_after, settled, walk}
use Rattle.clap.specs.Words.{fault_of, subcommand_of}
use Rattle.bpf_command.specs.declared.command.TheConstants.{MAX_LIMIT}
use Rattle.bpf_command.specs.CommandLine.{HasShown, all_states, ebpf, explained, explore, file, json, limit, patient, progress, races, show, sync, workers, x86}
use Rattle.bpf_command.proofs.Counted.{counted_keeps, has_count}
use Rattle.bpf_command.proofs.Ranges as range
use Rattle.bpf_command.proofs.Ranges.{no_default}
use Rattle.bpf_command.proofs.Subcommands.{AllHave, found_known, other_name}
use Rattle.bpf_command.proofs.Walks.{Keeps}

abbrev AreFine : List Row → Type 0
AreFine = range.AreFine (codes "show") 1 MAX_LIMIT

-- ---- the rules

-- `explore` as it is built, and its options with what building fills in
abbrev explore_built : Shape
explore_built =
    unwrap_or (find (λ s. answers_to (codes "explore") (label_of s)) (built ebpf).subs) explore.top

abbrev rules : List Rule
rules = explore_built.rules

show_keeps : Keeps AreFine false (filled show)
show_keeps = counted_keeps (codes "show") MAX_LIMIT

patient_keeps : Keeps AreFine false (filled patient)
patient_keeps values rows e fine =
    range.other_used_fine (codes "show") 1 MAX_LIMIT (codes "patient") (values_or_missing (filled patient) values) rows refl fine

limit_keeps : Keeps AreFine false (filled limit)
limit_keeps values rows e fine =
    range.other_used_fine (codes "show") 1 MAX_LIMIT (codes "limit") (values_or_missing (filled limit) values) rows refl fine

json_keeps : Keeps AreFine false (filled json)
json_keeps values rows e fine =
    range.other_used_fine (codes "show") 1 MAX_LIMIT (codes "json") (values_or_missing (filled json) values) rows refl fine

progress_keeps : Keeps AreFine false (filled progress)
progress_keeps values rows e fine =
    range.other_used_fine (codes "show") 1 MAX_LIMIT (codes "progress") (values_or_missing (filled progress) values) rows refl fine

x86_keeps : Keeps AreFine false (filled x86)
x86_keeps values rows e fine =
    range.other_used_fine (codes "show") 1 MAX_LIMIT (codes "x86") (values_or_missing (filled x86) values) rows refl fine

all_states_keep : Keeps AreFine false (filled all_states)
all_states_keep values rows e fine =
    range.other_used_fine (codes "show") 1 MAX_LIMIT (codes "all-states") (values_or_missing (filled all_states) values) rows refl fine

workers_keep : Keeps AreFine false (filled workers)
workers_keep values rows e fine =
    range.other_used_fine (codes "show") 1 MAX_LIMIT (codes "workers") (values_or_missing (filled workers) values) rows refl fine

file_keeps : Keeps AreFine false (filled file)
file_keeps values rows e fine =
    range.other_used_fine (codes "show") 1 MAX_LIMIT (codes "file") (values_or_missing (filled file) values) rows refl fine

races_keep : Keeps AreFine false (filled races)
races_keep values rows e fine =
    range.other_used_fine (codes "show") 1 MAX_LIMIT (codes "races") (values_or_missing (filled races) values) rows refl fine

sync_keeps : Keeps AreFine false (filled sync)
sync_keeps values rows e fine =
    range.more_used_fine (codes "show") 1 MAX_LIMIT (codes "sync") (values_or_missing (filled sync) values) rows refl fine

explained_keeps : Keeps AreFine false (filled explained)
explained_keeps values rows e fine =
    range.other_used_fine (codes "show") 1 MAX_LIMIT (codes "explain") (values_or_missing (filled explained) values) rows refl fine

rules_keep : range.AllKeep (codes "show") 1 MAX_LIMIT rules
rules_keep = (
  explained_keeps,
  (
    patient_keeps,
    (
      json_keeps,
      (
        progress_keeps,
        (
          x86_keeps,
          (
            all_states_keep,
            (
              workers_keep,
              (
                races_keep,
                (sync_keeps, (limit_keeps, (show_keeps, (file_keeps, ((λ values rows e fine. fine), tt))))),
              ),
            ),
          ),
        ),
      ),
    ),
  ),
)

-- ---- the rows

-- the flags and the limit have defaults, and no other option of `explore` has one
finished_shown : (h : Held) → AreFine (settled rules h).rows → HasShown (finished rules h)
finished_shown h fine =
    let start = with_default (settled rules h).rows (filled explained) in
    let waits = with_default start (filled patient) in
    let written = with_default waits (filled json) in
    let watched = with_default written (filled progress) in
    let buffered = with_default watched (filled x86) in
    let stated = with_default buffered (filled all_states) in
    let crewed = with_default stated (filled workers) in
    let asked = with_default crewed (filled races) in
    let named = with_default asked (filled sync) in
    let bounded = with_default named (filled limit) in
    let first = with_default bounded (filled show) in
    let second = with_default first (filled file) in
    let started = range.default_fine (codes "show") 1 MAX_LIMIT (codes "explain") (codes "false" ∷ []) (settled rules h).rows refl fine in
    let waited = range.default_fine (codes "show") 1 MAX_LIMIT (codes "patient") (codes "false" ∷ []) start refl started in
    let told = range.default_fine (codes "show") 1 MAX_LIMIT (codes "json") (codes "false" ∷ []) waits refl waited in
    let watches = range.default_fine (codes "show") 1 MAX_LIMIT (codes "progress") (codes "false" ∷ []) written refl told in
    let flushed = range.default_fine (codes "show") 1 MAX_LIMIT (codes "x86") (codes "false" ∷ []) watched refl watches in
    let states = range.default_fine (codes "show") 1 MAX_LIMIT (codes "all-states") (codes "false" ∷ []) buffered refl flushed in
    let crews = subst AreFine (sym (no_default (has_row (codes "workers") stated) stated)) states in
    let asks = range.default_fine (codes "show") 1 MAX_LIMIT (codes "races") (codes "false" ∷ []) crewed refl crews in
    let names = subst AreFine (sym (no_default (has_row (codes "sync") asked) asked)) asks in
    let all = range.default_fine (codes "show") 1 MAX_LIMIT (codes "limit") (codes "1000000" ∷ []) named refl names in
    let same =
    no_default (has_row (codes "help") second) second ∙ (no_default (has_row (codes "file") first) first
    ∙ no_default (has_row (codes "show") bounded) bounded)
    in
    subst HasShown (sym same) (has_count (codes "show") MAX_LIMIT bounded all)

-- the options of `explore`, after a parse of its words with no fault
explore_shown : (words : List Text) → level_fault explore_built [] nothing_held words false [] ≡ [] → HasShown (rows_after rules [] words)
explore_shown words e =
    finished_shown (walk rules [] nothing_held words).held (range.settled_fine (codes "show") 1 MAX_LIMIT explore_built refl rules_keep words e)

-- ---- the subcommands

-- for `explore`, the number of an outcome that is given is in its range
abbrev pub ShownKnown : Text × List Row → Type 0
ShownKnown found = found.0 ≡ codes "explore" → HasShown found.1

all_known : AllHave ShownKnown (built ebpf).subs
all_known = (
  (λ words e is. absurd (other_name (codes "explore") (codes "hex") refl is)),
  (
    (λ words e is. absurd (other_name (codes "explore") (codes "asm") refl is)),
    (
      (λ words e is. absurd (other_name (codes "explore") (codes "disasm") refl is)),
      (
        (λ words e is. absurd (other_name (codes "explore") (codes "run") refl is)),
        (
          (λ words e is. explore_shown words e),
          (
            (λ words e is. absurd (other_name (codes "explore") (codes "check") refl is)),
            (
              (λ words e is. absurd (other_name (codes "explore") (codes "expand") refl is)),
              (
                (λ words e is. absurd (other_name (codes "explore") (codes "debug") refl is)),
                ((λ words e is. absurd (other_name (codes "explore") (codes "explain") refl is)), tt),
              ),
            ),
          ),
        ),
      ),
    ),
  ),
)

pub shown_known : (words : List Text) → fault_of ebpf words ≡ [] → IfSome (subcommand_of ebpf words) ShownKnown
shown_known words e = found_known ShownKnown all_known words e
