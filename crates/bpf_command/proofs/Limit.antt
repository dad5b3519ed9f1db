-- Where `clap` finds no fault, the options of `explore` and `check` have a limit in its range.
use Rattle.std.proofs.Common.{unwrap_or, ◌∙◌, sym, subst, ◌≡◌, List, [], ◌∷◌, false, codes, inl, inr, refl}
use Rattle.std.specs.Prelude.{IfSome, find}
use Rattle.std.specs.Str.{bytes_eq}
use Rattle.clap.specs.Simple.{filled, Shape, built, label_of}
use Rattle.clap.specs.Faults.{level_fault}
use Rattle.clap.specs.Walk.{with_default, values_or_missing, Held, Row, Rule, Text, answers_to, finished, has_row, nothing_held, rows_after, settled, walk}
use Rattle.clap.specs.Words.{fault_of, subcommand_of}
use Rattle.bpf_command.specs.declared.command.TheConstants.{MAX_LIMIT}
use Rattle.bpf_command.specs.CommandLine.{HasLimit, IsSearchName, all_states, check, ebpf, explained, explore, file, files, json, lenient, limit}
use Rattle.bpf_command.specs.CommandLine.{patient, progress, races, show, states, sync, workers, x86}
use Rattle.bpf_command.proofs.Limited.{limited_keeps, with_limited}
use Rattle.bpf_command.proofs.Ranges as range
use Rattle.bpf_command.proofs.Ranges.{no_default}
use Rattle.bpf_command.proofs.Subcommands.{AllHave, found_known, other_name}
use Rattle.bpf_command.proofs.Walks.{Keeps}

abbrev AreFine : List Row → Type 0
AreFine = range.AreFine (codes "limit") 0 MAX_LIMIT

-- ---- the rules

-- the commands that search as they are built, and the options of each with what building fills in
abbrev explore_built : Shape
explore_built =
    unwrap_or (find (λ s. answers_to (codes "explore") (label_of s)) (built ebpf).subs) explore.top

abbrev check_built : Shape
check_built =
    unwrap_or (find (λ s. answers_to (codes "check") (label_of s)) (built ebpf).subs) check.top

abbrev explore_rules : List Rule
explore_rules = explore_built.rules

abbrev check_rules : List Rule
check_rules = check_built.rules

limit_keeps : Keeps AreFine false (filled limit)
limit_keeps = limited_keeps (codes "limit") MAX_LIMIT refl refl

show_keeps : Keeps AreFine false (filled show)
show_keeps values rows e fine =
    range.other_used_fine (codes "limit") 0 MAX_LIMIT (codes "show") (values_or_missing (filled show) values) rows refl fine

patient_keeps : Keeps AreFine false (filled patient)
patient_keeps values rows e fine =
    range.other_used_fine (codes "limit") 0 MAX_LIMIT (codes "patient") (values_or_missing (filled patient) values) rows refl fine

json_keeps : Keeps AreFine false (filled json)
json_keeps values rows e fine =
    range.other_used_fine (codes "limit") 0 MAX_LIMIT (codes "json") (values_or_missing (filled json) values) rows refl fine

progress_keeps : Keeps AreFine false (filled progress)
progress_keeps values rows e fine =
    range.other_used_fine (codes "limit") 0 MAX_LIMIT (codes "progress") (values_or_missing (filled progress) values) rows refl fine

x86_keeps : Keeps AreFine false (filled x86)
x86_keeps values rows e fine =
    range.other_used_fine (codes "limit") 0 MAX_LIMIT (codes "x86") (values_or_missing (filled x86) values) rows refl fine

all_states_keep : Keeps AreFine false (filled all_states)
all_states_keep values rows e fine =
    range.other_used_fine (codes "limit") 0 MAX_LIMIT (codes "all-states") (values_or_missing (filled all_states) values) rows refl fine

workers_keep : Keeps AreFine false (filled workers)
workers_keep values rows e fine =
    range.other_used_fine (codes "limit") 0 MAX_LIMIT (codes "workers") (values_or_missing (filled workers) values) rows refl fine

file_keeps : Keeps AreFine false (filled file)
file_keeps values rows e fine =
    range.other_used_fine (codes "limit") 0 MAX_LIMIT (codes "file") (values_or_missing (filled file) values) rows refl fine

files_keep : Keeps AreFine false (filled files)
files_keep values rows e fine =
    range.more_used_fine (codes "limit") 0 MAX_LIMIT (codes "file") (values_or_missing (filled files) values) rows refl fine

races_keep : Keeps AreFine false (filled races)
races_keep values rows e fine =
    range.other_used_fine (codes "limit") 0 MAX_LIMIT (codes "races") (values_or_missing (filled races) values) rows refl fine

sync_keeps : Keeps AreFine false (filled sync)
sync_keeps values rows e fine =
    range.more_used_fine (codes "limit") 0 MAX_LIMIT (codes "sync") (values_or_missing (filled sync) values) rows refl fine

explained_keeps : Keeps AreFine false (filled explained)
explained_keeps values rows e fine =
    range.other_used_fine (codes "limit") 0 MAX_LIMIT (codes "explain") (values_or_missing (filled explained) values) rows refl fine

lenient_keeps : Keeps AreFine false (filled lenient)
lenient_keeps values rows e fine =
    range.other_used_fine (codes "limit") 0 MAX_LIMIT (codes "lenient") (values_or_missing (filled lenient) values) rows refl fine

states_keep : Keeps AreFine false (filled states)
states_keep values rows e fine =
    range.other_used_fine (codes "limit") 0 MAX_LIMIT (codes "states") (values_or_missing (filled states) values) rows refl fine

explore_keeps : range.AllKeep (codes "limit") 0 MAX_LIMIT explore_rules
explore_keeps = (
  explained_keeps,
  (
    patient_keeps,
    (
      json_keeps,
      (
        progress_keeps,
        (
          x86_keeps,
          (
            all_states_keep,
            (
              workers_keep,
              (
                races_keep,
                (sync_keeps, (limit_keeps, (show_keeps, (file_keeps, ((λ values rows e fine. fine), tt))))),
              ),
            ),
          ),
        ),
      ),
    ),
  ),
)

check_keeps : range.AllKeep (codes "limit") 0 MAX_LIMIT check_rules
check_keeps = (
  explained_keeps,
  (
    patient_keeps,
    (
      json_keeps,
      (
        progress_keeps,
        (x86_keeps, (all_states_keep, (workers_keep, (lenient_keeps, (states_keep, (limit_keeps, (files_keep, ((λ values rows e fine. fine), tt)))))))),
      ),
    ),
  ),
)

-- ---- the rows

-- the flags have defaults, and the limit, but not `--workers`
abbrev waiting : List Row → List Row
waiting rows =
    with_default (with_default (with_default (with_default (with_default (with_default (with_default rows (filled explained)) (filled patient)) (filled json))
    (filled progress)) (filled x86)) (filled all_states)) (filled workers)

waiting_fine : (rows : List Row) → AreFine rows → AreFine (waiting rows)
waiting_fine rows fine =
    let start = with_default rows (filled explained) in
    let waits = with_default start (filled patient) in
    let started = range.default_fine (codes "limit") 0 MAX_LIMIT (codes "explain") (codes "false" ∷ []) rows refl fine in
    let waited = range.default_fine (codes "limit") 0 MAX_LIMIT (codes "patient") (codes "false" ∷ []) start refl started in
    let written = with_default waits (filled json) in
    let shaped = range.default_fine (codes "limit") 0 MAX_LIMIT (codes "json") (codes "false" ∷ []) waits refl waited in
    let watched = with_default written (filled progress) in
    let watches = range.default_fine (codes "limit") 0 MAX_LIMIT (codes "progress") (codes "false" ∷ []) written refl shaped in
    let buffered = with_default watched (filled x86) in
    let flushed = range.default_fine (codes "limit") 0 MAX_LIMIT (codes "x86") (codes "false" ∷ []) watched refl watches in
    let kept = with_default buffered (filled all_states) in
    let stated = range.default_fine (codes "limit") 0 MAX_LIMIT (codes "all-states") (codes "false" ∷ []) buffered refl flushed in
    subst AreFine (sym (no_default (has_row (codes "workers") kept) kept)) stated

-- and `--races`, but not `--sync`
abbrev asking : List Row → List Row
asking rows = with_default (with_default (waiting rows) (filled races)) (filled sync)

asking_fine : (rows : List Row) → AreFine rows → AreFine (asking rows)
asking_fine rows fine =
    let waits = waiting rows in
    let asks = with_default waits (filled races) in
    let asked = range.default_fine (codes "limit") 0 MAX_LIMIT (codes "races") (codes "false" ∷ []) waits refl (waiting_fine rows fine) in
    subst AreFine (sym (no_default (has_row (codes "sync") asks) asks)) asked

limited_asking : (rows : List Row) → AreFine rows → HasLimit (with_default (asking rows) (filled limit))
limited_asking rows fine = with_limited (codes "limit") MAX_LIMIT refl refl (asking rows) (asking_fine rows fine)

-- or `--lenient` and `--states`
abbrev passing : List Row → List Row
passing rows = with_default (with_default (waiting rows) (filled lenient)) (filled states)

passing_fine : (rows : List Row) → AreFine rows → AreFine (passing rows)
passing_fine rows fine =
    let waits = waiting rows in
    let passes = with_default waits (filled lenient) in
    let passed = range.default_fine (codes "limit") 0 MAX_LIMIT (codes "lenient") (codes "false" ∷ []) waits refl (waiting_fine rows fine) in
    range.default_fine (codes "limit") 0 MAX_LIMIT (codes "states") (codes "false" ∷ []) passes refl passed

limited_fine : (rows : List Row) → AreFine rows → HasLimit (with_default (passing rows) (filled limit))
limited_fine rows fine = with_limited (codes "limit") MAX_LIMIT refl refl (passing rows) (passing_fine rows fine)

finished_explore : (h : Held) → AreFine (settled explore_rules h).rows → HasLimit (finished explore_rules h)
finished_explore h fine =
    let rows = (settled explore_rules h).rows in
    let first = with_default (asking rows) (filled limit) in
    let second = with_default first (filled show) in
    let third = with_default second (filled file) in
    let same =
    no_default (has_row (codes "help") third) third ∙ (no_default (has_row (codes "file") second) second
    ∙ no_default (has_row (codes "show") first) first)
    in
    subst HasLimit (sym same) (limited_asking rows fine)

finished_check : (h : Held) → AreFine (settled check_rules h).rows → HasLimit (finished check_rules h)
finished_check h fine =
    let rows = (settled check_rules h).rows in
    let first = with_default (passing rows) (filled limit) in
    let second = with_default first (filled files) in
    let same = no_default (has_row (codes "help") second) second ∙ no_default (has_row (codes "file") first) first in
    subst HasLimit (sym same) (limited_fine rows fine)

-- the options of either, after a parse of its words with no fault
explore_limit : (words : List Text) → level_fault explore_built [] nothing_held words false [] ≡ [] → HasLimit (rows_after explore_rules [] words)
explore_limit words e =
    finished_explore (walk explore_rules [] nothing_held words).held (range.settled_fine (codes "limit") 0 MAX_LIMIT explore_built refl explore_keeps words e)

check_limit : (words : List Text) → level_fault check_built [] nothing_held words false [] ≡ [] → HasLimit (rows_after check_rules [] words)
check_limit words e =
    finished_check (walk check_rules [] nothing_held words).held (range.settled_fine (codes "limit") 0 MAX_LIMIT check_built refl check_keeps words e)

no_search : (name : Text) → bytes_eq name (codes "explore") ≡ false → bytes_eq name (codes "check") ≡ false → IsSearchName name → ⊥
no_search name first second (inl is) = other_name (codes "explore") name first is
no_search name first second (inr is) = other_name (codes "check") name second is

-- ---- the subcommands

-- for one that searches, its options have a limit
abbrev pub LimitKnown : Text × List Row → Type 0
LimitKnown found = IsSearchName found.0 → HasLimit found.1

all_known : AllHave LimitKnown (built ebpf).subs
all_known = (
  (λ words e is. absurd (no_search (codes "hex") refl refl is)),
  (
    (λ words e is. absurd (no_search (codes "asm") refl refl is)),
    (
      (λ words e is. absurd (no_search (codes "disasm") refl refl is)),
      (
        (λ words e is. absurd (no_search (codes "run") refl refl is)),
        (
          (λ words e is. explore_limit words e),
          (
            (λ words e is. check_limit words e),
            (
              (λ words e is. absurd (no_search (codes "expand") refl refl is)),
              (
                (λ words e is. absurd (no_search (codes "debug") refl refl is)),
                ((λ words e is. absurd (no_search (codes "explain") refl refl is)), tt),
              ),
            ),
          ),
        ),
      ),
    ),
  ),
)

pub limit_known : (words : List Text) → fault_of ebpf words ≡ [] → IfSome (subcommand_of ebpf words) LimitKnown
limit_known words e = found_known LimitKnown all_known words e
