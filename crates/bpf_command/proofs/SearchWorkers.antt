-- Where `clap` finds no fault, a number of workers that `explore` or `check` is given is in its range.
use Rattle.std.proofs.Common.{unwrap_or, ◌∙◌, sym, subst, ◌≡◌, List, [], ◌∷◌, false, codes, refl}
use Rattle.std.specs.Prelude.{find}
use Rattle.clap.specs.Simple.{filled, Shape, built, label_of}
use Rattle.clap.specs.Faults.{level_fault}
use Rattle.clap.specs.Walk.{with_default, values_or_missing, Held, Row, Rule, Text, answers_to, finished, has_row, nothing_held, rows_after, settled, walk}
use Rattle.bpf_command.specs.declared.command.TheConstants.{MAX_WORKERS}
use Rattle.bpf_command.specs.CommandLine.{HasWorkers, all_states, check, ebpf, explained, explore, file, files, json, lenient, limit}
use Rattle.bpf_command.specs.CommandLine.{patient, progress, races, show, states, sync, workers, x86}
use Rattle.bpf_command.proofs.Counted.{counted_keeps, has_count}
use Rattle.bpf_command.proofs.Ranges as range
use Rattle.bpf_command.proofs.Ranges.{no_default}
use Rattle.bpf_command.proofs.Walks.{Keeps}

abbrev AreFine : List Row → Type 0
AreFine = range.AreFine (codes "workers") 1 MAX_WORKERS

-- ---- the rules

-- the commands that search as they are built, and the options of each with what building fills in
abbrev explore_built : Shape
explore_built =
    unwrap_or (find (λ s. answers_to (codes "explore") (label_of s)) (built ebpf).subs) explore.top

abbrev check_built : Shape
check_built =
    unwrap_or (find (λ s. answers_to (codes "check") (label_of s)) (built ebpf).subs) check.top

abbrev explore_rules : List Rule
explore_rules = explore_built.rules

abbrev check_rules : List Rule
check_rules = check_built.rules

workers_keep : Keeps AreFine false (filled workers)
workers_keep = counted_keeps (codes "workers") MAX_WORKERS

explained_keeps : Keeps AreFine false (filled explained)
explained_keeps values rows e fine =
    range.other_used_fine (codes "workers") 1 MAX_WORKERS (codes "explain") (values_or_missing (filled explained) values) rows refl fine

patient_keeps : Keeps AreFine false (filled patient)
patient_keeps values rows e fine =
    range.other_used_fine (codes "workers") 1 MAX_WORKERS (codes "patient") (values_or_missing (filled patient) values) rows refl fine

json_keeps : Keeps AreFine false (filled json)
json_keeps values rows e fine =
    range.other_used_fine (codes "workers") 1 MAX_WORKERS (codes "json") (values_or_missing (filled json) values) rows refl fine

progress_keeps : Keeps AreFine false (filled progress)
progress_keeps values rows e fine =
    range.other_used_fine (codes "workers") 1 MAX_WORKERS (codes "progress") (values_or_missing (filled progress) values) rows refl fine

x86_keeps : Keeps AreFine false (filled x86)
x86_keeps values rows e fine =
    range.other_used_fine (codes "workers") 1 MAX_WORKERS (codes "x86") (values_or_missing (filled x86) values) rows refl fine

all_states_keep : Keeps AreFine false (filled all_states)
all_states_keep values rows e fine =
    range.other_used_fine (codes "workers") 1 MAX_WORKERS (codes "all-states") (values_or_missing (filled all_states) values) rows refl fine

races_keep : Keeps AreFine false (filled races)
races_keep values rows e fine =
    range.other_used_fine (codes "workers") 1 MAX_WORKERS (codes "races") (values_or_missing (filled races) values) rows refl fine

sync_keeps : Keeps AreFine false (filled sync)
sync_keeps values rows e fine =
    range.more_used_fine (codes "workers") 1 MAX_WORKERS (codes "sync") (values_or_missing (filled sync) values) rows refl fine

limit_keeps : Keeps AreFine false (filled limit)
limit_keeps values rows e fine =
    range.other_used_fine (codes "workers") 1 MAX_WORKERS (codes "limit") (values_or_missing (filled limit) values) rows refl fine

show_keeps : Keeps AreFine false (filled show)
show_keeps values rows e fine =
    range.other_used_fine (codes "workers") 1 MAX_WORKERS (codes "show") (values_or_missing (filled show) values) rows refl fine

file_keeps : Keeps AreFine false (filled file)
file_keeps values rows e fine =
    range.other_used_fine (codes "workers") 1 MAX_WORKERS (codes "file") (values_or_missing (filled file) values) rows refl fine

files_keep : Keeps AreFine false (filled files)
files_keep values rows e fine =
    range.more_used_fine (codes "workers") 1 MAX_WORKERS (codes "file") (values_or_missing (filled files) values) rows refl fine

lenient_keeps : Keeps AreFine false (filled lenient)
lenient_keeps values rows e fine =
    range.other_used_fine (codes "workers") 1 MAX_WORKERS (codes "lenient") (values_or_missing (filled lenient) values) rows refl fine

states_keep : Keeps AreFine false (filled states)
states_keep values rows e fine =
    range.other_used_fine (codes "workers") 1 MAX_WORKERS (codes "states") (values_or_missing (filled states) values) rows refl fine

explore_keeps : range.AllKeep (codes "workers") 1 MAX_WORKERS explore_rules
explore_keeps = (
  explained_keeps,
  (
    patient_keeps,
    (
      json_keeps,
      (
        progress_keeps,
        (
          x86_keeps,
          (all_states_keep, (workers_keep, (races_keep, (sync_keeps, (limit_keeps, (show_keeps, (file_keeps, ((λ values rows e fine. fine), tt)))))))),
        ),
      ),
    ),
  ),
)

check_keeps : range.AllKeep (codes "workers") 1 MAX_WORKERS check_rules
check_keeps = (
  explained_keeps,
  (
    patient_keeps,
    (
      json_keeps,
      (
        progress_keeps,
        (
          x86_keeps,
          (all_states_keep, (workers_keep, (lenient_keeps, (states_keep, (limit_keeps, (files_keep, ((λ values rows e fine. fine), tt))))))),
        ),
      ),
    ),
  ),
)

-- ---- the rows

-- the flags have defaults, but not `--workers`
abbrev waiting : List Row → List Row
waiting rows =
    with_default (with_default (with_default (with_default (with_default (with_default (with_default rows (filled explained)) (filled patient)) (filled json))
    (filled progress)) (filled x86)) (filled all_states)) (filled workers)

waiting_fine : (rows : List Row) → AreFine rows → AreFine (waiting rows)
waiting_fine rows fine =
    let start = with_default rows (filled explained) in
    let waits = with_default start (filled patient) in
    let started = range.default_fine (codes "workers") 1 MAX_WORKERS (codes "explain") (codes "false" ∷ []) rows refl fine in
    let waited = range.default_fine (codes "workers") 1 MAX_WORKERS (codes "patient") (codes "false" ∷ []) start refl started in
    let written = with_default waits (filled json) in
    let shaped = range.default_fine (codes "workers") 1 MAX_WORKERS (codes "json") (codes "false" ∷ []) waits refl waited in
    let watched = with_default written (filled progress) in
    let watches = range.default_fine (codes "workers") 1 MAX_WORKERS (codes "progress") (codes "false" ∷ []) written refl shaped in
    let buffered = with_default watched (filled x86) in
    let flushed = range.default_fine (codes "workers") 1 MAX_WORKERS (codes "x86") (codes "false" ∷ []) watched refl watches in
    let kept = with_default buffered (filled all_states) in
    let stated = range.default_fine (codes "workers") 1 MAX_WORKERS (codes "all-states") (codes "false" ∷ []) buffered refl flushed in
    subst AreFine (sym (no_default (has_row (codes "workers") kept) kept)) stated

-- and `--races`, but not `--sync`, and the limit
abbrev asking : List Row → List Row
asking rows = with_default (with_default (with_default (waiting rows) (filled races)) (filled sync)) (filled limit)

asking_fine : (rows : List Row) → AreFine rows → AreFine (asking rows)
asking_fine rows fine =
    let waits = waiting rows in
    let asks = with_default waits (filled races) in
    let names = with_default asks (filled sync) in
    let asked = range.default_fine (codes "workers") 1 MAX_WORKERS (codes "races") (codes "false" ∷ []) waits refl (waiting_fine rows fine) in
    let named = subst AreFine (sym (no_default (has_row (codes "sync") asks) asks)) asked in
    range.default_fine (codes "workers") 1 MAX_WORKERS (codes "limit") (codes "1000000" ∷ []) names refl named

-- or `--lenient`, `--states` and the limit
abbrev passing : List Row → List Row
passing rows = with_default (with_default (with_default (waiting rows) (filled lenient)) (filled states)) (filled limit)

passing_fine : (rows : List Row) → AreFine rows → AreFine (passing rows)
passing_fine rows fine =
    let waits = waiting rows in
    let passes = with_default waits (filled lenient) in
    let counts = with_default passes (filled states) in
    let passed = range.default_fine (codes "workers") 1 MAX_WORKERS (codes "lenient") (codes "false" ∷ []) waits refl (waiting_fine rows fine) in
    let counted = range.default_fine (codes "workers") 1 MAX_WORKERS (codes "states") (codes "false" ∷ []) passes refl passed in
    range.default_fine (codes "workers") 1 MAX_WORKERS (codes "limit") (codes "1000000" ∷ []) counts refl counted

finished_explore : (h : Held) → AreFine (settled explore_rules h).rows → HasWorkers (finished explore_rules h)
finished_explore h fine =
    let rows = (settled explore_rules h).rows in
    let first = asking rows in
    let second = with_default first (filled show) in
    let third = with_default second (filled file) in
    let same =
    no_default (has_row (codes "help") third) third ∙ (no_default (has_row (codes "file") second) second
    ∙ no_default (has_row (codes "show") first) first)
    in
    subst HasWorkers (sym same) (has_count (codes "workers") MAX_WORKERS first (asking_fine rows fine))

finished_check : (h : Held) → AreFine (settled check_rules h).rows → HasWorkers (finished check_rules h)
finished_check h fine =
    let rows = (settled check_rules h).rows in
    let first = passing rows in
    let second = with_default first (filled files) in
    let same = no_default (has_row (codes "help") second) second ∙ no_default (has_row (codes "file") first) first in
    subst HasWorkers (sym same) (has_count (codes "workers") MAX_WORKERS first (passing_fine rows fine))

-- the options of either, after a parse of its words with no fault
pub explore_workers : (words : List Text) → level_fault explore_built [] nothing_held words false [] ≡ [] → HasWorkers (rows_after explore_rules [] words)
explore_workers words e =
    finished_explore (walk explore_rules [] nothing_held words).held
    (range.settled_fine (codes "workers") 1 MAX_WORKERS explore_built refl explore_keeps words e)

pub check_workers : (words : List Text) → level_fault check_built [] nothing_held words false [] ≡ [] → HasWorkers (rows_after check_rules [] words)
check_workers words e =
    finished_check (walk check_rules [] nothing_held words).held
    (range.settled_fine (codes "workers") 1 MAX_WORKERS check_built refl check_keeps words e)
