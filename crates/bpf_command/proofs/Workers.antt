-- Where `clap` finds no fault, a number of workers that `run`, `explore` or `check` is given is in its range.
use Rattle.std.proofs.Common.{unwrap_or, ◌∙◌, sym, subst, ◌≡◌, List, [], ◌∷◌, false, codes, inl, inr, refl}
use Rattle.std.specs.Prelude.{IfSome, find}
use Rattle.std.specs.Str.{bytes_eq}
use Rattle.clap.specs.Simple.{filled, Shape, built, label_of}
use Rattle.clap.specs.Faults.{level_fault}
use Rattle.clap.specs.Walk.{with_default, values_or_missing, Held, Row, Rule, Text, answers_to, finished, has_row, nothing_held, rows_after, settled, walk}
use Rattle.clap.specs.Words.{fault_of, subcommand_of}
use Rattle.bpf_command.specs.declared.command.TheConstants.{MAX_WORKERS}
use Rattle.bpf_command.specs.CommandLine.{HasWorkers, MayHaveWorkers, ebpf, events, explained, file, judged, json, keys, maps, packets, run}
use Rattle.bpf_command.specs.CommandLine.{schedule, stats, workers, x86}
use Rattle.bpf_command.proofs.Counted.{counted_keeps, has_count}
use Rattle.bpf_command.proofs.Ranges as range
use Rattle.bpf_command.proofs.Ranges.{no_default}
use Rattle.bpf_command.proofs.SearchWorkers.{explore_workers, check_workers}
use Rattle.bpf_command.proofs.Subcommands.{AllHave, found_known, other_name}
use Rattle.bpf_command.proofs.Walks.{Keeps}

abbrev AreFine : List Row → Type 0
AreFine = range.AreFine (codes "workers") 1 MAX_WORKERS

-- ---- the rules

-- `run` as it is built, and its options with what building fills in
abbrev run_built : Shape
run_built = unwrap_or (find (λ s. answers_to (codes "run") (label_of s)) (built ebpf).subs) run.top

abbrev rules : List Rule
rules = run_built.rules

workers_keep : Keeps AreFine false (filled workers)
workers_keep = counted_keeps (codes "workers") MAX_WORKERS

keys_keep : Keeps AreFine false (filled keys)
keys_keep values rows e fine =
    range.other_used_fine (codes "workers") 1 MAX_WORKERS (codes "keys") (values_or_missing (filled keys) values) rows refl fine

maps_keep : Keeps AreFine false (filled maps)
maps_keep values rows e fine =
    range.other_used_fine (codes "workers") 1 MAX_WORKERS (codes "maps") (values_or_missing (filled maps) values) rows refl fine

events_keep : Keeps AreFine false (filled events)
events_keep values rows e fine =
    range.other_used_fine (codes "workers") 1 MAX_WORKERS (codes "events") (values_or_missing (filled events) values) rows refl fine

packets_keep : Keeps AreFine false (filled packets)
packets_keep values rows e fine =
    range.other_used_fine (codes "workers") 1 MAX_WORKERS (codes "packets") (values_or_missing (filled packets) values) rows refl fine

judged_keeps : Keeps AreFine false (filled judged)
judged_keeps values rows e fine =
    range.other_used_fine (codes "workers") 1 MAX_WORKERS (codes "check") (values_or_missing (filled judged) values) rows refl fine

schedule_keeps : Keeps AreFine false (filled schedule)
schedule_keeps values rows e fine =
    range.other_used_fine (codes "workers") 1 MAX_WORKERS (codes "by") (values_or_missing (filled schedule) values) rows refl fine

stats_keep : Keeps AreFine false (filled stats)
stats_keep values rows e fine =
    range.other_used_fine (codes "workers") 1 MAX_WORKERS (codes "stats") (values_or_missing (filled stats) values) rows refl fine

x86_keeps : Keeps AreFine false (filled x86)
x86_keeps values rows e fine =
    range.other_used_fine (codes "workers") 1 MAX_WORKERS (codes "x86") (values_or_missing (filled x86) values) rows refl fine

json_keeps : Keeps AreFine false (filled json)
json_keeps values rows e fine =
    range.other_used_fine (codes "workers") 1 MAX_WORKERS (codes "json") (values_or_missing (filled json) values) rows refl fine

file_keeps : Keeps AreFine false (filled file)
file_keeps values rows e fine =
    range.other_used_fine (codes "workers") 1 MAX_WORKERS (codes "file") (values_or_missing (filled file) values) rows refl fine

explained_keeps : Keeps AreFine false (filled explained)
explained_keeps values rows e fine =
    range.other_used_fine (codes "workers") 1 MAX_WORKERS (codes "explain") (values_or_missing (filled explained) values) rows refl fine

rules_keep : range.AllKeep (codes "workers") 1 MAX_WORKERS rules
rules_keep = (
  explained_keeps,
  (
    keys_keep,
    (
      maps_keep,
      (
        events_keep,
        (
          packets_keep,
          (
            judged_keeps,
            (
              schedule_keeps,
              (
                workers_keep,
                (
                  stats_keep,
                  (
                    x86_keeps,
                    (json_keeps, (file_keeps, ((λ values rows e fine. fine), tt))),
                  ),
                ),
              ),
            ),
          ),
        ),
      ),
    ),
  ),
)

-- ---- the rows

-- the flags have defaults, and no other option of `run` has one
finished_workers : (h : Held) → AreFine (settled rules h).rows → HasWorkers (finished rules h)
finished_workers h fine =
    let start = with_default (settled rules h).rows (filled explained) in
    let listing = with_default start (filled keys) in
    let shown = with_default listing (filled maps) in
    let told = with_default shown (filled events) in
    let carried = with_default told (filled packets) in
    let tested = with_default carried (filled judged) in
    let first = with_default tested (filled schedule) in
    let second = with_default first (filled workers) in
    let third = with_default second (filled stats) in
    let buffered = with_default third (filled x86) in
    let fourth = with_default buffered (filled json) in
    let fifth = with_default fourth (filled file) in
    let started = range.default_fine (codes "workers") 1 MAX_WORKERS (codes "explain") (codes "false" ∷ []) (settled rules h).rows refl fine in
    let listed = range.default_fine (codes "workers") 1 MAX_WORKERS (codes "keys") (codes "false" ∷ []) start refl started in
    let both = range.default_fine (codes "workers") 1 MAX_WORKERS (codes "maps") (codes "false" ∷ []) listing refl listed in
    let more = range.default_fine (codes "workers") 1 MAX_WORKERS (codes "events") (codes "false" ∷ []) shown refl both in
    let still = range.default_fine (codes "workers") 1 MAX_WORKERS (codes "packets") (codes "false" ∷ []) told refl more in
    let all = range.default_fine (codes "workers") 1 MAX_WORKERS (codes "check") (codes "false" ∷ []) carried refl still in
    let given = no_default (has_row (codes "workers") first) first ∙ no_default (has_row (codes "by") tested) tested in
    let counted = range.default_fine (codes "workers") 1 MAX_WORKERS (codes "stats") (codes "false" ∷ []) second refl (subst AreFine (sym given) all) in
    let waiting = range.default_fine (codes "workers") 1 MAX_WORKERS (codes "x86") (codes "false" ∷ []) third refl counted in
    let written = range.default_fine (codes "workers") 1 MAX_WORKERS (codes "json") (codes "false" ∷ []) buffered refl waiting in
    let same = no_default (has_row (codes "help") fifth) fifth ∙ no_default (has_row (codes "file") fourth) fourth in
    subst HasWorkers (sym same) (has_count (codes "workers") MAX_WORKERS fourth written)

-- the options of `run`, after a parse of its words with no fault
run_workers : (words : List Text) → level_fault run_built [] nothing_held words false [] ≡ [] → HasWorkers (rows_after rules [] words)
run_workers words e =
    finished_workers (walk rules [] nothing_held words).held (range.settled_fine (codes "workers") 1 MAX_WORKERS run_built refl rules_keep words e)

no_workers : (name : Text) → bytes_eq name (codes "run") ≡ false → bytes_eq name (codes "explore") ≡ false → bytes_eq name (codes "check") ≡ false
    → MayHaveWorkers name → ⊥
no_workers name first second third (inl is) = other_name (codes "run") name first is
no_workers name first second third (inr (inl is)) = other_name (codes "explore") name second is
no_workers name first second third (inr (inr is)) = other_name (codes "check") name third is

-- ---- the subcommands

-- for one that may have workers, a number of them that is given is in its range
abbrev pub WorkersKnown : Text × List Row → Type 0
WorkersKnown found = MayHaveWorkers found.0 → HasWorkers found.1

all_known : AllHave WorkersKnown (built ebpf).subs
all_known = (
  (λ words e is. absurd (no_workers (codes "hex") refl refl refl is)),
  (
    (λ words e is. absurd (no_workers (codes "asm") refl refl refl is)),
    (
      (λ words e is. absurd (no_workers (codes "disasm") refl refl refl is)),
      (
        (λ words e is. run_workers words e),
        (
          (λ words e is. explore_workers words e),
          (
            (λ words e is. check_workers words e),
            (
              (λ words e is. absurd (no_workers (codes "expand") refl refl refl is)),
              (
                (λ words e is. absurd (no_workers (codes "debug") refl refl refl is)),
                ((λ words e is. absurd (no_workers (codes "explain") refl refl refl is)), tt),
              ),
            ),
          ),
        ),
      ),
    ),
  ),
)

pub workers_known : (words : List Text) → fault_of ebpf words ≡ [] → IfSome (subcommand_of ebpf words) WorkersKnown
workers_known words e = found_known WorkersKnown all_known words e
