-- Where `clap` finds no fault, the options of `hex` and of `asm` have a budget in its range.
use Rattle.std.proofs.Common.{unwrap_or, ◌∙◌, sym, subst, ◌≡◌, List, [], ◌∷◌, false, codes, inl, inr, refl}
use Rattle.std.specs.Prelude.{IfSome, find}
use Rattle.std.specs.Str.{bytes_eq}
use Rattle.clap.specs.Simple.{filled, Shape, built, label_of}
use Rattle.clap.specs.Faults.{level_fault}
use Rattle.clap.specs.Walk.{with_default, values_or_missing, Held, Row, Rule, Text, answers_to, finished, has_row, nothing_held, rows_after, settled, walk}
use Rattle.clap.specs.Words.{fault_of, subcommand_of}
use Rattle.bpf_base.specs.declared.budget.TheConstants.{MAX_BUDGET}
use Rattle.bpf_command.specs.CommandLine.{HasBudget, IsRunnerName, asm, budget, context, ebpf, explained, file, hex, listing, runs}
use Rattle.bpf_command.proofs.Limited.{limited_keeps, with_limited}
use Rattle.bpf_command.proofs.Ranges as range
use Rattle.bpf_command.proofs.Ranges.{no_default}
use Rattle.bpf_command.proofs.Subcommands.{AllHave, found_known, other_name}
use Rattle.bpf_command.proofs.Walks.{Keeps}

abbrev AreFine : List Row → Type 0
AreFine = range.AreFine (codes "budget") 0 MAX_BUDGET

-- ---- the rules

-- the commands as they are built, and the options of each with what building fills in
abbrev hex_built : Shape
hex_built = unwrap_or (find (λ s. answers_to (codes "hex") (label_of s)) (built ebpf).subs) hex.top

abbrev asm_built : Shape
asm_built = unwrap_or (find (λ s. answers_to (codes "asm") (label_of s)) (built ebpf).subs) asm.top

abbrev hex_rules : List Rule
hex_rules = hex_built.rules

abbrev asm_rules : List Rule
asm_rules = asm_built.rules

budget_keeps : Keeps AreFine false (filled budget)
budget_keeps = limited_keeps (codes "budget") MAX_BUDGET refl refl

context_keeps : Keeps AreFine false (filled context)
context_keeps values rows e fine =
    range.other_used_fine (codes "budget") 0 MAX_BUDGET (codes "ctx") (values_or_missing (filled context) values) rows refl fine

file_keeps : Keeps AreFine false (filled file)
file_keeps values rows e fine =
    range.other_used_fine (codes "budget") 0 MAX_BUDGET (codes "file") (values_or_missing (filled file) values) rows refl fine

explained_keeps : Keeps AreFine false (filled explained)
explained_keeps values rows e fine =
    range.other_used_fine (codes "budget") 0 MAX_BUDGET (codes "explain") (values_or_missing (filled explained) values) rows refl fine

listing_keeps : Keeps AreFine false (filled listing)
listing_keeps values rows e fine =
    range.other_used_fine (codes "budget") 0 MAX_BUDGET (codes "listing") (values_or_missing (filled listing) values) rows refl fine

runs_keeps : Keeps AreFine false (filled runs)
runs_keeps values rows e fine =
    range.other_used_fine (codes "budget") 0 MAX_BUDGET (codes "run") (values_or_missing (filled runs) values) rows refl fine

hex_keeps : range.AllKeep (codes "budget") 0 MAX_BUDGET hex_rules
hex_keeps = (explained_keeps, (budget_keeps, (context_keeps, (file_keeps, ((λ values rows e fine. fine), tt)))))

asm_keeps : range.AllKeep (codes "budget") 0 MAX_BUDGET asm_rules
asm_keeps =
    (explained_keeps, (listing_keeps, (runs_keeps, (budget_keeps, (context_keeps, (file_keeps, ((λ values rows e fine. fine), tt)))))))

-- ---- the rows

-- `--explain` has a default
explained_fine : (rows : List Row) → AreFine rows → AreFine (with_default rows (filled explained))
explained_fine rows fine = range.default_fine (codes "budget") 0 MAX_BUDGET (codes "explain") (codes "false" ∷ []) rows refl fine

-- and the two flags of `asm`
flags_fine : (rows : List Row) → AreFine rows → AreFine (with_default (with_default (with_default rows (filled explained)) (filled listing)) (filled runs))
flags_fine rows fine =
    let first = with_default rows (filled explained) in
    let second = with_default first (filled listing) in
    let listed = range.default_fine (codes "budget") 0 MAX_BUDGET (codes "listing") (codes "false" ∷ []) first refl (explained_fine rows fine) in
    range.default_fine (codes "budget") 0 MAX_BUDGET (codes "run") (codes "false" ∷ []) second refl listed

-- no option after the budget has a default
behind_budget : (rows : List Row) → HasBudget rows → HasBudget (with_default (with_default rows (filled context)) (filled file))
behind_budget rows has =
    let second = with_default rows (filled context) in
    subst HasBudget (sym (no_default (has_row (codes "file") second) second ∙ no_default (has_row (codes "ctx") rows) rows)) has

finished_hex : (h : Held) → AreFine (settled hex_rules h).rows → HasBudget (finished hex_rules h)
finished_hex h fine =
    let start = with_default (settled hex_rules h).rows (filled explained) in
    let first = with_default start (filled budget) in
    let third = with_default (with_default first (filled context)) (filled file) in
    let has = with_limited (codes "budget") MAX_BUDGET refl refl start (explained_fine (settled hex_rules h).rows fine) in
    subst HasBudget (sym (no_default (has_row (codes "help") third) third)) (behind_budget first has)

finished_asm : (h : Held) → AreFine (settled asm_rules h).rows → HasBudget (finished asm_rules h)
finished_asm h fine =
    let rows = (settled asm_rules h).rows in
    let start = with_default (with_default (with_default rows (filled explained)) (filled listing)) (filled runs) in
    let first = with_default start (filled budget) in
    let third = with_default (with_default first (filled context)) (filled file) in
    let has = with_limited (codes "budget") MAX_BUDGET refl refl start (flags_fine rows fine) in
    subst HasBudget (sym (no_default (has_row (codes "help") third) third)) (behind_budget first has)

-- the options of either, after a parse of its words with no fault
hex_budget : (words : List Text) → level_fault hex_built [] nothing_held words false [] ≡ [] → HasBudget (rows_after hex_rules [] words)
hex_budget words e =
    finished_hex (walk hex_rules [] nothing_held words).held (range.settled_fine (codes "budget") 0 MAX_BUDGET hex_built refl hex_keeps words e)

asm_budget : (words : List Text) → level_fault asm_built [] nothing_held words false [] ≡ [] → HasBudget (rows_after asm_rules [] words)
asm_budget words e =
    finished_asm (walk asm_rules [] nothing_held words).held (range.settled_fine (codes "budget") 0 MAX_BUDGET asm_built refl asm_keeps words e)

no_runner : (name : Text) → bytes_eq name (codes "hex") ≡ false → bytes_eq name (codes "asm") ≡ false → IsRunnerName name → ⊥
no_runner name first second (inl is) = other_name (codes "hex") name first is
no_runner name first second (inr is) = other_name (codes "asm") name second is

-- ---- the subcommands

-- for one that runs a program, its options have a budget
abbrev pub BudgetKnown : Text × List Row → Type 0
BudgetKnown found = IsRunnerName found.0 → HasBudget found.1

all_known : AllHave BudgetKnown (built ebpf).subs
all_known = (
  (λ words e is. hex_budget words e),
  (
    (λ words e is. asm_budget words e),
    (
      (λ words e is. absurd (no_runner (codes "disasm") refl refl is)),
      (
        (λ words e is. absurd (no_runner (codes "run") refl refl is)),
        (
          (λ words e is. absurd (no_runner (codes "explore") refl refl is)),
          (
            (λ words e is. absurd (no_runner (codes "check") refl refl is)),
            (
              (λ words e is. absurd (no_runner (codes "expand") refl refl is)),
              (
                (λ words e is. absurd (no_runner (codes "debug") refl refl is)),
                ((λ words e is. absurd (no_runner (codes "explain") refl refl is)), tt),
              ),
            ),
          ),
        ),
      ),
    ),
  ),
)

pub budget_known : (words : List Text) → fault_of ebpf words ≡ [] → IfSome (subcommand_of ebpf words) BudgetKnown
budget_known words e = found_known BudgetKnown all_known words e
