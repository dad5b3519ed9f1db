use Rattle.std.proofs.Common.{◌≡◌, ◌∙◌, ap, [], List, map, Result, Ok, Err, subst, sym}
use Rattle.std.specs.Prelude.{IfSome, IsErrAnd}
use Rattle.clap.specs.Faults.{is_simple_and_free}
use Rattle.clap.specs.Kinds.{FailsBy, HasKind, Kinds}
use Rattle.clap.specs.declared.error.Error.{Error}
use Rattle.clap.specs.Words.{App, HasMatchesOf, Text, app_of, fault_of, subcommand_of, subcommand_rows_of}
use Rattle.bpf_command.specs.CommandLine.{ebpf}
use Rattle.bpf_command.proofs.Budget.{BudgetKnown, budget_known}
use Rattle.bpf_command.proofs.Limit.{LimitKnown, limit_known}
use Rattle.bpf_command.proofs.PartCounts.{PartsKnown, parts_known}
use Rattle.bpf_command.proofs.Shown.{ShownKnown, shown_known}
use Rattle.bpf_command.proofs.Subcommands.{is_matched, is_told, name_known}
use Rattle.bpf_command.proofs.Workers.{WorkersKnown, workers_known}
use Rattle.bpf_command.proofs.command_line.matches_of.Goals as goal

fails_too : {A : Type 0} (kinds : Kinds) (e : Error) (r : Result A Error) → HasKind kinds e → IsErrAnd r (λ f. f ≡ e) → FailsBy kinds r
fails_too kinds e (Ok x) has same = absurd same
fails_too kinds e (Err f) has same = subst (HasKind kinds) (sym same) has

pub returns-clause-found : goal.returns-clause-found
returns-clause-found g c =
    let words : List Text = map g.S.AsStr.text c.args.words.now in
    let app : app_of c.in_ok-ebpf_command.field-0 ≡ ebpf = c.in_ok-ebpf_command.ensures.app in
    (subst (λ (a : App). HasMatchesOf a words c.in_ok-matches.matches) app c.in_ok-matches.ensures.matches is_matched).1

-- words that were parsed have no fault
pub returns-clause-faults : goal.returns-clause-faults
returns-clause-faults g c =
    let app : app_of c.in_ok-ebpf_command.field-0 ≡ ebpf = c.in_ok-ebpf_command.ensures.app in
    subst (λ a. fault_of a (map g.S.AsStr.text c.args.words.now) ≡ []) app
    (c.in_ok-matches.ensures.kinds (ap is_simple_and_free app ∙ is_told))

-- nor has an error another kind than one of them
pub returns-in_err-matches-clause-faults : goal.returns-in_err-matches-clause-faults
returns-in_err-matches-clause-faults g c =
    let words : List Text = map g.S.AsStr.text c.args.words.now in
    let app : app_of c.in_ok-ebpf_command.field-0 ≡ ebpf = c.in_ok-ebpf_command.ensures.app in
    let told : HasKind (fault_of ebpf words) c.in_err-matches.field-0.0 =
    subst (λ (a : App). HasKind (fault_of a words) c.in_err-matches.field-0.0) app
    (c.in_err-matches.ensures.kinds (ap is_simple_and_free app ∙ is_told)) in
    fails_too (fault_of ebpf words) c.in_err-matches.field-0.0 c.from_residual-in_err-matches.result told c.from_residual-in_err-matches.ensures.1

pub returns-clause-known : goal.returns-clause-known
returns-clause-known g c =
    let words : List Text = map g.S.AsStr.text c.args.words.now in
    let found : subcommand_rows_of c.in_ok-matches.matches ≡ subcommand_of ebpf words = returns-clause-found g c in
    name_known c.in_ok-matches.matches words (returns-clause-faults g c) found

pub returns-clause-checked : goal.returns-clause-checked
returns-clause-checked g c =
    let words : List Text = map g.S.AsStr.text c.args.words.now in
    let found : subcommand_rows_of c.in_ok-matches.matches ≡ subcommand_of ebpf words = returns-clause-found g c in
    subst (λ o. IfSome o BudgetKnown) (sym found) (budget_known words (returns-clause-faults g c))

pub returns-clause-counted : goal.returns-clause-counted
returns-clause-counted g c =
    let words : List Text = map g.S.AsStr.text c.args.words.now in
    let found : subcommand_rows_of c.in_ok-matches.matches ≡ subcommand_of ebpf words = returns-clause-found g c in
    subst (λ o. IfSome o WorkersKnown) (sym found) (workers_known words (returns-clause-faults g c))

pub returns-clause-limited : goal.returns-clause-limited
returns-clause-limited g c =
    let words : List Text = map g.S.AsStr.text c.args.words.now in
    let found : subcommand_rows_of c.in_ok-matches.matches ≡ subcommand_of ebpf words = returns-clause-found g c in
    subst (λ o. IfSome o LimitKnown) (sym found) (limit_known words (returns-clause-faults g c))

pub returns-clause-shown : goal.returns-clause-shown
returns-clause-shown g c =
    let words : List Text = map g.S.AsStr.text c.args.words.now in
    let found : subcommand_rows_of c.in_ok-matches.matches ≡ subcommand_of ebpf words = returns-clause-found g c in
    subst (λ o. IfSome o ShownKnown) (sym found) (shown_known words (returns-clause-faults g c))

pub returns-clause-parted : goal.returns-clause-parted
returns-clause-parted g c =
    let words : List Text = map g.S.AsStr.text c.args.words.now in
    let found : subcommand_rows_of c.in_ok-matches.matches ≡ subcommand_of ebpf words = returns-clause-found g c in
    subst (λ o. IfSome o PartsKnown) (sym found) (parts_known words (returns-clause-faults g c))
