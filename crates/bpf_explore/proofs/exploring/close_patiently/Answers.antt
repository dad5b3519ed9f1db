use Rattle.std.proofs.Common.{◌≡◌, ◌∙◌, List, true, false, sym, ap, subst}
use Rattle.std.specs.Prelude.{slice_get}
use Rattle.bpf_machine.specs.Machine.{MachineState}
use Rattle.bpf_equal.specs.Covers.{KeepsEnds}
use Rattle.bpf_equal.specs.declared.peers.Peer.{Peer}
use Rattle.bpf_explore.specs.Album.{BeginsAt, HaveWholeBudgets}
use Rattle.bpf_explore.specs.Search.{CameToEnds, Extends, Richly, ShowsEndsInBudget, is_whole}
use Rattle.bpf_explore.specs.Private.Answers.{IsFirst, StartsFresh}
use Rattle.bpf_explore.specs.Private.Peers.{FitPeers}
use Rattle.bpf_explore.proofs.ExploreLaws.{still_begins, whole_of}
use Rattle.bpf_explore.proofs.PermutedLaws.{closed_came, ends_shown_in_budget, first_there, part_came, whole_still}
use Rattle.bpf_explore.proofs.exploring.close_patiently.Goals as goal

pub close-closed-requires : goal.close-closed-requires
close-closed-requires c =
    let kept = sym c.into_spread-spread.ensures.kept in
    record {
      first = subst StartsFresh kept c.requires;
      fit = subst (λ (ps : List Peer). FitPeers c.into_spread-spread.result.0.stock c.into_spread-spread.result.0.kept ps) (sym c.deref.ensures.value)
          c.into_spread-spread.ensures.fit;
    }

pub returns-then-not-is_whole-clause-begins : goal.returns-then-not-is_whole-clause-begins
returns-then-not-is_whole-clause-begins c w begins = subst (λ (ms : List MachineState). BeginsAt ms w) (sym c.into_spread-spread.ensures.kept) begins

pub returns-then-not-is_whole-clause-before : goal.returns-then-not-is_whole-clause-before
returns-then-not-is_whole-clause-before c w first = subst (λ (ms : List MachineState). IsFirst ms w) c.into_spread-spread.ensures.kept first

pub returns-then-not-is_whole-clause-budgets : goal.returns-then-not-is_whole-clause-budgets
returns-then-not-is_whole-clause-budgets c whole = subst HaveWholeBudgets (sym c.into_spread-spread.ensures.kept) whole

pub returns-then-not-is_whole-clause-ends : goal.returns-then-not-is_whole-clause-ends
returns-then-not-is_whole-clause-ends c came =
    let given = c.is_whole.ensures in
    let told = c.if-not-is_whole.true in
    let part : is_whole c.args.extent ≡ false = cc in
    subst (λ (ms : List MachineState). CameToEnds ShowsEndsInBudget ms c.args.extent c.args.limit) (sym c.into_spread-spread.ensures.kept)
    (part_came ShowsEndsInBudget (Richly c.args.explorer.peers) c.args.explorer.kept c.args.extent c.args.limit part came)

pub returns-clause-begins : goal.returns-clause-begins
returns-clause-begins c w begins =
    let new = c.close-closed.new.self.kept in
    still_begins c.args.explorer.kept new w begins
    (subst (λ (ms : List MachineState). Extends ms new) c.into_spread-spread.ensures.kept c.close-closed.ensures.extends)

pub returns-clause-before : goal.returns-clause-before
returns-clause-before c w first =
    let new = c.close-closed.new.self.kept in
    first_there c.args.explorer.kept new c.requires
    (subst (λ (ms : List MachineState). Extends ms new) c.into_spread-spread.ensures.kept c.close-closed.ensures.extends) w first

pub returns-clause-whole : goal.returns-clause-whole
returns-clause-whole c is =
    let given = c.is_whole.ensures in
    let told = c.if-not-is_whole.false in
    let all : is_whole c.args.extent ≡ true = cc in
    whole_of c.args.extent all

pub returns-clause-budgets : goal.returns-clause-budgets
returns-clause-budgets c whole =
    let new = c.close-closed.new.self.kept in
    whole_still c.args.explorer.kept new c.requires
    (subst (λ (ms : List MachineState). Extends ms new) c.into_spread-spread.ensures.kept c.close-closed.ensures.extends)
    (λ all. c.close-closed.ensures.budgets (λ i m at. all i m (ap (λ (ms : List MachineState). slice_get ms i) (sym c.into_spread-spread.ensures.kept) ∙ at)))
    whole

pub returns-clause-ends : goal.returns-clause-ends
returns-clause-ends c came =
    let given = c.is_whole.ensures in
    let told = c.if-not-is_whole.false in
    let all : is_whole c.args.extent ≡ true = cc in
    let new = c.close-closed.new.self.kept in
    let peers = c.args.explorer.peers in
    let longer = subst (λ (ms : List MachineState). Extends ms new) c.into_spread-spread.ensures.kept c.close-closed.ensures.extends in
    closed_came ShowsEndsInBudget (Richly peers) c.args.explorer.kept new c.args.extent c.close-closed.result c.args.limit
    (λ covers is. ends_shown_in_budget c.kept_ends_are_shown.ensures peers c.args.explorer.kept new c.requires longer covers
    (subst (λ (ps : List Peer). KeepsEnds ps new) (c.deref.ensures.value ∙ c.into_spread-spread.ensures.peers) (c.close-closed.ensures.whole is)))
    (whole_of c.args.extent all) c.close-closed.ensures.met c.close-closed.ensures.short came
