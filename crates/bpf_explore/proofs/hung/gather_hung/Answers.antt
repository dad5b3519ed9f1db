use Rattle.std.proofs.Common.{◌≡◌, ◌∙◌, List, [], Bool, ℕ, length, sym, subst}
use Rattle.bpf_machine.specs.Machine.{MachineState}
use Rattle.bpf_equal.specs.declared.peers.Peer.{Peer}
use Rattle.bpf_equal.specs.Patient.{AreAllExchanged}
use Rattle.bpf_explore.specs.Private.Edges.{AreTurns}
use Rattle.bpf_explore.specs.Private.Exchanged.{Grows}
use Rattle.bpf_explore.specs.Private.Hung.{AllHang, AllBeyondBelow, AllLeadOrBeyond, StaysFirst}
use Rattle.bpf_explore.specs.Private.Replays.{CanRunOut}
use Rattle.bpf_explore.proofs.BeyondLaws.{all_lead_or_beyond}
use Rattle.bpf_explore.proofs.ExchangedLaws.{beyond_grown}
use Rattle.bpf_explore.proofs.hung.gather_hung.Goals as goal

pub mark_ends-requires-clause-turns : goal.mark_ends-requires-clause-turns
mark_ends-requires-clause-turns c = subst (λ (kept : List MachineState). AreTurns kept c.args.turns.now) (sym c.all_go_on.ensures.same) c.requires.turns

pub returns-clause-hung : goal.returns-clause-hung
returns-clause-hung c =
    let new = c.exchange_hung.new.hung.items in
    let all = subst (λ (kept : List MachineState). AllHang kept c.in_ok-hung.hung.items) c.all_go_on.ensures.same c.in_ok-hung.ensures.hung in
    let grows = subst (λ (ps : List Peer). Grows ps c.in_ok-hung.hung.items new) c.deref-2.ensures.value c.in_ok-exchange_hung.ensures.grows in
    grows.hang c.args.explorer.now.kept c.requires.stays all

pub returns-clause-exchanged : goal.returns-clause-exchanged
returns-clause-exchanged c =
    subst (λ (ps : List Peer). AreAllExchanged ps c.exchange_hung.new.hung.items) c.deref-2.ensures.value c.in_ok-exchange_hung.ensures.exchanged

pub returns-clause-out : goal.returns-clause-out
returns-clause-out c is = subst CanRunOut c.all_go_on.ensures.same (c.in_ok-hung.ensures.out is)

pub returns-clause-ends : goal.returns-clause-ends
returns-clause-ends c fit =
    let peers = c.args.turns.now.peers.items in
    let marks = c.in_ok-marks.marks.items in
    let old = c.in_ok-hung.hung.items in
    let new = c.exchange_hung.new.hung.items in
    let kept = c.all_go_on.new.explorer.kept in
    let listed = subst (λ (ms : List Bool). AllBeyondBelow kept ms old (length ms)) c.deref.ensures.value (c.in_ok-hung.ensures.listed fit) in
    let more = beyond_grown c.deref-2.result.now kept marks old new (length marks) c.in_ok-exchange_hung.ensures.grows listed in
    subst (λ (k : List MachineState). AllLeadOrBeyond peers k new) c.all_go_on.ensures.same
    (all_lead_or_beyond peers kept marks new c.in_ok-marks.ensures more)
