use Rattle.std.proofs.Common.{◌≡◌, ◌<◌, List, Bool, false, Some, refl, sym, subst}
use Rattle.std.specs.Prelude.{slice_get}
use Rattle.bpf_explore.specs.Private.Ends.{LeadsToEnd, LeadToEnds, unmarked}
use Rattle.bpf_explore.proofs.MarkLaws.{one_more_marked, fewer_unmarked}
use Rattle.bpf_explore.proofs.ends.mark_at.Goals as goal

pub returns-then-leads_to_end-clause-lead : goal.returns-then-leads_to_end-clause-lead
returns-then-leads_to_end-clause-lead c =
    let kept = c.args.explorer.now.kept in
    let place = c.args.place in
    let off = subst (λ (ms : List Bool). slice_get ms place ≡ Some false) c.deref.ensures.value c.if-mark_of.ensures in
    let leads = subst (λ (ms : List Bool). LeadToEnds c.args.turns.now.peers.items kept ms → LeadsToEnd c.args.turns.now.peers.items kept
    place) c.deref-2.ensures.value
    (c.if-leads_to_end.ensures.leads refl) c.requires.lead in
    subst (LeadToEnds c.args.turns.now.peers.items kept) (sym c.set_mark.ensures)
    (one_more_marked c.args.turns.now.peers.items kept c.args.marks.now.items place false off c.requires.lead leads)

pub returns-then-leads_to_end-clause-fewer : goal.returns-then-leads_to_end-clause-fewer
returns-then-leads_to_end-clause-fewer c is =
    let old = c.args.marks.now.items in
    let off = subst (λ (ms : List Bool). slice_get ms c.args.place ≡ Some false) c.deref.ensures.value c.if-mark_of.ensures in
    subst (λ (ms : List Bool). unmarked ms < unmarked old) (sym c.set_mark.ensures) (fewer_unmarked old c.args.place off)
