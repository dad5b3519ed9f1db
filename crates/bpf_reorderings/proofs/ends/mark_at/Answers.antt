use Rattle.std.proofs.Common.{◌≡◌, ◌<◌, List, Bool, false, Some, length, refl, sym, subst, arith}
use Rattle.std.specs.Prelude.{slice_get}
use Rattle.std.proofs.lemmas.Option.{slice_get_read}
use Rattle.bpf_explore.specs.Private.Ends.{unmarked}
use Rattle.bpf_explore.proofs.MarkLaws.{fewer_unmarked}
use Rattle.bpf_reorderings.specs.declared.edges.Edge.{Edge}
use Rattle.bpf_reorderings.specs.Private.Edges.{AreEdgesFrom}
use Rattle.bpf_reorderings.specs.Private.Hung.{LeadsToEnd, LeadToEnds}
use Rattle.bpf_reorderings.proofs.Marking.{one_more_marked}
use Rattle.bpf_reorderings.proofs.ends.mark_at.Goals as goal

pub leads_to_end-requires-clause-edges : goal.leads_to_end-requires-clause-edges
leads_to_end-requires-clause-edges c =
    let rows = c.args.edges.now in
    let row = c.index-edges-place.result in
    let count = c.requires.edges.count in
    let place = c.requires.place in
    let at = slice_get_read rows (length rows) c.args.place row refl (omega arith) c.index-edges-place.is in
    subst (λ (es : List Edge). AreEdgesFrom c.args.explorer.now.kept c.args.place es) (sym c.deref-2.ensures.value)
    (c.requires.edges.each c.args.place row at)

pub returns-then-leads_to_end-clause-lead : goal.returns-then-leads_to_end-clause-lead
returns-then-leads_to_end-clause-lead c =
    let kept = c.args.explorer.now.kept in
    let place = c.args.place in
    let off = subst (λ (ms : List Bool). slice_get ms place ≡ Some false) c.deref.ensures.value c.if-mark_of.ensures in
    let leads = subst (λ (ms : List Bool). LeadToEnds kept ms → LeadsToEnd kept place) c.deref-3.ensures.value
    (c.if-leads_to_end.ensures.leads refl) c.requires.lead in
    subst (LeadToEnds kept) (sym c.set_mark.ensures) (one_more_marked kept c.args.marks.now.items place false off c.requires.lead leads)

pub returns-then-leads_to_end-clause-fewer : goal.returns-then-leads_to_end-clause-fewer
returns-then-leads_to_end-clause-fewer c is =
    let old = c.args.marks.now.items in
    let off = subst (λ (ms : List Bool). slice_get ms c.args.place ≡ Some false) c.deref.ensures.value c.if-mark_of.ensures in
    subst (λ (ms : List Bool). unmarked ms < unmarked old) (sym c.set_mark.ensures) (fewer_unmarked old c.args.place off)
