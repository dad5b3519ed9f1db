use Rattle.std.proofs.Common.{◌∙◌, List, Bool, length, subst}
use Rattle.bpf_buffering.specs.Search.{BufferedState}
use Rattle.bpf_reorderings.specs.Private.Answers.{CanRunOut}
use Rattle.bpf_reorderings.specs.Private.Hung.{AllHang, AllBeyondBelow, AllLeadOrBeyond}
use Rattle.bpf_reorderings.proofs.Hanging.{all_lead_or_beyond}
use Rattle.bpf_reorderings.proofs.hung.gather_hung.Goals as goal

pub returns-clause-hung : goal.returns-clause-hung
returns-clause-hung c =
    subst (λ (kept : List BufferedState). AllHang kept c.in_ok-hung.hung.items) (c.in_ok-edges.ensures.same ∙ c.all_go_on.ensures.same)
    c.in_ok-hung.ensures.hung

pub returns-clause-out : goal.returns-clause-out
returns-clause-out c is = subst CanRunOut (c.in_ok-edges.ensures.same ∙ c.all_go_on.ensures.same) (c.in_ok-hung.ensures.out is)

pub returns-clause-ends : goal.returns-clause-ends
returns-clause-ends c fit =
    let marks = c.in_ok-marks.marks.items in
    let hung = c.in_ok-hung.hung.items in
    let kept = c.find_edges.new.explorer.kept in
    let listed = subst (λ (ms : List Bool). AllBeyondBelow kept ms hung (length ms)) c.deref-2.ensures.value (c.in_ok-hung.ensures.listed fit) in
    subst (λ (k : List BufferedState). AllLeadOrBeyond k hung) (c.in_ok-edges.ensures.same ∙ c.all_go_on.ensures.same)
    (all_lead_or_beyond kept marks hung c.in_ok-marks.ensures listed)
