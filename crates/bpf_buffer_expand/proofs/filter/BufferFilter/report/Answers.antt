use Rattle.std.proofs.Common.{◌∙◌, [], inr, ap, string_bytes, subst, sym}
use Rattle.bpf_expand.specs.State.{Host}
use Rattle.bpf_expand.specs.Lines.{report_line}
use Rattle.bpf_buffer_expand.specs.State.{AreSuccessors}
use Rattle.bpf_buffer_expand.specs.Filter.{FilterState}
use Rattle.bpf_buffer_expand.proofs.Ending.{all_ended}
use Rattle.bpf_buffer_expand.proofs.filter.BufferFilter.report.Goals as goal

pub returns-then-not-branch-clause-none : goal.returns-then-not-branch-clause-none
returns-then-not-branch-clause-none c = c.in_ok-take.ensures.none c.if-not-branch.true

pub returns-clause-some : goal.returns-clause-some
returns-clause-some c =
    let h : Host = c.take.new.self.host in
    let m = c.take.new.self.machine in
    let bytes = c.args.bytes.now in
    let report = string_bytes c.in_ok-report.report in
    let host = ap (λ (x : FilterState). x.host) c.self.view_is in
    let ended = subst (λ (x : Host). AreSuccessors x bytes []) (sym (c.take.ensures.same ∙ host)) c.requires.ended in
    let is = c.in_ok-take.ensures.taken c.if-not-branch.false in
    inr (report, (m, is, all_ended h bytes m is ended, c.in_ok-report.ensures), c.in_ok-report_line.ensures ∙ ap report_line c.as_str.ensures.value)
