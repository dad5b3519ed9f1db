use Rattle.std.proofs.Common.{ℕ, ap, string_bytes, subst}
use Rattle.std.specs.Prelude.{IfOk}
use Rattle.bpf_buffer_expand.specs.Filter.{FilterState, IsLineTold}
use Rattle.bpf_buffer_expand.proofs.Answered.{shown_told}
use Rattle.bpf_buffer_expand.proofs.filter.BufferFilter.answer_line.Goals as goal

pub returns-clause-told : goal.returns-clause-told
returns-clause-told c =
    let asked = c.tell_line.new.self in
    let line = c.args.line.now in
    subst (λ (n : ℕ). IfOk c.shown.result (λ r. IsLineTold asked.host asked.names n line (string_bytes r.0) r.1))
    (ap (λ (x : FilterState). x.lines) c.self.view_is)
    (shown_told asked.host asked.names c.self.inside.lines line _ c.shown.result c.in_ok-told.ensures.some
    c.in_ok-told.ensures.none c.shown.ensures.some c.shown.ensures.none)
