use Rattle.std.proofs.Common.{◌∙◌, ◌+◌, ℕ, ap, min, subst, sym}
use Rattle.bpf_names.specs.Names.{Names}
use Rattle.bpf_expand.specs.State.{Host}
use Rattle.bpf_buffer_expand.specs.Filter.{FilterState, IsLineTold}
use Rattle.bpf_buffer_expand.proofs.Answered.{kept_told}
use Rattle.bpf_buffer_expand.proofs.filter.BufferFilterRespond.answer.Goals as goal

pub returns : goal.returns
returns c =
    let line = c.args.line.now in
    let view = c.self.view_is in
    let kept = c.keep.new.self in
    let asked = c.answer_line-answer.new.self in
    let same = c.keep.ensures.same in
    let before = c.answer_line-answer.ensures.same in
    let host = before.0 ∙ ap (λ (x : FilterState). x.host) view in
    let names = before.1 ∙ ap (λ (x : FilterState). x.names) view in
    let told = kept_told asked.host asked.names asked.lines line c.answer_line-answer.result kept.told c.keep.result
    c.answer_line-answer.ensures.told c.keep.ensures.ok c.keep.ensures.err in
    let lines = subst (λ (n : ℕ). IsLineTold asked.host asked.names n line kept.told c.keep.result) (sym same.2) told in (
      same.0 ∙ host,
      same.1 ∙ names,
      same.2 ∙ (before.2 ∙ (c.saturating_add-self-inside.ensures ∙ ap (λ (x : FilterState). min (x.lines + 1) 18446744073709551615) view)),
      subst (λ (h : Host). IsLineTold h c.args.self.now.names kept.lines line kept.told c.keep.result) host
          (subst (λ (ns : Names). IsLineTold asked.host ns kept.lines line kept.told c.keep.result) names lines),
    )
