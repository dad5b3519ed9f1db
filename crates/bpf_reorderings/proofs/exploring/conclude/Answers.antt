use Rattle.std.proofs.Common.{◌≡◌, ◌∙◌, Bool, List, length, ap, refl, subst}
use Rattle.bpf_names.specs.Names.{names_of}
use Rattle.bpf_buffering.specs.Search.{BufferedState}
use Rattle.bpf_reorderings.specs.declared.answers.Told.{Told}
use Rattle.bpf_reorderings.specs.Private.Answers.{Gathered}
use Rattle.bpf_reorderings.specs.Private.Searching.{AreLed}
use Rattle.bpf_reorderings.proofs.Reaching.{explored}
use Rattle.bpf_reorderings.proofs.exploring.conclude.Goals as goal

pub returns : goal.returns
returns c w limit begins came =
    let names = names_of c.args.names.now in
    let kept = c.args.explorer.now.kept in
    let told : Told = c.in_ok-answers.field-0 in
    let count : c.len-states.result ≡ length kept = c.len-states.ensures ∙ ap (λ (ms : List BufferedState). length ms) c.gather.ensures.same in
    let plain = c.requires.patient in
    explored c.ahead_sets_cover_x86.ensures kept w names c.args.maps limit
    (record { answers = told.answers; all = c.is_whole.result; refused = c.is_refused.result; states = c.len-states.result })
    c.args.extent told begins came c.is_whole.ensures c.is_refused.ensures count refl
    (subst (λ (b : Bool). Gathered b kept names c.args.maps (length kept) told) plain c.in_ok-answers.ensures.gathered)
    (subst (λ (b : Bool). AreLed b kept) plain c.leads.ensures)
