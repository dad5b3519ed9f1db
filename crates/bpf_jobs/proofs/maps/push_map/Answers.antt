use Rattle.std.proofs.Common.{ℕ, List, ◌++◌, ap, ◌∙◌}
use Rattle.std.specs.Prelude.{string_bytes}
use Rattle.bpf_jobs.specs.Printed.{key_line}
use Rattle.bpf_jobs.proofs.LineLaws.{one_key_more}
use Rattle.bpf_jobs.proofs.maps.push_map.Goals as goal

pub loop-pair-preserved : goal.loop-pair-preserved
loop-pair-preserved c =
    let name = c.args.name.now in
    let text = string_bytes c.loop-pair.text in
    let pair = c.pair-item.result in
    one_key_more name (string_bytes c.args.text.now) text (string_bytes c.push_key.new.text) c.args.pairs.now c.loop-pair.pair-index pair
    c.loop-pair-test.true c.pair-item.is c.loop-pair.invariant
    (c.in_ok-push_key.ensures
    ∙ ap (λ (key : List ℕ). text ++ key_line name key c.deref-in-loop-pair.result.now) c.deref.ensures.value
    ∙ ap (λ (value : List ℕ). text ++ key_line name pair.0.items value) c.deref-in-loop-pair.ensures.value)
