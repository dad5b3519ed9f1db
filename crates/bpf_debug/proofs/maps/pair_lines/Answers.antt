use Rattle.std.proofs.Common.{ℕ, List, ◌++◌, ap, ◌∙◌}
use Rattle.std.specs.Prelude.{string_bytes}
use Rattle.bpf_debug.specs.Read.{pair_line}
use Rattle.bpf_debug.proofs.ReadLaws.{one_pair_more}
use Rattle.bpf_debug.proofs.maps.pair_lines.Goals as goal

pub loop-pair-preserved : goal.loop-pair-preserved
loop-pair-preserved c =
    let text = string_bytes c.loop-pair.text in
    let pair = c.pair-item.result in
    one_pair_more text (string_bytes c.push_pair.new.text) c.args.pairs.now c.loop-pair.pair-index pair c.loop-pair-test.true c.pair-item.is
    c.loop-pair.invariant
    (c.in_ok-push_pair.ensures
    ∙ ap (λ (key : List ℕ). text ++ pair_line (key, c.deref-in-loop-pair.result.now)) c.deref.ensures.value
    ∙ ap (λ (value : List ℕ). text ++ pair_line (pair.0.items, value)) c.deref-in-loop-pair.ensures.value)
