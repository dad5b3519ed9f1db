use Rattle.std.proofs.Common.{ℕ, List, ◌++◌, ap, ◌∙◌}
use Rattle.std.specs.Prelude.{string_bytes}
use Rattle.bpf_debug.specs.Read.{key_line}
use Rattle.bpf_debug.proofs.ReadLaws.{one_key_more}
use Rattle.bpf_debug.proofs.maps.key_lines.Goals as goal

pub loop-pair-preserved : goal.loop-pair-preserved
loop-pair-preserved c =
    let text = string_bytes c.loop-pair.text in
    let pair = c.pair-item.result in
    one_key_more text (string_bytes c.push_key.new.text) c.args.pairs.now c.loop-pair.pair-index pair c.loop-pair-test.true c.pair-item.is c.loop-pair.invariant
    (c.in_ok-push_key.ensures pair.1.items ∙ ap (λ (key : List ℕ). text ++ key_line (key, pair.1.items)) c.deref.ensures.value)
