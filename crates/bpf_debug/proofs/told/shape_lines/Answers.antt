use Rattle.std.proofs.Common.{ℕ, List, ◌++◌, ap, ◌∙◌}
use Rattle.std.specs.Prelude.{string_bytes, slice_get}
use Rattle.bpf_plain.specs.PlainStore.{shapes_of}
use Rattle.bpf_debug.specs.Told.{named_line}
use Rattle.bpf_debug.proofs.ToldLaws.{one_map_more}
use Rattle.bpf_debug.proofs.told.shape_lines.Goals as goal

pub loop-map-preserved : goal.loop-map-preserved
loop-map-preserved c =
    let maps = shapes_of c.args.store.now in
    let text = string_bytes c.loop-map.text in
    let at = c.loop-map.map in
    one_map_more text (string_bytes c.push_map.new.text) c.args.names.now maps at c.index-names-map.result c.loop-map-test.true
    c.index-names-map.is c.loop-map.invariant
    (c.in_ok-push_map.ensures ∙ ap (λ (name : List ℕ). text ++ named_line name (slice_get maps at)) c.as_str.ensures.value)
