use Rattle.std.proofs.Common.{ap, ◌∙◌}
use Rattle.std.specs.Prelude.{List, ℕ, ◌++◌, string_bytes}
use Rattle.bpf_workers.specs.Stats.{stats_line}
use Rattle.bpf_workers.proofs.MapLines.{one_row_more, no_row_more}
use Rattle.bpf_workers.proofs.stats.list_stats.Goals as goal

pub loop-map-preserved : goal.loop-map-preserved
loop-map-preserved c =
    let text = string_bytes c.loop-map.text in
    one_row_more c.args.closed.now c.args.names.now c.loop-map.map c.index-names-map.result c.in-Some.stats text (string_bytes c.push_stats.new.text)
    c.loop-map-test.true c.index-names-map.is c.loop-map.invariant c.in-Some.ensures.counted
    (c.in_ok-push_stats.ensures ∙ ap (λ (name : List ℕ). text ++ stats_line name c.in-Some.stats) c.as_str.ensures.value)

pub loop-map-preserved-in_default : goal.loop-map-preserved-in_default
loop-map-preserved-in_default c =
    no_row_more c.args.closed.now c.args.names.now c.loop-map.map (string_bytes c.loop-map.text) c.in_default.ensures.none c.loop-map.invariant
