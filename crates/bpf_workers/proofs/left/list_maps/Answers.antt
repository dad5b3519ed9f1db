use Rattle.std.specs.Prelude.{map, string_bytes}
use Rattle.bpf_jobs.proofs.MapLines.{one_map_more}
use Rattle.bpf_workers.proofs.left.list_maps.Goals as goal

pub loop-map-preserved : goal.loop-map-preserved
loop-map-preserved c = λ last known same.
    one_map_more last (map string_bytes c.args.names.now) c.loop-map.map c.in_ok-pairs.pairs.items c.deref.result.now c.name_at.result.now
    (string_bytes c.loop-map.text) (string_bytes c.push_map.new.text)
    c.deref.ensures.value c.name_at.ensures (c.loop-map.invariant last known same) (c.in_ok-pairs.ensures.listed last known) c.in_ok-push_map.ensures
