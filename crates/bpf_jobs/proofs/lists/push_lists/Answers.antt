use Rattle.std.proofs.Common.{map}
use Rattle.std.specs.Prelude.{string_bytes}
use Rattle.bpf_jobs.proofs.ListLines.{one_list_more}
use Rattle.bpf_jobs.proofs.lists.push_lists.Goals as goal

pub loop-map-preserved : goal.loop-map-preserved
loop-map-preserved c =
    one_list_more c.args.cpu (map string_bytes c.args.names.now) c.args.lists.now c.loop-map.map c.index-lists-map.result
    c.name_at.result.now (string_bytes c.args.text.now) (string_bytes c.loop-map.text) (string_bytes c.push_list.new.text)
    c.loop-map-test.true c.index-lists-map.is c.name_at.ensures c.loop-map.invariant c.in_ok-push_list.ensures
