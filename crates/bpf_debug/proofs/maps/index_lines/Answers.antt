use Rattle.std.specs.Prelude.{string_bytes}
use Rattle.bpf_debug.proofs.TableLaws.{one_index_more}
use Rattle.bpf_debug.proofs.maps.index_lines.Goals as goal

pub loop-index-preserved : goal.loop-index-preserved
loop-index-preserved c =
    one_index_more (string_bytes c.loop-index.text) (string_bytes c.push_index.new.text) c.loop-index.index c.loop-index.invariant c.in_ok-push_index.ensures
