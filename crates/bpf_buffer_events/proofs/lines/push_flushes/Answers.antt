use Rattle.std.proofs.Common.{map}
use Rattle.std.specs.Prelude.{string_bytes}
use Rattle.bpf_buffer_events.proofs.Items.{flush_more}
use Rattle.bpf_buffer_events.proofs.lines.push_flushes.Goals as goal

pub loop-stored-preserved : goal.loop-stored-preserved
loop-stored-preserved c =
    let names = map string_bytes c.args.names.now in
    let text = string_bytes c.loop-stored.text in
    flush_more names c.args.cpu (string_bytes c.args.text.now) text (string_bytes c.push_flush.new.text) c.args.stores.now
    c.loop-stored.stored-index _ c.loop-stored-test.true c.loop-stored.invariant
    c.in_ok-push_flush.ensures
