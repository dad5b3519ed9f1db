use Rattle.std.proofs.Common.{arith, length-drop, length-take}
use Rattle.bpf_replies.proofs.KnownBytes.{written_more}
use Rattle.bpf_replies.proofs.output.write_whole.Goals as goal

pub loop-count-preserved : goal.loop-count-preserved
loop-count-preserved g c =
    let count = c.loop-count.count in
    let bytes = c.args.bytes.now in (
      grind (arith, c.in_ok-count.ensures.bound, length-drop count bytes, length-take),
      written_more (g.W.Sink.contents c.args.sink.now) (g.W.Sink.contents c.loop-count.sink) (g.W.Sink.contents c.write.new.self) bytes
          count c.in_ok-count.field-0 c.loop-count.invariant.1 c.in_ok-count.ensures.bytes,
      c.in_ok-count.ensures.told,
    )
