use Rattle.std.proofs.Common.{sym, ◌∙◌, rules}
use Rattle.bpf_debug.proofs.ReadLaws.{one_byte_more}
use Rattle.bpf_debug.proofs.reading.bytes.Goals as goal

pub loop-offset-preserved : goal.loop-offset-preserved
loop-offset-preserved c = record {
  count = search rules;
  each = one_byte_more c.args.store.now c.args.state.now c.args.address c.args.count c.loop-offset.found.items c.push.new.self.items
      c.in-Some.byte c.loop-offset.offset
      (sym c.loop-offset.found.ok.0 ∙ c.loop-offset.invariant.count) c.loop-offset.invariant.each c.in-Some.ensures.read c.in_ok-push.ensures.items;
  within = c.loop-offset.invariant.within;
}
