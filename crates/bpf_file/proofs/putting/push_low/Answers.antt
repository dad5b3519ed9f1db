use Rattle.std.proofs.Common.{◌∙◌, ◌+◌, ap, arith, List, ℕ, ◌++◌, ◌-◌, ◌/◌}
use Rattle.bpf_base.specs.Bytes.{low_bytes}
use Rattle.bpf_file.proofs.Held.{byte_more, none_left}
use Rattle.bpf_file.proofs.putting.push_low.Goals as goal

pub loop-preserved : goal.loop-preserved
loop-preserved c = record {
  count = omega (arith, c.loop-test.true);
  bytes = ap (λ (items : List ℕ). items ++ low_bytes (c.args.size - (c.loop.counter + 1)) (c.loop.left / 256)) c.in_ok-push.ensures.items
      ∙ byte_more c.loop.bytes.items c.args.size c.loop.counter c.loop.left _ c.loop-test.true c.loop.invariant.bytes;
}

pub returns : goal.returns
returns c = none_left c.loop.bytes.items c.args.size c.loop.counter c.loop.left _ c.loop-test.false c.loop.invariant.bytes
