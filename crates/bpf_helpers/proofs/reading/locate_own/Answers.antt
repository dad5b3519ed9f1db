use Rattle.bpf_helpers.proofs.Long.{long_not_own}
use Rattle.std.proofs.Common.{sym}
use Rattle.bpf_helpers.proofs.reading.locate_own.Goals as goal

pub returns-then-count-gt-MAX_PACKET-clause-found : goal.returns-then-count-gt-MAX_PACKET-clause-found
returns-then-count-gt-MAX_PACKET-clause-found c =
    sym (long_not_own c.args.memory.now c.args.at c.args.count c.bytes-context.ensures.bounded c.bytes-packet.ensures.bounded
    c.depth-frames.ensures.stack.sized c.if-count-gt-MAX_PACKET.true)
