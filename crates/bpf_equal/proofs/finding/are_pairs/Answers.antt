use Rattle.std.proofs.Common.{arith}
use Rattle.bpf_machine.specs.Parts.{chosen}
use Rattle.bpf_equal.proofs.FoundLaws.{next_pair}
use Rattle.bpf_equal.proofs.finding.are_pairs.Goals as goal

pub loop-other-preserved : goal.loop-other-preserved
loop-other-preserved c =
    next_pair (chosen c.args.parts.now c.args.numbers.now) c.args.peers.now c.args.place c.loop-other.other c.loop-other.invariant
    (c.is_pair_at.ensures c.if-not-is_pair_at.false)

pub returns : goal.returns
returns c is k inside differ = c.loop-other.invariant k (omega (arith, inside, c.loop-other-test.false)) differ
