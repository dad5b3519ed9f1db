use Rattle.std.proofs.Common.{List, subst}
use Rattle.bpf_machine.specs.Parts.{chosen}
use Rattle.bpf_equal.specs.Groups.{AreEquallyFresh, AreJobsOf, ArePeers}
use Rattle.bpf_equal.specs.Peers.{Peer}
use Rattle.bpf_equal.proofs.finding.find_peers.Goals as goal

pub returns-clause-peers : goal.returns-clause-peers
returns-clause-peers c =
    let found = c.are_found.ensures c.if-not-are_found.false in
    subst (ArePeers c.args.shape.now c.args.programs.now) c.deref-3.ensures.value found.0

pub returns-clause-jobs : goal.returns-clause-jobs
returns-clause-jobs c j one at =
    let found = c.are_found.ensures c.if-not-are_found.false in
    let jobs = chosen c.args.parts.now c.args.numbers.now in
    subst (λ (ps : List Peer). AreJobsOf ps jobs × AreEquallyFresh ps jobs) c.deref-3.ensures.value (found.1, found.2)
