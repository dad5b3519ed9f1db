use Rattle.std.proofs.Common.{subst, sym}
use Rattle.bpf_equal.specs.Patient.{AreAllExchanged}
use Rattle.bpf_explore.proofs.HungLaws.{none_exchanged}
use Rattle.bpf_explore.proofs.exploring.find_hung.Goals as goal

pub returns-else-whole-clause-exchanged : goal.returns-else-whole-clause-exchanged
returns-else-whole-clause-exchanged c =
    subst (AreAllExchanged c.args.turns.now.peers.items) (sym c.new.ensures.items) (none_exchanged c.args.turns.now.peers.items)
