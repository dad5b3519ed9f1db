use Rattle.std.proofs.Common.{subst}
use Rattle.bpf_machine.specs.Parts.{CanStand}
use Rattle.bpf_machine.specs.Private.KeyLists.{listings}
use Rattle.bpf_machine.proofs.StandLaws.{stands}
use Rattle.bpf_machine.proofs.machine.Machine.stands.Goals as goal

pub returns : goal.returns
returns c =
    let m = c.self.inside in
    subst CanStand c.self.view_is (stands m.store m.programs.items m.jobs.items m.lanes.items (listings m.keys m.lists.items) c.self.invariant.0)
