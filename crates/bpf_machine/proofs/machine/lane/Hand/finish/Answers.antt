use Rattle.bpf_machine.proofs.OwnEvents.{chain_leads, shown_within}
use Rattle.bpf_machine.proofs.AloneLaws.{lasts}
use Rattle.bpf_machine.proofs.machine.lane.Hand.finish.Goals as goal

pub returns-clause-lasts : goal.returns-clause-lasts
returns-clause-lasts c s sound shows =
    let made = c.make_steps.ensures.steps in
    let r = chain_leads c.args.store.now c.make_steps.new.shared c.args.self.now.cpu.number made.0 made.1 s sound shows in
    let k = lasts c.args.program.now _ c.args.self.now.cpu.number c.args.self.now.left c.args.self.now.cpu made.0 _ _ s r.0
    (shown_within c.args.store.now s shows) shows.shape made.2 r.1 in
    (r.0, k.0, k.1, r.2, r.3)
