use Rattle.std.proofs.Common.{Bool, sym, subst}
use Rattle.bpf_faults.proofs.Watching.{watches}
use Rattle.bpf_faults.specs.Private.{Watches}
use Rattle.bpf_faults.proofs.watch.watch_turn.Goals as goal

pub returns : goal.returns
returns c =
    let all =
    watches c.args.machine.now c.turn-turn.new.self c.args.cpu c.see_next.new.seen c.in_ok-job.job c.turn-turn.result
    c.args.findings.now.evidence.items c.add_evidence.new.evidence.items
    c.requires.one c.in_ok-job.ensures c.turn-turn.ensures.turn c.turn-turn.ensures.idle c.in_ok-add_evidence.ensures.adds c.in_ok-add_evidence.ensures.has in
    let P : Bool → Type 0 = λ busy. Watches c.args.machine.now c.args.cpu c.args.findings.now.evidence.items busy c.turn-turn.new.self
    c.add_evidence.new.evidence.items in
    subst P (sym c.works.ensures) all
