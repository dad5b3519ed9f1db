use Rattle.std.proofs.Common.{◌≡◌, sym, refl, ◌∙◌}
use Rattle.bpf_machine.specs.declared.machine.Turn.TheVariants as answers
use Rattle.bpf_cpu.specs.declared.outcome.Outcome.TheVariants as outcome
use Rattle.bpf_faults.proofs.Watching.{adds_one, has_one}
use Rattle.bpf_faults.specs.Private.{IsEvidenceOfTurn}
use Rattle.bpf_faults.proofs.watch.add_evidence.Goals as goal

pub returns-clause-adds : goal.returns-clause-adds
returns-clause-adds c =
    adds_one (IsEvidenceOfTurn c.args.cpu c.args.job c.args.turn c.args.seen.now) c.args.evidence.now.items c.push.new.self.items _ c.in_ok-push.ensures.items
    (c.in-Some.ensures.some.0, refl, c.in-Some.ensures.some.1, c.in_ok-seen.ensures)

pub returns-clause-has : goal.returns-clause-has
returns-clause-has c j fault pc of is =
    let both : answers.Ended c.in-Some.job (outcome.Fault c.in-Some.fault c.in-Some.pc) ≡ answers.Ended j (outcome.Fault fault pc) = sym
    c.in-Some.ensures.some.1 ∙ is in
    let job : c.in-Some.job ≡ j = cc in
    let same : c.in-Some.fault ≡ fault = cc in
    let at : c.in-Some.pc ≡ pc = cc in
    has_one c.args.evidence.now.items c.push.new.self.items _ j fault pc c.in_ok-push.ensures.items job same at
