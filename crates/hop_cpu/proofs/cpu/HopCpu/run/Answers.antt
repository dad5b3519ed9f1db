use Rattle.hop_cpu.proofs.Ran.{ran, idle_again}
use Rattle.hop_cpu.proofs.cpu.HopCpu.run.Goals as goal

pub returns-clause-ran : goal.returns-clause-ran
returns-clause-ran g c =
    let r = c.run-outcome in
    ran c.args.self.now r.new.shared c.self.inside.table.now c.self.inside.port c.args.program.now c.args.budget c.args.cpu.now r.result
    c.self.view_is c.self.invariant.legal r.ensures.explained

pub returns-clause-idle : goal.returns-clause-idle
returns-clause-idle g c = idle_again c.args.self.now c.run-outcome.new.shared c.run-outcome.ensures.keeps.runs c.requires.idle
