use Rattle.bpf_shared.specs.declared.events.Event.TheVariants.{End}
use Rattle.hop_cpu.proofs.Calling.{called, ended_held}
use Rattle.hop_cpu.proofs.cpu.HopCpuShared.end.Goals as goal

pub returns-clause-ended : goal.returns-clause-ended
returns-clause-ended g c = called c.args.self.now c.self.inside.table.now c.self.inside.port c.self.view_is c.args._cpu c.requires.serves
    c.end.new.self End c.end.ensures.ended c.end.ensures.noted

pub returns-clause-held : goal.returns-clause-held
returns-clause-held g c = ended_held c.args.self.now c.self.inside.table.now c.self.inside.port c.self.view_is c.args._cpu c.requires.serves
    c.end.new.self c.end.ensures.ended
