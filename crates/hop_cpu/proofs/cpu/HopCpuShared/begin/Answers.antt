use Rattle.hop_cpu.proofs.Calling.{begun, begun_held, refused}
use Rattle.hop_cpu.proofs.cpu.HopCpuShared.begin.Goals as goal

pub returns-clause-begun : goal.returns-clause-begun
returns-clause-begun g c = begun c.args.self.now c.self.inside.table.now c.self.inside.port c.self.view_is c.args._cpu c.requires.serves
    c.begin.new.self c.begin.result c.begin.ensures.begun c.begin.ensures.noted

pub returns-clause-held : goal.returns-clause-held
returns-clause-held g c = begun_held c.args.self.now c.self.inside.table.now c.self.inside.port c.self.view_is c.args._cpu c.requires.serves
    c.begin.new.self c.begin.result c.begin.ensures.begun

pub returns-clause-unchanged : goal.returns-clause-unchanged
returns-clause-unchanged g c = refused c.args.self.now c.self.inside.table.now c.self.inside.port c.self.view_is c.args._cpu
    c.requires.serves c.begin.new.self c.begin.result c.begin.ensures.unchanged
