use Rattle.std.proofs.Common.{refl}
use Rattle.bpf_shared.specs.declared.events.Event.TheVariants.{Delete}
use Rattle.hop_cpu.proofs.Calling.{called, same_held}
use Rattle.hop_cpu.proofs.cpu.HopCpuShared.delete.Goals as goal

pub returns-clause-answered : goal.returns-clause-answered
returns-clause-answered g c = called c.args.self.now c.self.inside.table.now c.self.inside.port c.self.view_is c.args._cpu c.requires.serves
    c.delete.new.self (Delete c.args.map c.args.key.now c.delete.result) c.delete.ensures.answered c.delete.ensures.noted

pub returns-clause-held : goal.returns-clause-held
returns-clause-held g c = same_held c.args.self.now c.self.inside.table.now c.self.inside.port c.self.view_is c.args._cpu c.requires.serves
    c.delete.new.self (Delete c.args.map c.args.key.now c.delete.result) c.delete.ensures.answered refl
