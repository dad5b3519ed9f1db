use Rattle.std.proofs.Common.{refl}
use Rattle.bpf_shared.specs.declared.events.Event.TheVariants.{Update}
use Rattle.hop_cpu.proofs.Calling.{called_growing, same_held}
use Rattle.hop_cpu.proofs.cpu.HopCpuShared.update.Goals as goal

pub returns-clause-answered : goal.returns-clause-answered
returns-clause-answered g c = called_growing c.args.self.now c.self.inside.table.now c.self.inside.port c.self.view_is c.args._cpu
    c.requires.serves c.update_growing.new.port (Update c.args.map c.args.key.now c.args.value.now c.args.flags c.update_growing.result)
    c.update_growing.ensures.answered c.update_growing.ensures.noted

pub returns-clause-held : goal.returns-clause-held
returns-clause-held g c = same_held c.args.self.now c.self.inside.table.now c.self.inside.port c.self.view_is c.args._cpu c.requires.serves
    c.update_growing.new.port (Update c.args.map c.args.key.now c.args.value.now c.args.flags c.update_growing.result)
    c.update_growing.ensures.answered refl
