use Rattle.std.proofs.Common.{refl}
use Rattle.bpf_shared.specs.declared.events.Event.TheVariants.{Load}
use Rattle.hop_cpu.proofs.Calling.{called, same_held}
use Rattle.hop_cpu.proofs.cpu.HopCpuShared.value_load.Goals as goal

pub returns-clause-loaded : goal.returns-clause-loaded
returns-clause-loaded g c = called c.args.self.now c.self.inside.table.now c.self.inside.port c.self.view_is c.args._cpu c.requires.serves
    c.value_load.new.self (Load c.args.at.at c.args.size c.value_load.result) c.value_load.ensures.loaded c.value_load.ensures.noted

pub returns-clause-held : goal.returns-clause-held
returns-clause-held g c = same_held c.args.self.now c.self.inside.table.now c.self.inside.port c.self.view_is c.args._cpu c.requires.serves
    c.value_load.new.self (Load c.args.at.at c.args.size c.value_load.result) c.value_load.ensures.loaded refl
