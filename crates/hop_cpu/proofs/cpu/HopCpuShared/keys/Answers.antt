use Rattle.std.proofs.Common.{refl}
use Rattle.bpf_shared.specs.declared.events.Event.TheVariants.{Keys}
use Rattle.hop_cpu.proofs.Calling.{called, still, same_held}
use Rattle.hop_cpu.proofs.cpu.HopCpuShared.keys.Goals as goal

pub returns-clause-listed : goal.returns-clause-listed
returns-clause-listed g c = called c.args.self.now c.self.inside.table.now c.self.inside.port c.self.view_is c.args._cpu c.requires.serves
    c.keys.new.self (Keys c.args.map c.keys.new.list.keys) c.keys.ensures.listed c.keys.ensures.noted

pub returns-clause-held : goal.returns-clause-held
returns-clause-held g c = same_held c.args.self.now c.self.inside.table.now c.self.inside.port c.self.view_is c.args._cpu c.requires.serves
    c.keys.new.self (Keys c.args.map c.keys.new.list.keys) c.keys.ensures.listed refl

pub returns-clause-same : goal.returns-clause-same
returns-clause-same g c = still c.args.self.now c.self.inside.table.now c.self.inside.port c.self.view_is c.args._cpu c.requires.serves
    c.keys.new.self (Keys c.args.map c.keys.new.list.keys) c.keys.ensures.listed c.keys.ensures.in_run
