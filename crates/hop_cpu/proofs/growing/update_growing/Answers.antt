use Rattle.bpf_shared.specs.declared.events.Event.TheVariants.{Update}
use Rattle.hop_cpu.proofs.Grown.{does_on, runs_on, notes_on, tried_on, shortage_on}
use Rattle.hop_cpu.proofs.growing.update_growing.Goals as goal

pub returns-clause-answered : goal.returns-clause-answered
returns-clause-answered g c = does_on c.args.table.now.about c.args.map c.args.port.now c.update-answer.new.self c.grow.new.port
    c.grow.ensures.grows (Update c.args.map c.args.request.now.key.now c.args.request.now.value.now c.args.request.now.flags
    c.update-answer.result) c.update-answer.ensures.answered

pub returns-clause-in_run : goal.returns-clause-in_run
returns-clause-in_run g c = runs_on c.args.table.now.about c.args.map c.args.port.now c.update-answer.new.self c.grow.new.port
    c.grow.ensures.grows c.update-answer.ensures.in_run

pub returns-clause-noted : goal.returns-clause-noted
returns-clause-noted g c = notes_on c.args.table.now.about c.args.map c.args.port.now c.update-answer.new.self c.grow.new.port
    c.grow.ensures.grows c.args.request.now.key.now c.args.request.now.value.now c.args.request.now.flags c.update-answer.result c.update-answer.ensures.spilled
    c.update-answer.ensures.noted

pub returns-clause-tried : goal.returns-clause-tried
returns-clause-tried g c = tried_on c.args.table.now.about c.args.map c.args.port.now c.update-answer.new.self c.grow.new.port c.grow.ensures.grows

pub returns-clause-shortage : goal.returns-clause-shortage
returns-clause-shortage g c = shortage_on c.args.table.now.about c.args.map c.args.port.now c.update-answer.new.self c.grow.new.port
    c.grow.ensures.grows c.update-answer.result c.update-answer.ensures.spilled c.update-answer.ensures.shortage
