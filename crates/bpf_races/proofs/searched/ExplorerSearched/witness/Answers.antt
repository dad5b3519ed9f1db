use Rattle.bpf_machine.specs.Schedule.{unrolled}
use Rattle.bpf_races.proofs.GatherLaws.{led_from}
use Rattle.bpf_races.proofs.searched.ExplorerSearched.witness.Goals as goal

pub returns-clause-leads : goal.returns-clause-leads
returns-clause-leads c =
    led_from c.args.self.now.kept (unrolled c.in_ok-by.by.items) c.args.place c.restore.new.self.machine c.in_ok-by.ensures c.in_ok-restore.ensures.ok
