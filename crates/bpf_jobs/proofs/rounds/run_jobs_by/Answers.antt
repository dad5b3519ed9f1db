use Rattle.std.specs.Prelude.{map, string_bytes}
use Rattle.bpf_names.specs.Names.{names_of}
use Rattle.bpf_cpu.specs.Task.{waiting}
use Rattle.bpf_jobs.specs.Printed.{asked_world}
use Rattle.bpf_jobs.proofs.OneReport.{told}
use Rattle.bpf_pairs.specs.Pairs.{pair_of}
use Rattle.bpf_jobs.proofs.rounds.run_jobs_by.Goals as goal

pub rounds-requires : goal.rounds-requires
rounds-requires c =
    let turned = c.turns_by.ensures.runs (asked_world c.args.keys c.args.setup.shape (map pair_of c.args.setup.pairs.items)
    c.args.setup.programs.items (map waiting c.args.setup.jobs.items)) c.in_ok-machine.ensures in
    (turned.0, turned.2)

pub returns : goal.returns
returns c =
    let w = asked_world c.args.keys c.args.setup.shape (map pair_of c.args.setup.pairs.items) c.args.setup.programs.items
    (map waiting c.args.setup.jobs.items) in
    let report = c.in_ok-report.report in
    let turned = c.turns_by.ensures.runs w c.in_ok-machine.ensures in
    told w turned.0 c.args.schedule.now turned.1 c.rounds.new.self (names_of c.args.names.now) c.args.maps (string_bytes report.text) report.stopped
    (c.rounds.ensures.runs turned.0 turned.2) c.in_ok-report.ensures
