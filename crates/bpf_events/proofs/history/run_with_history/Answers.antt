use Rattle.std.proofs.Common.{map}
use Rattle.std.specs.Prelude.{string_bytes}
use Rattle.std.proofs.lemmas.Result.{IfOk-weaker}
use Rattle.bpf_names.specs.Names.{names_of}
use Rattle.bpf_machine.specs.Machine.{Shows}
use Rattle.bpf_machine.specs.Schedule.{World}
use Rattle.bpf_jobs.specs.declared.rounds.Report.{Report}
use Rattle.bpf_jobs.specs.Printed.{asked_of}
use Rattle.bpf_events.specs.Reports.{IsHistory}
use Rattle.bpf_events.proofs.history.run_with_history.Goals as goal

pub history_of-requires-clause-shows : goal.history_of-requires-clause-shows
history_of-requires-clause-shows c = (asked_of c.args.keys c.args.setup, c.in_ok-machine.ensures.shows)

pub returns : goal.returns
returns c =
    let w = asked_of c.args.keys c.args.setup in
    let names = names_of c.args.names.now in
    let runs = c.args.schedule.now in
    let maps = c.args.maps in
    let m = c.in_ok-machine.machine in
    IfOk-weaker c.history_of.result (λ (r : Report). (v : World) → Shows m v → IsHistory v runs names maps (string_bytes r.text) r.stopped)
    (λ (r : Report). IsHistory w runs names maps (string_bytes r.text) r.stopped)
    (λ r told. told w c.in_ok-machine.ensures.shows) c.history_of.ensures
