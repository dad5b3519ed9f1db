use Rattle.std.proofs.Common.{◌≡◌, ◌∙◌, List, map, ap}
use Rattle.std.specs.Prelude.{string_bytes}
use Rattle.std.proofs.lemmas.Result.{IfOk-weaker}
use Rattle.bpf_names.specs.Names.{names_of}
use Rattle.bpf_shared.specs.Contents.{bytes_of_all}
use Rattle.bpf_cpu.specs.declared.job.Job.{Job}
use Rattle.bpf_cpu.specs.Task.{waiting}
use Rattle.bpf_machine.specs.Machine.{Shows}
use Rattle.bpf_machine.specs.Schedule.{World}
use Rattle.bpf_jobs.specs.declared.rounds.Report.{Report}
use Rattle.bpf_jobs.specs.Printed.{asked_of}
use Rattle.bpf_packets.specs.Packets.{given_packets}
use Rattle.bpf_packets.specs.Reports.{IsReportWithPackets}
use Rattle.bpf_packets.proofs.running.run_with_packets.Goals as goal

pub report_of-requires : goal.report_of-requires
report_of-requires c = (asked_of c.args.keys c.args.setup, c.in_ok-machine.ensures)

pub returns : goal.returns
returns c =
    let w = asked_of c.args.keys c.args.setup in
    let names = names_of c.args.names.now in
    let runs = c.args.schedule.now in
    let maps = c.args.maps in
    let first : bytes_of_all c.deref_mut.result.now ≡ given_packets w.jobs =
    ap bytes_of_all c.deref_mut.ensures.value ∙ (c.in_ok-packets.ensures ∙ ap (λ (jobs : List Job). given_packets (map waiting jobs)) c.deref.ensures.value)
    in
    IfOk-weaker c.report_of.result
    (λ (r : Report). (v : World) → Shows c.in_ok-machine.machine v → bytes_of_all c.deref_mut.result.now ≡ given_packets v.jobs →
    IsReportWithPackets v runs names maps (string_bytes r.text) r.stopped)
    (λ (r : Report). IsReportWithPackets w runs names maps (string_bytes r.text) r.stopped)
    (λ r told. told w c.in_ok-machine.ensures first) c.report_of.ensures
