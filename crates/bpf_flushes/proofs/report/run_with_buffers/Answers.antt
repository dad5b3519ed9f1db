use Rattle.std.specs.Prelude.{string_bytes}
use Rattle.bpf_names.specs.Names.{names_of}
use Rattle.bpf_x86.specs.Machine.{drained}
use Rattle.bpf_jobs.specs.Printed.{first_of}
use Rattle.bpf_flushes.proofs.OneCourse.{told}
use Rattle.bpf_flushes.proofs.report.run_with_buffers.Goals as goal

pub run_rounds-requires : goal.run_rounds-requires
run_rounds-requires c = let t = c.in_ok-moves_by.ensures (drained (first_of c.args.setup)) c.in_ok-machine.ensures in (t.0, t.2)

pub returns : goal.returns
returns c =
    let w = first_of c.args.setup in
    let report = c.in_ok-report.report in
    let t = c.in_ok-moves_by.ensures (drained w) c.in_ok-machine.ensures in
    let r = c.in_ok-run_rounds.ensures t.0 t.2 in
    told w c.args.moves.now r.0 (names_of c.args.names.now) c.args.maps (string_bytes report.text) report.stopped t.0 t.1 r.1 (c.in_ok-report.ensures r.0 r.2)
