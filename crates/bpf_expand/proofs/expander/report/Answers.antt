use Rattle.std.proofs.Common.{string_bytes, true}
use Rattle.bpf_names.specs.Names.{names_of}
use Rattle.bpf_explore.proofs.TellLaws.{told_of}
use Rattle.bpf_expand.proofs.expander.report.Goals as goal

pub returns : goal.returns
returns c =
    let report = c.in_ok-report.report in
    (report.stopped, told_of c.args.machine.now (names_of c.args.names.now) true (string_bytes report.text) report.stopped c.requires c.in_ok-report.ensures)
