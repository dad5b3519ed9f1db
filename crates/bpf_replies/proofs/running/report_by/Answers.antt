use Rattle.std.proofs.Common.{rules, Ok}
use Rattle.bpf_file.specs.File.{file_of}
use Rattle.bpf_file.specs.Reading.{IsRunFile}
use Rattle.bpf_replies.proofs.FreshFiles.{told}
use Rattle.bpf_replies.proofs.running.report_by.Goals as goal

pub returns-clause-told : goal.returns-clause-told
returns-clause-told c =
    let file = c.in_ok-file.file in
    let report = c.in_ok-report.report in
    let said : IsRunFile c.args.text.now (Ok (file_of file)) = search rules in
    told c.args.by.now c.args.keys c.args.maps c.args.text.now file report said c.in_ok-report.ensures
