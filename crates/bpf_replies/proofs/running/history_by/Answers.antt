use Rattle.std.proofs.Common.{rules, Ok}
use Rattle.bpf_file.specs.File.{file_of}
use Rattle.bpf_file.specs.Reading.{IsRunFile}
use Rattle.bpf_replies.proofs.FreshFiles.{history}
use Rattle.bpf_replies.proofs.running.history_by.Goals as goal

pub returns-clause-told : goal.returns-clause-told
returns-clause-told c =
    let file = c.in_ok-file.file in
    let report = c.in_ok-report.report in
    let said : IsRunFile c.args.text.now (Ok (file_of file)) = search rules in
    history c.args.by.now c.args.keys c.args.maps c.args.text.now file report said c.in_ok-report.ensures
