-- The command has the arguments of its definition, in their order, and none is global.
use Rattle.clap.specs.Simple.{Shape}
use Rattle.bpf_command.specs.CommandLine.{run_options, file, json, x86}
use Rattle.bpf_command.proofs.Adding.{Made, added, last, owns, shapes, with_one}
use Rattle.bpf_command.proofs.options.run_command.Goals as goal

pub returns : goal.returns
returns c =
    let shape : Shape = run_options.top in
    let begun : Made c.in_ok-run_options.field-0 shape = record { shape = c.in_ok-run_options.ensures.shape; own = c.in_ok-run_options.ensures.own } in
    let shape1 : Shape = with_one shape x86 in
    let one : Made c.in_ok-arg.field-0 shape1 =
    added _ _ c.in_ok-arg.field-0 shape x86 begun c.x86_option.ensures.rule c.x86_option.ensures.own c.in_ok-arg.ensures in
    let shape2 : Shape = with_one shape1 json in
    let two : Made c.in_ok-arg-2.field-0 shape2 =
    added _ _ c.in_ok-arg-2.field-0 shape1 json one c.json_option.ensures.rule c.json_option.ensures.own c.in_ok-arg-2.ensures in
    let all : Shape = with_one shape2 file in
    let made = last _ _ c.arg-3.result shape2 file two c.file_argument.ensures.rule c.file_argument.ensures.own c.arg-3.ensures in
    record { shape = shapes c.arg-3.result all made; own = owns c.arg-3.result all made }
