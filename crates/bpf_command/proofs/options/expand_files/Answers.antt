-- The command has the arguments of its definition, in their order, and none is global.
use Rattle.clap.specs.Simple.{Shape}
use Rattle.bpf_command.specs.CommandLine.{expand_options, into, parts, races, seen}
use Rattle.bpf_command.proofs.Adding.{Made, added, last, owns, shapes, with_one}
use Rattle.bpf_command.proofs.options.expand_files.Goals as goal

pub returns : goal.returns
returns c =
    let shape : Shape = expand_options.top in
    let begun : Made c.in_ok-expand_options.field-0 shape = record { shape = c.in_ok-expand_options.ensures.shape; own = c.in_ok-expand_options.ensures.own } in
    let shape1 : Shape = with_one shape races in
    let one : Made c.in_ok-arg.field-0 shape1 =
    added _ _ c.in_ok-arg.field-0 shape races begun c.state_races_option.ensures.rule c.state_races_option.ensures.own c.in_ok-arg.ensures in
    let shape2 : Shape = with_one shape1 into in
    let two : Made c.in_ok-arg-2.field-0 shape2 =
    added _ _ c.in_ok-arg-2.field-0 shape1 into one c.into_option.ensures.rule c.into_option.ensures.own c.in_ok-arg-2.ensures in
    let shape3 : Shape = with_one shape2 parts in
    let three : Made c.in_ok-arg-3.field-0 shape3 =
    added _ _ c.in_ok-arg-3.field-0 shape2 parts two c.parts_option.ensures.rule c.parts_option.ensures.own c.in_ok-arg-3.ensures in
    let all : Shape = with_one shape3 seen in
    let made = last _ _ c.arg-4.result shape3 seen three c.seen_option.ensures.rule c.seen_option.ensures.own c.arg-4.ensures in
    record { shape = shapes c.arg-4.result all made; own = owns c.arg-4.result all made }
