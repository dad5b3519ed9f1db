-- The command has the arguments of its definition, in their order, and none is global.
use Rattle.clap.specs.Simple.{Shape}
use Rattle.bpf_command.specs.CommandLine.{events, judged, packets, run_lists}
use Rattle.bpf_command.proofs.Adding.{Made, added, last, owns, shapes, with_one}
use Rattle.bpf_command.proofs.options.run_shows.Goals as goal

pub returns : goal.returns
returns c =
    let shape : Shape = run_lists.top in
    let begun : Made c.in_ok-run_lists.field-0 shape = record { shape = c.in_ok-run_lists.ensures.shape; own = c.in_ok-run_lists.ensures.own } in
    let shape1 : Shape = with_one shape events in
    let one : Made c.in_ok-arg.field-0 shape1 =
    added _ _ c.in_ok-arg.field-0 shape events begun c.events_option.ensures.rule c.events_option.ensures.own c.in_ok-arg.ensures in
    let shape2 : Shape = with_one shape1 packets in
    let two : Made c.in_ok-arg-2.field-0 shape2 =
    added _ _ c.in_ok-arg-2.field-0 shape1 packets one c.packets_option.ensures.rule c.packets_option.ensures.own c.in_ok-arg-2.ensures in
    let all : Shape = with_one shape2 judged in
    let made = last _ _ c.arg-3.result shape2 judged two c.judged_option.ensures.rule c.judged_option.ensures.own c.arg-3.ensures in
    record { shape = shapes c.arg-3.result all made; own = owns c.arg-3.result all made }
