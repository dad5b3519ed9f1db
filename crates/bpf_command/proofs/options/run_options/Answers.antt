-- The command has the arguments of its definition, in their order, and none is global.
use Rattle.clap.specs.Simple.{Shape}
use Rattle.bpf_command.specs.CommandLine.{run_shows, schedule, stats, workers}
use Rattle.bpf_command.proofs.Adding.{Made, added, last, owns, shapes, with_one}
use Rattle.bpf_command.proofs.options.run_options.Goals as goal

pub returns : goal.returns
returns c =
    let shape : Shape = run_shows.top in
    let begun : Made c.in_ok-run_shows.field-0 shape = record { shape = c.in_ok-run_shows.ensures.shape; own = c.in_ok-run_shows.ensures.own } in
    let shape1 : Shape = with_one shape schedule in
    let one : Made c.in_ok-arg.field-0 shape1 =
    added _ _ c.in_ok-arg.field-0 shape schedule begun c.schedule_option.ensures.rule c.schedule_option.ensures.own c.in_ok-arg.ensures in
    let shape2 : Shape = with_one shape1 workers in
    let two : Made c.in_ok-arg-2.field-0 shape2 =
    added _ _ c.in_ok-arg-2.field-0 shape1 workers one c.workers_option.ensures.rule c.workers_option.ensures.own c.in_ok-arg-2.ensures in
    let all : Shape = with_one shape2 stats in
    let made = last _ _ c.arg-3.result shape2 stats two c.stats_option.ensures.rule c.stats_option.ensures.own c.arg-3.ensures in
    record { shape = shapes c.arg-3.result all made; own = owns c.arg-3.result all made }
