-- The commands are those of the definition, in their order.
use Rattle.std.proofs.Common.{◌≡◌}
use Rattle.clap.specs.Words.{App, app_of, with_subcommand}
use Rattle.bpf_command.specs.CommandLine.{check, explore, one_program, run}
use Rattle.bpf_command.proofs.Adding.{Made, joined, last_joined}
use Rattle.bpf_command.proofs.options.file_commands.Goals as goal

pub returns : goal.returns
returns c =
    let of_run : Made c.in_ok-run_command.field-0 run.top =
    record { shape = c.in_ok-run_command.ensures.shape; own = c.in_ok-run_command.ensures.own } in
    let app1 : App = with_subcommand one_program run.top in
    let with_run : app_of c.in_ok-with_run.with_run ≡ app1 =
    joined _ _ c.in_ok-with_run.with_run one_program run.top c.in_ok-program_commands.ensures.app of_run c.in_ok-with_run.ensures in
    let of_explore : Made c.in_ok-explore_command.field-0 explore.top =
    record { shape = c.in_ok-explore_command.ensures.shape; own = c.in_ok-explore_command.ensures.own } in
    let app2 : App = with_subcommand app1 explore.top in
    let with_explore : app_of c.in_ok-with_explore.with_explore ≡ app2 =
    joined _ _ c.in_ok-with_explore.with_explore app1 explore.top with_run of_explore c.in_ok-with_explore.ensures in
    let of_check : Made c.in_ok-check_command.field-0 check.top =
    record { shape = c.in_ok-check_command.ensures.shape; own = c.in_ok-check_command.ensures.own } in
    record { app = last_joined _ _ c.subcommand-3.result app2 check.top with_explore of_check c.subcommand-3.ensures }
