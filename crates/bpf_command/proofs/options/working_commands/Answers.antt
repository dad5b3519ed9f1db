-- The commands are those of the definition, in their order.
use Rattle.std.proofs.Common.{◌≡◌}
use Rattle.clap.specs.Words.{App, app_of, with_subcommand}
use Rattle.bpf_command.specs.CommandLine.{debug, expand, for_files}
use Rattle.bpf_command.proofs.Adding.{Made, joined, last_joined}
use Rattle.bpf_command.proofs.options.working_commands.Goals as goal

pub returns : goal.returns
returns c =
    let of_expand : Made c.in_ok-expand_command.field-0 expand.top =
    record { shape = c.in_ok-expand_command.ensures.shape; own = c.in_ok-expand_command.ensures.own } in
    let app1 : App = with_subcommand for_files expand.top in
    let with_expand : app_of c.in_ok-with_expand.with_expand ≡ app1 =
    joined _ _ c.in_ok-with_expand.with_expand for_files expand.top c.in_ok-file_commands.ensures.app of_expand c.in_ok-with_expand.ensures in
    let of_debug : Made c.in_ok-debug_command.field-0 debug.top =
    record { shape = c.in_ok-debug_command.ensures.shape; own = c.in_ok-debug_command.ensures.own } in
    record { app = last_joined _ _ c.subcommand-2.result app1 debug.top with_expand of_debug c.subcommand-2.ensures }
