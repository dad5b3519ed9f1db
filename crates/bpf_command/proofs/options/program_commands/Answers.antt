-- The commands are those of the definition, in their order.
use Rattle.std.proofs.Common.{◌≡◌}
use Rattle.clap.specs.Words.{App, app_of, with_subcommand}
use Rattle.bpf_command.specs.CommandLine.{asm, bare, disasm, hex}
use Rattle.bpf_command.proofs.Adding.{Made, joined, last_joined}
use Rattle.bpf_command.proofs.options.program_commands.Goals as goal

pub returns : goal.returns
returns c =
    let of_hex : Made c.in_ok-hex_command.field-0 hex.top =
    record { shape = c.in_ok-hex_command.ensures.shape; own = c.in_ok-hex_command.ensures.own } in
    let app1 : App = with_subcommand bare hex.top in
    let with_hex : app_of c.in_ok-with_hex.with_hex ≡ app1 =
    joined _ _ c.in_ok-with_hex.with_hex bare hex.top c.bare_command.ensures.app of_hex c.in_ok-with_hex.ensures in
    let of_asm : Made c.in_ok-asm_command.field-0 asm.top =
    record { shape = c.in_ok-asm_command.ensures.shape; own = c.in_ok-asm_command.ensures.own } in
    let app2 : App = with_subcommand app1 asm.top in
    let with_asm : app_of c.in_ok-with_asm.with_asm ≡ app2 =
    joined _ _ c.in_ok-with_asm.with_asm app1 asm.top with_hex of_asm c.in_ok-with_asm.ensures in
    let of_disasm : Made c.in_ok-disasm_command.field-0 disasm.top =
    record { shape = c.in_ok-disasm_command.ensures.shape; own = c.in_ok-disasm_command.ensures.own } in
    record { app = last_joined _ _ c.subcommand-3.result app2 disasm.top with_asm of_disasm c.subcommand-3.ensures }
