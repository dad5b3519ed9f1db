use Rattle.std.specs.Prelude.{string_bytes}
use Rattle.clap.specs.Words.{found_of}
use Rattle.bpf_command.proofs.OptionRows.{dash_in_rows, name_in_rows}
use Rattle.bpf_command.proofs.command_line.asked_file.Goals as goal

pub returns-then-eq-clause-named : goal.returns-then-eq-clause-named
returns-then-eq-clause-named c = dash_in_rows (found_of c.args.options.now) c.in-Some.name.now c.in-Some.ensures c.if-eq.ensures

pub returns-in-Ok-clause-named : goal.returns-in-Ok-clause-named
returns-in-Ok-clause-named c =
    name_in_rows (found_of c.args.options.now) c.in-Some.name.now (string_bytes c.in-Ok.name) c.in-Some.ensures c.if-eq.ensures c.in-Ok.ensures.ok
