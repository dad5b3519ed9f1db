use Rattle.std.proofs.Common.{codes, arith}
use Rattle.std.specs.Str.Parse.{ParsesUnsigned, ExplainsUnsignedError, HasUnsignedDigitsIfOk}
use Rattle.clap.specs.Words.{found_of, rows_of}
use Rattle.bpf_command.specs.declared.command.TheConstants.{MAX_LIMIT}
use Rattle.bpf_command.proofs.OptionRows.{counted_read, counted_some}
use Rattle.bpf_command.proofs.command_line.shown_of.Goals as goal

pub returns-clause-named : goal.returns-clause-named
returns-clause-named c =
    counted_read (codes "show") MAX_LIMIT 64 (omega arith) _ (λ bs r. ParsesUnsigned 64 10 bs r × ExplainsUnsignedError 10 bs r × HasUnsignedDigitsIfOk bs r)
    (λ t x g. g.0) (found_of c.args.options.now) c.get_one.result c.requires.shown c.get_one.ensures.none c.get_one.ensures.value

pub returns-clause-counted : goal.returns-clause-counted
returns-clause-counted c = counted_some (codes "show") MAX_LIMIT (rows_of (found_of c.args.options.now)) c.get_one.result (returns-clause-named c)
