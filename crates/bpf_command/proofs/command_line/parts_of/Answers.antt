use Rattle.std.proofs.Common.{codes, arith}
use Rattle.std.specs.Str.Parse.{ParsesUnsigned, ExplainsUnsignedError, HasUnsignedDigitsIfOk}
use Rattle.clap.specs.Words.{found_of, rows_of}
use Rattle.bpf_command.specs.declared.command.TheConstants.{MAX_PARTS}
use Rattle.bpf_command.proofs.OptionRows.{counted_read, counted_some}
use Rattle.bpf_command.proofs.command_line.parts_of.Goals as goal

pub returns-clause-named : goal.returns-clause-named
returns-clause-named c =
    counted_read (codes "parts") MAX_PARTS 16 (omega arith) _ (λ bs r. ParsesUnsigned 16 10 bs r × ExplainsUnsignedError 10 bs r × HasUnsignedDigitsIfOk bs r)
    (λ t x g. g.0) (found_of c.args.options.now) c.get_one.result c.requires.parted c.get_one.ensures.none c.get_one.ensures.value

pub returns-clause-some : goal.returns-clause-some
returns-clause-some c = counted_some (codes "parts") MAX_PARTS (rows_of (found_of c.args.options.now)) c.get_one.result (returns-clause-named c)
