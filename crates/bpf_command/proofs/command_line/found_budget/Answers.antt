use Rattle.std.proofs.Common.{codes, arith}
use Rattle.std.specs.Str.Parse.{ParsesUnsigned, ExplainsUnsignedError, HasUnsignedDigitsIfOk}
use Rattle.clap.specs.Words.{found_of, rows_of}
use Rattle.bpf_base.specs.declared.budget.TheConstants.{MAX_BUDGET}
use Rattle.bpf_command.proofs.OptionRows.{limited, limited_read}
use Rattle.bpf_command.proofs.command_line.found_budget.Goals as goal

pub returns-clause-named : goal.returns-clause-named
returns-clause-named c =
    limited_read (codes "budget") MAX_BUDGET (omega arith) _ (λ bs r. ParsesUnsigned 64 10 bs r × ExplainsUnsignedError 10 bs r × HasUnsignedDigitsIfOk bs r)
    (λ t x g. g.0) (found_of c.args.options.now) c.get_one.result c.requires.checked c.get_one.ensures.value

pub returns-clause-limited : goal.returns-clause-limited
returns-clause-limited c = limited (codes "budget") MAX_BUDGET (rows_of (found_of c.args.options.now)) c.get_one.result (returns-clause-named c)
