use Rattle.bpf_text.specs.Symbols.{names_in}
use Rattle.bpf_text.proofs.Misfits.{goes_on_of}
use Rattle.bpf_text.proofs.misfit.goes_on_behind.Goals as goal

pub returns : goal.returns
returns c = goes_on_of (names_in c.args.symbols) c.goes_on_with.result c.args.count c.args.tokens.now c.goes_on_with.ensures
