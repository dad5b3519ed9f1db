use Rattle.bpf_text.specs.Symbols.{names_in}
use Rattle.bpf_text.proofs.Misfits.{nothing_goes_on}
use Rattle.bpf_text.proofs.misfit.left_at.Goals as goal

pub loop-n-init : goal.loop-n-init
loop-n-init c = nothing_goes_on (names_in c.args.symbols)
