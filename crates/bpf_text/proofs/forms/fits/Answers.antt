use Rattle.bpf_text.proofs.Fitting.{nothing_left}
use Rattle.bpf_text.proofs.forms.fits.Goals as goal

pub returns-in_default : goal.returns-in_default
returns-in_default c = nothing_left c.args.width c.args.register _ c.args.tokens.now c.loop-token.token-index _ c.loop-token-test.true
    c.in_default.ensures c.loop-token.invariant
