use Rattle.std.proofs.Common.{map}
use Rattle.bpf_text.specs.Misfit.{FormGoesOn, LoadGoesOn}
use Rattle.bpf_text.specs.Private.Look.{look}
use Rattle.bpf_text.proofs.Misfits.{either}
use Rattle.bpf_text.proofs.misfit.goes_on_named.Goals as goal

pub returns : goal.returns
returns c =
    let ts = map look c.args.tokens.now in
    either (FormGoesOn ts) (LoadGoesOn ts) c.goes_on.result c.load_goes_on.result c.either.result c.either.ensures c.goes_on.ensures c.load_goes_on.ensures
