use Rattle.std.proofs.Common.{map}
use Rattle.bpf_text.specs.Symbols.{names_in}
use Rattle.bpf_text.specs.Private.Look.{look}
use Rattle.bpf_text.specs.Private.Sources.{body_of}
use Rattle.bpf_text.proofs.Misfits.{unfit_is}
use Rattle.bpf_text.proofs.misfit.is_unfit.Goals as goal

pub returns : goal.returns
returns c = unfit_is (names_in c.args.symbols) (body_of c.behind_label.result) (map look c.args.tokens.now) c.is_bad_number.result
    c.is_bad_number.ensures c.behind_label.ensures
