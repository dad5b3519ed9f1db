use Rattle.std.proofs.Common.{map, arith, subst, Err}
use Rattle.std.proofs.lemmas.List.{length-map}
use Rattle.bpf_text.specs.declared.reading.LineError.{LineError}
use Rattle.bpf_text.specs.Assembly.{IsBodyWith}
use Rattle.bpf_text.specs.Symbols.{names_in}
use Rattle.bpf_text.specs.Private.Look.{look}
use Rattle.bpf_text.proofs.ShortLoads.{unknown_long}
use Rattle.bpf_text.proofs.misfit.stands_at.Goals as goal

pub returns-in-UnknownName-clause-bound : goal.returns-in-UnknownName-clause-bound
returns-in-UnknownName-clause-bound c =
    let names = names_in c.args.symbols in
    let ts = map look c.args.tokens.now in
    let P : LineError → Type 0 = λ why. IsBodyWith names (Err why) ts in
    omega (arith, unknown_long names ts (subst P c.in-UnknownName.is c.requires), length-map c.args.tokens.now look)
