use Rattle.std.proofs.Common.{map, subst, sym}
use Rattle.bpf_text.specs.Assembly.{IsBodyOr}
use Rattle.bpf_text.specs.Symbols.{table_of}
use Rattle.bpf_text.specs.Private.Look.{look}
use Rattle.bpf_text.specs.Private.Sources.{body_of}
use Rattle.bpf_text.proofs.source.named.Goals as goal

pub returns-in-Some : goal.returns-in-Some
returns-in-Some c =
    let ts = map look c.args.tokens.now in
    subst (λ o. IsBodyOr (table_of c.args.symbols.now) o (body_of c.loaded.result) ts) (sym c.in-Some.ensures) c.loaded.ensures

pub returns-in-None : goal.returns-in-None
returns-in-None c =
    let ts = map look c.args.tokens.now in
    subst (λ o. IsBodyOr (table_of c.args.symbols.now) o (body_of c.unnamed.result) ts) (sym c.in-None.ensures) c.unnamed.ensures
