use Rattle.std.proofs.Common.{map, List, sym, subst}
use Rattle.bpf_text.specs.declared.token.Token.{Token}
use Rattle.bpf_spelling.specs.Token.{Tok}
use Rattle.bpf_text.specs.Assembly.{IsBodyWith}
use Rattle.bpf_text.specs.Symbols.{names_in}
use Rattle.bpf_text.specs.Private.Look.{look}
use Rattle.bpf_text.specs.Private.Cutting.{BeginTokens}
use Rattle.bpf_text.specs.Private.Sources.{body_of}
use Rattle.bpf_text.proofs.ShortForms.{line_of_tokens}
use Rattle.bpf_text.proofs.source.source_line.Goals as goal

pub returns-clause-read : goal.returns-clause-read
returns-clause-read c =
    let line = c.args.line.now in
    let P : List Token → Type 0 = λ ts. BeginTokens line (map look ts) in
    let Q : List Tok → Type 0 = λ us. IsBodyWith (names_in c.args.symbols) (body_of c.behind_label-body.result) us in
    line_of_tokens (names_in c.args.symbols) line (map look c.deref.result.now) _
    (subst P (sym c.deref.ensures.value) c.in_ok-tokens.ensures.found) c.labelled.ensures.label
    (subst Q c.labelled.ensures.rest c.behind_label-body.ensures)
