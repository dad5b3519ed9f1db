use Rattle.std.proofs.Common.{◌≤◌, List, [], ◌∷◌, length, map, ◌≢◌, sym, subst, arith}
use Rattle.bpf_text.specs.declared.token.Token.{Token}
use Rattle.bpf_text.specs.Private.Look.{look}
use Rattle.bpf_text.specs.Assembly.{IsBody}
use Rattle.bpf_text.proofs.BodyLemmas.{body_code, body_refused}
use Rattle.bpf_text.proofs.source.unnamed.Goals as goal

some_tokens : (ts : List Token) → 1 ≤ length ts → map look ts ≢ []
some_tokens [] h = absurd (omega arith)
some_tokens (t ∷ ts) h = λ e. cc

pub returns-in-Ok : goal.returns-in-Ok
returns-in-Ok c =
    let ts = map look c.args.tokens.now in
    subst (λ b. IsBody b ts) (sym c.code.ensures) (body_code ts c.in-Ok.draft c.in-Ok.ensures)

pub returns-in-Err : goal.returns-in-Err
returns-in-Err c = body_refused _ c.in-Err.error (some_tokens c.args.tokens.now c.in_default.len_at_least) c.in-Err.ensures
