use Rattle.std.proofs.Common.{◌∙◌}
use Rattle.bpf_text.specs.Symbols.{names_in}
use Rattle.bpf_text.proofs.Misfits.{misfit_found, none_found, seen_within}
use Rattle.bpf_text.proofs.misfit.misfit_in.Goals as goal

pub returns-in_default : goal.returns-in_default
returns-in_default c = record {
  found = none_found (names_in c.args.symbols) c.args.line.now c.in_ok-tokens.tokens.items c.deref.result.now c.labelled.result.1.now
      c.behind_label.result c.in_ok-tokens.ensures.found c.deref.ensures.value c.labelled.ensures.rest c.behind_label.ensures
      c.in_default.not-Refused;
  memory = tt;
}

pub overflow_sub-token : goal.overflow_sub-token
overflow_sub-token c = seen_within c.in_ok-tokens.tokens.items c.deref.result.now c.labelled.result.1.now c.len.result c.deref.ensures.value
    c.labelled.ensures.rest (c.len.ensures ∙ c.in_ok-tokens.tokens.ok.0)

pub returns-clause-found : goal.returns-clause-found
returns-clause-found c = misfit_found (names_in c.args.symbols) c.args.line.now c.in_ok-tokens.tokens.items c.deref.result.now
    c.labelled.result.1.now c.in-Refused.why c.len.result c.in_ok-behind.behind c.in_ok-tokens.ensures.found c.deref.ensures.value
    c.labelled.ensures.rest c.in-Refused.ensures c.in_ok-behind.ensures.first (c.len.ensures ∙ c.in_ok-tokens.tokens.ok.0)
