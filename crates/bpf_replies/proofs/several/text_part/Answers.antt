use Rattle.std.proofs.Common.{◌∙◌, ◌++◌, List, ℕ, inr, ap, refl}
use Rattle.std.specs.Prelude.{codes, string_bytes}
use Rattle.bpf_check.specs.Listing.{listed_text, name_text}
use Rattle.bpf_check.specs.Verdict.{verdicts_of}
use Rattle.bpf_replies.specs.Checking.{head_text, states_of}
use Rattle.bpf_replies.proofs.CheckedParts.{head_made, part_made}
use Rattle.bpf_replies.proofs.several.text_part.Goals as goal

pub returns : goal.returns
returns g c =
    let o = c.args.options.now in
    let name = c.args.file.name.now in
    let grounds = c.in-Ok.grounds in
    let expected = grounds.expected.items in
    let lines = grounds.lines.items in
    let f = grounds.findings in
    let notes = grounds.notes in
    let tests = c.in_ok-text.field-0 in
    let mark = string_bytes c.in_ok-mark.mark in
    let told = string_bytes tests.text in
    let head = head_text (name ++ codes ": ") (states_of o f) notes in
    let heads = head_made name mark c.states_of-states.result (states_of o f) notes c.in_ok-mark.ensures.ok c.states_of-states.ensures in
    let made = c.in_ok-text-2.ensures ∙ (ap (λ (t : List ℕ). head_text t c.states_of-states.result notes ++ c.deref-4.result.now) c.deref-3.ensures
    ∙ (ap (λ (t : List ℕ). head_text mark c.states_of-states.result notes ++ t) c.deref-4.ensures ∙ ap (λ (t : List ℕ). t ++ told) heads)) in
    let given = c.deref.result.now in
    let listed = c.in_ok-text.ensures.text ∙ ap (λ (ls : List ℕ). listed_text (name_text name) ls c.args.file.before f given
    (verdicts_of f given)) c.deref-2.ensures.value in
    inr (
      expected,
      lines,
      f,
      c.in-Ok.ensures.expected,
      c.in-Ok.ensures.lines,
      c.in-Ok.ensures.findings,
      notes,
      c.in-Ok.ensures.notes,
      part_made o name lines c.args.file.before f notes expected given (string_bytes c.in_ok-text-2.text) told head tests.tests
          tests.conclusion c.is_unmet.result c.is_told.result
          c.deref.ensures.value listed c.in_ok-text.ensures.tests c.in_ok-text.ensures.conclusion refl made c.is_unmet.ensures c.is_told.ensures,
    )
