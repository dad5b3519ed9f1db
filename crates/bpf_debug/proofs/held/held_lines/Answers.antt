use Rattle.std.proofs.Common.{ℕ, List, ◌++◌, map, ap, ◌∙◌}
use Rattle.std.specs.Prelude.{string_bytes}
use Rattle.bpf_shared.specs.declared.events.Span.{Span}
use Rattle.bpf_debug.specs.Held.{span_of}
use Rattle.bpf_debug.proofs.HeldLaws.{held_more}
use Rattle.bpf_debug.proofs.held.held_lines.Goals as goal

pub loop-span-preserved : goal.loop-span-preserved
loop-span-preserved c s so stands =
    let names : List (List ℕ) = map string_bytes c.args.names.now in
    let at = c.loop-span.span-index in
    let text = string_bytes c.loop-span.text in
    let line = string_bytes c.in_ok-line.line in
    held_more names s c.args.state.now at (span_of c.spans-span-items.result.now at) text (string_bytes c.push_str.new.self) line
    (ap (λ (held : List Span). span_of held at) c.spans-span-items.ensures) (c.loop-span.invariant s so stands) (c.in_ok-line.ensures s so stands)
    (c.in_ok-push_str.ensures.bytes ∙ ap (λ (t : List ℕ). text ++ t) c.as_str.ensures.value)
