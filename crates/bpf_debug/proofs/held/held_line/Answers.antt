use Rattle.std.proofs.Common.{List, ℕ, ap, ◌∙◌}
use Rattle.std.specs.Prelude.{string_bytes}
use Rattle.bpf_debug.specs.Held.{held_line}
use Rattle.bpf_debug.proofs.held.held_line.Goals as goal

pub returns : goal.returns
returns c s so stands =
    let at = c.args.span.at in (
      string_bytes c.in_ok-name.name,
      string_bytes c.in_ok-shown.shown,
      c.in_ok-name.ensures s so stands,
      c.in_ok-shown.ensures s so stands,
      c.in_ok-line.ensures ∙ ap (λ (n : List ℕ). held_line n at c.as_str-2.result.now) c.as_str.ensures.value
          ∙ ap (held_line (string_bytes c.in_ok-name.name) at) c.as_str-2.ensures.value,
    )
