use Rattle.std.proofs.Common.{ap, ◌∙◌}
use Rattle.std.specs.Prelude.{string_bytes}
use Rattle.bpf_debug.specs.Show.{shown_line}
use Rattle.bpf_debug.proofs.show.shown_line.Goals as goal

pub returns : goal.returns
returns c s so stands = (
  string_bytes c.in_ok-meaning.meaning,
  c.in_ok-meaning.ensures s so stands,
  c.in_ok-line.ensures ∙ ap (shown_line c.args.register c.args.number) c.as_str.ensures.value,
)
