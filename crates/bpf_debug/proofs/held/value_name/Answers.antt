use Rattle.std.proofs.Common.{map, ap, ◌∙◌}
use Rattle.std.specs.Prelude.{string_bytes}
use Rattle.bpf_debug.specs.Held.{value_name}
use Rattle.bpf_debug.proofs.held.value_name.Goals as goal

pub returns : goal.returns
returns c s so stands = (
  string_bytes c.in_ok-place.place,
  c.in_ok-place.ensures s so stands,
  c.in_ok-name.ensures ∙ ap (value_name (map string_bytes c.args.names.now) c.args.at) c.as_str.ensures.value,
)
