use Rattle.std.proofs.Common.{◌∙◌, ◌==◌, List, sym, ap, length}
use Rattle.bpf_shared.specs.declared.shapes.MapShape.{MapShape}
use Rattle.bpf_equal.proofs.FoundLaws.{no_items}
use Rattle.bpf_equal.proofs.finding.has_no_maps.Goals as goal

pub returns : goal.returns
returns c is = no_items c.args.shape.now.maps (ap (λ (ms : List MapShape). length ms == 0) (sym c.maps.ensures.maps) ∙ (sym c.is_empty.ensures ∙ is))
