use Rattle.bpf_text.proofs.Scanning.{placed_start}
use Rattle.bpf_text.proofs.places.token_places.Goals as goal

pub line-init : goal.line-init
line-init c = (placed_start c.args.line.now _ _ c.new-places.ensures.items c.blank_len-at.ensures.value, c.blank_len-at.ensures.bound)
