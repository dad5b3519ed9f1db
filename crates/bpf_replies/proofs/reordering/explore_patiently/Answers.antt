use Rattle.std.proofs.Common.{refl}
use Rattle.bpf_replies.proofs.reordering.explore_patiently.Goals as goal

pub returns : goal.returns
returns g c = (
  c.in_ok-explored.explored,
  c.in_ok-explored.ensures.found,
  c.in_ok-threads.threads,
  c.in_ok-threads.ensures.found,
  c.in_ok-text.ensures,
  c.is_stopped.ensures,
  refl,
)
