use Rattle.std.proofs.Common.{List, String, Global, map, subst}
use Rattle.std.specs.Prelude.{string_bytes}
use Rattle.bpf_workers.specs.Stats.{AreStatsAsked}
use Rattle.bpf_workers.proofs.telling.tell_counted.Goals as goal

pub returns-clause-stats : goal.returns-clause-stats
returns-clause-stats c =
    subst (λ (ns : List (String Global)). AreStatsAsked c.args.extras.stats c.args.left.closed.now (map string_bytes ns)
    (string_bytes c.in_ok-stats.stats)) c.deref.ensures.value c.in_ok-stats.ensures
