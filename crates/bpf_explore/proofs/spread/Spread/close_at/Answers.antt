use Rattle.bpf_explore.proofs.CloseLaws.{grown_itself}
use Rattle.bpf_explore.proofs.spread.Spread.close_at.Goals as goal

pub returns-then-not-has_ended-clause-grown : goal.returns-then-not-has_ended-clause-grown
returns-then-not-has_ended-clause-grown g c = grown_itself c.args.self.now
