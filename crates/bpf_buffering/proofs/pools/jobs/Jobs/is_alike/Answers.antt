use Rattle.std.proofs.Common.{inl, ap, sym}
use Rattle.bpf_buffering.specs.Private.Classes.{job_at}
use Rattle.bpf_buffering.proofs.pools.jobs.Jobs.is_alike.Goals as goal

pub returns-then-number-other : goal.returns-then-number-other
returns-then-number-other c is programs program right loaded = inl (ap (job_at c.args.self.now) (sym c.if-number-other.true))
