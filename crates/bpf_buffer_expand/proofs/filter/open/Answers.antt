use Rattle.std.proofs.Common.{subst}
use Rattle.bpf_expand.specs.State.{AllWait}
use Rattle.bpf_expand.proofs.Fitting.{first_wait}
use Rattle.bpf_buffer_expand.proofs.filter.open.Goals as goal

pub new-requires-clause-waits : goal.new-requires-clause-waits
new-requires-clause-waits c = subst AllWait c.in_ok-shape.ensures.machine.world.jobs (first_wait c.args.setup.jobs.items)
