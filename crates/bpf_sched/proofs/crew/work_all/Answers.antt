use Rattle.std.proofs.Common.{sym, subst, length}
use Rattle.bpf_sched.specs.Worked.{IsReadyWorker}
use Rattle.bpf_sched.proofs.crew.work_all.Goals as goal

pub for_each_mut-requires-clause-accepts : goal.for_each_mut-requires-clause-accepts
for_each_mut-requires-clause-accepts g c κs within = λ i p inside is. subst (IsReadyWorker c.args.table.now (length c.args.programs.now))
    (sym is) (c.requires.ready i p.now inside)
