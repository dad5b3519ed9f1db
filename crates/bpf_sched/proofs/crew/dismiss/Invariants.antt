use Rattle.std.proofs.Common.{◌≡◌, ◌++◌, ◌≤◌, Some, length, map}
use Rattle.std.specs.Prelude.{vec_capacity}
use Rattle.bpf_sched.specs.declared.worker.Worker.{Worker}
use Rattle.bpf_sched.proofs.crew.dismiss.Given as goal

abbrev pub invariant-loop-worker : goal.invariant-loop-worker
invariant-loop-worker l = record {
  split : l.yielded ++ l.worker-iterator.rest.items ≡ l.fn.workers.items;
  ports : map Some l.ports.items ≡ map (λ (w : Worker). w.port) l.yielded;
  room : length l.fn.workers.items ≤ vec_capacity l.ports;
  lists : l.lists.items ≡ map (λ (w : Worker). w.workload.lists) l.yielded;
  lists_room : length l.fn.workers.items ≤ vec_capacity l.lists;
}
