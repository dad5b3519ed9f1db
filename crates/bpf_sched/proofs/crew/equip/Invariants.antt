use Rattle.std.proofs.Common.{◌≡◌, ◌++◌, length}
use Rattle.bpf_sched.proofs.Equipping.{AreEquipped}
use Rattle.bpf_sched.proofs.crew.equip.Given as goal

abbrev pub invariant-loop-port : goal.invariant-loop-port
invariant-loop-port l = record {
  split : l.yielded ++ l.port-iterator.rest.items ≡ l.fn.ports.items;
  cpu : l.cpu ≡ length l.yielded;
  are : AreEquipped l.fn.workers l.yielded l.workers;
}
