use Rattle.std.proofs.Common.{◌++◌, ◌∷◌, [], ◌∙◌, ap, sym, arith, append_assoc, List}
use Rattle.std.proofs.lemmas.List.{length-append}
use Rattle.hop_map.specs.Port.{Port}
use Rattle.bpf_sched.proofs.Equipping.{one_more_port}
use Rattle.bpf_sched.proofs.crew.equip.Goals as goal

pub loop-port-preserved : goal.loop-port-preserved
loop-port-preserved c = record {
  split = append_assoc c.loop-port.yielded (c.in-Some.port ∷ []) c.next.new.self.rest.items ∙
      (ap (λ (l : List Port). c.loop-port.yielded ++ l) (sym c.in-Some.ensures.steps.0) ∙ c.loop-port.invariant.split);
  cpu = omega (arith, length-append c.loop-port.yielded (c.in-Some.port ∷ []), c.loop-port.invariant.cpu);
  are = one_more_port c.args.workers.now c.loop-port.yielded c.loop-port.workers c.loop-port.invariant.are c.loop-port.cpu
      c.loop-port.invariant.cpu (omega arith) c.in-Some.port c.index-workers-cpu.result;
}
