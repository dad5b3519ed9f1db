use Rattle.std.proofs.Common.{◌≡◌, map, take}
use Rattle.bpf_shared.specs.Chain.{Chain}
use Rattle.bpf_sched.specs.Explained.{keys_events}
use Rattle.bpf_sched.specs.Working.{AreListsFor}
use Rattle.bpf_sched.proofs.workload.list_keys.Given as goal

abbrev pub invariant-loop-map : goal.invariant-loop-map
invariant-loop-map g l =
    let S = g.S.Shared in
    record {
      served : S.serves l.shared ≡ S.serves l.fn.shared;
      shaped : S.shapes l.shared ≡ S.shapes l.fn.shared;
      runs : S.running l.shared ≡ S.running l.fn.shared;
      fit : AreListsFor (S.shapes l.fn.shared).maps l.lists;
      same : map (λ list. list.shape) l.lists ≡ map (λ list. list.shape) l.fn.lists;
      chain : Chain S.passes S.serves l.cpu l.fn.shared l.shared (keys_events 0 (take l.map (map (λ list. list.keys) l.lists)));
    }
