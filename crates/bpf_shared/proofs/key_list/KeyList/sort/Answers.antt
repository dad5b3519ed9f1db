use Rattle.std.proofs.Common.{ap}
use Rattle.bpf_shared.specs.KeyOrder.{Listed}
use Rattle.bpf_shared.proofs.KeyLists.{kept, ordered}
use Rattle.bpf_shared.proofs.key_list.KeyList.sort.Goals as goal

pub invariant_of-self : goal.invariant_of-self
invariant_of-self c =
    let k = c.self.inside in
    kept k.shape k.count k.keys.len k.keys.items c.deref_mut.result.now c.sort_front.new.keys c.deref_mut.ensures.value k.keys.ok.0
    c.self.invariant c.sort_front.ensures.moved

pub returns-clause-keys : goal.returns-clause-keys
returns-clause-keys c =
    let k = c.self.inside in
    ordered k.shape k.count k.keys.len k.keys.items c.deref_mut.result.now c.sort_front.new.keys c.deref_mut.ensures.value k.keys.ok.0
    c.self.invariant c.sort_front.ensures.moved
    c.sort_front.ensures.front c.sort_front.ensures.sorted c.args.self.now.keys (ap (λ (x : Listed). x.keys) c.self.view_is) c.requires.distinct
