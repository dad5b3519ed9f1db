use Rattle.bpf_shared.specs.declared.events.Event.TheVariants.{Begin}
use Rattle.bpf_shared.specs.Contents.{bytes_of_all}
use Rattle.bpf_plain.proofs.Lifting.{call_lifted, maps_store}
use Rattle.bpf_plain.proofs.plain.calls.PlainStoreShared.begin.Goals as goal

pub invariant_of-self : goal.invariant_of-self
invariant_of-self c = maps_store (record {
  shape = c.self.inside.shape;
  maps = c.self.inside.maps;
  arrays = bytes_of_all
      c.self.inside.arrays.items;
}) c.begin.new.self c.self.invariant c.begin.ensures.same.0 c.begin.ensures.same.1

pub returns-clause-begun : goal.returns-clause-begun
returns-clause-begun c =
    call_lifted (record { shape = c.self.inside.shape; maps = c.self.inside.maps; arrays = bytes_of_all c.self.inside.arrays.items })
    c.args.self.now c.self.view_is c.begin.new.self c.args.cpu (Begin)
    c.begin.ensures.begun (λ s so h v f into. into)
