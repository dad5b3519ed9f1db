use Rattle.bpf_shared.specs.declared.events.Event.TheVariants.{Lookup}
use Rattle.bpf_shared.specs.Contents.{bytes_of_all}
use Rattle.bpf_plain.proofs.Lifting.{call_lifted, maps_store}
use Rattle.bpf_plain.proofs.plain.calls.PlainStoreShared.lookup.Goals as goal

pub invariant_of-self : goal.invariant_of-self
invariant_of-self c = maps_store (record {
  shape = c.self.inside.shape;
  maps = c.self.inside.maps;
  arrays = bytes_of_all
      c.self.inside.arrays.items;
}) c.lookup.new.self c.self.invariant c.lookup.ensures.same.0 c.lookup.ensures.same.1

pub returns-clause-found : goal.returns-clause-found
returns-clause-found c =
    call_lifted (record { shape = c.self.inside.shape; maps = c.self.inside.maps; arrays = bytes_of_all c.self.inside.arrays.items })
    c.args.self.now c.self.view_is c.lookup.new.self c.args.cpu (Lookup c.args.map c.args.key.now c.lookup.result)
    c.lookup.ensures.found (λ s so h v f into. into)
