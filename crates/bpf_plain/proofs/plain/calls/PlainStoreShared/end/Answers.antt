use Rattle.bpf_shared.specs.declared.events.Event.TheVariants.{End}
use Rattle.bpf_shared.specs.Contents.{bytes_of_all}
use Rattle.bpf_plain.proofs.Lifting.{call_lifted, maps_store}
use Rattle.bpf_plain.proofs.plain.calls.PlainStoreShared.end.Goals as goal

pub invariant_of-self : goal.invariant_of-self
invariant_of-self c = maps_store (record {
  shape = c.self.inside.shape;
  maps = c.self.inside.maps;
  arrays = bytes_of_all
      c.self.inside.arrays.items;
}) c.end.new.self c.self.invariant c.end.ensures.same.0 c.end.ensures.same.1

pub returns-clause-ended : goal.returns-clause-ended
returns-clause-ended c =
    call_lifted (record { shape = c.self.inside.shape; maps = c.self.inside.maps; arrays = bytes_of_all c.self.inside.arrays.items })
    c.args.self.now c.self.view_is c.end.new.self c.args.cpu (End)
    c.end.ensures.ended (λ s so h v f into. into)
