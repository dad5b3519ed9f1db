use Rattle.bpf_shared.specs.declared.events.Event.TheVariants.{Update}
use Rattle.bpf_shared.specs.Contents.{bytes_of_all}
use Rattle.bpf_plain.proofs.Lifting.{call_lifted, maps_store}
use Rattle.bpf_plain.proofs.plain.calls.PlainStoreShared.update.Goals as goal

pub invariant_of-self : goal.invariant_of-self
invariant_of-self c = maps_store (record {
  shape = c.self.inside.shape;
  maps = c.self.inside.maps;
  arrays = bytes_of_all
      c.self.inside.arrays.items;
}) c.update.new.self c.self.invariant c.update.ensures.same.0 c.update.ensures.same.1

pub returns-clause-answered : goal.returns-clause-answered
returns-clause-answered c =
    call_lifted (record { shape = c.self.inside.shape; maps = c.self.inside.maps; arrays = bytes_of_all c.self.inside.arrays.items })
    c.args.self.now c.self.view_is c.update.new.self c.args.cpu (Update c.args.map c.args.key.now c.args.value.now c.args.flags c.update.result)
    c.update.ensures.answered (λ s so h v f into. into)
