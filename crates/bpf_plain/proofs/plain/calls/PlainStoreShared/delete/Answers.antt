use Rattle.bpf_shared.specs.declared.events.Event.TheVariants.{Delete}
use Rattle.bpf_shared.specs.Contents.{bytes_of_all}
use Rattle.bpf_plain.proofs.Lifting.{call_lifted, maps_store}
use Rattle.bpf_plain.proofs.plain.calls.PlainStoreShared.delete.Goals as goal

pub invariant_of-self : goal.invariant_of-self
invariant_of-self c = maps_store (record {
  shape = c.self.inside.shape;
  maps = c.self.inside.maps;
  arrays = bytes_of_all
      c.self.inside.arrays.items;
}) c.delete.new.self c.self.invariant c.delete.ensures.same.0 c.delete.ensures.same.1

pub returns-clause-answered : goal.returns-clause-answered
returns-clause-answered c =
    call_lifted (record { shape = c.self.inside.shape; maps = c.self.inside.maps; arrays = bytes_of_all c.self.inside.arrays.items })
    c.args.self.now c.self.view_is c.delete.new.self c.args.cpu (Delete c.args.map c.args.key.now c.delete.result)
    c.delete.ensures.answered (λ s so h v f into. into)
