use Rattle.std.proofs.Common.{◌≡◌, [], ◌∷◌, inl, inr, refl, ap}
use Rattle.bpf_shared.specs.declared.events.Event.TheVariants as event
use Rattle.bpf_shared.specs.declared.events.ValuePlace.{ValuePlace}
use Rattle.bpf_shared.proofs.Chains.{chain_nothing, chain_one}
use Rattle.bpf_cpu.specs.Values.{event_size_of, MayNotWrite}
use Rattle.bpf_cpu.proofs.ValueLaws.{writable, refused}
use Rattle.bpf_cpu.proofs.cpu.Cpu.store_value.Goals as goal

pub value_store-requires-clause-place : goal.value_store-requires-clause-place
value_store-requires-clause-place g c =
    let cpu = c.args.self.now in
    writable (g.S.Shared.shapes c.args.shared.now) (g.S.Shared.held c.args.shared.now cpu.number) cpu c.args.address c.args.size
    c.in-Ok.place c.event_size_of.result
    c.requires.held c.in-Ok.ensures.at c.event_size_of.ensures c.in-Ok.ensures.place

pub returns-in-Ok-clause-store : goal.returns-in-Ok-clause-store
returns-in-Ok-clause-store g c =
    let cpu = c.args.self.now in
    let at : c.in-Ok.place.at ≡ c.args.address = ap (λ (p : ValuePlace). p.at) c.in-Ok.ensures.at in
    let size = c.event_size_of.ensures in
    let asked : event.Store c.in-Ok.place.at c.event_size_of.result c.args.number ∷ [] ≡ event.Store c.args.address
    (event_size_of c.args.size) c.args.number ∷ [] = cc in (
      event.Store c.in-Ok.place.at c.event_size_of.result c.args.number ∷ [],
      chain_one g.S.Shared.passes g.S.Shared.serves cpu.number c.args.shared.now c.value_store.new.self _ c.requires.serves
          c.value_store.ensures.stored c.value_store.ensures.same.1,
      inr (c.in-Ok.ensures.place, asked, refl, refl),
    )

pub returns-in-Err-clause-store : goal.returns-in-Err-clause-store
returns-in-Err-clause-store g c =
    let cpu = c.args.self.now in (
      [],
      chain_nothing g.S.Shared.passes g.S.Shared.serves cpu.number g.met.S.Shared.nothing c.args.shared.now,
      inl (refused (MayNotWrite (g.S.Shared.shapes c.args.shared.now) c.args.size c.args.address cpu) cpu c.in-Err.next c.in-Err.ensures.refused),
    )
