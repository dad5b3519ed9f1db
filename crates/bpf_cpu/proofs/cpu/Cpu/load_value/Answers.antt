use Rattle.std.proofs.Common.{◌≡◌, ◌+◌, ℕ, [], ◌∷◌, inl, inr, refl, ap, ◌∙◌}
use Rattle.bpf_shared.specs.declared.events.Event.TheVariants as event
use Rattle.bpf_shared.specs.declared.events.ValuePlace.{ValuePlace}
use Rattle.bpf_shared.proofs.Chains.{chain_nothing, chain_one}
use Rattle.bpf_cpu.specs.State.{with_register}
use Rattle.bpf_cpu.specs.Values.{event_size_of, MayNotRead}
use Rattle.bpf_cpu.specs.Private.Refused.{reading_of}
use Rattle.bpf_cpu.proofs.ValueLaws.{readable, refused}
use Rattle.bpf_cpu.proofs.cpu.Cpu.load_value.Goals as goal

pub value_load-found-requires-clause-place : goal.value_load-found-requires-clause-place
value_load-found-requires-clause-place g c =
    let cpu = c.args.self.now in
    readable (g.S.Shared.shapes c.args.shared.now) (g.S.Shared.held c.args.shared.now cpu.number) cpu c.args.address c.args.size
    c.in-Ok.place c.event_size_of.result
    c.requires.held c.in-Ok.ensures.at c.event_size_of.ensures c.in-Ok.ensures.place

pub returns-in-Ok-clause-load : goal.returns-in-Ok-clause-load
returns-in-Ok-clause-load g c =
    let cpu = c.args.self.now in
    let at : c.in-Ok.place.at ≡ c.args.address = ap (λ (p : ValuePlace). p.at) c.in-Ok.ensures.at in
    let size = c.event_size_of.ensures in
    let found = c.value_load-found.result in
    let asked : event.Load c.in-Ok.place.at c.event_size_of.result found ∷ [] ≡ event.Load c.args.address (event_size_of c.args.size) found ∷ [] = cc in
    let put : c.put_found.new.self ≡ with_register cpu c.args.dst (reading_of c.args.extension found) (cpu.pc + 1) =
    c.put_found.ensures ∙ ap (λ (n : ℕ). with_register cpu c.args.dst n (cpu.pc + 1)) c.read_as.ensures in (
      event.Load c.in-Ok.place.at c.event_size_of.result found ∷ [],
      chain_one g.S.Shared.passes g.S.Shared.serves cpu.number c.args.shared.now c.value_load-found.new.self _ c.requires.serves
          c.value_load-found.ensures.loaded c.value_load-found.ensures.same.1,
      inr (c.in-Ok.ensures.place, (found, asked, refl, put)),
    )

pub returns-in-Err-clause-load : goal.returns-in-Err-clause-load
returns-in-Err-clause-load g c =
    let cpu = c.args.self.now in (
      [],
      chain_nothing g.S.Shared.passes g.S.Shared.serves cpu.number g.met.S.Shared.nothing c.args.shared.now,
      inl (refused (MayNotRead (g.S.Shared.shapes c.args.shared.now) c.args.size c.args.address cpu) cpu c.in-Err.next c.in-Err.ensures.refused),
    )
