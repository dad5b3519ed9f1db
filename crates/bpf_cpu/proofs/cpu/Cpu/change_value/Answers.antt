use Rattle.std.proofs.Common.{◌≡◌, ◌+◌, [], ◌∷◌, inl, inr, refl, ap, subst, ◌∙◌}
use Rattle.bpf_shared.specs.declared.events.Event.TheVariants as event
use Rattle.bpf_shared.specs.declared.events.ValuePlace.{ValuePlace}
use Rattle.std.specs.Prelude.{slice_index}
use Rattle.bpf_insn.specs.declared.operation.sizes.Size.{Size}
use Rattle.bpf_mem.specs.Bytes.{size_of}
use Rattle.bpf_cpu.specs.declared.cpu.Cpu.{Cpu}
use Rattle.bpf_shared.proofs.Chains.{chain_nothing, chain_one}
use Rattle.bpf_cpu.specs.State.{value}
use Rattle.bpf_insn.specs.Atomic.{change_of}
use Rattle.bpf_cpu.specs.Values.{event_size_of, IsPlaceToWrite, MayNotWrite}
use Rattle.bpf_cpu.specs.Private.Refused.{IsFaultOf}
use Rattle.bpf_cpu.proofs.ValueLaws.{writable, refused}
use Rattle.bpf_cpu.proofs.cpu.Cpu.change_value.Goals as goal

pub value_atomic-found-requires-clause-place : goal.value_atomic-found-requires-clause-place
value_atomic-found-requires-clause-place g c =
    let cpu = c.args.self.now in
    writable (g.S.Shared.shapes c.args.shared.now) (g.S.Shared.held c.args.shared.now cpu.number) cpu c.args.address
    c.size_of_width-size.result c.in-Ok.place c.event_size_of.result
    c.requires.held c.in-Ok.ensures.at c.event_size_of.ensures c.in-Ok.ensures.place

pub returns-in-Ok-clause-change : goal.returns-in-Ok-clause-change
returns-in-Ok-clause-change g c =
    let cpu = c.args.self.now in
    let z = size_of c.args.width in
    let at : c.in-Ok.place.at ≡ c.args.address = ap (λ (p : ValuePlace). p.at) c.in-Ok.ensures.at in
    let size : c.event_size_of.result ≡ event_size_of z = c.event_size_of.ensures ∙ ap event_size_of c.size_of_width-size.ensures in
    let op = c.change.ensures in
    let operand = c.value-operand.ensures in
    let found = c.value_atomic-found.result in
    let expected = slice_index cpu.registers 0 in
    let asked : event.Atomic c.in-Ok.place.at c.event_size_of.result c.change.result c.value-operand.result expected found ∷ []
    ≡ event.Atomic c.args.address (event_size_of z) (change_of c.args.op) (value cpu c.args.src) expected found ∷ [] = cc in
    let place : IsPlaceToWrite (g.S.Shared.shapes c.args.shared.now) z c.args.address cpu = subst
    (λ (k : Size). IsPlaceToWrite (g.S.Shared.shapes c.args.shared.now) k c.args.address cpu) c.size_of_width-size.ensures
    c.in-Ok.ensures.place in (
      event.Atomic c.in-Ok.place.at c.event_size_of.result c.change.result c.value-operand.result expected found ∷ [],
      chain_one g.S.Shared.passes g.S.Shared.serves cpu.number c.args.shared.now c.value_atomic-found.new.self _ c.requires.serves
          c.value_atomic-found.ensures.changed c.value_atomic-found.ensures.same.1,
      inr (place, (found, asked, refl, ap (λ (k : Cpu). record k { pc = k.pc + 1 }) c.fetch.ensures)),
    )

pub returns-in-Err-clause-change : goal.returns-in-Err-clause-change
returns-in-Err-clause-change g c =
    let cpu = c.args.self.now in
    let why = λ (k : Size). MayNotWrite (g.S.Shared.shapes c.args.shared.now) k c.args.address cpu in
    let fault : IsFaultOf (why (size_of c.args.width)) c.in-Err.next = subst (λ (k : Size). IsFaultOf (why k) c.in-Err.next)
    c.size_of_width-size.ensures c.in-Err.ensures.refused in (
      [],
      chain_nothing g.S.Shared.passes g.S.Shared.serves cpu.number g.met.S.Shared.nothing c.args.shared.now,
      inl (refused (why (size_of c.args.width)) cpu c.in-Err.next fault),
    )
