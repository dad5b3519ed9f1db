use Rattle.std.proofs.Common.{◌≡◌, [], ◌∷◌, inl, inr, refl, ap}
use Rattle.std.specs.Prelude.{slice_index}
use Rattle.bpf_base.specs.declared.atomic.Change.TheVariants.{Exchange}
use Rattle.bpf_shared.specs.declared.events.Event.TheVariants as event
use Rattle.bpf_shared.specs.declared.events.Size.TheVariants as event_size
use Rattle.bpf_shared.specs.declared.events.ValuePlace.{ValuePlace}
use Rattle.bpf_shared.proofs.Chains.{chain_nothing, chain_one}
use Rattle.bpf_insn.specs.declared.operation.sizes.Size.TheVariants.{Word}
use Rattle.bpf_cpu.specs.Values.{MayNotWrite}
use Rattle.bpf_cpu.proofs.ValueLaws.{writable, refused}
use Rattle.bpf_cpu.proofs.cpu.Cpu.free_lock.Goals as goal

pub value_atomic-requires-clause-place : goal.value_atomic-requires-clause-place
value_atomic-requires-clause-place g c =
    let cpu = c.args.self.now in
    writable (g.S.Shared.shapes c.args.shared.now) (g.S.Shared.held c.args.shared.now cpu.number) cpu (slice_index cpu.registers 1) Word
    c.in-Ok.place event_size.Word
    c.requires.held c.in-Ok.ensures.at refl c.in-Ok.ensures.place

pub returns-in-Ok-clause-free : goal.returns-in-Ok-clause-free
returns-in-Ok-clause-free g c =
    let cpu = c.args.self.now in
    let lock = slice_index cpu.registers 1 in
    let at : c.in-Ok.place.at ≡ lock = ap (λ (p : ValuePlace). p.at) c.in-Ok.ensures.at in
    let found = c.value_atomic.result in
    let asked : event.Atomic c.in-Ok.place.at event_size.Word Exchange 0 0 found ∷ [] ≡ event.Atomic lock event_size.Word Exchange 0 0 found ∷ [] = cc in (
      event.Atomic c.in-Ok.place.at event_size.Word Exchange 0 0 found ∷ [],
      chain_one g.S.Shared.passes g.S.Shared.serves cpu.number c.args.shared.now c.value_atomic.new.self _ c.requires.serves
          c.value_atomic.ensures.changed c.value_atomic.ensures.same.1,
      inr (c.in-Ok.ensures.place, (found, asked, refl, c.return_from_helper.ensures)),
    )

pub returns-in-Err-clause-free : goal.returns-in-Err-clause-free
returns-in-Err-clause-free g c =
    let cpu = c.args.self.now in
    let why = MayNotWrite (g.S.Shared.shapes c.args.shared.now) Word (slice_index cpu.registers 1) cpu in (
      [],
      chain_nothing g.S.Shared.passes g.S.Shared.serves cpu.number g.met.S.Shared.nothing c.args.shared.now,
      inl (refused why cpu c.in-Err.next c.in-Err.ensures.refused),
    )
