use Rattle.std.proofs.Common.{◌≡◌, [], ◌∷◌, inl, inr, refl, ap, ◌∙◌, arith}
use Rattle.std.specs.Prelude.{slice_index}
use Rattle.bpf_base.specs.declared.atomic.Change.TheVariants.{CompareExchange}
use Rattle.bpf_shared.specs.declared.events.Event.TheVariants as event
use Rattle.bpf_shared.specs.declared.events.Size.TheVariants as event_size
use Rattle.bpf_shared.specs.declared.events.ValuePlace.{ValuePlace}
use Rattle.bpf_shared.proofs.Chains.{chain_nothing, chain_one}
use Rattle.bpf_insn.specs.declared.operation.sizes.Size.TheVariants.{Word}
use Rattle.bpf_cpu.specs.Values.{MayNotWrite}
use Rattle.bpf_cpu.proofs.ValueLaws.{writable, refused}
use Rattle.bpf_cpu.proofs.HelperLaws.{tried_free, tried_taken}
use Rattle.bpf_cpu.proofs.cpu.Cpu.take_lock.Goals as goal

pub value_atomic-found-requires-clause-place : goal.value_atomic-found-requires-clause-place
value_atomic-found-requires-clause-place g c =
    let cpu = c.args.self.now in
    writable (g.S.Shared.shapes c.args.shared.now) (g.S.Shared.held c.args.shared.now cpu.number) cpu (slice_index cpu.registers 1) Word
    c.in-Ok.place event_size.Word
    c.requires.held c.in-Ok.ensures.at refl c.in-Ok.ensures.place

pub returns-then-found-eq-FREE-clause-lock : goal.returns-then-found-eq-FREE-clause-lock
returns-then-found-eq-FREE-clause-lock g c =
    let cpu = c.args.self.now in
    let lock = slice_index cpu.registers 1 in
    let at : c.in-Ok.place.at ≡ lock = ap (λ (p : ValuePlace). p.at) c.in-Ok.ensures.at in
    let found = c.value_atomic-found.result in
    let asked : event.Atomic c.in-Ok.place.at event_size.Word CompareExchange 1 0 found ∷ [] ≡ event.Atomic lock event_size.Word
    CompareExchange 1 0 found ∷ [] = cc in (
      event.Atomic c.in-Ok.place.at event_size.Word CompareExchange 1 0 found ∷ [],
      chain_one g.S.Shared.passes g.S.Shared.serves cpu.number c.args.shared.now c.value_atomic-found.new.self _ c.requires.serves
          c.value_atomic-found.ensures.changed c.value_atomic-found.ensures.same.1,
      inr (
        c.in-Ok.ensures.place,
        (
          found,
          asked,
          refl,
          c.return_from_helper.ensures ∙ tried_free cpu found
              (let free = c.if-found-eq-FREE.true in grind (arith, free)),
        ),
      ),
    )

pub returns-else-found-eq-FREE-clause-lock : goal.returns-else-found-eq-FREE-clause-lock
returns-else-found-eq-FREE-clause-lock g c =
    let cpu = c.args.self.now in
    let lock = slice_index cpu.registers 1 in
    let at : c.in-Ok.place.at ≡ lock = ap (λ (p : ValuePlace). p.at) c.in-Ok.ensures.at in
    let found = c.value_atomic-found.result in
    let asked : event.Atomic c.in-Ok.place.at event_size.Word CompareExchange 1 0 found ∷ [] ≡ event.Atomic lock event_size.Word
    CompareExchange 1 0 found ∷ [] = cc in (
      event.Atomic c.in-Ok.place.at event_size.Word CompareExchange 1 0 found ∷ [],
      chain_one g.S.Shared.passes g.S.Shared.serves cpu.number c.args.shared.now c.value_atomic-found.new.self _ c.requires.serves
          c.value_atomic-found.ensures.changed c.value_atomic-found.ensures.same.1,
      inr (c.in-Ok.ensures.place, (found, asked, refl, tried_taken cpu found (λ e. let taken = c.if-found-eq-FREE.false in grind (arith, taken, e)))),
    )

pub returns-in-Err-clause-lock : goal.returns-in-Err-clause-lock
returns-in-Err-clause-lock g c =
    let cpu = c.args.self.now in
    let why = MayNotWrite (g.S.Shared.shapes c.args.shared.now) Word (slice_index cpu.registers 1) cpu in (
      [],
      chain_nothing g.S.Shared.passes g.S.Shared.serves cpu.number g.met.S.Shared.nothing c.args.shared.now,
      inl (refused why cpu c.in-Err.next c.in-Err.ensures.refused),
    )
