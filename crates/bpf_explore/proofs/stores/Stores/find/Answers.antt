use Rattle.std.proofs.Common.{◌≡◌, ◌∙◌, ◌-◌, ◌<◌, List, ℕ, length, sym, ap, subst, arith}
use Rattle.bpf_plain.specs.PlainStore.{Contents, IsSavedAs}
use Rattle.bpf_explore.specs.Private.Kept.{store_at}
use Rattle.bpf_explore.specs.Private.Slots.{slot_at}
use Rattle.bpf_explore.proofs.SlotLaws.{none_at, none_left, next_passed}
use Rattle.bpf_explore.proofs.KeptLaws.{IsStoreOf, store_put}
use Rattle.bpf_explore.proofs.stores.Stores.find.Goals as goal

pub returns-then-slot-eq0-clause-none : goal.returns-then-slot-eq0-clause-none
returns-then-slot-eq0-clause-none c n less is =
    let m = c.self.inside in
    let bytes = c.args.bytes.now in
    let there : IsStoreOf m.kept.items bytes n = subst (λ (ps : List Contents). (n < length ps) × IsSavedAs (store_at ps n) bytes)
    (sym c.self.view_is) (less, is) in
    let slot : slot_at m.slots.items c.args.hash c.loop-step.step ≡ 0 = ap (λ (s : List ℕ). slot_at s c.args.hash c.loop-step.step)
    (sym c.deref.ensures.value) ∙ (sym c.slot_of-slot.ensures ∙ c.if-slot-eq0.true) in
    none_at m.slots.items c.args.hash c.loop-step.step (IsStoreOf m.kept.items bytes) c.loop-step.invariant slot n
    (store_put m.kept.items m.slots.items bytes n c.args.hash c.self.invariant c.requires there) there

pub returns-clause-none : goal.returns-clause-none
returns-clause-none c n less is =
    let m = c.self.inside in
    let bytes = c.args.bytes.now in
    let there : IsStoreOf m.kept.items bytes n = subst (λ (ps : List Contents). (n < length ps) × IsSavedAs (store_at ps n) bytes)
    (sym c.self.view_is) (less, is) in
    none_left m.slots.items c.args.hash c.loop-step.step (IsStoreOf m.kept.items bytes) c.loop-step.invariant (omega arith) n
    (store_put m.kept.items m.slots.items bytes n c.args.hash c.self.invariant c.requires there) there

pub loop-step-preserved : goal.loop-step-preserved
loop-step-preserved c =
    let m = c.self.inside in
    let bytes = c.args.bytes.now in
    let number = c.slot_of-slot.result - 1 in
    let read : slot_at m.slots.items c.args.hash c.loop-step.step ≡ c.slot_of-slot.result = ap
    (λ (s : List ℕ). slot_at s c.args.hash c.loop-step.step) (sym c.deref.ensures.value) ∙ sym c.slot_of-slot.ensures in
    next_passed m.slots.items c.args.hash c.loop-step.step number (IsStoreOf m.kept.items bytes) c.loop-step.invariant (omega arith)
    (λ is. (let there = subst (λ (ps : List Contents). (number < length ps) × IsSavedAs (store_at ps number) bytes) c.self.view_is is in
    c.is_at.ensures.differs c.if-is_at.false there.0 there.1))
