use Rattle.std.proofs.Common.{◌≡◌, ◌∙◌, ℕ, List, sym, ap, subst, arith}
use Rattle.bpf_explore.specs.Tuples.{IsTuple}
use Rattle.bpf_explore.specs.Private.Slots.{slot_at}
use Rattle.bpf_explore.specs.Private.States.{StateList, state_hash}
use Rattle.bpf_explore.proofs.SlotLaws.{none_at, none_left}
use Rattle.bpf_explore.proofs.StateLaws.{state_put}
use Rattle.bpf_explore.proofs.states.States.find.Goals as goal

pub returns-then-slot-eq0-clause-none : goal.returns-then-slot-eq0-clause-none
returns-then-slot-eq0-clause-none c n is =
    let m = c.self.inside in
    let slot : slot_at m.slots.items c.args.hash c.loop-step.step ≡ 0 = ap (λ (s : List ℕ). slot_at s c.args.hash c.loop-step.step)
    (sym c.deref.ensures.value) ∙ (sym c.slot_of-slot.ensures ∙ c.if-slot-eq0.true) in
    let hash = subst (λ (v : StateList). c.args.hash ≡ state_hash v.hashes c.args.numbers.now) (sym c.self.view_is) c.requires.hash in
    let here = subst (λ (v : StateList). IsTuple v.tuples n c.args.numbers.now) (sym c.self.view_is) is in
    none_at m.slots.items c.args.hash c.loop-step.step (λ (k : ℕ). IsTuple c.args.self.now.tuples k c.args.numbers.now)
    c.loop-step.invariant slot n (state_put m.tuples m.hashes.items m.slots.items c.args.numbers.now n c.args.hash c.self.invariant hash here) is

pub returns-clause-none : goal.returns-clause-none
returns-clause-none c n is =
    let m = c.self.inside in
    let hash = subst (λ (v : StateList). c.args.hash ≡ state_hash v.hashes c.args.numbers.now) (sym c.self.view_is) c.requires.hash in
    let here = subst (λ (v : StateList). IsTuple v.tuples n c.args.numbers.now) (sym c.self.view_is) is in
    none_left m.slots.items c.args.hash c.loop-step.step (λ (k : ℕ). IsTuple c.args.self.now.tuples k c.args.numbers.now)
    c.loop-step.invariant (omega arith) n
    (state_put m.tuples m.hashes.items m.slots.items c.args.numbers.now n c.args.hash c.self.invariant hash here) is
