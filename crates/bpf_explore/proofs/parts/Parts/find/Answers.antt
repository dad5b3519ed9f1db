use Rattle.std.proofs.Common.{◌≡◌, ◌∙◌, ◌-◌, ◌<◌, ℕ, List, Some, length, sym, ap, subst, arith}
use Rattle.std.specs.Prelude.{slice_get}
use Rattle.bpf_cpu.specs.Task.{Task}
use Rattle.bpf_explore.specs.Private.Kept.{part_at}
use Rattle.bpf_explore.specs.Private.Slots.{slot_at}
use Rattle.bpf_explore.proofs.SlotLaws.{none_at, none_left, next_passed}
use Rattle.bpf_explore.proofs.KeptLaws.{IsPartOf, part_put}
use Rattle.bpf_explore.proofs.parts.Parts.find.Goals as goal

pub returns-then-slot-eq0-clause-none : goal.returns-then-slot-eq0-clause-none
returns-then-slot-eq0-clause-none c n less is =
    let m = c.self.inside in
    let job = slice_get c.args.machine.now.jobs c.args.job in
    let there : IsPartOf m.kept.items job n = subst (λ (ts : List Task). (n < length ts) × (job ≡ Some (part_at ts n))) (sym c.self.view_is) (less, is) in
    let slot : slot_at m.slots.items c.args.hash c.loop-step.step ≡ 0 = ap (λ (s : List ℕ). slot_at s c.args.hash c.loop-step.step)
    (sym c.deref.ensures.value) ∙ (sym c.slot_of-slot.ensures ∙ c.if-slot-eq0.true) in
    none_at m.slots.items c.args.hash c.loop-step.step (IsPartOf m.kept.items job) c.loop-step.invariant slot n
    (part_put m.kept.items m.slots.items job n c.args.hash c.self.invariant c.requires.hash there) there

pub returns-clause-none : goal.returns-clause-none
returns-clause-none c n less is =
    let m = c.self.inside in
    let job = slice_get c.args.machine.now.jobs c.args.job in
    let there : IsPartOf m.kept.items job n = subst (λ (ts : List Task). (n < length ts) × (job ≡ Some (part_at ts n))) (sym c.self.view_is) (less, is) in
    none_left m.slots.items c.args.hash c.loop-step.step (IsPartOf m.kept.items job) c.loop-step.invariant (omega arith) n
    (part_put m.kept.items m.slots.items job n c.args.hash c.self.invariant c.requires.hash there) there

pub loop-step-preserved : goal.loop-step-preserved
loop-step-preserved c =
    let m = c.self.inside in
    let job = slice_get c.args.machine.now.jobs c.args.job in
    let read : slot_at m.slots.items c.args.hash c.loop-step.step ≡ c.slot_of-slot.result = ap
    (λ (s : List ℕ). slot_at s c.args.hash c.loop-step.step) (sym c.deref.ensures.value) ∙ sym c.slot_of-slot.ensures in
    next_passed m.slots.items c.args.hash c.loop-step.step (c.slot_of-slot.result - 1) (IsPartOf m.kept.items job) c.loop-step.invariant (omega arith)
    (λ is. c.is_at.ensures.differs c.if-is_at.false (subst (λ (ts : List Task). c.slot_of-slot.result - 1 < length ts) c.self.view_is is.0)
    (is.1 ∙ ap (λ (ts : List Task). Some (part_at ts (c.slot_of-slot.result - 1))) c.self.view_is))
