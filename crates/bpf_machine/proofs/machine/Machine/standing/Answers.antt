use Rattle.std.proofs.Common.{◌≡◌, ℕ, ◌≤◌, length, sym, ap, subst, ◌∙◌, arith}
use Rattle.std.proofs.lemmas.Bool.{ltb-false}
use Rattle.bpf_plain.specs.PlainStore.{has_cpu, is_running, held_spans}
use Rattle.bpf_machine.specs.declared.machine.lane.Lane.{Lane}
use Rattle.bpf_machine.specs.Machine.{MachineState}
use Rattle.bpf_cpu.specs.Task.{Task, InHand}
use Rattle.bpf_machine.specs.Hands.{IsAt, IsFree, NoneWaits}
use Rattle.bpf_machine.specs.Work.{IsNext}
use Rattle.bpf_machine.proofs.WorkLaws.{lane_there, has_hand, work_waiting, work_nothing, nothing_beyond}
use Rattle.bpf_machine.proofs.machine.Machine.standing.Goals as goal

pub returns-in_default : goal.returns-in_default
returns-in_default c =
    let m = c.self.inside in
    let lanes = m.lanes.items in
    let same : length c.deref.result.now ≡ length lanes = ap (length {A = Lane}) c.deref.ensures.value in
    let past : length lanes ≤ c.args.cpu = omega (arith, ltb-false c.args.cpu (length c.deref.result.now) (sym c.in_default.ensures.lookup.0)) in
    let P : MachineState → Type 0 = λ s. IsFree s.jobs c.args.cpu × NoneWaits s.jobs c.args.cpu in
    subst P c.self.view_is (nothing_beyond (has_cpu m.store) (is_running m.store) (held_spans m.store) m.programs.items m.jobs.items lanes
    c.self.invariant.0 c.args.cpu past)

pub returns-in-Some-hand : goal.returns-in-Some-hand
returns-in-Some-hand c =
    let m = c.self.inside in
    let lanes = m.lanes.items in
    let l = c.in-Some.lane.now in
    let there = lane_there lanes c.deref.result.now c.args.cpu l c.deref.ensures.value c.in-Some.ensures.lookup.0 c.in-Some.ensures.lookup.1 in
    let h = c.in-Some-hand.hand in
    let P : MachineState → Type 0 = λ s. (task : Task) × (left : ℕ) × IsAt s.jobs c.args.cpu h.job task (InHand h.cpu left) in
    let has = has_hand (has_cpu m.store) (is_running m.store) (held_spans m.store) m.programs.items m.jobs.items lanes c.self.invariant.0
    c.args.cpu h there.0 (ap (λ (x : Lane). x.hand) there.1 ∙ c.in-Some-hand.is) in
    subst P c.self.view_is (has.0, h.left, has.1)

pub returns-in-None : goal.returns-in-None
returns-in-None c =
    let m = c.self.inside in
    let lanes = m.lanes.items in
    let l = c.in-Some.lane.now in
    let there = lane_there lanes c.deref.result.now c.args.cpu l c.deref.ensures.value c.in-Some.ensures.lookup.0 c.in-Some.ensures.lookup.1 in
    let P : MachineState → Type 0 = λ s. IsNext s.jobs c.args.cpu l.next in
    subst P c.self.view_is (work_waiting (has_cpu m.store) (is_running m.store) (held_spans m.store) m.programs.items m.jobs.items lanes
    c.self.invariant.0 c.args.cpu l there.0 there.1 c.in-None.is (omega (arith, m.jobs.ok.0)))

pub returns-in-None-2 : goal.returns-in-None-2
returns-in-None-2 c =
    let m = c.self.inside in
    let lanes = m.lanes.items in
    let l = c.in-Some.lane.now in
    let there = lane_there lanes c.deref.result.now c.args.cpu l c.deref.ensures.value c.in-Some.ensures.lookup.0 c.in-Some.ensures.lookup.1 in
    let P : MachineState → Type 0 = λ s. IsFree s.jobs c.args.cpu × NoneWaits s.jobs c.args.cpu in
    subst P c.self.view_is (work_nothing (has_cpu m.store) (is_running m.store) (held_spans m.store) m.programs.items m.jobs.items lanes
    c.self.invariant.0 c.args.cpu l there.0 there.1 c.in-None-2.is (omega (arith, m.jobs.ok.0)))
