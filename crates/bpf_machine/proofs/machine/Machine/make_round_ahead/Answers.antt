use Rattle.std.proofs.Common.{◌≡◌, ◌≤◌, ℕ, suc, rules, ◌+◌, ◌-◌, List, length, sym, ap, subst, ◌∙◌, arith, slice_set}
use Rattle.std.proofs.lemmas.List.{get_or-set_same, get_or-set_other, length-set}
use Rattle.bpf_machine.specs.declared.machine.ahead.Headway.{Headway}
use Rattle.bpf_machine.specs.declared.machine.ahead.Headway.TheVariants.{Idle, Turns}
use Rattle.bpf_machine.specs.Machine.{MachineState}
use Rattle.bpf_machine.specs.Private.Headways.{headway_at}
use Rattle.bpf_machine.proofs.AheadLaws.{RoundSoFar, round_begins, idle_next, comes_next, turn_next, whole_ahead, zero_falls}
use Rattle.bpf_machine.proofs.machine.Machine.make_round_ahead.Goals as goal
use Rattle.bpf_machine.proofs.machine.Machine.make_round_ahead.Goals.{in-Idle, in-Turns-eq0, in-Turns}

not_zero : (n : ℕ) → 1 ≤ n → n ≡ suc (n - 1)
not_zero n some = omega arith

pub loop-cpu-init : goal.loop-cpu-init
loop-cpu-init c = round_begins c.args.self.now c.args.headways.now

pub loop-cpu-preserved : goal.loop-cpu-preserved
loop-cpu-preserved c =
    let first = c.args.self.now in
    let olds = c.args.headways.now in
    let at = c.loop-cpu in
    let room = c.match-headways-cpu.array_long in
    let P : List Headway → MachineState → Type 0 = λ hs m. RoundSoFar first olds (at.cpu + 1) hs m in
    elim c.match-headways-cpu.branch [
      | in-Idle w ↦ subst (λ (hs : List Headway). P hs c.match-headways-cpu.self) (sym w.headways-is)
          (subst (P at.headways) (sym w.self-is) (idle_next first olds at.cpu at.headways at.self at.invariant w.in-Idle.is))
      | in-Turns-eq0 w ↦
          let set = slice_set at.headways at.cpu w.run_ahead.result in
          let long : length at.headways ≡ 256 = sym (length-set at.headways at.cpu w.run_ahead.result) ∙ (ap length (sym w.headways-is) ∙ room) in
          let here : headway_at set at.cpu ≡ w.run_ahead.result = get_or-set_same at.headways at.cpu w.run_ahead.result Idle
          (omega (arith, long, c.cpus_of_jobs-cpu-end.type_inv)) in
          let zero_there : w.in-Turns-eq0.field-0 ≡ 0 = cc (w.in-Turns-eq0.field-0-is, w.in-Turns-eq0.field-0-test) in
          let next = turn_next first olds at.cpu at.headways at.self at.invariant set
          (λ d ne. sym (get_or-set_other at.headways at.cpu d w.run_ahead.result Idle ne)) w.turn.new.self w.run_ahead.new.self
          w.turn.result w.run_ahead.result (w.in-Turns-eq0.is ∙ ap Turns zero_there) here w.turn.ensures.turn w.run_ahead.ensures in
          subst (λ (hs : List Headway). P hs c.match-headways-cpu.self) (sym w.headways-is) (subst (P set) (sym w.self-is) next)
      | in-Turns w ↦
          let n = w.in-Turns.turns - 1 in
          let set = slice_set at.headways at.cpu (Turns n) in
          let long : length at.headways ≡ 256 = sym (length-set at.headways at.cpu (Turns n)) ∙ (ap length (sym w.headways-is) ∙ room) in
          let here : headway_at set at.cpu ≡ Turns n = get_or-set_same at.headways at.cpu (Turns n) Idle
          (omega (arith, long, c.cpus_of_jobs-cpu-end.type_inv)) in
          let some : 1 ≤ w.in-Turns.turns = search rules in
          let was : headway_at at.headways at.cpu ≡ Turns (suc n) = w.in-Turns.is ∙ ap Turns (not_zero w.in-Turns.turns some) in
          let next = comes_next first olds at.cpu at.headways at.self at.invariant set
          (λ d ne. sym (get_or-set_other at.headways at.cpu d (Turns n) Idle ne)) n was here in
          subst (λ (hs : List Headway). P hs c.match-headways-cpu.self) (sym w.headways-is) (subst (P set) (sym w.self-is) next)
    ]

pub returns-clause-runs : goal.returns-clause-runs
returns-clause-runs c =
    let n : c.loop-cpu.cpu ≡ c.cpus_of_jobs-cpu-end.result = omega arith in
    whole_ahead c.args.self.now c.args.headways.now c.cpus_of_jobs-cpu-end.result c.loop-cpu.headways c.loop-cpu.self
    c.cpus_of_jobs-cpu-end.ensures.cpus (subst (λ (k : ℕ). RoundSoFar c.args.self.now c.args.headways.now k c.loop-cpu.headways
    c.loop-cpu.self) n c.loop-cpu.invariant)

pub returns-clause-falls : goal.returns-clause-falls
returns-clause-falls c = λ ahead zero_there.
    let n : c.loop-cpu.cpu ≡ c.cpus_of_jobs-cpu-end.result = omega arith in
    zero_falls c.args.self.now c.args.headways.now c.cpus_of_jobs-cpu-end.result c.loop-cpu.headways c.loop-cpu.self
    c.cpus_of_jobs-cpu-end.ensures.jobs (subst (λ (k : ℕ). RoundSoFar c.args.self.now c.args.headways.now k c.loop-cpu.headways
    c.loop-cpu.self) n c.loop-cpu.invariant)
    ahead.0 ahead.1 ahead.2 ahead.3 zero_there.0 zero_there.1
