use Rattle.std.proofs.Common.{◌≡◌, ◌+◌, ◌⊎◌, ◌∙◌, inl, inr, ℕ, sym, subst, arith}
use Rattle.bpf_machine.specs.declared.machine.Turn.{Turn}
use Rattle.bpf_machine.specs.declared.machine.rounds.Worked.{Worked}
use Rattle.bpf_machine.specs.declared.machine.Turn.TheVariants as turn
use Rattle.bpf_cpu.specs.declared.outcome.Outcome.{Outcome}
use Rattle.bpf_machine.proofs.RoundLaws.{SoFar, none_yet, next_idle, next_worked, whole_round, idle_round, alone_round}
use Rattle.bpf_machine.proofs.machine.Machine.make_round.Goals as goal
use Rattle.bpf_machine.proofs.machine.Machine.make_round.Goals.{in-Idle, in-Ran}

works : (answer : Turn) → (answer ≡ turn.Ran) ⊎ ((j : ℕ) × (end : Outcome) × (answer ≡ turn.Ended j end)) → answer ≡ turn.Idle → ⊥
works answer (inl ran) idle = let no : turn.Ran ≡ turn.Idle = sym ran ∙ idle in cc
works answer (inr (j, end, ended)) idle = let no : turn.Ended j end ≡ turn.Idle = sym ended ∙ idle in cc

pub loop-cpu-init : goal.loop-cpu-init
loop-cpu-init c = none_yet c.args.self.now

pub loop-cpu-preserved : goal.loop-cpu-preserved
loop-cpu-preserved c =
    let P : Worked → Type 0 = λ b. SoFar c.args.self.now (c.loop-cpu.cpu + 1) b c.turn.new.self in
    elim c.match-turn.branch [
      | in-Idle w ↦ subst P (sym w.worked-is) (next_idle c.args.self.now c.loop-cpu.self c.turn.new.self c.loop-cpu.cpu c.loop-cpu.worked
          c.turn.result c.loop-cpu.invariant c.requires.0 c.requires.1 c.turn.ensures.turn w.in-Idle.is (c.turn.ensures.idle w.in-Idle.is))
      | in-Ran w ↦ subst P (sym w.worked-is) (subst P (sym w.with-worked.ensures)
          (next_worked c.args.self.now c.loop-cpu.self c.turn.new.self c.loop-cpu.cpu c.loop-cpu.worked c.turn.result c.loop-cpu.invariant
          c.requires.0 c.requires.1 c.turn.ensures.turn (λ idle. works c.turn.result w.in-Ran.is idle)))
    ]

pub returns-clause-runs : goal.returns-clause-runs
returns-clause-runs c =
    let n : c.loop-cpu.cpu ≡ c.cpus_of_jobs-cpu-end.result = omega arith in
    let P : ℕ → Type 0 = λ n. SoFar c.args.self.now n c.loop-cpu.worked c.loop-cpu.self in
    whole_round c.args.self.now c.loop-cpu.self c.cpus_of_jobs-cpu-end.result c.loop-cpu.worked c.cpus_of_jobs-cpu-end.ensures.cpus
    (subst P n c.loop-cpu.invariant)

pub returns-clause-ended : goal.returns-clause-ended
returns-clause-ended c =
    let n : c.loop-cpu.cpu ≡ c.cpus_of_jobs-cpu-end.result = omega arith in
    let P : ℕ → Type 0 = λ n. SoFar c.args.self.now n c.loop-cpu.worked c.loop-cpu.self in
    idle_round c.args.self.now c.loop-cpu.self c.cpus_of_jobs-cpu-end.result c.loop-cpu.worked c.cpus_of_jobs-cpu-end.ensures.jobs
    (subst P n c.loop-cpu.invariant)

pub returns-clause-alone : goal.returns-clause-alone
returns-clause-alone c =
    let n : c.loop-cpu.cpu ≡ c.cpus_of_jobs-cpu-end.result = omega arith in
    let P : ℕ → Type 0 = λ n. SoFar c.args.self.now n c.loop-cpu.worked c.loop-cpu.self in
    alone_round c.args.self.now c.loop-cpu.self c.cpus_of_jobs-cpu-end.result c.loop-cpu.worked c.cpus_of_jobs-cpu-end.ensures.jobs
    (subst P n c.loop-cpu.invariant)
