-- Whatever jobs a machine's come from, those after a turn come from the same.
use Rattle.std.proofs.Common.{◌≡◌, ℕ, zero, suc, List, [], ◌∷◌, Some, None, inl, inr, length, refl, sym, ap, subst, ◌∙◌, ◌+◌}
use Rattle.std.specs.Prelude.{slice_get}
use Rattle.bpf_shared.specs.Shape.{without_arrays}
use Rattle.bpf_shared.specs.Store.{Plain, as_made}
use Rattle.bpf_loader.specs.Loaded.{Loaded}
use Rattle.bpf_cpu.specs.declared.cpu.Cpu.{Cpu}
use Rattle.bpf_cpu.specs.declared.input.Input.{Input}
use Rattle.bpf_cpu.specs.State.{start}
use Rattle.bpf_cpu.specs.Saved.{IsOfOneJob}
use Rattle.bpf_cpu.specs.Task.{Stage, Task, Waiting, InHand, Ended}
use Rattle.bpf_cpu.proofs.ContextLaws.{step_keeps}
use Rattle.bpf_machine.specs.declared.machine.ahead.Headway.{Headway}
use Rattle.bpf_machine.specs.declared.machine.ahead.Headway.TheVariants.{Idle, Turns}
use Rattle.bpf_machine.specs.Hands.{with_stage}
use Rattle.bpf_machine.specs.Schedule.{Advances}
use Rattle.bpf_machine.specs.Machine.{MachineState}
use Rattle.bpf_machine.specs.Work.{BeginsJob}
use Rattle.bpf_machine.specs.Headways.{TakesQuietTurns, RunsAhead}
use Rattle.bpf_machine.specs.Patient.{IsRefilled}
use Rattle.bpf_machine.specs.Saved.{input_of, AreLater, ComeFrom, ComeFromSame, ComesFrom, FitsBytes, IsSavableStage, IsStageOf}
use Rattle.bpf_machine.specs.Private.Turns.{StaysOrEnds}

-- ---- one of the jobs in another stage
with_one : (firsts jobs : List Task) (j : ℕ) (task : Task) (stage : Stage) → slice_get jobs j ≡ Some task →
    ((first : Task) → ComesFrom first task → ComesFrom first (record task { stage = stage }))
    → ComeFrom firsts jobs → ComeFrom firsts (with_stage jobs j task stage)
with_one [] [] j task stage at step come = cc
with_one [] (t ∷ ts) j task stage at step come = absurd come
with_one (f ∷ fs) [] j task stage at step come = absurd come
with_one (f ∷ fs) (t ∷ ts) zero task stage at step come = let same : t ≡ task = cc in (step f (subst (λ (x : Task). ComesFrom f x) same come.0), come.1)
with_one (f ∷ fs) (t ∷ ts) (suc j) task stage at step come = (come.0, with_one fs ts j task stage at step come.1)

begun : (first task : Task) (c : ℕ) (input : Input) → task.cpu ≡ c → task.stage ≡ Waiting input → ComesFrom first task → ComesFrom first
    (record task { stage = InHand (start c input) task.budget })
begun first task c input of is come =
    let waits : input ≡ input_of first.stage = subst (λ (s : Stage). IsStageOf first.cpu (input_of first.stage) s) is come.stage in
    record {
      cpu = come.cpu;
      program = come.program;
      budget = come.budget;
      stage =
          (sym of ∙ come.cpu, ap (λ (i : Input). length i.context) waits, ap (λ (i : Input). i.given) waits, ap (λ (i : Input). length i.packet) waits);
    }

gone_on : (first task : Task) (state later : Cpu) (left rest : ℕ) → task.stage ≡ InHand state left → IsOfOneJob state later → ComesFrom
    first task → ComesFrom first (record task { stage = InHand later rest })
gone_on first task state later left rest is one come =
    let was : IsStageOf first.cpu (input_of first.stage) (InHand state left) = subst
    (λ (s : Stage). IsStageOf first.cpu (input_of first.stage) s) is come.stage in
    record { cpu = come.cpu; program = come.program; budget = come.budget; stage = (one.0 ∙ was.0, one.1 ∙ was.1, one.2 ∙ was.2, one.3 ∙ was.3) }

-- ---- turns
pub begins_same : (old new : MachineState) (c j : ℕ) → BeginsJob old c j new → ComeFromSame old.jobs new.jobs
begins_same old new c j (task, input, at, programs, jobs, leads, lists) first come =
    let stage : Stage = InHand (start c input) task.budget in
    subst (λ (l : List Task). ComeFrom first l) (sym jobs) (with_one first old.jobs j task stage at.listed
    (λ f from. begun f task c input at.of at.at from) come)

pub stays_same : (old new : List Task) (c j : ℕ) → StaysOrEnds old c j new → ComeFromSame old new
stays_same old new c j (task, state, left, at, inl (later, rest, one, is)) first come =
    subst (λ (l : List Task). ComeFrom first l) (sym is) (with_one first old j task (InHand later rest) at.listed
    (λ f from. gone_on f task state later left rest at.at one from) come)
stays_same old new c j (task, state, left, at, inr (end, is)) first come =
    subst (λ (l : List Task). ComeFrom first l) (sym is)
    (with_one first old j task (Ended end) at.listed (λ f from. record { cpu = from.cpu; program = from.program; budget = from.budget; stage = tt }) come)

-- ---- turns that no store sees
any_store : Plain
any_store = as_made (without_arrays 0 [])

advanced : (program : Loaded) (c : ℕ) (s t : Plain) (old new : Cpu) (left rest : ℕ) → Advances program c s old left None t new rest → IsOfOneJob old new
advanced program c s t old new zero rest made = (let P : Cpu → Type 0 = IsOfOneJob old in subst P (sym made.2) (refl, refl, refl, refl))
advanced program c s t old new (suc left) rest made = step_keeps old new made.1 s.shape program made.0 made.2

quiet : (n : ℕ) (program : Loaded) (c : ℕ) (old new : Cpu) (left rest : ℕ) → TakesQuietTurns program c n old left new rest → IsOfOneJob old new
quiet zero program c old new left rest made = (let P : Cpu → Type 0 = IsOfOneJob old in subst P (sym made.0) (refl, refl, refl, refl))
quiet (suc n) program c old new left rest (mid, more, steps, made) =
    let first = advanced program c any_store any_store old mid left more (steps any_store) in
    let last = quiet n program c mid new more rest made in
    (last.0 ∙ first.0, last.1 ∙ first.1, last.2 ∙ first.2, last.3 ∙ first.3)

pub ahead_same : (old new : MachineState) (c : ℕ) (h : Headway) → RunsAhead old c h new → ComeFromSame old.jobs new.jobs
ahead_same old new c Idle ran first come = subst (λ (m : MachineState). ComeFrom first m.jobs) (sym ran.0) come
ahead_same old new c (Turns n) (inl ran) first come = subst (λ (m : MachineState). ComeFrom first m.jobs) (sym ran.0) come
ahead_same old new c (Turns n) (inr (j, goes, one)) first come =
    let keeps = quiet n goes.3 c goes.1 goes.4 goes.2 goes.5 goes.8 in
    subst (λ (m : MachineState). ComeFrom first m.jobs) (sym goes.9)
    (with_one first old.jobs j goes.0 (InHand goes.4 goes.5) goes.6.listed (λ f from. gone_on f goes.0 goes.1 goes.4 goes.2 goes.5 goes.6.at keeps from) come)

-- ---- jobs that fit into bytes
savable : (cpu : ℕ) (input : Input) (stage : Stage) → IsStageOf cpu input stage → FitsBytes stage → IsSavableStage cpu input stage
savable cpu input (Waiting own) is fits = is
savable cpu input (InHand state left) is fits = (fits.0, is, fits.1)
savable cpu input (Ended end) is fits = fits

stage_of : (cpu : ℕ) (input : Input) (stage : Stage) → IsSavableStage cpu input stage → IsStageOf cpu input stage
stage_of cpu input (Waiting own) is = is
stage_of cpu input (InHand state left) is = is.1
stage_of cpu input (Ended end) is = tt

pub come_later : (firsts jobs : List Task) → ComeFrom firsts jobs →
    ((j : ℕ) (task : Task) → slice_get jobs j ≡ Some task → FitsBytes task.stage) → AreLater firsts jobs
come_later [] [] come fit = tt
come_later [] (t ∷ ts) come fit = absurd come
come_later (f ∷ fs) [] come fit = absurd come
come_later (f ∷ fs) (t ∷ ts) come fit = (
  record { cpu = come.0.cpu; program = come.0.program; budget = come.0.budget; stage = savable f.cpu (input_of f.stage) t.stage come.0.stage (fit 0 t refl) },
  come_later fs ts come.1 (λ j task at. fit (suc j) task at),
)

pub later_come : (firsts jobs : List Task) → AreLater firsts jobs → ComeFrom firsts jobs
later_come [] [] later = tt
later_come [] (t ∷ ts) later = absurd later
later_come (f ∷ fs) [] later = absurd later
later_come (f ∷ fs) (t ∷ ts) later = (
  record { cpu = later.0.cpu; program = later.0.program; budget = later.0.budget; stage = stage_of f.cpu (input_of f.stage) t.stage later.0.stage },
  later_come fs ts later.1,
)

-- jobs that wait come from themselves
pub waiting_come : (jobs : List Task) → ((j : ℕ) (task : Task) → slice_get jobs j ≡ Some task → (input : Input) ×
    (task.stage ≡ Waiting input)) → ComeFrom jobs jobs
waiting_come [] wait = tt
waiting_come (t ∷ ts) wait = (
  record { cpu = refl; program = refl; budget = refl; stage = own t.stage (wait 0 t refl).0 (wait 0 t refl).1 },
  waiting_come ts (λ j task at. wait (suc j) task at),
)
  where
    own : (stage : Stage) (input : Input) → stage ≡ Waiting input → IsStageOf t.cpu (input_of stage) stage
    own (Waiting c) input is = refl
    own (InHand state left) input is = cc
    own (Ended end) input is = tt

-- and those whose budgets are whole again
pub refilled_same : (old new : MachineState) (c : ℕ) → IsRefilled old c new → ComeFromSame old.jobs new.jobs
refilled_same old new c (inl (free, same)) first come = subst (λ (m : MachineState). ComeFrom first m.jobs) (sym same) come
refilled_same old new c (inr (j, (task, state, left, more, at, enough, is))) first come =
    subst (λ (m : MachineState). ComeFrom first m.jobs) (sym is)
    (with_one first old.jobs j task (InHand state (left + more)) at.listed
    (λ f from. gone_on f task state state left (left + more) at.at (refl, refl, refl, refl) from) come)
