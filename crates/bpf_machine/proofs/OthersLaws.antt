-- A CPU's turns leave the jobs of other CPUs as they are.
use Rattle.std.proofs.Common.{◌≡◌, ◌+◌, ℕ, zero, suc, List, [], ◌∷◌, Some, inl, inr, sym, ap, subst, ◌∙◌}
use Rattle.std.specs.Prelude.{◌≢◌, slice_get}
use Rattle.bpf_cpu.specs.State.{start}
use Rattle.bpf_cpu.specs.Task.{Stage, Task, InHand, Ended}
use Rattle.bpf_machine.specs.declared.machine.ahead.Headway.{Headway}
use Rattle.bpf_machine.specs.declared.machine.ahead.Headway.TheVariants.{Idle, Turns}
use Rattle.bpf_machine.specs.Hands.{with_stage, OthersStay}
use Rattle.bpf_machine.specs.Machine.{MachineState}
use Rattle.bpf_machine.specs.Work.{BeginsJob}
use Rattle.bpf_machine.specs.Headways.{RunsAhead}
use Rattle.bpf_machine.specs.Patient.{IsRefilled}
use Rattle.bpf_machine.specs.Private.Turns.{StaysOrEnds}

-- another job than the one that is in another stage
other_job : (jobs : List Task) (j k : ℕ) (task one : Task) (stage : Stage) → slice_get jobs j ≡ Some task → slice_get jobs k ≡ Some one →
    one.cpu ≢ task.cpu → slice_get (with_stage jobs j task stage) k ≡ Some one
other_job [] j k task one stage at there differs = there
other_job (t ∷ ts) zero zero task one stage at there differs =
    let same : one ≡ task = (let two : Some one ≡ Some task = sym there ∙ at in cc) in
    absurd (differs (ap (λ (x : Task). x.cpu) same))
other_job (t ∷ ts) zero (suc k) task one stage at there differs = there
other_job (t ∷ ts) (suc j) zero task one stage at there differs = there
other_job (t ∷ ts) (suc j) (suc k) task one stage at there differs = other_job ts j k task one stage at there differs

changed : (old : List Task) (new : List Task) (c j : ℕ) (task : Task) (stage : Stage) → slice_get old j ≡ Some task → task.cpu ≡ c → new ≡
    with_stage old j task stage → OthersStay old c new
changed old new c j task stage at of is k one there differs =
    subst (λ (l : List Task). slice_get l k ≡ Some one) (sym is) (other_job old j k task one stage at there (λ same. differs (same ∙ of)))

pub others_twice : (a b d : List Task) (c : ℕ) → OthersStay a c b → OthersStay b c d → OthersStay a c d
others_twice a b d c first then k one there differs = then k one (first k one there differs) differs

pub begins_others : (old new : MachineState) (c j : ℕ) → BeginsJob old c j new → OthersStay old.jobs c new.jobs
begins_others old new c j (task, input, at, programs, jobs, leads, lists) =
    changed old.jobs new.jobs c j task (InHand (start c input) task.budget) at.listed at.of jobs

pub stays_others : (old new : List Task) (c j : ℕ) → StaysOrEnds old c j new → OthersStay old c new
stays_others old new c j (task, state, left, at, inl (later, rest, one, is)) = changed old new c j task (InHand later rest) at.listed at.of is
stays_others old new c j (task, state, left, at, inr (end, is)) = changed old new c j task (Ended end) at.listed at.of is

pub same_others : (old new : MachineState) (c : ℕ) → new ≡ old → OthersStay old.jobs c new.jobs
same_others old new c same k one there differs = subst (λ (m : MachineState). slice_get m.jobs k ≡ Some one) (sym same) there

pub ahead_others : (old new : MachineState) (c : ℕ) (h : Headway) → RunsAhead old c h new → OthersStay old.jobs c new.jobs
ahead_others old new c Idle ran = same_others old new c ran.0
ahead_others old new c (Turns n) (inl ran) = same_others old new c ran.0
ahead_others old new c (Turns n) (inr (j, goes, one)) =
    changed old.jobs new.jobs c j goes.0 (InHand goes.4 goes.5) goes.6.listed goes.6.of (ap (λ (m : MachineState). m.jobs) goes.9)

pub refilled_others : (old new : MachineState) (c : ℕ) → IsRefilled old c new → OthersStay old.jobs c new.jobs
refilled_others old new c (inl (free, same)) = same_others old new c same
refilled_others old new c (inr (j, refills)) =
    changed old.jobs new.jobs c j refills.0 (InHand refills.1 (refills.2 + refills.3)) refills.4.listed refills.4.of
    (ap (λ (m : MachineState). m.jobs) refills.6)
