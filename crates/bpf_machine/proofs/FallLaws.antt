-- How far the jobs of a machine are from their ends, after a turn.
use Rattle.std.proofs.Common.{◌≡◌, ℕ, zero, suc, ◌+◌, ◌<◌, List, length, get_or, Option, Some, None, inl, inr, refl, sym, ap, subst, ◌∙◌, arith}
use Rattle.std.specs.Prelude.{slice_get}
use Rattle.std.specs.List.{sum_by}
use Rattle.std.proofs.lemmas.List.{length-set}
use Rattle.std.proofs.lemmas.List.Sums.{sum_by-set}
use Rattle.std.proofs.lemmas.Option.{slice_get_within, slice_get-get_or}
use Rattle.bpf_cpu.specs.declared.cpu.Cpu.{Cpu}
use Rattle.bpf_cpu.specs.declared.outcome.Outcome.{Outcome}
use Rattle.bpf_cpu.specs.declared.outcome.Outcome.TheVariants.{OutOfBudget}
use Rattle.bpf_machine.specs.declared.machine.Turn.{Turn}
use Rattle.bpf_loader.specs.Loaded.{Loaded}
use Rattle.bpf_shared.specs.Store.{Plain}
use Rattle.bpf_cpu.specs.State.{start}
use Rattle.bpf_cpu.specs.Task.{Stage, Task, InHand, Ended}
use Rattle.bpf_machine.specs.Hands.{with_stage}
use Rattle.bpf_machine.specs.Schedule.{World, Advances, Settles, GoesOn}
use Rattle.bpf_machine.proofs.ListLaws.{with_end, lists_jobs, lists_programs}
use Rattle.bpf_machine.specs.Questions.{turns_before_end, open_in, Falls, TurnsFall}

-- what a sum over jobs is after one of them has another stage
pub summed : (f : Task → ℕ) (jobs : List Task) (j : ℕ) (task : Task) (stage : Stage) → slice_get jobs j ≡ Some task
    → sum_by f (with_stage jobs j task stage) + f task ≡ sum_by f jobs + f (record task { stage = stage })
summed f jobs j task stage at =
    let within : j < length jobs = slice_get_within jobs j task at in
    let read : Some (get_or jobs j task) ≡ Some task = sym (slice_get-get_or jobs j task within) ∙ at in
    let same : get_or jobs j task ≡ task = cc in
    ap (λ t. sum_by f (with_stage jobs j task stage) + f t) (sym same) ∙ sum_by-set f jobs j (record task { stage = stage }) task within

-- a job in hand has fewer steps left after a step, unless it ends
pub left_falls : (program : Loaded) (c : ℕ) (s : Plain) (old : Cpu) (left : ℕ) (t : Plain) (new : Cpu) (rest : ℕ) → Advances program c s old
    left None t new rest → rest < left
left_falls program c s old zero t new rest a = let no : None ≡ Some (OutOfBudget old.pc) = a.0 in cc
left_falls program c s old (suc n) t new rest a = let e : rest ≡ n = a.5 in omega arith

-- what a turn that goes on takes, from a job that may take this many turns
goes_falls : (w : World) (c j : ℕ) (task : Task) (old : Cpu) (left : ℕ) (answer : Turn) (z : World) → slice_get w.jobs j ≡ Some task
    → left < turns_before_end task.budget task.stage → open_in task.stage ≡ 1
    → GoesOn w c j task old left answer z → Falls answer w.jobs z.jobs × (length z.jobs ≡ length w.jobs) × (z.programs ≡ w.programs)
goes_falls w c j task old left answer z at more one g = settle g.1 g.6 g.7
  where
    settle : (end : Option Outcome) → Advances g.0 c w.store old left end g.2 g.3 g.4
        → Settles (record w { store = g.2 }) c j task g.3 g.4 end answer z
        → Falls answer w.jobs z.jobs × (length z.jobs ≡ length w.jobs) × (z.programs ≡ w.programs)
    settle None a s =
        let stage : Stage = InHand g.3 g.4 in
        let jobs : z.jobs ≡ with_stage w.jobs j task stage = ap (λ (x : World). x.jobs) s.1 in
        let less : g.4 < left = left_falls g.0 c w.store old left g.2 g.3 g.4 a in
        let turns = summed (λ t. turns_before_end t.budget t.stage) w.jobs j task stage at in
        let opens = summed (λ t. open_in t.stage) w.jobs j task stage at in
        let F : Turn → Type 0 = λ t. Falls t w.jobs (with_stage w.jobs j task stage) in
        let P : List Task → Type 0 = λ ts. Falls answer w.jobs ts × (length ts ≡ length w.jobs) × (z.programs ≡ w.programs) in
        subst P (sym jobs) (subst F (sym s.0) (omega arith, omega arith), length-set w.jobs j _, ap (λ (x : World). x.programs) s.1)
    settle (Some end) a s =
        let stage : Stage = Ended end in
        let m : World = with_end w j task end s.0 in
        let jobs : z.jobs ≡ with_stage w.jobs j task stage = lists_jobs m c z s.3 in
        let turns = summed (λ t. turns_before_end t.budget t.stage) w.jobs j task stage at in
        let opens = summed (λ t. open_in t.stage) w.jobs j task stage at in
        let F : Turn → Type 0 = λ t. Falls t w.jobs (with_stage w.jobs j task stage) in
        let P : List Task → Type 0 = λ ts. Falls answer w.jobs ts × (length ts ≡ length w.jobs) × (z.programs ≡ w.programs) in
        subst P (sym jobs) (subst F (sym s.2) (omega arith, omega arith), length-set w.jobs j _, lists_programs m c z s.3)

pub turns_fall : TurnsFall
turns_fall w z c answer (inl hand) =
    let task = hand.1 in
    let at = hand.4 in
    goes_falls w c hand.0 task hand.2 hand.3 answer z at.listed
    (subst (λ (s : Stage). hand.3 < turns_before_end task.budget s) (sym at.at) (omega arith))
    (subst (λ (s : Stage). open_in s ≡ 1) (sym at.at) refl)
    hand.5
turns_fall w z c answer (inr (inl next)) =
    let begun = next.1 in
    let task = begun.1 in
    let at = begun.4 in
    goes_falls (record w { store = begun.3 }) c begun.0 task (start c begun.2) task.budget answer z at.listed
    (subst (λ (s : Stage). task.budget < turns_before_end task.budget s) (sym at.at) (omega arith))
    (subst (λ (s : Stage). open_in s ≡ 1) (sym at.at) refl)
    begun.7
turns_fall w z c answer (inr (inr idle)) =
    let F : Turn → Type 0 = λ t. Falls t w.jobs z.jobs in
    let jobs : z.jobs ≡ w.jobs = ap (λ (x : World). x.jobs) idle.3 in
    (subst F (sym idle.2) jobs, ap (length {A = Task}) jobs, ap (λ (x : World). x.programs) idle.3)
