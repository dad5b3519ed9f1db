-- Where the schedule to a kept machine leads with the budgets that jobs have.
use Rattle.std.proofs.Common.{◌≡◌, ◌∙◌, ℕ, suc, ◌+◌, List, [], ◌∷◌, Some, inl, inr, length, refl, sym, ap, subst}
use Rattle.std.specs.Prelude.{slice_get}
use Rattle.bpf_cpu.specs.declared.outcome.Outcome.{Outcome}
use Rattle.bpf_cpu.specs.declared.outcome.Outcome.TheVariants.{OutOfBudget}
use Rattle.bpf_cpu.specs.Task.{Task, InHand, Ended}
use Rattle.bpf_machine.specs.Headways.{with_jobs}
use Rattle.bpf_machine.specs.Laws.{IsFresh}
use Rattle.bpf_machine.specs.Machine.{MachineState}
use Rattle.bpf_machine.specs.Patient.{IsRicher, AsRich, NoneRanOut}
use Rattle.bpf_machine.specs.Ends.{FreeRunsAgree, RunsFreely}
use Rattle.bpf_machine.specs.Rounds.{HaveEnded}
use Rattle.bpf_machine.specs.Schedule.{World, RunsSchedule, unrolled}
use Rattle.bpf_machine.proofs.PatientLaws.{rich_back}
use Rattle.bpf_explore.specs.Album.{IsShownAt, LeadsFreely, HaveEndedAt, NoneRanOutAt}
use Rattle.bpf_explore.specs.Private.Answers.{IsFirst, StartsFresh}
use Rattle.bpf_explore.specs.Private.Patience.{LeadsInBudget}
use Rattle.bpf_explore.specs.Private.Replays.{IsReplayed}
use Rattle.bpf_explore.proofs.StopLaws.{turn_length}

-- ---- the same jobs, but for steps that are left
rich_length : (xs ys : List Task) → AsRich xs ys → length ys ≡ length xs
rich_length [] [] rich = refl
rich_length [] (y ∷ ys) rich = absurd rich
rich_length (x ∷ xs) [] rich = absurd rich
rich_length (x ∷ xs) (y ∷ ys) (here, rest) = ap suc (rich_length xs ys rest)

same_end : (old new : Task) (end : Outcome) → IsRicher old new → new.stage ≡ Ended end → new ≡ old
same_end old new end (inl e) is = e
same_end old new end (inr (state, left, more, at, e)) is =
    let no : InHand state (left + more) ≡ Ended end = sym (ap (λ (t : Task). t.stage) e) ∙ is in cc

same_ends : (xs ys : List Task) → AsRich xs ys → HaveEnded ys → ys ≡ xs
same_ends [] [] rich all = refl
same_ends [] (y ∷ ys) rich all = absurd rich
same_ends (x ∷ xs) [] rich all = absurd rich
same_ends (x ∷ xs) (y ∷ ys) (here, rest) all =
    let end = all 0 y refl in
    let one : y ≡ x = same_end x y end.0 here end.1 in
    let more : ys ≡ xs = same_ends xs ys rest (λ j t at. all (suc j) t at) in
    cc

none_richer : (xs ys : List Task) → AsRich xs ys → NoneRanOut xs → NoneRanOut ys
none_richer xs ys rich none j task pc at out =
    let r = rich_back xs ys j task rich at in
    let one : task ≡ r.0 = same_end r.0 task (OutOfBudget pc) r.2 out in
    none j r.0 pc r.1 (ap (λ (t : Task). t.stage) (sym one) ∙ out)

pub freely_length : (cs : List ℕ) (w z : World) → RunsFreely w cs z → length z.jobs ≡ length w.jobs
freely_length [] w z (jobs, rich, same) = ap (λ (v : World). length v.jobs) same ∙ rich_length w.jobs jobs rich
freely_length (c ∷ cs) w z (jobs, answer, m, rich, turns, runs) = freely_length cs m z runs ∙
    (turn_length (with_jobs w jobs) c answer m turns ∙ rich_length w.jobs jobs rich)

-- ---- the first machine before its first turn
one_machine : (kept : List MachineState) (i : ℕ) (m n : MachineState) → slice_get kept i ≡ Some m → slice_get kept i ≡ Some n → m ≡ n
one_machine kept i m n at there = let two : Some m ≡ Some n = sym at ∙ there in cc

pub fresh_first : (kept : List MachineState) → StartsFresh kept → (w : World) → IsFirst kept w → IsFresh w
fresh_first kept (v, fresh, (m, at, shows)) w (n, there, here) =
    let one : m ≡ n = one_machine kept 0 m n at there in
    let jobs : v.jobs ≡ w.jobs = shows.jobs ∙ (ap (λ (x : MachineState). x.jobs) one ∙ sym here.jobs) in
    record {
      store = here.sound;
      waits = λ j task is. fresh.waits j task (ap (λ (ts : List Task). slice_get ts j) jobs ∙ is);
    }

-- ---- a schedule that is tried, and uses no budget up
pub record Agrees (kept : List MachineState) (by : List (ℕ × ℕ)) (place : ℕ) (w : World) : Type 0 where
  pub z : World
  pub runs : RunsSchedule w (unrolled by) z
  pub none : NoneRanOut z.jobs
  pub jobs : List Task
  pub rich : AsRich z.jobs jobs
  pub shown : IsShownAt kept place (with_jobs z jobs)

pub agrees : FreeRunsAgree → (kept : List MachineState) (by : List (ℕ × ℕ)) (place : ℕ) (m : MachineState) → LeadsFreely kept 0
    (unrolled by) place → IsReplayed kept (unrolled by) m → NoneRanOut m.jobs → (w : World) → IsFresh w → IsFirst kept w → Agrees kept by place w
agrees agree kept by place m leads tried none w fresh first =
    let r = tried w first in
    let z = r.0 in
    let none_there = subst NoneRanOut (sym r.2.jobs) none in
    let f = leads w first in
    let y = f.0 in
    let a = agree w z y (unrolled by) fresh r.1 none_there f.1 in
    record {
      z = z;
      runs = r.1;
      none = none_there;
      jobs = y.jobs;
      rich = a.0;
      shown = subst (IsShownAt kept place) (sym a.1) f.2;
    }

-- no job of the kept machine has ended out of budget then
pub none_out_there : FreeRunsAgree → (kept : List MachineState) (by : List (ℕ × ℕ)) (place : ℕ) (m : MachineState) → StartsFresh kept →
    LeadsFreely kept 0 (unrolled by) place → IsReplayed kept (unrolled by) m → NoneRanOut m.jobs → NoneRanOutAt kept place
none_out_there agree kept by place m (w, fresh, first) leads tried none other at =
    let a = agrees agree kept by place m leads tried none w fresh first in
    let one : a.shown.0 ≡ other = one_machine kept place a.shown.0 other a.shown.1 at in
    let jobs : a.jobs ≡ other.jobs = a.shown.2.jobs ∙ ap (λ (x : MachineState). x.jobs) one in
    subst NoneRanOut jobs (none_richer a.z.jobs a.jobs a.rich a.none)

-- and it is the very machine, where that has no work
pub leads_there : FreeRunsAgree → (kept : List MachineState) (by : List (ℕ × ℕ)) (place : ℕ) (m : MachineState) → StartsFresh kept →
    HaveEndedAt kept place → LeadsFreely kept 0 (unrolled by) place → IsReplayed kept (unrolled by) m → NoneRanOut m.jobs → LeadsInBudget
    kept by place
leads_there agree kept by place m starts ended leads tried none w first =
    let a = agrees agree kept by place m leads tried none w (fresh_first kept starts w first) first in
    let all : HaveEnded a.jobs = subst HaveEnded (sym a.shown.2.jobs) (ended a.shown.0 a.shown.1) in
    let same : a.jobs ≡ a.z.jobs = same_ends a.z.jobs a.jobs a.rich all in
    (a.z, a.runs, a.none, subst (λ (jobs : List Task). IsShownAt kept place (with_jobs a.z jobs)) same a.shown)
