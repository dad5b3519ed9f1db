-- A turn of a CPU, from the step that it is about to make.
use Rattle.std.proofs.Common.{◌≡◌, ◌≢◌, ℕ, zero, suc, List, [], ◌∷◌, Some, None, ◌⊎◌, inl, inr, refl, sym, ap, subst, ◌∙◌}
use Rattle.std.specs.Prelude.{slice_get}
use Rattle.bpf_shared.specs.declared.events.Event.TheVariants.{End}
use Rattle.bpf_shared.specs.Store.{Plain, put}
use Rattle.bpf_shared.specs.Choice.{PlainlyAllowed}
use Rattle.bpf_shared.proofs.Puts.{equal_or_not}
use Rattle.bpf_loader.specs.Loaded.{Loaded}
use Rattle.bpf_cpu.specs.declared.cpu.Cpu.{Cpu}
use Rattle.bpf_cpu.specs.declared.input.Input.{Input}
use Rattle.bpf_cpu.specs.declared.outcome.Outcome.{Outcome}
use Rattle.bpf_cpu.specs.State.{start}
use Rattle.bpf_cpu.specs.Task.{Stage, Task, Waiting, InHand, Ended}
use Rattle.bpf_machine.specs.declared.machine.Turn.{Turn}
use Rattle.bpf_machine.specs.declared.machine.Turn.TheVariants as turn
use Rattle.bpf_machine.specs.Hands.{NoneWaits, SomeWaits, with_stage}
use Rattle.bpf_machine.specs.Listings.{listed_now}
use Rattle.bpf_machine.specs.Schedule.{World, Advances, Lists, GoesOn, TakesTurn}
use Rattle.bpf_machine.proofs.ListLaws.{lists_jobs, lists_store, lists_programs, with_end}
use Rattle.bpf_agreement.specs.Steps.{IsNextStep}

-- ---- whether some job waits
waits_later : (t : Task) (ts : List Task) (c : ℕ) → SomeWaits ts c → SomeWaits (t ∷ ts) c
waits_later t ts c (j, task, input, at) = (suc j, task, input, record { listed = at.listed; of = at.of; at = at.at })

none_more : (t : Task) (ts : List Task) (c : ℕ) → NoneWaits ts c → ((input : Input) → t.cpu ≡ c → t.stage ≡ Waiting input → ⊥) → NoneWaits (t ∷ ts) c
none_more t ts c none not zero task input at =
    let same : t ≡ task = (let both : Some t ≡ Some task = at.listed in cc) in
    not input (ap (λ (x : Task). x.cpu) same ∙ at.of) (ap (λ (x : Task). x.stage) same ∙ at.at)
none_more t ts c none not (suc j) task input at = none j task input (record { listed = at.listed; of = at.of; at = at.at })

first_waits : (t : Task) (ts : List Task) (c : ℕ) → NoneWaits ts c → (stage : Stage) → t.stage ≡ stage → (t.cpu ≡ c) ⊎ (t.cpu ≢ c) →
    SomeWaits (t ∷ ts) c ⊎ NoneWaits (t ∷ ts) c
first_waits t ts c none (Waiting input) is (inl of) = inl (zero, t, input, record { listed = refl; of = of; at = is })
first_waits t ts c none (InHand state left) is
    of = inr (none_more t ts c none (λ input e waits. let no : InHand state left ≡ Waiting input = sym is ∙ waits in cc))
first_waits t ts c none (Ended end) is of = inr (none_more t ts c none (λ input e waits. let no : Ended end ≡ Waiting input = sym is ∙ waits in cc))
first_waits t ts c none stage is (inr ne) = inr (none_more t ts c none (λ input e waits. ne e))

some_or_none : (jobs : List Task) (c : ℕ) → SomeWaits jobs c ⊎ NoneWaits jobs c
some_or_none [] c = inr (λ j task input at. let no : None ≡ Some task = at.listed in cc)
some_or_none (t ∷ ts) c = elim (some_or_none ts c) [
  | inl some ↦ inl (waits_later t ts c some)
  | inr none ↦ first_waits t ts c none t.stage refl (equal_or_not t.cpu c)
]

-- a CPU whose job has ended lists, or not
lists_there : (w : World) (c : ℕ) → (z : World) × Lists w c z
lists_there w c = elim (some_or_none w.jobs c) [
  | inl some ↦ (w, inl (some, refl))
  | inr none ↦ (record w { lists = put w.lists c (listed_now w.store (w.lists c)) }, inr (none, refl))
]

-- ---- turns
goes_takes : (w z : World) (c j : ℕ) (task : Task) (state : Cpu) (left : ℕ) (s : Plain) (answer : Turn) → IsNextStep w c j task state left s
    → GoesOn (record w { store = s }) c j task state left answer z → TakesTurn w c answer z
goes_takes w z c j task state left s answer (inl (at, same)) goes = inl
    (j, task, state, left, at, subst (λ (x : Plain). GoesOn (record w { store = x }) c j task state left answer z) same goes)
goes_takes w z c j task state left s answer (inr b) goes =
    let G : Cpu → ℕ → Type 0 = λ from n. GoesOn (record w { store = s }) c j task from n answer z in
    inr (inl (
      b.free,
      (
        j,
        task,
        b.input,
        s,
        b.at,
        b.lowest,
        b.begun,
        subst (λ (n : ℕ). G (start c b.input) n) b.budget
            (subst (λ (from : Cpu). G from left) b.fresh goes),
      ),
    ))

-- a turn that leaves the job in this stage, and this store
pub record Turns (w : World) (c j : ℕ) (task : Task) (stage : Stage) (s : Plain) : Type 0 where
  pub next : World
  pub answer : Turn
  pub takes : TakesTurn w c answer next
  pub store : next.store ≡ s
  pub jobs : next.jobs ≡ with_stage w.jobs j task stage
  pub programs : next.programs ≡ w.programs

pub goes_on : (w : World) (c j : ℕ) (task : Task) (state new : Cpu) (left rest : ℕ) (program : Loaded) (s t : Plain) → IsNextStep w c j task state left s
    → slice_get w.programs task.program ≡ Some program → Advances program c s state left None t new rest → Turns w c j task (InHand new rest) t
goes_on w c j task state new left rest program s t is loaded advances =
    let z : World = record w { store = t; jobs = with_stage w.jobs j task (InHand new rest) } in
    record {
      next = z;
      answer = turn.Ran;
      takes = goes_takes w z c j task state left s turn.Ran is (program, None, t, new, rest, loaded, advances, (refl, refl));
      store = refl;
      jobs = refl;
      programs = refl;
    }

pub goes_out : (w : World) (c j : ℕ) (task : Task) (state new : Cpu) (left rest : ℕ) (program : Loaded) (end : Outcome) (s t u : Plain) →
    IsNextStep w c j task state left s
    → slice_get w.programs task.program ≡ Some program → Advances program c s state left (Some end) t new rest → PlainlyAllowed t c End u →
    Turns w c j task (Ended end) u
goes_out w c j task state new left rest program end s t u is loaded advances ends =
    let y : World = with_end w j task end u in
    let l = lists_there y c in
    record {
      next = l.0;
      answer = turn.Ended j end;
      takes = goes_takes w l.0 c j task state left s (turn.Ended j end) is (program, Some end, t, new, rest, loaded, advances, (u, ends, refl, l.1));
      store = lists_store y c l.0 l.1;
      jobs = lists_jobs y c l.0 l.1;
      programs = lists_programs y c l.0 l.1;
    }
