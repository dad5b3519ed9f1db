-- From what a CPU does over one kind of state to what it does over another, and to what explains its jobs.
use Rattle.std.proofs.Common.{◌≡◌, ℕ, List, [], ◌∷◌, ◌++◌, inl, inr, refl, ap, sym, subst, ◌∙◌, append_assoc, length, map, arith}
use Rattle.bpf_shared.specs.Shape.{Shape}
use Rattle.std.proofs.lemmas.List.{append-nil}
use Rattle.bpf_shared.specs.declared.events.Event.{Event}
use Rattle.bpf_loader.specs.Loaded.{Loaded}
use Rattle.bpf_cpu.specs.declared.cpu.Cpu.{Cpu}
use Rattle.bpf_cpu.specs.declared.outcome.Outcome.{Outcome}
use Rattle.bpf_cpu.specs.Step.{Explains}
use Rattle.bpf_cpu.specs.Task.{Task}
use Rattle.bpf_sched.specs.declared.assignment.Assignment.{Assignment}
use Rattle.bpf_sched.specs.Explained.{IsWorn, ExplainsJobs, keys_events}
use Rattle.bpf_sched.specs.Working.{RunsAll, RunsAndLists, assigned, outcome_of}
use Rattle.bpf_sched.specs.Worked.{extends}

-- where one reason for F6 is another
explains_for : (worn known : Type 0) → (worn → known) → (shape : Shape) (program : Loaded) (budget : ℕ) (start : Cpu) (events : List Event) (end : Outcome)
    → Explains worn shape program budget start events end → Explains known shape program budget start events end
explains_for worn known f shape program budget start events end (inl e) = inl e
explains_for worn known f shape program budget start events end (inr (none_made, ends, w)) = inr (none_made, ends, f w)

module _ {T U : Type 0} (is : T → Type 0) (seen_as : T → U) (moves : T → T → List Event → Type 0) (worn : T → Type 0)
    (goes : U → U → List Event → Type 0) (spent : U → Type 0)
    (on : (x y : T) (es : List Event) → is x → moves x y es → is y × goes (seen_as x) (seen_as y) es) (ends : (x : T) → is x → worn x → spent (seen_as x))
    (shape : Shape) (programs : List Loaded) where
  pub carried : (x y : T) (olds news : List Assignment) (events : List Event) → is x → RunsAll moves worn shape programs x olds news events y
      → is y × RunsAll goes spent shape programs (seen_as x) olds news events (seen_as y)
  carried x y [] [] events i (none_made, same) = (subst is (sym same) i, (none_made, ap seen_as same))
  carried x y [] (n ∷ news) events i all = absurd all
  carried x y (o ∷ olds) [] events i all = absurd all
  carried x y (o ∷ olds) (n ∷ news) events i (z, mine, rest, cut, run, all) =
      let one = on x z mine i run.way in
      let others = carried z y olds news rest one.0 all in (
        others.0,
        (
          seen_as z,
          mine,
          rest,
          cut,
          record {
            program = run.program;
            listed = run.listed;
            way = one.1;
            explained = explains_for (worn x) (spent (seen_as x)) (ends x i) shape run.program o.budget o.cpu mine n.outcome run.explained;
          },
          others.1,
        ),
      )

  -- and then its lists
  pub carried_lists : (x y : T) (olds news : List Assignment) (lists : List (List (List ℕ))) (events : List Event) → is x → RunsAndLists
      moves worn shape programs x olds news lists events y
      → is y × RunsAndLists goes spent shape programs (seen_as x) olds news lists events (seen_as y)
  carried_lists x y olds news lists events i all =
      let ran = carried x all.last olds news all.ran i all.runs in
      let told = on all.last y (keys_events 0 lists) ran.0 all.way in
      (told.0, record { ran = all.ran; cut = all.cut; last = seen_as all.last; runs = ran.1; way = told.1 })

-- what a CPU did with its jobs explains how they ended, and other events may come after
pub explains_jobs : (shape : Shape) (count : ℕ) (programs : List Loaded) (before after : List Event) (tasks : List Task)
    (news : List Assignment) (events last : List Event)
    → RunsAll extends (IsWorn count) shape programs before (map assigned tasks) news events after
    → ExplainsJobs shape count programs before tasks (map outcome_of news) last (events ++ last)
explains_jobs shape count programs before after [] [] events last all = ap (λ (l : List Event). l ++ last) all.0
explains_jobs shape count programs before after [] (n ∷ news) events last all = absurd all
explains_jobs shape count programs before after (t ∷ tasks) [] events last all = absurd all
explains_jobs shape count programs before after (t ∷ tasks) (n ∷ news) events last (z, mine, rest, cut, run, all) = (
  mine,
  rest ++ last,
  ap (λ (l : List Event). l ++ last) cut ∙ append_assoc mine rest last,
  record { program = run.program; listed = run.listed; explained = run.explained },
  explains_jobs shape count programs (before ++ mine) after tasks news rest last
      (subst (λ (x : List Event). RunsAll extends (IsWorn count) shape programs x (map assigned tasks) news rest after) run.way all),
)

-- it ran as many as it was given
pub ran_all : {T : Type 0} (moves : T → T → List Event → Type 0) (worn : T → Type 0) (shape : Shape) (programs : List Loaded) (x y : T)
    (olds news : List Assignment) (events : List Event)
    → RunsAll moves worn shape programs x olds news events y → length news ≡ length olds
ran_all moves worn shape programs x y [] [] events all = refl
ran_all moves worn shape programs x y [] (n ∷ news) events all = absurd all
ran_all moves worn shape programs x y (o ∷ olds) [] events all = absurd all
ran_all moves worn shape programs x y (o ∷ olds) (n ∷ news) events (z, mine, rest, cut, run, all) = omega
    (arith, ran_all moves worn shape programs z y olds news rest all)

-- all of its events are after those that it had before
pub all_behind : (worn : List Event → Type 0) (shape : Shape) (programs : List Loaded) (before after : List Event)
    (olds news : List Assignment) (events : List Event)
    → RunsAll extends worn shape programs before olds news events after → extends before after events
all_behind worn shape programs before after [] [] events all = all.1 ∙ (sym (append-nil before) ∙ ap (λ (l : List Event). before ++ l) (sym all.0))
all_behind worn shape programs before after [] (n ∷ news) events all = absurd all
all_behind worn shape programs before after (o ∷ olds) [] events all = absurd all
all_behind worn shape programs before after (o ∷ olds) (n ∷ news) events (z, mine, rest, cut, run, all) =
    all_behind worn shape programs z after olds news rest all
    ∙ (ap (λ (l : List Event). l ++ rest) run.way ∙ (append_assoc before mine rest ∙ ap (λ (l : List Event). before ++ l) (sym cut)))

pub lists_behind : (worn : List Event → Type 0) (shape : Shape) (programs : List Loaded) (before after : List Event)
    (olds news : List Assignment) (lists : List (List (List ℕ))) (events : List Event)
    → RunsAndLists extends worn shape programs before olds news lists events after → extends before after events
lists_behind worn shape programs before after olds news lists events all =
    all.way
    ∙ (ap (λ (l : List Event). l ++ keys_events 0 lists) (all_behind worn shape programs before all.last olds news all.ran all.runs)
    ∙ (append_assoc before all.ran (keys_events 0 lists) ∙ ap (λ (l : List Event). before ++ l) (sym all.cut)))

pub explains_lists : (shape : Shape) (count : ℕ) (programs : List Loaded) (before after : List Event) (tasks : List Task)
    (news : List Assignment) (lists : List (List (List ℕ))) (events : List Event)
    → RunsAndLists extends (IsWorn count) shape programs before (map assigned tasks) news lists events after
    → ExplainsJobs shape count programs before tasks (map outcome_of news) (keys_events 0 lists) events
explains_lists shape count programs before after tasks news lists events all =
    subst (λ (l : List Event). ExplainsJobs shape count programs before tasks (map outcome_of news) (keys_events 0 lists) l) (sym all.cut)
    (explains_jobs shape count programs before all.last tasks news all.ran (keys_events 0 lists) all.runs)
