-- What a history of a store explains, turns lead to.
use Rattle.std.specs.Prelude.{◌≡◌, ℕ, ◌<◌, ◌^◌, false, List, [], length}
use Rattle.bpf_shared.specs.declared.events.Entry.{Entry}
use Rattle.bpf_shared.specs.Shape.{Shape, IsShape}
use Rattle.bpf_shared.specs.Store.{Plain, as_made}
use Rattle.bpf_shared.specs.History.{Legal}
use Rattle.bpf_loader.specs.Loaded.{Loaded}
use Rattle.bpf_cpu.specs.declared.outcome.Outcome.{Outcome}
use Rattle.bpf_cpu.specs.Task.{Task}
use Rattle.bpf_machine.specs.Schedule.{World}
use Rattle.bpf_machine.specs.Laws.{IsFresh}
use Rattle.bpf_sched.specs.Explained.{IsExplained}
use Rattle.bpf_agreement.specs.Arrays.{HasArraysAlone}
use Rattle.bpf_agreement.specs.Calm.{StepsAreCalm}
use Rattle.bpf_agreement.specs.Ends.{LeadsToo}

-- a machine of these programs and jobs before the first turn, over a store as made
pub record IsFirst (h : Shape) (loaded : List Loaded) (tasks : List Task) (w : World) : Type 0
  where
    pub store : w.store ≡ as_made h
    pub programs : w.programs ≡ loaded
    pub jobs : w.jobs ≡ tasks

-- where there are arrays alone, and each call is one event, or one CPU has all jobs: the ends that a
-- history without lists of keys explains, and the store that it leads to, are those of some schedule
abbrev pub HistoriesAreSchedules : Type 0
HistoriesAreSchedules =
    (h : Shape) (programs : List Loaded) (tasks : List Task) (ends : List Outcome)
    (lists : ℕ → List (List (List ℕ))) (history : List Entry) (last : Plain) (w : World)
    → HasArraysAlone h programs tasks → IsFirst h programs tasks w
    → IsExplained h 0 [] programs tasks false ends lists history → Legal (as_made h) history last
    → LeadsToo w tasks ends last

-- the same, with hash maps or without, where each step that turns reach is one event at most, and none
-- asks for a change of a hash map
abbrev pub CalmHistoriesAreSchedules : Type 0
CalmHistoriesAreSchedules =
    (h : Shape) (programs : List Loaded) (tasks : List Task) (ends : List Outcome)
    (lists : ℕ → List (List (List ℕ))) (history : List Entry) (last : Plain) (w : World)
    → IsShape h → length tasks < 2 ^ 62 → IsFirst h programs tasks w → IsFresh w → StepsAreCalm w
    → IsExplained h 0 [] programs tasks false ends lists history → Legal (as_made h) history last
    → LeadsToo w tasks ends last
