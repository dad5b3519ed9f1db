-- Workers: what each has before it works and after it.
use Rattle.std.specs.Prelude.{◌≡◌, ℕ, ◌<◌, Bool, false, List, [], ◌++◌, Option, Some, None, All, Vec, length, map, slice_get, slice_index_or}
use Rattle.std.specs.declared.alloc.Global.{Global}
use Rattle.bpf_shared.specs.declared.shapes.MapShape.{MapShape}
use Rattle.bpf_shared.specs.KeyOrder.{Listed}
use Rattle.bpf_shared.specs.declared.events.Event.{Event}
use Rattle.bpf_shared.specs.declared.events.Entry.{Entry}
use Rattle.bpf_loader.specs.Loaded.{Loaded}
use Rattle.bpf_cpu.specs.Task.{Task}
use Rattle.hop_words.specs.Inside.{Shown}
use Rattle.hop_map.specs.Port.{Port, IsPortOf, own_events, runs}
use Rattle.hop_map.specs.Noting.{CallsNote}
use Rattle.bpf_sched.specs.declared.worker.Worker.{Worker}
use Rattle.bpf_sched.specs.Explained.{IsWorn, jobs_of, listed_maps}
use Rattle.bpf_sched.specs.Working.{AreListsFor, IsNew, RunsAndLists, assigned}

-- the worker has the CPU's jobs, none of which was run, and lists for the maps that it is to list
pub record IsFor (keys : Bool) (maps : List MapShape) (tasks : List Task) (cpu : ℕ) (w : Worker)
    : Type 0 where
  pub number : w.workload.cpu ≡ cpu
  pub jobs : w.workload.jobs.items ≡ map assigned (jobs_of cpu tasks)
  pub lists : map (λ list. list.shape) w.workload.lists.items
      ≡ listed_maps keys maps (jobs_of cpu tasks)

-- so have these, each of the first n CPUs
pub record AreFor (keys : Bool) (maps : List MapShape) (tasks : List Task) (cpus : ℕ)
    (workers : List Worker) : Type 0 where
  pub size : length workers ≡ cpus
  pub each : (c : ℕ) (d : Worker) → c < cpus
      → IsFor keys maps tasks c (slice_index_or workers c d)

-- the worker has the port of its CPU, which is in no run, and jobs of n programs
pub record IsReadyWorker (t : Shown) (programs : ℕ) (w : Worker) : Type 0 where
  pub port : Port
  pub has : w.port ≡ Some port
  pub fits : IsPortOf t port
  pub idle : runs port ≡ false
  pub cpu : port.known.cpu ≡ w.workload.cpu
  pub new : All (IsNew w.workload.cpu programs) w.workload.jobs.items
  pub lists : AreListsFor t.about.shape.maps w.workload.lists.items

-- a CPU's events before, with these, are its events after
abbrev pub extends : List Event → List Event → List Event → Type 0
extends before after events = after ≡ before ++ events

-- the worker has run its jobs in order and listed the maps that it has lists for, by these events
-- of its CPU; at each of them the CPU noted no more than it may: so a lookup took the lock only after
-- eight disturbed readings of its own
pub record Worked (t : Shown) (programs : List Loaded) (w v : Worker) : Type 0 where
  pub before : Port
  pub after : Port
  pub was : w.port ≡ Some before
  pub is : v.port ≡ Some after
  pub fits : IsPortOf t after
  pub cpu : after.known.cpu ≡ before.known.cpu
  pub events : List Event
  pub more : extends (own_events before) (own_events after) events
  -- what the CPU has seen of the history goes on
  pub seen : (log : List Entry) × (after.known.seen ≡ before.known.seen ++ log)
  pub noted : CallsNote t.about events before.known after.known
  pub ran : RunsAndLists extends (IsWorn t.about.count) t.about.shape programs
      (own_events before) w.workload.jobs.items v.workload.jobs.items
      (map (λ list. list.keys) v.workload.lists.items) events (own_events after)
  pub same : map (λ list. list.shape) v.workload.lists.items
      ≡ map (λ list. list.shape) w.workload.lists.items

-- what lists hold
abbrev pub found_in : Option (Vec Listed Global) → List (List (List ℕ))
found_in None = []
found_in (Some lists) = map (λ list. list.keys) lists.items

-- what each CPU has listed, by map, where lists are printed by CPU
abbrev pub listed_by : List (Vec Listed Global) → ℕ → List (List (List ℕ))
listed_by lists c = found_in (slice_get lists c)
