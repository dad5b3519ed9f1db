-- States of a machine as they are kept: each store, each job and each list of buffers once, and of
-- each state their numbers.
use Rattle.std.specs.Prelude.{◌≡◌, ℕ, ◌<◌, ◌⊎◌, All, List, [], ◌∷◌, ◌++◌, Option, Some, None, IfSome, length, slice_get, slice_index_or}
use Rattle.bpf_shared.specs.Shape.{without_arrays}
use Rattle.bpf_plain.specs.PlainStore.{Contents}
use Rattle.bpf_plain.specs.Alike.{IsSameShape}
use Rattle.bpf_loader.specs.Loaded.{Loaded}
use Rattle.bpf_cpu.specs.Task.{Task}
use Rattle.bpf_machine.specs.Parts.{IsSameHost, chosen}
use Rattle.bpf_x86.specs.Machine.{X86}
use Rattle.bpf_buffering.specs.declared.waiting.Stored.{Stored}
use Rattle.bpf_buffering.specs.declared.pools.Pools.{Pools}
use Rattle.bpf_buffering.specs.Search.{BufferedState, ShowsX86}
pub use Rattle.bpf_buffering.specs.Buffering.{IsBoard, state_with}

-- ---- states of parts
-- a store that no number has
abbrev pub no_store : Contents
no_store = record {
  shape = without_arrays 0 [];
  maps = record { runs = []; tables = [] };
  arrays = [];
}

-- the state, with another store
abbrev pub with_store : BufferedState → Contents → BufferedState
with_store m store = record {
  machine = record {
    store = store;
    programs = m.machine.programs;
    jobs = m.machine.jobs;
    lists = m.machine.lists;
  };
  buffers = m.buffers;
}

-- the second shows all that the first shows
abbrev pub ShowsAsMuch : BufferedState → BufferedState → Type 0
ShowsAsMuch old new = (x : X86) → ShowsX86 old x → ShowsX86 new x

-- ---- numbers
-- a state: the numbers of its store, of its buffers, and of each job
pub record Numbers : Type 0 where
  pub store : ℕ
  pub buffers : ℕ
  pub jobs : List ℕ

abbrev pub store_of : Pools → Numbers → Contents
store_of p k = slice_index_or p.stores k.store no_store

abbrev pub jobs_of : Pools → Numbers → List Task
jobs_of p k = chosen p.jobs k.jobs

abbrev pub buffers_of : Pools → Numbers → List (List Stored)
buffers_of p k = slice_index_or p.buffers k.buffers []

-- the state of these numbers, of a machine with these programs
abbrev pub kept_state : Pools → List Loaded → Numbers → BufferedState
kept_state p programs k = state_with (store_of p k) programs (jobs_of p k) (buffers_of p k)

-- jobs have these numbers
pub record AreNumbersOf (tasks : List Task) (numbers : List ℕ) (jobs : List Task) : Type 0 where
  pub within : All (λ n. n < length tasks) numbers
  pub are : chosen tasks numbers ≡ jobs

-- there is what these numbers are of
pub record AreWithin (p : Pools) (k : Numbers) : Type 0 where
  pub store : k.store < length p.stores
  pub buffers : k.buffers < length p.buffers
  pub jobs : All (λ n. n < length p.jobs) k.jobs

-- a machine may take the state of these numbers
pub record FitsHost (m : BufferedState) (p : Pools) (k : Numbers) : Type 0 where
  pub within : AreWithin p k
  pub host : IsSameHost m.machine (kept_state p m.machine.programs k).machine
  pub board : IsBoard (store_of p k) m.machine.programs (jobs_of p k) (buffers_of p k)

-- the machine is the state of these numbers
pub record IsPooled (p : Pools) (m : BufferedState) (k : Numbers) : Type 0 where
  pub fits : FitsHost m p k
  pub is : kept_state p m.machine.programs k ≡ m

-- what was there stays, and a store that is new is this one
pub record AddsTo (store : Contents) (p q : Pools) : Type 0 where
  pub stores : (q.stores ≡ p.stores) ⊎ (q.stores ≡ p.stores ++ store ∷ [])
  pub jobs : (more : List Task) × (q.jobs ≡ p.jobs ++ more)
  pub buffers : (more : List (List (List Stored))) × (q.buffers ≡ p.buffers ++ more)

-- a machine, and states that it may take; the number is that of its store
pub record IsAlbum (m : BufferedState) (p : Pools) (kept : List Numbers) (number : Option ℕ) : Type 0 where
  pub fits : All (FitsHost m p) kept
  pub shapes : All (IsSameShape m.machine.store) p.stores
  pub known : IfSome number (λ n. slice_get p.stores n ≡ Some m.machine.store)
