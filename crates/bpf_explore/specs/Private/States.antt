-- Machines that are kept as others which are alike.
use Rattle.std.specs.Prelude.{◌≡◌, ◌<◌, ℕ, All, List, Some, drop, fold, length, slice_get, slice_index_or}
use Rattle.bpf_loader.specs.Loaded.{Loaded}
use Rattle.bpf_cpu.specs.Task.{Task}
use Rattle.bpf_live.specs.Live.{Table}
use Rattle.bpf_alike.specs.Worlds.{AllAlike, AreLiveTables, IsAlike, table_at}
use Rattle.bpf_machine.specs.Hashes.{mix}
use Rattle.bpf_machine.specs.Parts.{chosen, no_task}
use Rattle.bpf_explore.specs.Tuples.{TupleList, tuple_at}
use Rattle.bpf_explore.specs.Private.Kept.{AreTuplesApart}
use Rattle.bpf_explore.specs.Private.Slots.{IsPut}

-- the program of each of the jobs is there
abbrev pub AreLoaded : List Loaded → List Task → Type 0
AreLoaded programs jobs = (j : ℕ) (task : Task) → slice_get jobs j ≡ Some task
    → (program : Loaded) × (slice_get programs task.program ≡ Some program)

-- the job of the one number is alike that of the other, where the tables are right for the programs, and
-- its own is there
abbrev pub IsLikePart : List Table → List Task → ℕ → ℕ → Type 0
IsLikePart tables parts number other =
    (programs : List Loaded) (program : Loaded) → AreLiveTables programs (table_at tables)
    → slice_get programs (slice_index_or parts number no_task).program ≡ Some program
    → IsAlike programs (slice_index_or parts number no_task) (slice_index_or parts other no_task)

-- the jobs of the ones of these numbers are alike those of the others, where the tables are right for
-- their programs
abbrev pub AreAlikeBy : List Table → List Task → List ℕ → List ℕ → Type 0
AreAlikeBy tables parts numbers others =
    (programs : List Loaded) → AreLiveTables programs (table_at tables)
    → AreLoaded programs (chosen parts numbers)
    → AllAlike programs (chosen parts numbers) (chosen parts others)

-- of each tuple the numbers after the first are those of jobs that are there
abbrev pub AreOfParts : List Task → TupleList → Type 0
AreOfParts parts states = (i : ℕ) → i < states.count
    → All (λ n. n < length parts) (drop 1 (tuple_at states i))

-- the machines of these numbers have the same store, and jobs that are alike
abbrev pub IsAlikeTuple : List Table → List Task → List ℕ → List ℕ → Type 0
IsAlikeTuple tables parts numbers tuple =
    (slice_index_or tuple 0 0 ≡ slice_index_or numbers 0 0)
    × AreAlikeBy tables parts (drop 1 numbers) (drop 1 tuple)

-- ---- states that are kept
-- each state as numbers, the registers that are compared, by program, and a hash of each kept job
pub record StateList : Type 0 where
  pub tuples : TupleList
  pub tables : List Table
  pub hashes : List ℕ

-- where a state is looked for: its store counts by its number, and a job by its hash
abbrev pub state_hash : List ℕ → List ℕ → ℕ
state_hash hashes numbers = fold (λ hash n. mix hash (slice_index_or hashes n 0))
    (mix 0 (slice_index_or numbers 0 0)) (drop 1 numbers)

-- the first n of them are found
abbrev pub AreStatesPut : TupleList → List ℕ → List ℕ → ℕ → Type 0
AreStatesPut t hashes slots n = (i : ℕ) → i < n → IsPut slots (state_hash hashes (tuple_at t i)) i

-- each is found, by the hashes of jobs that are known, and none is kept twice
pub record HoldsStates (t : TupleList) (hashes slots : List ℕ) : Type 0 where
  pub learned : (i : ℕ) → i < t.count → All (λ n. n < length hashes) (drop 1 (tuple_at t i))
  pub put : AreStatesPut t hashes slots t.count
  pub apart : AreTuplesApart t
