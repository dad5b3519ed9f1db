-- What is kept once, and found again by hashes.
use Rattle.std.specs.Prelude.{◌≢◌, ℕ, ◌<◌, List, length, slice_index_or}
use Rattle.bpf_plain.specs.PlainStore.{Contents, IsSavedAs}
use Rattle.bpf_cpu.specs.Task.{Task}
use Rattle.bpf_machine.specs.Hashes.{task_hash}
use Rattle.bpf_machine.specs.Parts.{no_task}
use Rattle.bpf_explore.specs.Stores.{no_store}
use Rattle.bpf_explore.specs.Tuples.{TupleList, tuple_at}
use Rattle.bpf_explore.specs.Private.Slots.{hash_of, IsPut}

-- ---- tuples
-- no tuple is kept twice
abbrev pub AreTuplesApart : TupleList → Type 0
AreTuplesApart t = (i j : ℕ) → i < j → j < t.count → tuple_at t i ≢ tuple_at t j

-- ---- jobs
abbrev pub part_at : List Task → ℕ → Task
part_at parts n = slice_index_or parts n no_task

-- no job is kept twice
abbrev pub ArePartsApart : List Task → Type 0
ArePartsApart parts = (i j : ℕ) → i < j → j < length parts → part_at parts i ≢ part_at parts j

abbrev pub ArePartsPut : List Task → List ℕ → ℕ → Type 0
ArePartsPut parts slots n = (i : ℕ) → i < n → IsPut slots (task_hash (part_at parts i)) i

pub record HoldsParts (parts : List Task) (slots : List ℕ) : Type 0 where
  pub put : ArePartsPut parts slots (length parts)
  pub apart : ArePartsApart parts

-- ---- stores
abbrev pub store_at : List Contents → ℕ → Contents
store_at stores n = slice_index_or stores n no_store

-- no two stores are saved as the same bytes
abbrev pub AreStoresApart : List Contents → Type 0
AreStoresApart stores = (i j : ℕ) (bytes : List ℕ) → i < j → j < length stores
    → IsSavedAs (store_at stores i) bytes → IsSavedAs (store_at stores j) bytes → ⊥

abbrev pub AreStoresPut : List Contents → List ℕ → ℕ → Type 0
AreStoresPut stores slots n = (i : ℕ) (bytes : List ℕ) → i < n
    → IsSavedAs (store_at stores i) bytes → IsPut slots (hash_of bytes) i

pub record HoldsStores (stores : List Contents) (slots : List ℕ) : Type 0 where
  pub put : AreStoresPut stores slots (length stores)
  pub apart : AreStoresApart stores
  pub saved : (i : ℕ) → i < length stores → (bytes : List ℕ) × IsSavedAs (store_at stores i) bytes
