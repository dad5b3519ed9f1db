-- What is kept once is found again, while more is kept.
use Rattle.std.proofs.Common.{◌≡◌, ◌∙◌, ℕ, ◌+◌, ◌*◌, ◌<◌, ◌≤◌, List, [], ◌∷◌, ◌++◌, Option, Some, inl, inr, length, take, drop, refl, sym}
use Rattle.std.proofs.Common.{ap, subst, length-append, arith}
use Rattle.std.specs.Prelude.{slice_index_or}
use Rattle.std.proofs.Math.ListN.{get_or-append}
use Rattle.std.proofs.Math.Seq.{drop-append_seam, get_or-append_seam}
use Rattle.std.proofs.lemmas.Bool.{cases_lt}
use Rattle.std.proofs.lemmas.List.{length-drop, take_all, take-append-le, drop-append-le}
use Rattle.std.proofs.lemmas.Option.{slice_get_read, get_or_from_slice_get}
use Rattle.bpf_plain.specs.PlainStore.{Contents, IsSavedAs}
use Rattle.bpf_hash.proofs.Blocks.{block_fits, suc-mul}
use Rattle.bpf_cpu.specs.Task.{Task}
use Rattle.bpf_machine.specs.Hashes.{task_hash}
use Rattle.bpf_machine.specs.Parts.{no_task}
use Rattle.bpf_explore.specs.Stores.{no_store}
use Rattle.bpf_explore.specs.Tuples.{TupleList, tuple_at, IsTuple, AreWhole, with_tuple}
use Rattle.bpf_explore.specs.Private.Slots.{hash_of, IsPut}
use Rattle.bpf_explore.specs.Private.Kept.{part_at, ArePartsPut, HoldsParts, store_at, AreStoresPut, HoldsStores}

-- no place is lost
abbrev pub StillPut : List ℕ → List ℕ → Type 0
StillPut slots new = (h n : ℕ) → IsPut slots h n → IsPut new h n

-- ---- tuples
pub tuple_still : (t : TupleList) (tuple : List ℕ) (i : ℕ) → AreWhole t → i < t.count → tuple_at (with_tuple t tuple) i ≡ tuple_at t i
tuple_still t tuple i whole less =
    let fits : i * t.width + t.width ≤ t.count * t.width = block_fits i t.count t.width less in
    let size = whole.1 in
    let first : i * t.width ≤ length t.numbers = omega arith in
    let left = length-drop (i * t.width) t.numbers in
    let room : t.width ≤ length (drop (i * t.width) t.numbers) = omega arith in
    ap (λ (ns : List ℕ). take t.width ns) (drop-append-le (i * t.width) t.numbers tuple first)
    ∙ take-append-le t.width (drop (i * t.width) t.numbers) tuple room

pub tuple_new : (t : TupleList) (tuple : List ℕ) → AreWhole t → length tuple ≡ t.width → tuple_at (with_tuple t tuple) t.count ≡ tuple
tuple_new t tuple whole size =
    ap (λ (n : ℕ). take t.width (drop n (t.numbers ++ tuple))) (sym whole.1)
    ∙ (ap (λ (ns : List ℕ). take t.width ns) (drop-append_seam t.numbers tuple) ∙ take_all t.width tuple (omega arith))

pub whole_new : (t : TupleList) (tuple : List ℕ) → AreWhole t → length tuple ≡ t.width → AreWhole (with_tuple t tuple)
whole_new t tuple whole size = (whole.0, length-append t.numbers tuple ∙ (let next = suc-mul t.count t.width in let old = whole.1 in omega arith))

-- the tuple that was added is there
pub added_tuple : (old : TupleList) (tuple : List ℕ) → AreWhole old → length tuple ≡ old.width → IsTuple (with_tuple old tuple) old.count tuple
added_tuple old tuple whole size = (omega arith, tuple_new old tuple whole size)

-- ---- jobs
pub read_part : (parts : List Task) (n : ℕ) (task : Task) → n < length parts → task ≡ slice_index_or parts n task → task ≡ part_at parts n
read_part parts n task inside read = sym (get_or_from_slice_get parts n task no_task (slice_get_read parts (length parts) n task refl inside read))

pub widened_parts : (parts : List Task) (slots new : List ℕ) (n : ℕ) → HoldsParts parts slots → length parts ≤ n → ArePartsPut parts new n →
    HoldsParts parts new
widened_parts parts slots new n is past all = record { put = λ i less. all i (omega arith); apart = is.apart }

pub more_parts_put : (parts : List Task) (slots new : List ℕ) (n : ℕ) → StillPut slots new → ArePartsPut parts slots n → IsPut new
    (task_hash (part_at parts n)) n → ArePartsPut parts new (n + 1)
more_parts_put parts slots new n still far here i less = elim (cases_lt i n) [
  | inl below ↦ still (task_hash (part_at parts i)) i (far i below)
  | inr past ↦ let e : n ≡ i = omega arith in subst (λ (k : ℕ). IsPut new (task_hash (part_at parts k)) k) e here
]

pub still_holds_parts : (parts : List Task) (slots new : List ℕ) → StillPut slots new → HoldsParts parts slots → HoldsParts parts new
still_holds_parts parts slots new still is = record { put = λ i less. still (task_hash (part_at parts i)) i (is.put i less); apart = is.apart }

module _ (parts : List Task) (task : Task) where
  pub part_still : (i : ℕ) → i < length parts → part_at (parts ++ task ∷ []) i ≡ part_at parts i
  part_still i less = get_or-append parts (task ∷ []) no_task i less

  pub part_new : part_at (parts ++ task ∷ []) (length parts) ≡ task
  part_new = get_or-append_seam parts task [] no_task

  pub one_more_part : (slots new : List ℕ) → StillPut slots new → HoldsParts parts slots →
      ((n : ℕ) → n < length parts → part_at parts n ≡ task → ⊥) → IsPut new (task_hash task) (length parts) → HoldsParts (parts ++ task ∷ []) new
  one_more_part slots new still is fresh here =
      let size = length-append parts (task ∷ []) in
      record {
        put = λ i less. elim (cases_lt i (length parts)) [
          | inl below ↦ subst (λ (x : Task). IsPut new (task_hash x) i) (sym (part_still i below)) (still (task_hash (part_at parts i)) i (is.put i below))
          | inr past ↦
              let e : length parts ≡ i = omega arith in
              subst (λ (k : ℕ). IsPut new (task_hash (part_at (parts ++ task ∷ []) k)) k) e
              (subst (λ (x : Task). IsPut new (task_hash x) (length parts)) (sym part_new) here)
        ];
        apart = λ i j less inside same. elim (cases_lt j (length parts)) [
          | inl below ↦
              let lower : i < length parts = omega arith in
              is.apart i j less below (sym (part_still i lower) ∙ (same ∙ part_still j below))
          | inr past ↦
              let e : j ≡ length parts = omega arith in
              let lower : i < length parts = omega arith in
              fresh i lower (sym (part_still i lower) ∙ (same ∙ (ap (part_at (parts ++ task ∷ [])) e ∙ part_new)))
        ];
      }

-- the job is the kept one of this number
abbrev pub IsPartOf : List Task → Option Task → ℕ → Type 0
IsPartOf parts o n = (n < length parts) × (o ≡ Some (part_at parts n))

pub part_put : (parts : List Task) (slots : List ℕ) (o : Option Task) (n hash : ℕ) → HoldsParts parts slots →
    ((task : Task) → o ≡ Some task → hash ≡ task_hash task) → IsPartOf parts o n → IsPut slots hash n
part_put parts slots o n hash is hashed there = subst (λ (h : ℕ). IsPut slots h n) (sym (hashed (part_at parts n) there.1)) (is.put n there.0)

-- ---- stores
pub read_store : (stores : List Contents) (n : ℕ) (store : Contents) → n < length stores → store ≡ slice_index_or stores n store → store ≡ store_at stores n
read_store stores n store inside read = sym (get_or_from_slice_get stores n store no_store (slice_get_read stores (length stores) n store refl inside read))

pub widened_stores : (stores : List Contents) (slots new : List ℕ) (n : ℕ) → HoldsStores stores slots → length stores ≤ n → AreStoresPut
    stores new n → HoldsStores stores new
widened_stores stores slots new n is past all = record { put = λ i bytes less. all i bytes (omega arith); apart = is.apart; saved = is.saved }

-- a store is saved as the same bytes each time
pub one_saved : (p : Contents) (bytes others : List ℕ) → IsSavedAs p bytes → IsSavedAs p others → bytes ≡ others
one_saved p bytes others a b = a.1 ∙ sym b.1

-- the store of this number is saved as these bytes
abbrev pub IsStoreOf : List Contents → List ℕ → ℕ → Type 0
IsStoreOf stores bytes n = (n < length stores) × IsSavedAs (store_at stores n) bytes

pub store_put : (stores : List Contents) (slots bytes : List ℕ) (n hash : ℕ) → HoldsStores stores slots → hash ≡ hash_of bytes → IsStoreOf
    stores bytes n → IsPut slots hash n
store_put stores slots bytes n hash is hashed there = subst (λ (h : ℕ). IsPut slots h n) (sym hashed) (is.put n bytes there.0 there.1)

pub more_stores_put : (stores : List Contents) (slots new : List ℕ) (n : ℕ) → StillPut slots new → AreStoresPut stores slots n →
    ((bytes : List ℕ) → IsSavedAs (store_at stores n) bytes → IsPut new (hash_of bytes) n) → AreStoresPut stores new (n + 1)
more_stores_put stores slots new n still far here i bytes less saved = elim (cases_lt i n) [
  | inl below ↦ still (hash_of bytes) i (far i bytes below saved)
  | inr past ↦
      let e : i ≡ n = omega arith in
      subst (IsPut new (hash_of bytes)) (sym e) (here bytes (subst (λ (k : ℕ). IsSavedAs (store_at stores k) bytes) e saved))
]

pub still_holds_stores : (stores : List Contents) (slots new : List ℕ) → StillPut slots new → HoldsStores stores slots → HoldsStores stores new
still_holds_stores stores slots new still is = record {
  put = λ i bytes less saved. still (hash_of bytes) i (is.put i bytes less saved);
  apart = is.apart;
  saved = is.saved;
}

module _ (stores : List Contents) (store : Contents) where
  pub store_still : (i : ℕ) → i < length stores → store_at (stores ++ store ∷ []) i ≡ store_at stores i
  store_still i less = get_or-append stores (store ∷ []) no_store i less

  pub store_new : store_at (stores ++ store ∷ []) (length stores) ≡ store
  store_new = get_or-append_seam stores store [] no_store

  pub one_more_store : (bytes slots new : List ℕ) → StillPut slots new → HoldsStores stores slots → IsSavedAs store bytes →
      ((n : ℕ) → n < length stores → IsSavedAs (store_at stores n) bytes → ⊥) → IsPut new (hash_of bytes) (length stores) → HoldsStores
      (stores ++ store ∷ []) new
  one_more_store bytes slots new still is saved fresh here =
      let size = length-append stores (store ∷ []) in
      record {
        put = λ i others less there. elim (cases_lt i (length stores)) [
          | inl below ↦ still (hash_of others) i (is.put i others below (subst (λ (p : Contents). IsSavedAs p others) (store_still i below) there))
          | inr past ↦
              let e : i ≡ length stores = omega arith in
              let last : IsSavedAs store others = subst (λ (p : Contents). IsSavedAs p others) (ap (store_at (stores ++ store ∷ [])) e ∙ store_new) there in
              subst (IsPut new (hash_of others)) (sym e) (subst (λ (x : List ℕ). IsPut new (hash_of x) (length stores))
              (one_saved store bytes others saved last) here)
        ];
        apart = λ i j others less inside a b. elim (cases_lt j (length stores)) [
          | inl below ↦
              let lower : i < length stores = omega arith in
              is.apart i j others less below (subst (λ (p : Contents). IsSavedAs p others) (store_still i lower) a)
              (subst (λ (p : Contents). IsSavedAs p others) (store_still j below) b)
          | inr past ↦
              let e : j ≡ length stores = omega arith in
              let lower : i < length stores = omega arith in
              let last : IsSavedAs store others = subst (λ (p : Contents). IsSavedAs p others) (ap (store_at (stores ++ store ∷ [])) e ∙ store_new) b in
              fresh i lower (subst (λ (x : List ℕ). IsSavedAs (store_at stores i) x) (one_saved store others bytes last saved)
              (subst (λ (p : Contents). IsSavedAs p others) (store_still i lower) a))
        ];
        saved = λ i less. elim (cases_lt i (length stores)) [
          | inl below ↦ let there = is.saved i below in (there.0, subst (λ (p : Contents). IsSavedAs p there.0) (sym (store_still i below)) there.1)
          | inr past ↦
              let e : i ≡ length stores = omega arith in
              (bytes, subst (λ (p : Contents). IsSavedAs p bytes) (sym (ap (store_at (stores ++ store ∷ [])) e ∙ store_new)) saved)
        ];
      }
