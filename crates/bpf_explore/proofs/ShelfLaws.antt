-- What is kept of machines stays, where more is kept.
use Rattle.std.proofs.Common.{◌≡◌, ◌∙◌, ℕ, zero, suc, ◌+◌, ◌<◌, ◌≤◌, List, [], ◌∷◌, ◌++◌, Some, None, inl, inr, length, drop, refl, sym, ap}
use Rattle.std.proofs.Common.{subst, add-one, length-append, arith}
use Rattle.std.specs.Prelude.{All, slice_get, slice_index_or}
use Rattle.std.proofs.Math.ListN.{get_or-append}
use Rattle.std.proofs.Math.Seq.{get_or-append_seam}
use Rattle.std.proofs.lemmas.Bool.{cases_lt}
use Rattle.bpf_base.proofs.Lists.{slice_get-append, slice_get-front}
use Rattle.bpf_shared.specs.Shape.{Shape}
use Rattle.bpf_plain.specs.PlainStore.{Contents}
use Rattle.bpf_loader.specs.Loaded.{Loaded}
use Rattle.bpf_cpu.specs.Task.{Task}
use Rattle.bpf_machine.specs.Machine.{MachineState}
use Rattle.bpf_machine.specs.Parts.{CanStand, chosen, no_task}
use Rattle.bpf_explore.specs.Stores.{IsOfShape, no_store}
use Rattle.bpf_explore.specs.Tuples.{TupleList, tuple_at, AreWhole, with_tuple}
use Rattle.bpf_explore.proofs.KeptLaws.{tuple_still, tuple_new, whole_new}
use Rattle.bpf_explore.specs.Private.Album.{Shelf, machine_of, machine_at, machines, IsState, IsShelf, Grows}

-- ---- jobs by their numbers
pub chosen_still : (parts more : List Task) (numbers : List ℕ) → All (λ n. n < length parts) numbers → chosen (parts ++ more) numbers ≡ chosen parts numbers
chosen_still parts more [] all = refl
chosen_still parts more (n ∷ ns) all =
    let here : n < length parts = all 0 0 (omega arith) in
    let rest : All (λ k. k < length parts) ns = λ k d less. all (suc k) d (omega arith) in
    ap (λ (t : Task). t ∷ chosen (parts ++ more) ns) (get_or-append parts more no_task n here)
    ∙ ap (λ (ts : List Task). slice_index_or parts n no_task ∷ ts) (chosen_still parts more ns rest)

pub within_still : (parts more : List Task) (numbers : List ℕ) → All (λ n. n < length parts) numbers → All (λ n. n < length (parts ++ more)) numbers
within_still parts more numbers all k d less = let here = all k d less in let both = length-append parts more in omega arith

-- ---- the kept machines
pub machines_length : (s : Shelf) (n : ℕ) → length (machines s n) ≡ n
machines_length s zero = refl
machines_length s (suc n) = let e = machines_length s n in let both = length-append (machines s n) (machine_at s n ∷ []) in omega arith

pub machines_at : (s : Shelf) (n i : ℕ) → i < n → slice_get (machines s n) i ≡ Some (machine_at s i)
machines_at s zero i less = absurd (omega arith)
machines_at s (suc n) i less = let count = machines_length s n in elim (cases_lt i n) [
  | inl below ↦ slice_get-front (machines s n) (machine_at s n ∷ []) i (omega arith) ∙ machines_at s n i below
  | inr past ↦
      let e : i ≡ n = omega arith in
      slice_get-append (machines s n) (machine_at s n ∷ []) 0 i (omega arith) ∙ ap (λ (k : ℕ). Some (machine_at s k)) (sym e)
]

machines_still : (s t : Shelf) (n : ℕ) → ((i : ℕ) → i < n → machine_at t i ≡ machine_at s i) → machines t n ≡ machines s n
machines_still s t zero same = refl
machines_still s t (suc n) same =
    ap (λ (ms : List MachineState). ms ++ machine_at t n ∷ []) (machines_still s t n (λ i less. same i (omega arith)))
    ∙ ap (λ (m : MachineState). machines s n ++ m ∷ []) (same n (omega arith))

abbrev standing : Contents → List Loaded → List Task → MachineState
standing p programs jobs = record { store = p; programs = programs; jobs = jobs; lists = None }

module _ (old new : Shelf) (store : Contents) (g : Grows old new store) where
  store_still : (n : ℕ) → n < length old.stores → slice_index_or new.stores n no_store ≡ slice_index_or old.stores n no_store
  store_still n less = elim g.stores [
    | inl e ↦ ap (λ (ps : List Contents). slice_index_or ps n no_store) e
    | inr e ↦ ap (λ (ps : List Contents). slice_index_or ps n no_store) e ∙ get_or-append old.stores (store ∷ []) no_store n less
  ]

  stores_more : length old.stores ≤ length new.stores
  stores_more = elim g.stores [
    | inl e ↦ let same = ap (λ (ps : List Contents). length ps) e in omega arith
    | inr e ↦ let same = ap (λ (ps : List Contents). length ps) e ∙ length-append old.stores (store ∷ []) in omega arith
  ]

  pub machine_still : (tuple : List ℕ) → IsState old tuple → machine_of new tuple ≡ machine_of old tuple
  machine_still tuple is =
      let n = slice_index_or tuple 0 0 in
      let numbers = drop 1 tuple in
      ap (λ (p : Contents). standing p new.programs (chosen new.parts numbers)) (store_still n is.stored)
      ∙ (ap (λ (ps : List Loaded). standing (slice_index_or old.stores n no_store) ps (chosen new.parts numbers)) g.programs
      ∙ ap (λ (ts : List Task). standing (slice_index_or old.stores n no_store) old.programs ts)
      (ap (λ (parts : List Task). chosen parts numbers) g.parts.1 ∙ chosen_still old.parts g.parts.0 numbers is.within))

  state_still : (tuple : List ℕ) → IsState old tuple → IsState new tuple
  state_still tuple is = record {
    stored = let more = stores_more in let here = is.stored in omega arith;
    within = subst (λ (parts : List Task). All (λ n. n < length parts) (drop 1 tuple)) (sym g.parts.1)
        (within_still old.parts g.parts.0 (drop 1 tuple) is.within);
    stands = subst CanStand (sym (machine_still tuple is)) is.stands;
  }

  pub shapes_still : (h : Shape) → IsOfShape h store → ((n : ℕ) → n < length old.stores → IsOfShape h (slice_index_or old.stores n no_store))
      → (n : ℕ) → n < length new.stores → IsOfShape h (slice_index_or new.stores n no_store)
  shapes_still h shape all n less = elim g.stores [
    | inl e ↦ subst (λ (ps : List Contents). IsOfShape h (slice_index_or ps n no_store)) (sym e)
        (all n (let same = ap (λ (ps : List Contents). length ps) e in omega arith))
    | inr e ↦
        subst (λ (ps : List Contents). IsOfShape h (slice_index_or ps n no_store)) (sym e) (elim (cases_lt n (length old.stores)) [
          | inl below ↦ subst (IsOfShape h) (sym (get_or-append old.stores (store ∷ []) no_store n below)) (all n below)
          | inr past ↦
              let same = ap (λ (ps : List Contents). length ps) e ∙ length-append old.stores (store ∷ []) in
              let last : n ≡ length old.stores = omega arith in
              subst (λ (k : ℕ). IsOfShape h (slice_index_or (old.stores ++ store ∷ []) k no_store)) (sym last)
              (subst (IsOfShape h) (sym (get_or-append_seam old.stores store [] no_store)) shape)
        ])
  ]

  module _ (h : Shape) (shape : IsOfShape h store) (is : IsShelf h old) where
    -- ---- no state is new
    module _ (same : new.states ≡ old.states) where
      kept_here : (i : ℕ) → i < old.states.count → machine_at new i ≡ machine_at old i
      kept_here i less = ap (λ (t : TupleList). machine_of new (tuple_at t i)) same ∙ machine_still (tuple_at old.states i) (is.states i less)

      pub same_kept : machines new new.states.count ≡ machines old old.states.count
      same_kept = ap (λ (t : TupleList). machines new t.count) same ∙ machines_still old new old.states.count kept_here

      pub same_shelf : IsShelf h new
      same_shelf = record {
        whole = subst AreWhole (sym same) is.whole;
        shapes = shapes_still h shape is.shapes;
        states = λ i less. (let inside : i < old.states.count = subst (λ (t : TupleList). i < t.count) same less in
            subst (λ (t : TupleList). IsState new (tuple_at t i)) (sym same) (state_still (tuple_at old.states i) (is.states i inside)));
      }

    -- ---- one is
    module _ (tuple : List ℕ) (size : length tuple ≡ old.states.width) (one : IsState new tuple) (more : new.states ≡ with_tuple old.states tuple) where
      kept_before : (i : ℕ) → i < old.states.count → machine_at new i ≡ machine_at old i
      kept_before i less =
          ap (λ (t : TupleList). machine_of new (tuple_at t i)) more
          ∙ (ap (machine_of new) (tuple_still old.states tuple i is.whole less) ∙ machine_still (tuple_at old.states i) (is.states i less))

      pub more_kept : machines new new.states.count ≡ machines old old.states.count ++ machine_at new old.states.count ∷ []
      more_kept =
          ap (λ (t : TupleList). machines new t.count) more
          ∙ (ap (machines new) (add-one old.states.count)
          ∙ ap (λ (ms : List MachineState). ms ++ machine_at new old.states.count ∷ []) (machines_still old new old.states.count kept_before))

      state_at : (i : ℕ) → i < old.states.count + 1 → IsState new (tuple_at (with_tuple old.states tuple) i)
      state_at i less = elim (cases_lt i old.states.count) [
        | inl below ↦ subst (IsState new) (sym (tuple_still old.states tuple i is.whole below)) (state_still (tuple_at old.states i) (is.states i below))
        | inr past ↦
            let e : i ≡ old.states.count = omega arith in
            subst (λ (k : ℕ). IsState new (tuple_at (with_tuple old.states tuple) k)) (sym e)
            (subst (IsState new) (sym (tuple_new old.states tuple is.whole size)) one)
      ]

      pub more_shelf : IsShelf h new
      more_shelf = record {
        whole = subst AreWhole (sym more) (whole_new old.states tuple is.whole size);
        shapes = shapes_still h shape is.shapes;
        states = λ i less. subst (λ (t : TupleList). IsState new (tuple_at t i)) (sym more) (state_at i (subst (λ (t : TupleList). i < t.count) more less));
      }
