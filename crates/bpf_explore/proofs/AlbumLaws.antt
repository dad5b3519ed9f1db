-- A machine and what it is kept as.
use Rattle.std.proofs.Common.{◌≡◌, ◌∙◌, ℕ, ◌+◌, ◌<◌, ◌≤◌, ◌⊎◌, true, inl, inr, List, [], ◌∷◌, ◌++◌, Option, Some, None, length, drop}
use Rattle.std.proofs.Common.{refl, sym, ap, subst, append-nil, arith}
use Rattle.std.specs.Prelude.{All, IfSome, nat_lt, slice_get, slice_index_or}
use Rattle.std.proofs.lemmas.Bool.{ltb-true}
use Rattle.std.proofs.lemmas.List.{length-drop, length-map}
use Rattle.std.proofs.lemmas.Option.{slice_get_within}
use Rattle.bpf_base.proofs.Lists.{slice_get-front}
use Rattle.bpf_shared.specs.Shape.{Shape}
use Rattle.bpf_plain.specs.PlainStore.{Contents, IsMade, StandsFor, has_cpu, IsSavedAs}
use Rattle.bpf_plain.specs.Alike.{IsSameShape, LookAlike}
use Rattle.bpf_plain.proofs.Alike.{alike_stand_alike}
use Rattle.bpf_plain.proofs.SavedAlike.{saved_alike_look_alike}
use Rattle.bpf_loader.specs.Loaded.{Loaded}
use Rattle.bpf_cpu.specs.Task.{Stage, Task, Waiting, InHand}
use Rattle.bpf_machine.specs.Hands.{IsAt, OthersStay}
use Rattle.bpf_machine.specs.Listings.{Listing, listing_at}
use Rattle.bpf_machine.specs.Machine.{MachineState, Shows}
use Rattle.bpf_machine.specs.Parts.{CanStand, IsSameHost, chosen, made_of, no_task}
use Rattle.bpf_machine.specs.Schedule.{World}
use Rattle.bpf_machine.specs.Cover.{TurnsTo}
use Rattle.bpf_live.specs.Live.{Table}
use Rattle.bpf_alike.specs.Covers.{IsKeptAlike}
use Rattle.bpf_alike.specs.Worlds.{AllAlike, AreLiveTables, table_at}
use Rattle.bpf_explore.specs.Album.{FitsStock, HasMore, IsKeptAlikeAt, IsNumbered, Stock}
use Rattle.bpf_explore.specs.Search.{Alike, IsTurned, IsIdleAt, Extends}
use Rattle.bpf_explore.specs.Stores.{IsOfShape, no_store}
use Rattle.bpf_explore.specs.Tuples.{TupleList, tuple_at, with_tuple}
use Rattle.bpf_explore.specs.Private.States.{AreLoaded, AreOfParts, IsAlikeTuple}
use Rattle.bpf_explore.proofs.StateLaws.{are_loaded}
use Rattle.bpf_explore.specs.Private.Album.{Shelf, machine_of, machine_at, machines, IsState, IsShelf, Grows, FitsShelf, AddsOne, stocked}
use Rattle.bpf_explore.specs.Private.Album.{ShowsFirst, AreNumbersOf, AreKeptUnder, AreOthers, CameBy, IsRecalled}
use Rattle.bpf_explore.specs.declared.album.Turned.{Turned}
use Rattle.bpf_explore.proofs.KeepLaws.{others_of}
use Rattle.bpf_explore.proofs.KeptLaws.{tuple_new}
use Rattle.bpf_explore.proofs.StandAlike.{can_stand}
use Rattle.bpf_explore.proofs.ShelfLaws.{machines_length, machines_at, shapes_still, same_shelf, same_kept, more_shelf, more_kept}

pub one_shape : (h : Shape) (p q : Contents) → IsOfShape h p → IsOfShape h q → IsSameShape p q
one_shape h p q a b = (λ c. b.1 c ∙ sym (a.1 c), b.0 ∙ sym a.0)

-- turns keep the host
pub shape_still : (h : Shape) (old new : MachineState) → IsSameHost old new → IsOfShape h old.store → IsOfShape h new.store
shape_still h old new same shape = (same.shape.1 ∙ shape.0, λ c. same.shape.0 c ∙ shape.1 c)

-- what fits the shelf, said of what is kept but for the states
pub fits_shelf : (h : Shape) (s : Shelf) (m : MachineState) → FitsStock (stocked h s) m → FitsShelf h s m
fits_shelf h s m is = record { shape = is.shape; programs = is.programs; width = is.jobs; lists = is.lists }

pub fits_stock : (h : Shape) (s : Shelf) (m : MachineState) → FitsShelf h s m → FitsStock (stocked h s) m
fits_stock h s m is = record { shape = is.shape; programs = is.programs; jobs = is.width; lists = is.lists }

-- what is saved as the machine's store is, with jobs that are as its jobs do
module _ (h : Shape) (s : Shelf) (m : MachineState) (tuple bytes : List ℕ) (fits : FitsShelf h s m)
    (shapes : (n : ℕ) → n < length s.stores → IsOfShape h (slice_index_or s.stores n no_store))
    (stored : slice_index_or tuple 0 0 < length s.stores) (saved : IsSavedAs m.store bytes)
    (kept : IsSavedAs (slice_index_or s.stores (slice_index_or tuple 0 0) no_store) bytes)
    (within : All (λ n. n < length s.parts) (drop 1 tuple)) (jobs : chosen s.parts (drop 1 tuple) ≡ m.jobs) where
  abbrev store : Contents
  store = slice_index_or s.stores (slice_index_or tuple 0 0) no_store

  alike : LookAlike m.store store
  alike = saved_alike_look_alike m.store store bytes (one_shape h m.store store fits.shape (shapes (slice_index_or tuple 0 0) stored)) saved kept

  stands_there : CanStand m → CanStand (machine_of s tuple)
  stands_there is =
      let there = can_stand m.store store alike m.programs m.jobs m.lists None is in
      let P : List Loaded → Type 0 = λ ps. CanStand (record { store = store; programs = ps; jobs = m.jobs; lists = None }) in
      let J : List Task → Type 0 = λ ts. CanStand (record { store = store; programs = s.programs; jobs = ts; lists = None }) in
      subst J (sym jobs) (subst P (sym fits.programs) there)

  pub is_state : CanStand m → IsState s tuple
  is_state is = record { stored = stored; within = within; stands = stands_there is }

  pub shown_there : (w : World) → Shows m w → Shows (machine_of s tuple) w
  shown_there w shows = record {
    store = alike_stand_alike m.store store w.store alike shows.store;
    sound = shows.sound;
    programs = shows.programs ∙ sym fits.programs;
    jobs = shows.jobs ∙ sym jobs;
    lists = shows.lists ∙ ap (λ (o : Option (List Listing)). listing_at o) fits.lists;
  }

pub kept_somewhere : (kept : List MachineState) (n : ℕ) (m : MachineState) → IsKeptAlikeAt kept n m → IsKeptAlike kept m
kept_somewhere kept n m is w shows = let r = is w shows in (r.0, r.1, (n, r.2.0, r.2.1, r.2.2))

-- ---- another machine of the same programs to work with
abbrev pub shelf_of : List Loaded → List Contents → List Task → TupleList → Shelf
shelf_of programs stores parts states = record { programs = programs; stores = stores; parts = parts; states = states }

module _ (h : Shape) (stores : List Contents) (parts : List Task) (states : TupleList) (m new : MachineState) (programs : new.programs ≡ m.programs) where
  same_shelf_as : shelf_of new.programs stores parts states ≡ shelf_of m.programs stores parts states
  same_shelf_as = ap (λ (ps : List Loaded). shelf_of ps stores parts states) programs

  pub kept_with : machines (shelf_of new.programs stores parts states) states.count ≡ machines (shelf_of m.programs stores parts states) states.count
  kept_with = ap (λ (s : Shelf). machines s states.count) same_shelf_as

  pub stock_with : stocked h (shelf_of new.programs stores parts states) ≡ stocked h (shelf_of m.programs stores parts states)
  stock_with = ap (stocked h) same_shelf_as

  pub fits_with : IsShelf h (shelf_of m.programs stores parts states) → IsOfShape h new.store → states.width ≡ length new.jobs + 1 → new.lists ≡ None
      → IsShelf h (shelf_of new.programs stores parts states) × FitsShelf h (shelf_of new.programs stores parts states) new
  fits_with is shape width lists = (subst (IsShelf h) (sym same_shelf_as) is, record { shape = shape; programs = refl; width = width; lists = lists })

-- after turns
pub all_after : (h : Shape) (stores : List Contents) (parts : List Task) (states : TupleList) (tables : List Table) (m new : MachineState) → IsSameHost m new
    → IsShelf h (shelf_of m.programs stores parts states) × FitsShelf h (shelf_of m.programs stores parts states) m × AreLiveTables m.programs (table_at tables)
    → IsShelf h (shelf_of new.programs stores parts states) × FitsShelf h (shelf_of new.programs stores parts states) new × AreLiveTables
    new.programs (table_at tables)
all_after h stores parts states tables m new same (is, fits, right) =
    let r = fits_with h stores parts states m new same.programs is (shape_still h m new same fits.shape)
    (fits.width ∙ ap (λ (n : ℕ). n + 1) (sym same.jobs)) (same.lists fits.lists) in
    (r.0, r.1, subst (λ (ps : List Loaded). AreLiveTables ps (table_at tables)) (sym same.programs) right)

-- ---- a kept machine to work with
pub record IsReadable (h : Shape) (s : Shelf) (m : MachineState) (place : ℕ) (store : Contents) (parts : List Task) (jobs : List ℕ) : Type 0 where
  pub shape : IsSameShape store m.store
  pub within : All (λ n. n < length parts) jobs
  pub stands : CanStand (made_of store m.programs parts jobs)
  pub is : made_of store m.programs parts jobs ≡ machine_at s place
  pub shaped : IsOfShape h store
  pub width : s.states.width ≡ length (chosen parts jobs) + 1

pub readable : (h : Shape) (s : Shelf) (m : MachineState) (place : ℕ) (tuple : List ℕ) (store : Contents) (parts : List Task)
    (jobs : List ℕ) → IsShelf h s → FitsShelf h s m → place < s.states.count → tuple_at s.states place ≡ tuple → length tuple ≡
    s.states.width → 1 ≤ s.states.width
    → store ≡ slice_index_or s.stores (slice_index_or tuple 0 0) no_store → parts ≡ s.parts → jobs ≡ drop 1 tuple → IsReadable h s m place store parts jobs
readable h s m place tuple store parts jobs is fits less at size some stored same numbered =
    let state : IsState s tuple = subst (IsState s) at (is.states place less) in
    let there = slice_index_or s.stores (slice_index_or tuple 0 0) no_store in
    let shaped : IsOfShape h there = is.shapes (slice_index_or tuple 0 0) state.stored in
    let made : made_of there m.programs s.parts (drop 1 tuple) ≡ machine_of s tuple = ap
    (λ (ps : List Loaded). made_of there ps s.parts (drop 1 tuple)) (sym fits.programs) in
    let numbers = length-map (drop 1 tuple) (λ n. slice_index_or s.parts n no_task) in
    let rest = length-drop 1 tuple in
    let ready : IsReadable h s m place there s.parts (drop 1 tuple) = record {
      shape = one_shape h there m.store shaped fits.shape;
      within = state.within;
      stands = subst CanStand (sym made) state.stands;
      is = made ∙ ap (machine_of s) (sym at);
      shaped = shaped;
      width = omega arith;
    } in
    subst (λ (p : Contents). IsReadable h s m place p parts jobs) (sym stored)
    (subst (λ (ts : List Task). IsReadable h s m place there ts jobs) (sym same)
    (subst (λ (ns : List ℕ). IsReadable h s m place there s.parts ns) (sym numbered) ready))

pub stored_inside : (h : Shape) (s : Shelf) (place : ℕ) (tuple : List ℕ) → IsShelf h s → place < s.states.count → tuple_at s.states place ≡
    tuple → slice_index_or tuple 0 0 < length s.stores
stored_inside h s place tuple is less at = let state : IsState s tuple = subst (IsState s) at (is.states place less) in state.stored

-- what is restored
pub restored_fits : (h : Shape) (stores : List Contents) (parts : List Task) (states : TupleList) (m new : MachineState) (place : ℕ)
    (store : Contents) (read : List Task) (jobs : List ℕ) → IsShelf h (shelf_of m.programs stores parts states)
    → IsReadable h (shelf_of m.programs stores parts states) m place store read jobs → new ≡ made_of store m.programs read jobs
    → IsShelf h (shelf_of new.programs stores parts states) × FitsShelf h (shelf_of new.programs stores parts states) new
restored_fits h stores parts states m new place there read jobs is ready e =
    fits_with h stores parts states m new (ap (λ (n : MachineState). n.programs) e) is (subst (λ (n : MachineState). IsOfShape h n.store) (sym e) ready.shaped)
    (ready.width ∙ ap (λ (n : MachineState). length n.jobs + 1) (sym e)) (ap (λ (n : MachineState). n.lists) e)

-- into another machine
pub restored_stock : (h : Shape) (s : Shelf) (m new : MachineState) (place : ℕ) (store : Contents) (read : List Task) (jobs : List ℕ) → FitsShelf h s m
    → IsReadable h s m place store read jobs → new ≡ made_of store m.programs read jobs → FitsStock (stocked h s) new
restored_stock h s m new place store read jobs fits ready e =
    let there : FitsStock (stocked h s) (made_of store m.programs read jobs) = record
    { shape = ready.shaped; programs = fits.programs; jobs = ready.width; lists = refl } in
    subst (FitsStock (stocked h s)) (sym e) there

-- another machine, on a new store
pub another_fits : (h : Shape) (s : Shelf) (m new : MachineState) (store : Contents) → FitsShelf h s m → IsMade h store → new.store ≡ store
    → new.programs ≡ m.programs → length new.jobs ≡ length m.jobs → new.lists ≡ None → FitsStock (stocked h s) new
another_fits h s m new place fits made same programs jobs lists = record {
  shape = subst (IsOfShape h) (sym same) (made.shape, made.serves);
  programs = fits.programs ∙ sym programs;
  jobs = fits.width ∙ ap (λ (n : ℕ). n + 1) (sym jobs);
  lists = lists;
}

-- turns keep the kind
pub fits_after : (s : Stock) (old new : MachineState) → IsSameHost old new → FitsStock s old → FitsStock s new
fits_after s old new same fits = record {
  shape = shape_still s.shape old new same fits.shape;
  programs = fits.programs ∙ sym same.programs;
  jobs = fits.jobs ∙ ap (λ (n : ℕ). n + 1) (sym same.jobs);
  lists = same.lists fits.lists;
}

-- the numbers of a store and of jobs, one after the other
pub numbered_under : (stores : List Contents) (parts : List Task) (m : MachineState) (before new : List ℕ) (store : ℕ) → before ≡ store ∷ []
    → store < length stores
    → ((saved : List ℕ) × IsSavedAs m.store saved × IsSavedAs (slice_index_or stores store no_store) saved) →
    ((more : List ℕ) × (new ≡ before ++ more) × AreNumbersOf parts more m.jobs) → AreKeptUnder stores parts m new
numbered_under stores parts m before new store first stored alike numbered =
    let more = numbered.0 in
    let e : new ≡ store ∷ more = numbered.1 ∙ ap (λ (ns : List ℕ). ns ++ more) first in
    let count : length more ≡ length m.jobs = sym (length-map more (λ n. slice_index_or parts n no_task)) ∙ ap (λ (ts : List Task). length ts) numbered.2.1 in
    subst (AreKeptUnder stores parts m) (sym e) (record {
      stored = stored;
      bytes = alike.0;
      saved = alike.1;
      alike = alike.2;
      jobs = numbered.2;
      size = omega arith;
    })

-- ---- a state is kept
module _ (h : Shape) (s : Shelf) (m : MachineState) (stores : List Contents) (parts : List Task) (is : IsShelf h s) (fits : FitsShelf h s m)
    (adds : (stores ≡ s.stores) ⊎ (stores ≡ s.stores ++ m.store ∷ [])) (grows : (more : List Task) × (parts ≡ s.parts ++ more)) where
  abbrev with_states : TupleList → Shelf
  with_states states = shelf_of s.programs stores parts states

  grown : (states : TupleList) → Grows s (with_states states) m.store
  grown states = record { programs = refl; stores = adds; parts = grows }

  fits_grown : (states : TupleList) → states.width ≡ s.states.width → FitsShelf h (with_states states) m
  fits_grown states width = record { shape = fits.shape; programs = fits.programs; width = width ∙ fits.width; lists = fits.lists }

  pub same_invariant : IsShelf h (with_states s.states) × FitsShelf h (with_states s.states) m
  same_invariant = (same_shelf s (with_states s.states) m.store (grown s.states) h fits.shape is refl, fits_grown s.states refl)

  pub same_machines : machines (with_states s.states) s.states.count ≡ machines s s.states.count
  same_machines = same_kept s (with_states s.states) m.store (grown s.states) h fits.shape is refl

  pub same_adds : AddsOne (machines s s.states.count) m (machines (with_states s.states) s.states.count)
  same_adds = inl (same_kept s (with_states s.states) m.store (grown s.states) h fits.shape is refl)

  one_more : (stores ≡ s.stores) ⊎ (stores ≡ s.stores ++ m.store ∷ []) → (more : List Contents) × (stores ≡ s.stores ++ more)
  one_more (inl e) = ([], e ∙ sym (append-nil s.stores))
  one_more (inr e) = (m.store ∷ [], e)

  -- what there is of stores and jobs stays
  pub more_stock : (states : TupleList) → states.width ≡ s.states.width → HasMore (stocked h s) (stocked h (with_states states))
  more_stock states width = record { shape = refl; programs = refl; width = width; stores = one_more adds; parts = grows }

  module _ (tuple : List ℕ) (under : AreKeptUnder stores parts m tuple) (stands : CanStand m) where
    shapes_there : (states : TupleList) → (n : ℕ) → n < length stores → IsOfShape h (slice_index_or stores n no_store)
    shapes_there states = shapes_still s (with_states s.states) m.store (grown s.states) h fits.shape is.shapes

    state_there : (states : TupleList) → states.width ≡ s.states.width → IsState (with_states states) tuple
    state_there states width =
        is_state h (with_states states) m tuple under.bytes (fits_grown states width) (shapes_there states) under.stored under.saved
        under.alike under.jobs.0 under.jobs.1 stands

    width_after : (states : TupleList) → (states ≡ s.states) ⊎ (states ≡ with_tuple s.states tuple) → states.width ≡ s.states.width
    width_after states (inl e) = ap (λ (t : TupleList). t.width) e
    width_after states (inr e) = ap (λ (t : TupleList). t.width) e

    -- the machine of a state that has the same store, and jobs that are alike
    pub kept_after : (tables : List Table) (states : TupleList) (n : ℕ) → AreLiveTables m.programs (table_at tables) → (states ≡ s.states) ⊎
        (states ≡ with_tuple s.states tuple) → n < states.count → IsAlikeTuple tables parts tuple (tuple_at states n)
        → IsKeptAlikeAt (machines (with_states states) states.count) n m
    kept_after tables states n right now less alike w here =
        let all = with_states states in
        let shown = shown_there h all m tuple under.bytes (fits_grown states (width_after states now)) (shapes_there states) under.stored
        under.saved under.alike under.jobs.0 under.jobs.1 w here in
        let jobs = chosen parts (drop 1 (tuple_at states n)) in
        let loaded = subst (AreLoaded m.programs) (sym under.jobs.1) (are_loaded m stands) in
        let alike_jobs : AllAlike m.programs (chosen parts (drop 1 tuple)) jobs = alike.1 m.programs right loaded in
        let of_world : AllAlike w.programs w.jobs jobs = subst (λ (ps : List Loaded). AllAlike ps w.jobs jobs) (sym here.programs)
        (subst (λ (ts : List Task). AllAlike m.programs ts jobs) (sym shown.jobs) alike_jobs) in (
          jobs,
          of_world,
          (
            machine_at all n,
            machines_at all states.count n less,
            record {
              store = subst (λ (k : ℕ). StandsFor (slice_index_or stores k no_store) w.store) (sym alike.0) shown.store;
              sound = shown.sound;
              programs = shown.programs;
              jobs = refl;
              lists = shown.lists;
            },
          ),
        )

    -- what finding it asks for
    pub numbers_fit : (length tuple ≡ s.states.width) × (1 ≤ length tuple) × All (λ n. n < length parts) (drop 1 tuple) × AreOfParts parts s.states
    numbers_fit =
        let size = under.size in
        (size ∙ sym fits.width, omega (arith, size), under.jobs.0, λ i less. (same_invariant.0.states i less).within)

    pub invariant_after : (states : TupleList) → length tuple ≡ s.states.width → (states ≡ s.states) ⊎ (states ≡ with_tuple s.states tuple)
        → IsShelf h (with_states states) × FitsShelf h (with_states states) m
    invariant_after states size (inl e) = (
      same_shelf s (with_states states) m.store (grown states) h fits.shape is e,
      fits_grown states
          (ap (λ (t : TupleList). t.width) e),
    )
    invariant_after states size (inr e) =
        let width : states.width ≡ s.states.width = ap (λ (t : TupleList). t.width) e in
        (more_shelf s (with_states states) m.store (grown states) h fits.shape is tuple size (state_there states width) e, fits_grown states width)

    pub adds_after : (states : TupleList) → length tuple ≡ s.states.width → (states ≡ s.states) ⊎ (states ≡ with_tuple s.states tuple) →
        AddsOne (machines s s.states.count) m (machines (with_states states) states.count)
    adds_after states size (inl e) = inl (same_kept s (with_states states) m.store (grown states) h fits.shape is e)
    adds_after states size (inr e) =
        let width : states.width ≡ s.states.width = ap (λ (t : TupleList). t.width) e in
        let last : tuple_at states s.states.count ≡ tuple = ap (λ (t : TupleList). tuple_at t s.states.count) e ∙ tuple_new s.states tuple is.whole size in
        let shows = shown_there h (with_states states) m tuple under.bytes (fits_grown states width) (shapes_there states) under.stored
        under.saved under.alike under.jobs.0 under.jobs.1 in
        inr (
          machine_at (with_states states) s.states.count,
          more_kept s (with_states states) m.store (grown states) h fits.shape is tuple size (state_there states width) e,
          λ w here. subst (λ (t : List ℕ). Shows (machine_of (with_states states) t) w) (sym last) (shows w here),
        )

-- ---- a machine is kept by its numbers
pub width_of : (states new : TupleList) (tuple : List ℕ) → (new ≡ states) ⊎ (new ≡ with_tuple states tuple) → new.width ≡ states.width
width_of states new tuple (inl e) = ap (λ (t : TupleList). t.width) e
width_of states new tuple (inr e) = ap (λ (t : TupleList). t.width) e

pub stock_as : (h : Shape) (programs : List Loaded) (stores : List Contents) (parts : List Task) (states new : TupleList) → new.width ≡ states.width
    → stocked h (shelf_of programs stores parts new) ≡ stocked h (shelf_of programs stores parts states)
stock_as h programs stores parts states new width =
    let S : ℕ → Stock = λ n. record { shape = h; programs = programs; width = n; stores = stores; parts = parts } in
    ap S width

module _ (h : Shape) (s : Shelf) (m : MachineState) (numbers : List ℕ) (is : IsShelf h s) (numbered : IsNumbered (stocked h s) m numbers) where
  fits_here : FitsShelf h s m
  fits_here = fits_shelf h s m numbered.fits

  none_new : (more : List Task) × (s.parts ≡ s.parts ++ more)
  none_new = ([], sym (append-nil s.parts))

  pub numbers_are : (length numbers ≡ s.states.width) × (1 ≤ length numbers) × All (λ n. n < length s.parts) (drop 1 numbers) × AreOfParts s.parts s.states
  numbers_are = numbers_fit h s m s.stores s.parts is fits_here (inl refl) none_new numbers numbered.under numbered.stands

  size_is : length numbers ≡ s.states.width
  size_is = numbered.under.size ∙ sym numbered.fits.jobs

  module _ (states : TupleList) (adds : (states ≡ s.states) ⊎ (states ≡ with_tuple s.states numbers)) where
    -- the machine to work with is another
    pub still_shelf : (own : MachineState) → FitsShelf h s own
        → IsShelf h (shelf_of s.programs s.stores s.parts states) × FitsShelf h (shelf_of s.programs s.stores s.parts states) own
    still_shelf own fits = (
      (invariant_after h s m s.stores s.parts is fits_here (inl refl) none_new numbers numbered.under numbered.stands states size_is adds).0,
      record {
        shape = fits.shape;
        programs = fits.programs;
        width = width_of s.states states numbers adds ∙ fits.width;
        lists = fits.lists;
      },
    )

    pub adds_numbered : AddsOne (machines s s.states.count) m (machines (shelf_of s.programs s.stores s.parts states) states.count)
    adds_numbered = adds_after h s m s.stores s.parts is fits_here (inl refl) none_new numbers numbered.under numbered.stands states size_is adds

    pub kept_numbered : (tables : List Table) → AreLiveTables s.programs (table_at tables) → (n : ℕ) → n < states.count
        → IsAlikeTuple tables s.parts numbers (tuple_at states n)
        → IsKeptAlikeAt (machines (shelf_of s.programs s.stores s.parts states) states.count) n m
    kept_numbered tables right n less alike =
        kept_after h s m s.stores s.parts is fits_here (inl refl) none_new numbers numbered.under numbered.stands tables states n
        (subst (λ (ps : List Loaded). AreLiveTables ps (table_at tables)) numbered.fits.programs right) adds less alike

pub adds_extends : (old new : List MachineState) (m : MachineState) → AddsOne old m new → Extends old new
adds_extends old new m (inl e) = ([], e ∙ sym (append-nil old))
adds_extends old new m (inr (one, e, shows)) = (one ∷ [], e)

-- the first that is kept
pub first_kept : (old kept : List MachineState) (m : MachineState) (n : ℕ) → old ≡ [] → AddsOne old m kept → n < length kept →
    (length kept ≡ 1) × ShowsFirst kept m
first_kept old kept m n none (inl e) less =
    let count : length kept ≡ 0 = ap (λ (ms : List MachineState). length ms) (e ∙ none) in
    absurd (omega arith)
first_kept old kept m n none (inr (one, e, shows)) less =
    let only : kept ≡ one ∷ [] = e ∙ ap (λ (ms : List MachineState). ms ++ one ∷ []) none in
    (ap (λ (ms : List MachineState). length ms) only, (one, ap (λ (ms : List MachineState). slice_get ms 0) only, shows))

-- ---- each kept machine
pub kept_inside : (s : Shelf) (i : ℕ) → i < length (machines s s.states.count) → i < s.states.count
kept_inside s i less = let count = machines_length s s.states.count in omega arith

pub kept_is : (s : Shelf) (i : ℕ) (m : MachineState) → slice_get (machines s s.states.count) i ≡ Some m → (i < s.states.count) × (m ≡ machine_at s i)
kept_is s i m at =
    let less = kept_inside s i (slice_get_within (machines s s.states.count) i m at) in
    let two : Some m ≡ Some (machine_at s i) = sym at ∙ machines_at s s.states.count i less in
    (less, cc)

-- its jobs are those of its numbers
pub kept_jobs : (s : Shelf) (i : ℕ) (m : MachineState) → slice_get (machines s s.states.count) i ≡ Some m → m.jobs ≡ chosen s.parts
    (drop 1 (tuple_at s.states i))
kept_jobs s i m at = ap (λ (n : MachineState). n.jobs) (kept_is s i m at).1

-- no job is on a CPU beyond the store's
pub idle_beyond : (h : Shape) (s : Shelf) → IsShelf h s → (i c : ℕ) → h.cpus ≤ c → IsIdleAt (machines s s.states.count) i c
idle_beyond h s is i c beyond m at =
    let k = kept_is s i m at in
    let state = is.states i k.0 in
    let stands : CanStand m = subst CanStand (sym k.1) state.stands in
    let shape : IsOfShape h m.store = subst (λ (n : MachineState). IsOfShape h n.store) (sym k.1)
    (is.shapes (slice_index_or (tuple_at s.states i) 0 0) state.stored) in
    let nobody : (j : ℕ) (task : Task) (stage : Stage) → IsAt m.jobs c j task stage → ⊥ = λ j task stage here. (
    let serves : nat_lt c h.cpus ≡ true = sym (shape.1 c) ∙ subst (λ (d : ℕ). has_cpu m.store d ≡ true) here.of (stands.served j task here.listed) in
    let less = ltb-true c h.cpus serves in
    omega arith) in
    (λ j task state left here. nobody j task (InHand state left) here, λ j task input here. nobody j task (Waiting input) here)

-- ---- a turn from a kept machine
pub still_at : (old new : List MachineState) (place : ℕ) (m : MachineState) → slice_get old place ≡ Some m → Extends old new → slice_get new place ≡ Some m
still_at old new place m at more = ap (λ (ms : List MachineState). slice_get ms place) more.1 ∙
    (slice_get-front old more.0 place (slice_get_within old place m at) ∙ at)

pub turned : (old new : List MachineState) (place cpu : ℕ) (m after : MachineState) → slice_get old place ≡ Some m → Extends old new →
    TurnsTo m cpu after → IsKeptAlike new after → IsTurned Alike new place cpu
turned old new place cpu m after at more turns kept other there =
    let two : Some m ≡ Some other = sym (still_at old new place m at more) ∙ there in
    let same : m ≡ other = cc in
    (after, subst (λ (n : MachineState). TurnsTo n cpu after) same turns, kept)

-- ---- the jobs that a CPU's turn left have the numbers that they had
pub recalled_others : (h : Shape) (s : Shelf) → IsShelf h s → (turned : Option Turned) (before : List ℕ) (c : ℕ) (jobs : List Task)
    → IsRecalled s.states turned before c → CameBy (machines s s.states.count) turned jobs → AreOthers s.parts before c jobs
recalled_others h s is None before c jobs recalled came j n at =
    let no : slice_get [] j ≡ Some n = subst (λ (ns : List ℕ). slice_get ns j ≡ Some n) recalled at in cc
recalled_others h s is (Some t) before c jobs recalled (m, at, stays) j n found =
    let here = kept_is s t.place m at in
    let tuple = drop 1 (tuple_at s.states t.place) in
    let P : List ℕ → Type 0 = λ ns. AreOthers s.parts ns c jobs in
    subst P (sym recalled.0) (others_of s.parts tuple c jobs m.jobs (sym (kept_jobs s t.place m at)) (is.states t.place here.0).within
    (subst (λ (k : ℕ). OthersStay m.jobs k jobs) (sym recalled.1) stays)) j n found

-- the kept machine that a turn was made from is there
pub came_within : (s : Shelf) (turned : Option Turned) (jobs : List Task) → CameBy (machines s s.states.count) turned jobs
    → IfSome turned (λ t. t.place < s.states.count)
came_within s None jobs came = tt
came_within s (Some t) jobs (m, at, stays) = (kept_is s t.place m at).0
