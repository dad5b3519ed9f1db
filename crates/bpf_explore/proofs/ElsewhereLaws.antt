-- A machine is a kept one but for which of its equal jobs is how far.
use Rattle.std.proofs.Common.{◌≡◌, ◌∙◌, ℕ, ◌<◌, Bool, true, false, List, [], ◌∷◌, Option, Some, None, inl, inr, refl, sym}
use Rattle.std.proofs.Common.{ap, subst, drop, arith}
use Rattle.std.specs.Prelude.{map, slice_get, slice_index_or}
use Rattle.std.proofs.lemmas.Option.{slice_get_cases, slice_get_within}
use mathlib.Core.Path.{fun_ext}
use Rattle.bpf_shared.specs.declared.shapes.MapShape.{MapShape}
use Rattle.bpf_shared.specs.Shape.{Shape, elements}
use Rattle.bpf_shared.specs.Store.{Plain, never}
use Rattle.bpf_hash.specs.Private.Contents as hash
use Rattle.bpf_hash.specs.Private.Rows.{Rows, no_rows}
use Rattle.bpf_plain.specs.PlainStore.{Contents, StandsFor, is_running}
use Rattle.bpf_loader.specs.Loaded.{Loaded}
use Rattle.bpf_cpu.specs.Task.{Stage, Task, Waiting, InHand, Ended}
use Rattle.bpf_live.specs.Live.{Table}
use Rattle.bpf_machine.specs.Hands.{IsFree}
use Rattle.bpf_machine.specs.Headways.{with_jobs}
use Rattle.bpf_machine.specs.Listings.{Listing, listing_at}
use Rattle.bpf_machine.specs.Machine.{MachineState, Shows}
use Rattle.bpf_machine.specs.Parts.{CanStand, chosen, in_hand}
use Rattle.bpf_machine.specs.Schedule.{World}
use Rattle.bpf_alike.specs.Ends.{IsShownAlikeAt}
use Rattle.bpf_alike.specs.Worlds.{AreLiveTables, table_at}
use Rattle.bpf_equal.specs.declared.peers.Peer.{Peer}
use Rattle.bpf_equal.specs.Groups.{AreJobsOf, ArePeers, IsOfPeers}
use Rattle.bpf_equal.specs.Twins.{AreAlikeElsewhere, AreLoaded}
use Rattle.bpf_explore.specs.Album.{IsNumbered}
use Rattle.bpf_explore.specs.Private.Peers.{IsKeptElsewhereAt}
use Rattle.bpf_explore.specs.Stores.{no_store}
use Rattle.bpf_explore.specs.Tuples.{tuple_at}
use Rattle.bpf_explore.specs.Private.Album.{IsShelf, Shelf, machine_at, machine_of, machines, stocked}
use Rattle.bpf_explore.proofs.AlbumLaws.{fits_shelf, is_state, shown_there}
use Rattle.bpf_explore.proofs.StateLaws.{are_loaded}
use Rattle.bpf_explore.proofs.ShelfLaws.{machines_at}

-- ---- a store without maps
no_rows_here : (h : List MapShape) (tables : List Rows) → h ≡ [] → h ≡ map (λ (t : Rows). t.shape) tables → tables ≡ []
no_rows_here h [] none e = refl
no_rows_here h (t ∷ ts) none e = let no : [] ≡ t.shape ∷ map (λ (t : Rows). t.shape) ts = sym none ∙ e in cc

module _ (p : Contents) (s : Plain) (stands : StandsFor p s) (none : s.shape.maps ≡ []) where
  no_tables : p.maps.tables ≡ []
  no_tables = no_rows_here s.shape.maps p.maps.tables none stands.maps.maps

  nowhere : (m i : ℕ) → i < hash.element_count p.maps m → ⊥
  nowhere m i inside =
      let empty : i < elements (slice_index_or {A = Rows} [] m no_rows).shape =
      subst (λ (ts : List Rows). i < elements (slice_index_or ts m no_rows).shape) no_tables inside in
      absurd (omega (arith, empty))

  is_false : (b : Bool) → (b ≡ true → ⊥) → b ≡ false
  is_false false never_so = refl
  is_false true never_so = absurd (never_so refl)

  pub nothing_held : (c : ℕ) → s.held c ≡ never
  nothing_held c = fun_ext (λ v. is_false (s.held c v) (λ held. (let r = stands.maps.held c v held in nowhere r.0 r.1 r.2)))

  pub nothing_kept : (c : ℕ) → s.kept c ≡ never
  nothing_kept c = fun_ext (λ v. is_false (s.kept c v) (λ held. (let r = stands.maps.kept c v held in nowhere r.0 r.1 r.2)))

-- ---- a world of equal jobs
module _ (m : MachineState) (w : World) (shows : Shows m w) (stands : CanStand m) (peers : List Peer) (are : ArePeers w.store.shape w.programs
    peers) (jobs : AreJobsOf peers m.jobs) (lists : m.lists ≡ None) (one : Peer) (some : slice_get peers 0 ≡ Some one) where
  -- no other job is on the CPU of one
  alone : (j k : ℕ) (task other : Task) → slice_get m.jobs j ≡ Some task → slice_get m.jobs k ≡ Some other → other.cpu ≡ task.cpu → k ≡ j
  alone j k task other at there same =
      let p = peer_there j task at in
      let q = peer_there k other there in
      are.apart k j q.0 p.0 q.1 p.1 (sym (jobs.each k q.0 other q.1 there).cpu ∙ (same ∙ (jobs.each j p.0 task p.1 at).cpu))
    where
      peer_there : (i : ℕ) (x : Task) → slice_get m.jobs i ≡ Some x → (peer : Peer) × (slice_get peers i ≡ Some peer)
      peer_there i x at =
          let inside = slice_get_within m.jobs i x at in
          elim (slice_get_cases peers i).1 [
            | inl y ↦ (y.0, y.2)
            | inr y ↦ let many = jobs.many in absurd (omega (arith, inside, many, y.0))
          ]

  free : (j : ℕ) (task : Task) → slice_get m.jobs j ≡ Some task → in_hand task.stage ≡ false → IsFree m.jobs task.cpu
  free j task at not_in k other state left here =
      let same : k ≡ j = alone j k task other at here.listed here.of in
      let there : slice_get m.jobs j ≡ Some other = subst (λ (i : ℕ). slice_get m.jobs i ≡ Some other) same here.listed in
      let e : task ≡ other = cc in
      let hand : in_hand other.stage ≡ true = ap in_hand here.at in
      absurd (apart (sym hand ∙ (ap (λ (t : Task). in_hand t.stage) (sym e) ∙ not_in)))
    where
      apart : true ≡ false → ⊥
      apart e = cc

  runs : (j : ℕ) (task : Task) (s : Stage) → slice_get m.jobs j ≡ Some task → task.stage ≡ s → is_running m.store task.cpu ≡ in_hand s
  runs j task (InHand state left) at is = (stands.hand task.cpu j task state left (record { listed = at; of = refl; at = is })).runs
  runs j task (Waiting input) at is = stands.idle task.cpu (free j task at (ap in_hand is))
  runs j task (Ended outcome) at is = stands.idle task.cpu (free j task at (ap in_hand is))

  same_lists : (o : Option (List Listing)) → o ≡ None → w.lists ≡ listing_at o → (c d : ℕ) → w.lists c ≡ w.lists d
  same_lists None none e c d = ap (λ (f : ℕ → Listing). f c) e ∙ sym (ap (λ (f : ℕ → Listing). f d) e)
  same_lists (Some ls) none e c d = cc

  pub of_peers : IsOfPeers peers w
  of_peers = record {
    are = are;
    jobs = subst (AreJobsOf peers) (sym shows.jobs) jobs;
    running = λ j task at.
        shows.store.maps.running task.cpu ∙ runs j task task.stage (ap (λ (ts : List Task). slice_get ts j) (sym shows.jobs) ∙ at) refl;
    held = nothing_held m.store w.store shows.store (are.no_maps 0 one some);
    kept = nothing_kept m.store w.store shows.store (are.no_maps 0 one some);
    lists = same_lists m.lists lists shows.lists;
  }

-- ---- the kept one
module _ (h : Shape) (s : Shelf) (m : MachineState) (numbers : List ℕ) (is : IsShelf h s) (numbered : IsNumbered (stocked h s) m numbers)
    (peers : List Peer) (tables : List Table) (are : ArePeers h s.programs peers) (right : AreLiveTables s.programs (table_at tables)) (own
    : AreJobsOf peers (chosen s.parts (drop 1 numbers))) (one : Peer) (some : slice_get peers 0 ≡ Some one) where
  abbrev here : MachineState
  here = machine_of s numbers

  pub kept_elsewhere : (n : ℕ) → n < s.states.count → slice_index_or (tuple_at s.states n) 0 0 ≡ slice_index_or numbers 0 0
      → AreAlikeElsewhere peers tables (chosen s.parts (drop 1 numbers)) (chosen s.parts (drop 1 (tuple_at s.states n)))
      → IsKeptElsewhereAt peers (machines s s.states.count) n m
  kept_elsewhere n inside store elsewhere w shows =
      let fits = fits_shelf h s m numbered.fits in
      let under = numbered.under in
      let shown = shown_there h s m numbers under.bytes fits is.shapes under.stored under.saved under.alike under.jobs.0 under.jobs.1 w shows in
      let state = is_state h s m numbers under.bytes fits is.shapes under.stored under.saved under.alike under.jobs.0 under.jobs.1 numbered.stands in
      let shape : w.store.shape ≡ h = shown.store.shape ∙ (is.shapes (slice_index_or numbers 0 0) under.stored).0 in
      let are_there : ArePeers w.store.shape w.programs peers = subst (λ (g : Shape). ArePeers g w.programs peers) (sym shape)
      (subst (λ (ps : List Loaded). ArePeers h ps peers) (sym shown.programs) are) in
      let of = of_peers here w shown state.stands peers are_there own refl one some in
      let tables_there = subst (λ (ps : List Loaded). AreLiveTables ps (table_at tables)) (sym shown.programs) right in
      let loaded = subst (λ (ps : List Loaded). AreLoaded ps (chosen s.parts (drop 1 numbers))) (sym shown.programs) (are_loaded here state.stands) in
      let r = elsewhere w shown.jobs of tables_there loaded in
      let jobs = chosen s.parts (drop 1 (tuple_at s.states n)) in
      let kept : Shows (machine_at s n) (with_jobs (with_jobs w r.0) jobs) = record {
        store = subst (λ (k : ℕ). StandsFor (slice_index_or s.stores k no_store) w.store) (sym store) shown.store;
        sound = shown.sound;
        programs = shown.programs;
        jobs = refl;
        lists = shown.lists;
      } in
      let there : IsShownAlikeAt (machines s s.states.count) n (with_jobs w r.0) =
      (jobs, r.2, (machine_at s n, machines_at s s.states.count n inside, kept)) in
      (with_jobs w r.0, r.1, there)
