-- A CPU that has a job lists the keys of the maps.
use Rattle.std.proofs.Common.{◌≡◌, ℕ, ◌<◌, Bool, true, List, Some, None, inl, inr, length, refl, sym, ap, subst, ◌∙◌}
use Rattle.std.specs.Prelude.{map, slice_get, slice_index_or, slice_set}
use Rattle.std.proofs.lemmas.Option.{slice_get_within, slice_get_read}
use Rattle.bpf_shared.specs.declared.events.Span.{Span}
use Rattle.bpf_shared.specs.Store.{Plain, put}
use Rattle.bpf_shared.specs.Sound.{IsSoundStore}
use Rattle.bpf_plain.specs.PlainStore.{Contents, has_cpu, is_running, held_spans, shapes_of, StandsFor}
use Rattle.bpf_loader.specs.Loaded.{Loaded}
use Rattle.bpf_cpu.specs.declared.input.Input.{Input}
use Rattle.bpf_cpu.specs.Task.{Task, Waiting}
use Rattle.bpf_machine.specs.declared.machine.lane.Listed.{Listed}
use Rattle.bpf_machine.specs.declared.machine.lane.Lane.{Lane}
use Rattle.bpf_machine.specs.declared.machine.listing.KeyLists.{KeyLists}
use Rattle.bpf_machine.specs.Hands.{IsAt, NoneWaits}
use Rattle.bpf_machine.specs.Listings.{Listing, keys_by_map, listed_now, listing_at}
use Rattle.bpf_machine.specs.Machine.{MachineState, Shows}
use Rattle.bpf_machine.specs.Schedule.{World, Lists}
use Rattle.bpf_machine.specs.Work.{IsNext}
use Rattle.bpf_machine.specs.Private.Lanes.{tasks_of, IsBoard}
use Rattle.bpf_machine.specs.Private.KeyLists.{listings, AreListsOf, FitLists, HasJob, HasLists}
use Rattle.bpf_machine.proofs.KeyListLaws.{fit_listed, now_listed, none_listed}
use Rattle.bpf_machine.proofs.WorkLaws.{IsBehind, behind}

-- the job that a machine shows is one of the lists that it shows
pub has_job : (s t : MachineState) (c : ℕ) → s ≡ t → HasJob t.jobs c → HasJob s.jobs c
has_job s t c same has = subst (λ (m : MachineState). HasJob m.jobs c) (sym same) has

-- the board of a store that says the same of its CPUs as another
pub same_board : (store after : Contents) (programs : List Loaded) (jobs : List Listed) (lanes : List Lane) → has_cpu after ≡ has_cpu store
    → is_running after ≡ is_running store → held_spans after ≡ held_spans store
    → IsBoard (has_cpu store) (is_running store) (held_spans store) programs jobs lanes → IsBoard (has_cpu after) (is_running after)
    (held_spans after) programs jobs lanes
same_board store after programs jobs lanes serves runs held board =
    subst (λ (f : ℕ → Span → Bool). IsBoard (has_cpu after) (is_running after) f programs jobs lanes) (sym held)
    (subst (λ (f : ℕ → Bool). IsBoard (has_cpu after) f (held_spans store) programs jobs lanes) (sym runs)
    (subst (λ (f : ℕ → Bool). IsBoard f (is_running store) (held_spans store) programs jobs lanes) (sym serves) board))

module _ (store : Contents) (programs : List Loaded) (jobs : List Listed) (lanes : List Lane)
    (board : IsBoard (has_cpu store) (is_running store) (held_spans store) programs jobs lanes)
    (c : ℕ) (has : HasJob (tasks_of lanes jobs) c) where
  there : IsBehind jobs lanes c has.0 has.1
  there = behind jobs lanes c has.0 has.1 has.1.stage (record { listed = has.2; of = has.3; at = refl })

  pub serves : has_cpu store c ≡ true
  serves = subst (λ (n : ℕ). has_cpu store n ≡ true) there.of (board.each_job has.0 there.job there.listed).served

  module _ (keys : Bool) (all : List KeyLists) (is : keys ≡ true) (fit : FitLists (shapes_of store) jobs keys all) where
    fit_all : FitLists (shapes_of store) jobs true all
    fit_all = subst (λ (b : Bool). FitLists (shapes_of store) jobs b all) is fit

    has_lists : HasLists (shapes_of store) all c
    has_lists = subst (HasLists (shapes_of store) all) there.of (fit_all has.0 there.job there.listed)

    pub lists_within : c < length all
    lists_within = slice_get_within all c has_lists.0 has_lists.1

    module _ (l : KeyLists) (seen : l ≡ slice_index_or all c l) where
      listed : slice_get all c ≡ Some l
      listed = slice_get_read all (length all) c l refl lists_within seen

      pub are_lists : AreListsOf (shapes_of store) l.maps.items
      are_lists =
          let two : Some has_lists.0 ≡ Some l = sym has_lists.1 ∙ listed in
          let one : has_lists.0 ≡ l = cc in
          subst (λ (x : KeyLists). AreListsOf (shapes_of store) x.maps.items) one has_lists.2

      module _ (l' : KeyLists) (made : l'.made ≡ true) (after : Contents) (same : shapes_of after ≡ shapes_of store)
          (own : AreListsOf (shapes_of store) l'.maps.items) where
        pub still_fit : FitLists (shapes_of after) jobs keys (slice_set all c l')
        still_fit = subst (λ (b : Bool). FitLists (shapes_of after) jobs b (slice_set all c l')) (sym is)
            (fit_listed all c l l' listed made (shapes_of store) (shapes_of after) jobs same own fit_all)

        pub shows_listed : ((s : Plain) → IsSoundStore s → StandsFor store s → StandsFor after s × (map (λ list. list.keys) l'.maps.items ≡ keys_by_map s))
            → (view : MachineState) → record { store = store; programs = programs; jobs = tasks_of lanes jobs; lists = listings keys all } ≡ view
            → (w : World) → Shows view w
            → Shows (record { store = after; programs = programs; jobs = tasks_of lanes jobs; lists = listings keys (slice_set all c l') })
            (record w { lists = put w.lists c (listed_now w.store (w.lists c)) })
        shows_listed listing view view_is w shown =
            let shows : Shows (record { store = store; programs = programs; jobs = tasks_of lanes jobs; lists = listings keys all }) w =
            subst (λ (m : MachineState). Shows m w) (sym view_is) shown in
            let told = listing w.store shows.sound shows.store in
            let before : w.lists ≡ listing_at (listings true all) = shows.lists ∙ ap (λ (b : Bool). listing_at (listings b all)) is in
            record {
              store = told.0;
              sound = shows.sound;
              programs = shows.programs;
              jobs = shows.jobs;
              lists = ap (λ (f : ℕ → Listing). put f c (listed_now w.store (f c))) before ∙
                  (now_listed all c l l' listed made w.store told.1 ∙ ap (λ (b : Bool). listing_at (listings b (slice_set all c l'))) (sym is));
            }

-- where no lists are asked for
pub shows_none : (m : MachineState) (c : ℕ) → m.lists ≡ None → (w : World) → Shows m w → Shows m
    (record w { lists = put w.lists c (listed_now w.store (w.lists c)) })
shows_none m c none w shows =
    let before : w.lists ≡ listing_at None = shows.lists ∙ ap listing_at none in
    record {
      store = shows.store;
      sound = shows.sound;
      programs = shows.programs;
      jobs = shows.jobs;
      lists = ap (λ (f : ℕ → Listing). put f c (listed_now w.store (f c))) before ∙ (none_listed c w.store ∙ ap listing_at (sym none));
    }

-- ---- with the end of a job
pub lists_with_last : (old new : MachineState) (c : ℕ) → NoneWaits old.jobs c →
    ((w : World) → Shows old w → Shows new (record w { lists = put w.lists c (listed_now w.store (w.lists c)) }))
    → (w : World) → Shows old w → (z : World) × Lists w c z × Shows new z
lists_with_last old new c none lists w shows =
    let P : List Task → Type 0 = λ ts. NoneWaits ts c in
    (record w { lists = put w.lists c (listed_now w.store (w.lists c)) }, inr (subst P (sym shows.jobs) none, refl), lists w shows)

pub lists_not_yet : (old : MachineState) (c j : ℕ) → IsNext old.jobs c j → (w : World) → Shows old w → (z : World) × Lists w c z × Shows old z
lists_not_yet old c j next w shows =
    let P : List Task → Type 0 = λ ts. (k : ℕ) × (task : Task) × (input : Input) × IsAt ts c k task (Waiting input) in
    (w, inl (subst P (sym shows.jobs) (j, next.1.0, next.1.1, next.1.2), refl), shows)
