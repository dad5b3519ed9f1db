-- Closed sets of states cover all that schedules lead to.
use Rattle.std.proofs.Common.{◌≡◌, ◌⊎◌, Bool, true, false, ℕ, zero, suc, List, [], ◌∷◌, Some, inl, inr, refl, subst}
use Rattle.std.specs.Prelude.{slice_get}
use Rattle.bpf_plain.specs.Alike.{AlikeStandAlike, SavedAlikeLookAlike}
use Rattle.bpf_machine.specs.Schedule.{World, RunsSchedule}
use Rattle.bpf_machine.specs.Laws.{IsFresh}
use Rattle.bpf_machine.specs.declared.machine.Stand.{Stand}
use Rattle.bpf_machine.specs.Race.{IsRace, IsRaceKept, RacesAreKept}
use Rattle.bpf_machine.specs.Machine.{MachineState, Shows}
use Rattle.bpf_machine.specs.Hands.{IsFree}
use Rattle.bpf_machine.specs.Headways.{with_jobs}
use Rattle.bpf_machine.specs.Cover.{ClosedSetsCover, IsClosed, IsKeptAs, IsShown, TurnsAhead, TurnsTo}
use Rattle.bpf_machine.specs.Patient.{IsClosedRichly, IsKeptRichly, PatientRacesAreKept, PatientSetsCover}
use Rattle.bpf_machine.proofs.CoverLaws.{idle_turns_to}
use Rattle.bpf_explore.proofs.RichLaws.{refilled_shows}
use Rattle.bpf_expand.specs.State.{Fills, Host, IsStateOf, IsIdleIn, IsSuccessor}
use Rattle.bpf_expand.specs.Laws.{AreClosed, AreOf, FitBudgets, IsAmong, PatientStatesCover, StatesCover}
use Rattle.bpf_expand.proofs.Alike.{same_jobs, shows_too, turns_too, free_too, waits_too}

-- ---- a machine of each state
abbrev Of : Host → List ℕ → Type 0
Of h bytes = (m : MachineState) × IsStateOf h m bytes

abbrev EachOf : Host → List (List ℕ) → Type 0
EachOf h states = (i : ℕ) (bytes : List ℕ) → slice_get states i ≡ Some bytes → Of h bytes

machines : (h : Host) (states : List (List ℕ)) → EachOf h states → List MachineState
machines h [] each = []
machines h (b ∷ bs) each = (each 0 b refl).0 ∷ machines h bs (λ i c at. each (suc i) c at)

machine_of : (h : Host) (states : List (List ℕ)) (each : EachOf h states) (i : ℕ) (m : MachineState) → slice_get (machines h states each) i ≡ Some m
    → (bytes : List ℕ) × (slice_get states i ≡ Some bytes) × IsStateOf h m bytes
unfolding machines
machine_of h [] each i m at = cc
machine_of h (b ∷ bs) each zero m at =
    let same : (each 0 b refl).0 ≡ m = cc in
    (b, refl, subst (λ (x : MachineState). IsStateOf h x b) same (each 0 b refl).1)
machine_of h (b ∷ bs) each (suc i) m at = machine_of h bs (λ i c at. each (suc i) c at) i m at

state_at : (h : Host) (states : List (List ℕ)) (each : EachOf h states) (i : ℕ) (bytes : List ℕ) → slice_get states i ≡ Some bytes
    → (m : MachineState) × (slice_get (machines h states each) i ≡ Some m) × IsStateOf h m bytes
unfolding machines
state_at h [] each i bytes at = cc
state_at h (b ∷ bs) each zero bytes at =
    let same : b ≡ bytes = cc in
    ((each 0 b refl).0, refl, subst (λ (l : List ℕ). IsStateOf h (each 0 b refl).0 l) same (each 0 b refl).1)
state_at h (b ∷ bs) each (suc i) bytes at = state_at h bs (λ i c at. each (suc i) c at) i bytes at

turns_to : (m : MachineState) (c n : ℕ) (new : MachineState) → TurnsAhead m c n new → TurnsTo m c new
turns_to m c n new (answer, mid, headway, turn, ahead, count) = (answer, mid, headway, turn, ahead)

fills_nothing : (patient : Bool) (m : MachineState) (c : ℕ) → IsFree m.jobs c → Fills patient m c m
fills_nothing false m c free = refl
fills_nothing true m c free = inl (free, refl)

-- the race is one in what a machine of one of the states shows
abbrev pub IsRaceOf : Host → List (List ℕ) → World → Stand → Stand → ℕ → Type 0
IsRaceOf h states z one other b = (v : World) × (m : MachineState) × (bytes : List ℕ) × IsAmong states bytes × IsStateOf h m bytes × Shows m
    v × (v.store ≡ z.store) × IsRace v one other b

-- ---- they are closed
module _ (look : SavedAlikeLookAlike) (stand : AlikeStandAlike) (h : Host) (states : List (List ℕ)) (closed : AreClosed h states) where
  one_of : (bytes : List ℕ) → (IsIdleIn h bytes 0 ⊎ ((n : ℕ) × (next : List ℕ) × IsSuccessor h bytes 0 n next × IsAmong states next)) → Of h bytes
  one_of bytes (inl (m, is, free, none)) = (m, is)
  one_of bytes (inr (n, next, (m, new, is, leads, then), among)) = (m, is)

  each : EachOf h states
  each i bytes at = one_of bytes (closed bytes 0 (i, at))

  kept : List MachineState
  kept = machines h states each

  is_kept : (new : MachineState) (next : List ℕ) → IsStateOf h new next → IsAmong states next → IsKeptAs kept new
  unfolding kept
  is_kept new next is (j, at) =
      let s = state_at h states each j next at in
      (j, s.0, s.1, λ w shown. shows_too look stand h new s.0 next is s.2 w shown)

  -- the CPU's turn leads from the machine to what is kept, but for its budget where that is passed over
  abbrev TurnsKept : Bool → MachineState → ℕ → Type 0
  TurnsKept patient m c = (mid new : MachineState) × TurnsTo m c mid × Fills patient mid c new × IsKeptAs kept new

  turned : (i : ℕ) (m : MachineState) → slice_get kept i ≡ Some m → (bytes : List ℕ) → IsStateOf h m bytes → (c : ℕ)
      → (IsIdleIn h bytes c ⊎ ((n : ℕ) × (next : List ℕ) × IsSuccessor h bytes c n next × IsAmong states next)) → TurnsKept h.patient m c
  turned i m at bytes is c (inl (x, isx, free, none)) =
      let same = same_jobs h x m bytes isx is in
      let nothing = free_too x.jobs m.jobs c same free in
      (m, m, idle_turns_to m c nothing (waits_too x.jobs m.jobs c same none), fills_nothing h.patient m c nothing, (i, m, at, λ w shown. shown))
  turned i m at bytes is c (inr (n, next, (x, new, isx, (mid, turns, fills), then), among)) = (
    mid,
    new,
    turns_too x m c mid (λ w shown. shows_too look stand h m x bytes is isx w shown) (turns_to x c n mid turns),
    fills,
    is_kept
        new next then among,
  )

  all_turned : (i : ℕ) (m : MachineState) (c : ℕ) → slice_get kept i ≡ Some m → TurnsKept h.patient m c
  unfolding kept
  all_turned i m c at = let b = machine_of h states each i m at in turned i m at b.0 b.2 c (closed b.0 c (i, b.1))

  exactly : (m : MachineState) (c : ℕ) → TurnsKept false m c → (new : MachineState) × TurnsTo m c new × IsKeptAs kept new
  exactly m c (mid, new, turns, same, is) = (mid, turns, subst (IsKeptAs kept) same is)

  are_closed : h.patient ≡ false → IsClosed kept
  are_closed exact i m at = λ c. exactly m c (subst (λ (b : Bool). TurnsKept b m c) exact (all_turned i m c at))

  but_for_budgets : (m : MachineState) (c : ℕ) → TurnsKept true m c → (new : MachineState) × TurnsTo m c new × IsKeptRichly kept new
  but_for_budgets m c (mid, new, turns, fills, (i, one, at, too)) =
      (mid, turns, λ w shown. (let r = refilled_shows mid new c fills w shown in (r.0, r.1, (i, one, at, too (with_jobs w r.0) r.2))))

  are_closed_richly : h.patient ≡ true → IsClosedRichly kept
  are_closed_richly passes i m c at = but_for_budgets m c (subst (λ (b : Bool). TurnsKept b m c) passes (all_turned i m c at))

  are_of : AreOf h states kept
  unfolding kept
  are_of i m at = let b = machine_of h states each i m at in (b.0, (i, b.1), b.2)

  is_shown : (first : MachineState) (bytes : List ℕ) (w : World) → IsStateOf h first bytes → IsAmong states bytes → Shows first w → IsShown kept w
  is_shown first bytes w is among shown = shown_by (is_kept first bytes is among)
    where
      shown_by : IsKeptAs kept first → IsShown kept w
      shown_by (i, one, at, too) = (i, one, at, too w shown)

  of_race : (z : World) (one other : Stand) (b : ℕ) → IsRaceKept kept z one other b → IsRaceOf h states z one other b
  unfolding kept
  of_race z one other b (v, (i, m, at, shows), store, race) = let s = machine_of h states each i m at in (v, m, s.0, (i, s.1), s.2, shows, store, race)

pub states_cover : SavedAlikeLookAlike → AlikeStandAlike → ClosedSetsCover → StatesCover
states_cover look stand cover h states first bytes w z schedule exact closed is among fresh shown runs =
    let all = kept look stand h states closed in
    let covers = cover all w z schedule (are_closed look stand h states closed exact) fresh
    (is_shown look stand h states closed first bytes w is among shown) runs in
    (all, are_of look stand h states closed, covers.0, covers.1)

pub patient_states_cover : SavedAlikeLookAlike → AlikeStandAlike → PatientSetsCover → PatientStatesCover
patient_states_cover look stand cover h states first bytes w z schedule passes closed is among fresh shown runs fit =
    let all = kept look stand h states closed in
    let covers = cover all w z schedule (are_closed_richly look stand h states closed passes) fresh
    (is_shown look stand h states closed first bytes w is among shown) runs fit in
    (all, are_of look stand h states closed, covers.0, covers.1)

-- each race that schedules lead to is such a one
pub race_of_state : SavedAlikeLookAlike → AlikeStandAlike → RacesAreKept → PatientRacesAreKept → (h : Host) (states : List (List ℕ))
    (first : MachineState) (bytes : List ℕ) (w z : World) (schedule : List ℕ) (patient : Bool) → h.patient ≡ patient
    → AreClosed h states → IsStateOf h first bytes → IsAmong states bytes → IsFresh w → Shows first w → RunsSchedule w schedule z →
    FitBudgets h.patient z.jobs → (one other : Stand) (b : ℕ) → IsRace z one other b → IsRaceOf h states z one other b
race_of_state look stand law patiently h states first bytes w z schedule false exact closed is among fresh shown runs fit one other b race =
    of_race look stand h states closed z one other b
    (law (kept look stand h states closed) w z schedule (are_closed look stand h states closed exact) fresh
    (is_shown look stand h states closed first bytes w is among shown) runs one other b race)
race_of_state look stand law patiently h states first bytes w z schedule true passes closed is among fresh shown runs fit one other b race =
    of_race look stand h states closed z one other b
    (patiently (kept look stand h states closed) w z schedule (are_closed_richly look stand h states closed passes) fresh
    (is_shown look stand h states closed first bytes w is among shown) runs (fit passes) one other b race)
