-- Closed sets of states show each end.
use Rattle.std.proofs.Common.{◌≡◌, ◌∙◌, ◌⊎◌, Bool, true, false, ℕ, zero, suc, List, [], ◌∷◌, Some, inl, inr, refl, sym, ap, subst}
use Rattle.std.specs.Prelude.{slice_get}
use Rattle.bpf_shared.specs.declared.events.Event.{Event}
use Rattle.bpf_plain.specs.Alike.{AlikeStandAlike, SavedAlikeLookAlike}
use Rattle.bpf_cpu.specs.Task.{Task}
use Rattle.bpf_alike.proofs.Like.{all_like}
use Rattle.bpf_machine.specs.Machine.{MachineState, Shows}
use Rattle.bpf_machine.specs.Hands.{IsFree, NoneWaits}
use Rattle.bpf_machine.specs.Patient.{AsRich}
use Rattle.bpf_machine.specs.declared.machine.Turn.TheVariants as turn
use Rattle.bpf_x86.specs.Machine.{X86, Move, TurnOf, FlushOf, drained}
use Rattle.bpf_buffering.specs.Search.{BufferedState, ShowsX86, IsShownX86, IsKeptAsX86, CannotMove, MovesTo, buffer_at}
use Rattle.bpf_buffering.specs.Ahead.{MovesAhead, IsClosedX86, AheadSetsCoverX86}
use Rattle.bpf_buffering.proofs.Flushing.{cannot_flush}
use Rattle.bpf_buffering.proofs.Running.{turn_alone}
use Rattle.bpf_buffering.specs.Alike.{with_x86_jobs, IsKeptAlikeX86, IsShownAlikeX86}
use Rattle.bpf_patience.specs.Patience.{IsKeptRichlyX86, IsClosedRichlyX86, PatientSetsCoverX86}
use Rattle.bpf_machine.proofs.PatientLaws.{all_same}
use Rattle.bpf_explore.proofs.RichLaws.{refilled_shows}
use Rattle.bpf_expand.specs.State.{Host}
use Rattle.bpf_expand.specs.Laws.{IsAmong}
use Rattle.bpf_buffer_expand.specs.State.{HasNone, HasNoneIn, FillsX86, LeadsAhead, IsStateOf, IsSuccessor}
use Rattle.bpf_buffer_expand.specs.Laws.{AreClosed, AreOf, PatientStatesCoverX86, StatesCoverX86}
use Rattle.bpf_buffer_expand.proofs.Alike.{buffers_too, jobs_too, shows_too}

-- ---- a machine of each state
abbrev Of : Host → List ℕ → Type 0
Of h bytes = (m : BufferedState) × IsStateOf h m bytes

abbrev EachOf : Host → List (List ℕ) → Type 0
EachOf h states = (i : ℕ) (bytes : List ℕ) → slice_get states i ≡ Some bytes → Of h bytes

machines : (h : Host) (states : List (List ℕ)) → EachOf h states → List BufferedState
machines h [] each = []
machines h (b ∷ bs) each = (each 0 b refl).0 ∷ machines h bs (λ i c at. each (suc i) c at)

machine_of : (h : Host) (states : List (List ℕ)) (each : EachOf h states) (i : ℕ) (m : BufferedState) → slice_get (machines h states each) i ≡ Some m
    → (bytes : List ℕ) × (slice_get states i ≡ Some bytes) × IsStateOf h m bytes
unfolding machines
machine_of h [] each i m at = cc
machine_of h (b ∷ bs) each zero m at =
    let same : (each 0 b refl).0 ≡ m = cc in
    (b, refl, subst (λ (x : BufferedState). IsStateOf h x b) same (each 0 b refl).1)
machine_of h (b ∷ bs) each (suc i) m at = machine_of h bs (λ i c at. each (suc i) c at) i m at

state_at : (h : Host) (states : List (List ℕ)) (each : EachOf h states) (i : ℕ) (bytes : List ℕ) → slice_get states i ≡ Some bytes
    → (m : BufferedState) × (slice_get (machines h states each) i ≡ Some m) × IsStateOf h m bytes
unfolding machines
state_at h [] each i bytes at = cc
state_at h (b ∷ bs) each zero bytes at =
    let same : b ≡ bytes = cc in
    ((each 0 b refl).0, refl, subst (λ (l : List ℕ). IsStateOf h (each 0 b refl).0 l) same (each 0 b refl).1)
state_at h (b ∷ bs) each (suc i) bytes at = state_at h bs (λ i c at. each (suc i) c at) i bytes at

-- ---- moves that change nothing
idle_moves : (m : BufferedState) (c : ℕ) → IsFree m.machine.jobs c → NoneWaits m.machine.jobs c → MovesTo m (TurnOf c) m
idle_moves m c free none x shown =
    let jobs = shown.world.jobs in (
      x,
      (
        turn.Idle,
        inr (inr (
          subst (λ (l : List Task). IsFree l c) (sym jobs) free,
          subst (λ (l : List Task). NoneWaits l c) (sym jobs) none,
          refl,
          refl,
        )),
      ),
      shown,
    )

moves_ahead : (old : BufferedState) (move : Move) (c n : ℕ) (new : BufferedState) → LeadsAhead old move c n new → MovesAhead old move new
moves_ahead old move c n new leads x shown = let r = leads x shown in (r.0, r.1, c, n, r.2, r.3, r.4)

-- ---- where budgets are passed over
richly_shown : (mid new : BufferedState) (c : ℕ) → FillsX86 true mid c new → (x : X86) → ShowsX86 mid x
    → (jobs : List Task) × AsRich x.world.jobs jobs × ShowsX86 new (with_x86_jobs x jobs)
richly_shown mid new c (fills, buffers) x shown =
    let r = refilled_shows mid.machine new.machine c fills x.world shown.world in
    (r.0, r.1, record { world = r.2; buffers = shown.buffers ∙ ap (λ (l : List (List Event)). buffer_at l) (sym buffers) })

fills_exactly : (mid new : BufferedState) (c : ℕ) → FillsX86 false mid c new → (x : X86) → ShowsX86 mid x → ShowsX86 new x
fills_exactly mid new c (same, buffers) x shown = record {
  world = subst (λ (m : MachineState). Shows m x.world) (sym same) shown.world;
  buffers = shown.buffers ∙ ap (λ (l : List (List Event)). buffer_at l) (sym buffers);
}

-- ---- they are closed
module _ (look : SavedAlikeLookAlike) (stand : AlikeStandAlike) (h : Host) (states : List (List ℕ)) (closed : AreClosed h states) where
  abbrev Answered : List ℕ → Move → Type 0
  Answered bytes move = HasNoneIn h bytes move
      ⊎ ((c n : ℕ) × (next : List ℕ) × IsSuccessor h bytes move c n next × IsAmong states next)

  one_of : (bytes : List ℕ) → Answered bytes (TurnOf 0) → Of h bytes
  one_of bytes (inl (m, is, none)) = (m, is)
  one_of bytes (inr (c, n, next, (m, new, is, leads, then), among)) = (m, is)

  each : EachOf h states
  each i bytes at = one_of bytes (closed bytes (TurnOf 0) (i, at))

  kept : List BufferedState
  kept = machines h states each

  is_kept : (new : BufferedState) (next : List ℕ) → IsStateOf h new next → IsAmong states next → IsKeptAsX86 kept new
  unfolding kept
  is_kept new next is (j, at) x shown =
      let s = state_at h states each j next at in
      (j, s.0, s.1, shows_too h new s.0 next is s.2 look stand x shown)

  as_it_is : (x : X86) → IsShownX86 kept x → IsShownAlikeX86 kept x
  as_it_is x shown = (x.world.jobs, all_like x.world.programs x.world.jobs, shown)

  -- the move leads from the machine to what is kept, but for its budget where that is passed over; or it can't be made
  abbrev MovesKept : Bool → BufferedState → Move → Type 0
  MovesKept patient m move = ((c : ℕ) × (mid new : BufferedState) × MovesAhead m move mid × FillsX86 patient mid c new × IsKeptAsX86 kept new)
      ⊎ ((MovesAhead m move m × IsKeptAsX86 kept m) ⊎ CannotMove m move)

  none_moves : (i : ℕ) (m : BufferedState) → slice_get kept i ≡ Some m → (move : Move) → HasNone m move → MovesKept h.patient m move
  none_moves i m at (TurnOf c) (free, none) = inr (inl (
    turn_alone m m (TurnOf c) (idle_moves m c free none),
    λ x shown. (i, m, at, shown),
  ))
  none_moves i m at (FlushOf c) none = inr (inr (cannot_flush m c none))

  none_too : (x m : BufferedState) (bytes : List ℕ) → IsStateOf h x bytes → IsStateOf h m bytes → (move : Move) → HasNone x move → HasNone m move
  none_too x m bytes a b (TurnOf c) (free, none) = (
    subst (λ (l : List Task). IsFree l c) (jobs_too h x m bytes a b) free,
    subst (λ (l : List Task). NoneWaits l c) (jobs_too h x m bytes a b) none,
  )
  none_too x m bytes a b (FlushOf c) none = ap (λ (l : List (List Event)). buffer_at l c) (sym (buffers_too h x m bytes a b)) ∙ none

  moved : (i : ℕ) (m : BufferedState) → slice_get kept i ≡ Some m → (bytes : List ℕ) → IsStateOf h m bytes → (move : Move) → Answered bytes move
      → MovesKept h.patient m move
  moved i m at bytes is move (inl (x, isx, none)) = none_moves i m at move (none_too x m bytes isx is move none)
  moved i m at bytes is move (inr (c, n, next, (x, new, isx, (mid, leads, fills), then), among)) = inl (
    c,
    mid,
    new,
    λ y shown. moves_ahead x move c n mid leads y (shows_too h m x bytes is isx look stand y shown),
    fills,
    is_kept new next then among,
  )

  all_moved : (i : ℕ) (m : BufferedState) (move : Move) → slice_get kept i ≡ Some m → MovesKept h.patient m move
  unfolding kept
  all_moved i m move at = let b = machine_of h states each i m at in moved i m at b.0 b.2 move (closed b.0 move (i, b.1))

  exactly : (m : BufferedState) (move : Move) → MovesKept false m move →
      ((new : BufferedState) × MovesAhead m move new × IsKeptAlikeX86 kept new) ⊎ CannotMove m move
  exactly m move (inl (c, mid, new, moves, fills, is)) = inl (mid, moves, λ x shown. as_it_is x (is x (fills_exactly mid new c fills x shown)))
  exactly m move (inr (inl (moves, is))) = inl (m, moves, λ x shown. as_it_is x (is x shown))
  exactly m move (inr (inr cannot)) = inr cannot

  are_closed : h.patient ≡ false → IsClosedX86 kept
  are_closed exact i m at move = exactly m move (subst (λ (b : Bool). MovesKept b m move) exact (all_moved i m move at))

  but_for_budgets : (m : BufferedState) (move : Move) → MovesKept true m move → ((new : BufferedState) × MovesAhead m move new × IsKeptRichlyX86 kept new)
      ⊎ CannotMove m move
  but_for_budgets m move (inl (c, mid, new, moves, fills, is)) =
      inl (
        mid,
        moves,
        λ x shown. (let r = richly_shown mid new c fills x shown in
            (r.0, r.1, as_it_is (with_x86_jobs x r.0) (is (with_x86_jobs x r.0) r.2))),
      )
  but_for_budgets m move (inr (inl (moves, is))) = inl (m, moves, λ x shown. (x.world.jobs, all_same x.world.jobs, as_it_is x (is x shown)))
  but_for_budgets m move (inr (inr cannot)) = inr cannot

  are_closed_richly : h.patient ≡ true → IsClosedRichlyX86 kept
  are_closed_richly passes i m at move = but_for_budgets m move (subst (λ (b : Bool). MovesKept b m move) passes (all_moved i m move at))

  are_of : AreOf h states kept
  unfolding kept
  are_of i m at = let b = machine_of h states each i m at in (b.0, (i, b.1), b.2)

pub states_cover : SavedAlikeLookAlike → AlikeStandAlike → AheadSetsCoverX86 → StatesCoverX86
states_cover look stand cover h states first bytes w moves z exact closed is among fresh shown runs ended =
    let all = kept look stand h states closed in (
      all,
      are_of look stand h states closed,
      cover all w moves z (are_closed look stand h states closed exact) fresh
          (is_kept look stand h states closed first bytes is among (drained w) shown) runs ended,
    )

pub patient_states_cover : SavedAlikeLookAlike → AlikeStandAlike → PatientSetsCoverX86 → PatientStatesCoverX86
patient_states_cover look stand cover h states first bytes w moves z passes closed is among fresh shown runs ended fit =
    let all = kept look stand h states closed in (
      all,
      are_of look stand h states closed,
      cover all w moves z (are_closed_richly look stand h states closed passes) fresh
          (is_kept look stand h states closed first bytes is among (drained w) shown) runs ended fit,
    )
