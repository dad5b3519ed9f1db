-- Moves that were made from kept machines, while more are kept.
use Rattle.std.proofs.Common.{◌≡◌, ◌∙◌, ◌+◌, ◌-◌, ◌<◌, ◌≤◌, ℕ, zero, suc, Bool, true, false, List, [], ◌∷◌, ◌++◌, Some, length, map}
use Rattle.std.proofs.Common.{replicate, refl, inl, inr, ◌⊎◌, sym, Option, None}
use Rattle.std.proofs.Common.{ap, subst, append-nil, append_assoc, length-append, arith}
use Rattle.std.specs.Prelude.{Result, Ok, Err, OnOk, OnErr, slice_get}
use Rattle.std.specs.declared.alloc.AllocError.{AllocError}
use Rattle.std.proofs.lemmas.Bool.{cases_lt}
use Rattle.std.proofs.lemmas.Option.{slice_get_within}
use Rattle.bpf_base.proofs.Lists.{slice_get-front}
use Rattle.bpf_cpu.specs.Task.{Task}
use Rattle.bpf_machine.specs.Patient.{AsRich}
use Rattle.bpf_machine.proofs.PatientLaws.{all_same}
use Rattle.bpf_x86.specs.Machine.{X86, Move, TurnOf, FlushOf}
use Rattle.bpf_buffering.specs.Search.{BufferedState, ShowsX86, MovesTo, RunsTo, CannotMove, IsShownX86, buffer_at, move_of}
use Rattle.bpf_buffering.specs.Ahead.{MovesAhead}
use Rattle.bpf_buffering.specs.Alike.{with_x86_jobs, IsKeptAlikeAtX86}
use Rattle.bpf_buffering.proofs.ClassLaws.{kept_itself}
use Rattle.bpf_patience.proofs.Joining.{gift_last}
use Rattle.bpf_explore.proofs.RichLaws.{refilled_shows}
use Rattle.bpf_flushes.proofs.Turning.{turn_numbered, flush_numbered}
use Rattle.bpf_reorderings.specs.Private.Searching.{CannotMoveAt, Extends, IsClosed, IsExpanded, IsFilled, IsFlushedTo, IsKept, IsKeptAt}
use Rattle.bpf_reorderings.specs.Private.Searching.{IsMoved, IsMovedTo}
use Rattle.bpf_reorderings.specs.Private.Trail.{IsLedFrom, LeadsTo}
use Rattle.bpf_reorderings.proofs.Trails.{AddsOne}

-- ---- more are kept
pub none_more : (kept : List BufferedState) → Extends kept kept
none_more kept = ([], sym (append-nil kept))

pub more_again : (old mid new : List BufferedState) → Extends old mid → Extends mid new → Extends old new
more_again old mid new a b = (a.0 ++ b.0, b.1 ∙ ap (λ (ms : List BufferedState). ms ++ b.0) a.1 ∙ append_assoc old a.0 b.0)

pub adds_extends : (old new : List BufferedState) (m : BufferedState) → AddsOne old m new → Extends old new
adds_extends old new m (inl e) = ([], e ∙ sym (append-nil old))
adds_extends old new m (inr e) = (m ∷ [], e)

-- at most one more is kept, also where memory is refused
pub adds_one : (old new : List BufferedState) (m : BufferedState) (r : Result ℕ AllocError) → OnOk r (AddsOne old m new) → OnErr r (new ≡ old) →
    AddsOne old m new
adds_one old new m (Ok n) adds err = adds
adds_one old new m (Err e) adds err = inl err

-- ---- one move, and no turns after it
pub just_moved : (old new : BufferedState) (move : Move) → MovesTo old move new → MovesAhead old move new
just_moved old new move moves x shows = let r = moves x shows in (r.0, r.0, 0, 0, r.1, refl, r.2)

-- the numbers of moves
flush_number : (c : ℕ) → move_of (128 + c) ≡ FlushOf c
flush_number c = let back : (128 + c) - 128 ≡ c = omega arith in flush_numbered (128 + c) (omega arith) ∙ ap FlushOf back

pub flush_numbers : (c : ℕ) → map move_of (replicate (0 + 1) (128 + c)) ≡ FlushOf c ∷ []
flush_numbers c = ap (λ (m : Move). m ∷ []) (flush_number c)

pub one_moved : (old new : BufferedState) (move : Move) → MovesTo old move new → RunsTo old (move ∷ []) new
one_moved old new move moves x shows = let r = moves x shows in (r.0, (r.0, r.1, refl), r.2)

pub turn_numbers : (n c : ℕ) → c < 128 → map move_of (replicate n c) ≡ replicate n (TurnOf c)
turn_numbers zero c less = refl
turn_numbers (suc n) c less =
    ap (λ (m : Move). m ∷ map move_of (replicate n c)) (turn_numbered c less) ∙ ap (λ (ms : List Move). TurnOf c ∷ ms) (turn_numbers n c less)

-- others have no move that changes anything
abbrev pub Beyond : List BufferedState → ℕ → Type 0
Beyond kept n = (i c : ℕ) (m : BufferedState) → slice_get kept i ≡ Some m → n ≤ c → MovesTo m (TurnOf c) m × CannotMove m (FlushOf c)

pub record MovedSoFar (patient : Bool) (old : List BufferedState) (place cpu : ℕ) (kept : List BufferedState) : Type 0 where
  pub extends : Extends old kept
  pub turned : (c : ℕ) → c < cpu → IsMoved patient kept place (TurnOf c)
  pub flushed : (c : ℕ) → c < cpu → IsMoved patient kept place (FlushOf c)

pub record ExpandedSoFar (patient : Bool) (old : List BufferedState) (next : ℕ) (kept : List BufferedState) : Type 0 where
  pub extends : Extends old kept
  pub expanded : (i : ℕ) → i < next → IsExpanded patient kept i
  pub inside : next ≤ length kept

-- ---- what is kept
-- what is kept but for dead registers, is kept there
pub alike_kept : (patient : Bool) (kept : List BufferedState) (k : ℕ) (m : BufferedState) → IsKeptAlikeAtX86 kept k m → IsKeptAt patient kept k m
alike_kept false kept k m is = is
alike_kept true kept k m is = λ x shows. (x.world.jobs, all_same x.world.jobs, is x shows)

-- so is a kept one
pub as_kept : (patient : Bool) (kept : List BufferedState) (k : ℕ) (m : BufferedState) → slice_get kept k ≡ Some m → IsKeptAt patient kept k m
as_kept patient kept k m at = alike_kept patient kept k m (kept_itself m kept k at)

kept_there : (patient : Bool) (kept : List BufferedState) (k : ℕ) (m : BufferedState) → IsKeptAt patient kept k m → IsKept patient kept m
kept_there false kept k m is = λ x shows. (
    let r = is x shows in
    let s = r.2 in
    (r.0, r.1, (k, s.0, s.1, s.2)))
kept_there true kept k m is = λ x shows. (
    let r = is x shows in
    let dead = r.2 in
    let s = dead.2 in
    (r.0, r.1, (dead.0, dead.1, (k, s.0, s.1, s.2))))

-- where it leads to the k-th, it was made
pub was_moved : (patient : Bool) (kept : List BufferedState) (i : ℕ) (move : Move) (k : ℕ) → IsMovedTo patient kept i move k → IsMoved patient kept i move
was_moved patient kept i move k is m at = let r = is.1 m at in inl (r.0, r.1, kept_there patient kept k r.0 r.2)

pub was_flushed : (patient : Bool) (kept : List BufferedState) (i c : ℕ) (to : Option ℕ) → IsFlushedTo patient kept i c to → IsMoved patient kept
    i (FlushOf c)
was_flushed patient kept i c None never = λ m at. inr (never m at)
was_flushed patient kept i c (Some k) is = was_moved patient kept i (FlushOf c) k is

pub leads_plainly : (patient : Bool) (old : BufferedState) (moves : List Move) (new : BufferedState) → RunsTo old moves new → LeadsTo patient old moves new
leads_plainly false old moves new runs = runs
leads_plainly true old moves new runs = λ x shows. (
    let r = runs x shows in
    (r.0, gift_last moves x r.0 r.0.world.jobs r.1 (all_same r.0.world.jobs), r.2))

-- a job that has its whole budget back
filled_shows : (m new : BufferedState) (c : ℕ) → IsFilled true m c new → (x : X86) → ShowsX86 m x → (jobs : List Task) × AsRich x.world.jobs jobs
    × ShowsX86 new (with_x86_jobs x jobs)
filled_shows m new c (refills, buffers) x shows =
    let r = refilled_shows m.machine new.machine c refills x.world shows.world in
    (r.0, r.1, record { world = r.2; buffers = shows.buffers ∙ ap buffer_at (sym buffers) })

pub filled_kept : (patient : Bool) (kept : List BufferedState) (k : ℕ) (m new : BufferedState) (c : ℕ) → IsFilled patient m c new
    → IsKeptAlikeAtX86 kept k new → IsKeptAt patient kept k m
filled_kept false kept k m new c same is = subst (IsKeptAlikeAtX86 kept k) same is
filled_kept true kept k m new c filled is = λ x shows. (
    let r = filled_shows m new c filled x shows in
    (r.0, r.1, is (with_x86_jobs x r.0) r.2))

pub filled_leads : (patient : Bool) (old : BufferedState) (moves : List Move) (m new : BufferedState) (c : ℕ) → RunsTo old moves m → IsFilled
    patient m c new → LeadsTo patient old moves new
filled_leads false old moves m new c runs same = subst (RunsTo old moves) (sym same) runs
filled_leads true old moves m new c runs filled = λ x shows. (
    let r = runs x shows in
    let s = filled_shows m new c filled r.0 r.2 in
    (with_x86_jobs r.0 s.0, gift_last moves x r.0 s.0 r.1 s.1, s.2))

module _ (patient : Bool) where
  module _ (old new : List BufferedState) (more : Extends old new) where
    same_at : (i : ℕ) → i < length old → slice_get new i ≡ slice_get old i
    same_at i inside = ap (λ (ms : List BufferedState). slice_get ms i) more.1 ∙ slice_get-front old more.0 i inside

    shown_still : (x : X86) → IsShownX86 old x → IsShownX86 new x
    shown_still x (i, m, at, shows) = (i, m, same_at i (slice_get_within old i m at) ∙ at, shows)

    kept_still : (m : BufferedState) → IsKept patient old m → IsKept patient new m
    kept_still m is = go patient is
      where
        go : (b : Bool) → IsKept b old m → IsKept b new m
        go false kept = λ x shows. (let r = kept x shows in (r.0, r.1, shown_still (with_x86_jobs x r.0) r.2))
        go true kept = λ x shows. (
            let r = kept x shows in
            let dead = r.2 in
            (r.0, r.1, (dead.0, dead.1, shown_still (with_x86_jobs x dead.0) dead.2)))

    pub moved_still : (i : ℕ) (move : Move) → i < length old → IsMoved patient old i move → IsMoved patient new i move
    moved_still i move inside moved m there = elim (moved m (sym (same_at i inside) ∙ there)) [
      | inl r ↦ inl (r.0, r.1, kept_still r.0 r.2)
      | inr never ↦ inr never
    ]

    pub expanded_still : (i : ℕ) → i < length old → IsExpanded patient old i → IsExpanded patient new i
    expanded_still i inside expanded move = moved_still i move inside (expanded move)

    pub inside_still : (place : ℕ) → place < length old → place < length new
    inside_still place inside = subst (λ (ms : List BufferedState). place < length ms) (sym more.1) (let both = length-append old more.0 in omega arith)

  -- the machine where it leads is kept
  pub moved_to : (old new : List BufferedState) (place : ℕ) (move : Move) (m after : BufferedState) (k : ℕ) → Extends old new → slice_get old place ≡
      Some m → MovesAhead m move after → k < length new → IsKeptAt patient new k after → IsMovedTo patient new place move k
  moved_to old new place move m after k more at moves inside is = (
    inside,
    λ other there. (
        let two : Some m ≡ Some other = sym at ∙ (sym (same_at old new more place (slice_get_within old place m at)) ∙ there) in
        let one : m ≡ other = cc in
        (after, subst (λ (n : BufferedState). MovesAhead n move after) one moves, is)),
  )

  -- it leads to the same machine
  pub stays_there : (kept : List BufferedState) (place : ℕ) (move : Move) (m : BufferedState) → slice_get kept place ≡ Some m → MovesAhead m move m →
      IsMovedTo patient kept place move place
  stays_there kept place move m at moves = moved_to kept kept place move m m place (none_more kept) at moves (slice_get_within kept place m at)
      (as_kept patient kept place m at)

  pub stays : (kept : List BufferedState) (place : ℕ) (move : Move) (m : BufferedState) → slice_get kept place ≡ Some m → MovesTo m move m →
      IsMoved patient kept place move
  stays kept place move m at moves =
      was_moved patient kept place move place (stays_there kept place move m at (just_moved m m move moves))

  -- ---- the album where a move was made, or none
  module _ (old new : List BufferedState) (place : ℕ) (move : Move) (m after : BufferedState) (same : new ≡ old) (at : slice_get old place ≡ Some m) where
    pub led_from : (named : List Move) (moves : List Move) → named ≡ moves → LeadsTo patient m moves after → IsLedFrom patient new place named after
    led_from named moves e runs = (
      m,
      ap (λ (ms : List BufferedState). slice_get ms place) same ∙ at,
      subst
          (λ (v : List Move). LeadsTo patient m v after) (sym e) runs,
    )

    -- it changed nothing
    pub idle_moved : MovesAhead m move after → after ≡ m → IsMovedTo patient new place move place
    idle_moved moves idle = subst (λ (ms : List BufferedState). IsMovedTo patient ms place move place) (sym same)
        (stays_there old place move m at (subst (MovesAhead m move) idle moves))

    -- it can't be made
    pub cannot_moved : CannotMove m move → CannotMoveAt new place move
    cannot_moved never = subst (λ (ms : List BufferedState). CannotMoveAt ms place move) (sym same) (λ other there. (
        let two : Some m ≡ Some other = sym at ∙ there in
        let one : m ≡ other = cc in
        subst (λ (n : BufferedState). CannotMove n move) one never))

    -- it led to what is kept now
    pub kept_moved : (last : List BufferedState) (k : ℕ) → Extends new last → MovesAhead m move after → k < length last → IsKeptAt patient last k after →
        IsMovedTo patient last place move k
    kept_moved last k more moves inside is =
        moved_to old last place move m after k (subst (λ (ms : List BufferedState). Extends ms last) same more) at moves inside is

  -- ---- the moves of the CPUs below a number
  pub none_moved : (kept : List BufferedState) (place : ℕ) → MovedSoFar patient kept place 0 kept
  none_moved kept place = record { extends = none_more kept; turned = λ c less. absurd (omega arith); flushed = λ c less. absurd (omega arith) }

  pub next_moved : (old kept mid new : List BufferedState) (place cpu : ℕ) → place < length old → MovedSoFar patient old place cpu kept → Extends kept
      mid → IsMoved patient mid place (TurnOf cpu) → Extends mid new → IsMoved patient new place (FlushOf cpu) → MovedSoFar patient old place (cpu + 1) new
  next_moved old kept mid new place cpu inside far more turned again flushed =
      let there : place < length kept = inside_still old kept far.extends place inside in
      let all : Extends kept new = more_again kept mid new more again in
      record {
        extends = more_again old kept new far.extends all;
        turned = λ c less. elim (cases_lt c cpu) [
          | inl below ↦ moved_still kept new all place (TurnOf c) there (far.turned c below)
          | inr past ↦ let e : cpu ≡ c = omega arith in subst (λ (k : ℕ). IsMoved patient new place (TurnOf k)) e
              (moved_still mid new again place (TurnOf cpu) (inside_still kept mid more place there) turned)
        ];
        flushed = λ c less. elim (cases_lt c cpu) [
          | inl below ↦ moved_still kept new all place (FlushOf c) there (far.flushed c below)
          | inr past ↦ let e : cpu ≡ c = omega arith in subst (λ (k : ℕ). IsMoved patient new place (FlushOf k)) e flushed
        ];
      }

  pub all_moved : (old kept : List BufferedState) (place cpu n : ℕ) → place < length old → Beyond old n → n ≤ cpu → MovedSoFar patient old place cpu
      kept → IsExpanded patient kept place
  all_moved old kept place cpu n inside beyond past far (TurnOf c) = elim (cases_lt c cpu) [
    | inl below ↦ far.turned c below
    | inr above ↦ moved_still old kept far.extends place (TurnOf c) inside (λ m at. stays old place (TurnOf c) m at (beyond place c m at (omega arith)).0 m at)
  ]
  all_moved old kept place cpu n inside beyond past far (FlushOf c) = elim (cases_lt c cpu) [
    | inl below ↦ far.flushed c below
    | inr above ↦ moved_still old kept far.extends place (FlushOf c) inside (λ m at. inr (beyond place c m at (omega arith)).1)
  ]

  -- ---- the machines below a number
  pub none_expanded : (kept : List BufferedState) → ExpandedSoFar patient kept 0 kept
  none_expanded kept = record { extends = none_more kept; expanded = λ i less. absurd (omega arith); inside = omega arith }

  pub next_expanded : (old kept new : List BufferedState) (next : ℕ) → ExpandedSoFar patient old next kept → next < length kept → Extends kept new →
      IsExpanded patient new next → ExpandedSoFar patient old (next + 1) new
  next_expanded old kept new next far less more expanded = record {
    extends = more_again old kept new far.extends more;
    expanded = λ i below. elim (cases_lt i next) [
      | inl before ↦ expanded_still kept new more i (omega arith) (far.expanded i before)
      | inr past ↦ let e : next ≡ i = omega arith in subst (IsExpanded patient new) e expanded
    ];
    inside = let there = inside_still kept new more next less in omega arith;
  }

  pub closed : (old kept : List BufferedState) (next : ℕ) → length kept ≤ next → ExpandedSoFar patient old next kept → IsClosed patient kept
  closed old kept next past far = go patient
      (λ i m at move. (let inside = slice_get_within kept i m at in far.expanded i (omega arith) move m at))
    where
      go : (b : Bool) → ((i : ℕ) (m : BufferedState) → slice_get kept i ≡ Some m → (move : Move)
          → ((new : BufferedState) × MovesAhead m move new × IsKept b kept new) ⊎ CannotMove m move) → IsClosed b kept
      go false all = all
      go true all = all
