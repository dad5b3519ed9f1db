-- Kept states and the machine to work with.
use Rattle.std.proofs.Common.{◌≡◌, ℕ, zero, suc, ◌<◌, ◌≤◌, ◌⊎◌, List, [], ◌∷◌, ◌++◌, length, Option, Some, None, inl, inr, refl, sym, ap, arith, subst, ◌∙◌}
use Rattle.std.specs.Prelude.{All, IfSome, OnErr, Result, Ok, Err, map, nat_lt, option_map, slice_get, slice_index_or}
use Rattle.std.proofs.lemmas.List.{map_push, length-map}
use Rattle.std.proofs.lemmas.List.Elements.{All-push, All-weaker, All-tail, All-head}
use Rattle.std.proofs.lemmas.Option.{slice_get-map, slice_get_within, get_or_from_slice_get}
use Rattle.bpf_plain.specs.PlainStore.{Contents, has_cpu}
use Rattle.bpf_plain.specs.Alike.{IsSameShape}
use Rattle.bpf_loader.specs.Loaded.{Loaded}
use Rattle.bpf_live.specs.Live.{Table}
use Rattle.bpf_alike.specs.Worlds.{AreLiveTables, table_at}
use Rattle.bpf_machine.specs.Machine.{MachineState}
use Rattle.bpf_machine.specs.Parts.{IsSameHost}
use Rattle.bpf_machine.specs.Patient.{IsRefilled}
use Rattle.bpf_machine.specs.Rounds.{HaveEnded}
use Rattle.bpf_x86.specs.Machine.{TurnOf, FlushOf, Move}
use Rattle.bpf_machine.specs.declared.machine.Turn.{Turn}
use Rattle.bpf_buffering.specs.declared.pools.Pools.{Pools}
use Rattle.bpf_buffering.specs.Search.{BufferedState, MovesTo, CannotMove}
use Rattle.bpf_buffering.specs.Buffering.{TurnsTo}
use Rattle.bpf_buffering.specs.Album.{HaveEndedAt}
use Rattle.bpf_buffering.specs.Private.Kept.{Numbers, kept_state, no_store, store_of, jobs_of, buffers_of, AddsTo, FitsHost, IsAlbum}
use Rattle.bpf_buffering.specs.Private.Kept.{IsBoard, IsPooled, ShowsAsMuch}
use Rattle.bpf_buffering.proofs.Keeping.{same_shape, rests, none_flushes}
use Rattle.bpf_buffering.proofs.Pooling.{adds_store, fits_still, state_stays, store_known}

-- where memory is refused
pub for_err : {E U : Type 0} (r : Result U E) (P : Type 0) → P → OnErr r P
for_err (Ok u) P h = tt
for_err (Err e) P h = h

abbrev pub states : BufferedState → Pools → List Numbers → List BufferedState
states m p kept = map (kept_state p m.machine.programs) kept

-- ---- the machine has gone on
pub fits_after : (old new : BufferedState) (p : Pools) (k : Numbers) → IsSameHost old.machine new.machine → FitsHost old p k → FitsHost new p k
fits_after old new p k went fits = record {
  within = fits.within;
  host = record {
    programs = refl;
    jobs = fits.host.jobs ∙ sym went.jobs;
    shape = (λ c. fits.host.shape.0 c ∙ sym (went.shape.0 c), fits.host.shape.1 ∙ sym went.shape.1);
    lists = λ none. refl;
  };
  board = subst (λ (ps : List Loaded). IsBoard (store_of p k) ps (jobs_of p k) (buffers_of p k)) (sym went.programs) fits.board;
}

shapes_after : (old new : BufferedState) (ss : List Contents) → IsSameHost old.machine new.machine → All (IsSameShape old.machine.store) ss →
    All (IsSameShape new.machine.store) ss
shapes_after old new ss went all =
    All-weaker (IsSameShape old.machine.store) (IsSameShape new.machine.store)
    (λ s is. (λ c. is.0 c ∙ sym (went.shape.0 c), is.1 ∙ sym went.shape.1)) ss all

-- the number of its store isn't known any more
pub album_after : (old new : BufferedState) (p : Pools) (kept : List Numbers) (number : Option ℕ) → IsSameHost old.machine new.machine →
    IsAlbum old p kept number → IsAlbum new p kept None
album_after old new p kept number went is = record {
  fits = All-weaker (FitsHost old p) (FitsHost new p) (λ k fits. fits_after old new p k went fits) kept is.fits;
  shapes = shapes_after old new p.stores went is.shapes;
  known = tt;
}

pub states_after : (old new : BufferedState) (p : Pools) (kept : List Numbers) → IsSameHost old.machine new.machine → states new p kept ≡
    states old p kept
states_after old new p kept went = ap (λ (ps : List Loaded). map (kept_state p ps) kept) went.programs

-- tables that are right for its programs stay so
pub right_after : (old new : BufferedState) (tables : List Table) → IsSameHost old.machine new.machine → AreLiveTables old.machine.programs
    (table_at tables) → AreLiveTables new.machine.programs (table_at tables)
right_after old new tables went right = subst (λ (ps : List Loaded). AreLiveTables ps (table_at tables)) (sym went.programs) right

-- the number of its store is known still, where it has the same
pub album_same : (old new : BufferedState) (p : Pools) (kept : List Numbers) (number : Option ℕ) → IsSameHost old.machine new.machine →
    new.machine.store ≡ old.machine.store → IsAlbum old p kept number → IsAlbum new p kept number
album_same old new p kept number went same is =
    let after = album_after old new p kept number went is in
    record { fits = after.fits; shapes = after.shapes; known = known number is.known }
  where
    known : (o : Option ℕ) → IfSome o (λ n. slice_get p.stores n ≡ Some old.machine.store) → IfSome o
        (λ n. slice_get p.stores n ≡ Some new.machine.store)
    known None is_known = tt
    known (Some n) is_known = is_known ∙ ap Some (sym same)

pub filled_store : (old new : MachineState) (c : ℕ) → IsRefilled old c new → new.store ≡ old.store
filled_store old new c (inl (free, same)) = ap (λ (m : MachineState). m.store) same
filled_store old new c (inr (j, (task, state, left, more, at, sum, is))) = ap (λ (m : MachineState). m.store) is

pub stored_there : (ss : List Contents) (n : ℕ) → n < length ss → slice_get ss n ≡ Some (slice_index_or ss n no_store)
stored_there [] n less = absurd (omega arith)
stored_there (s ∷ ss) zero less = refl
stored_there (s ∷ ss) (suc n) less = stored_there ss n (omega arith)

-- the machine has been made as a kept state
pub album_taken : (old new : BufferedState) (p : Pools) (kept : List Numbers) (number : Option ℕ) (tables : List Table) (k : Numbers)
    → IsAlbum old p kept number × AreLiveTables old.machine.programs (table_at tables) → FitsHost old p k
    → new ≡ kept_state p old.machine.programs k → slice_get p.stores k.store ≡ Some (store_of p k)
    → IsAlbum new p kept (Some k.store) × AreLiveTables new.machine.programs (table_at tables)
album_taken old new p kept number tables k (is, right) fits made stored =
    let went : IsSameHost old.machine new.machine = subst (λ (s : BufferedState). IsSameHost old.machine s.machine) (sym made) fits.host in
    let after = album_after old new p kept number went is in (
      record {
        fits = after.fits;
        shapes = after.shapes;
        known = stored ∙ ap (λ (s : BufferedState). Some s.machine.store) (sym made);
      },
      right_after old new tables went right,
    )

-- ---- the pools have grown
pub states_still : (m : BufferedState) (store : Contents) (p q : Pools) (kept : List Numbers) → AddsTo store p q → All (FitsHost m p) kept →
    states m q kept ≡ states m p kept
states_still m store p q [] adds all = refl
states_still m store p q (k ∷ kept) adds all =
    let fits : FitsHost m p k = All-head (FitsHost m p) k kept all in
    ap (λ (s : BufferedState). s ∷ states m q kept) (state_stays store p q adds k fits.within m.machine.programs) ∙ ap
    (λ (l : List BufferedState). kept_state p m.machine.programs k ∷ l)
    (states_still m store p q kept adds (All-tail (FitsHost m p) k kept all))

shapes_still : (store : Contents) (p q : Pools) → AddsTo store p q → All (IsSameShape store) p.stores → All (IsSameShape store) q.stores
shapes_still store p q adds all = elim adds.stores [
  | inl same ↦ subst (All (IsSameShape store)) (sym same) all
  | inr more ↦ subst (All (IsSameShape store)) (sym more) (All-push (IsSameShape store) p.stores store all (same_shape store))
]

known_still : (m : BufferedState) (store : Contents) (p q : Pools) (number : Option ℕ) → AddsTo store p q → IfSome number
    (λ n. slice_get p.stores n ≡ Some m.machine.store) → IfSome number (λ n. slice_get q.stores n ≡ Some m.machine.store)
known_still m store p q None adds known = tt
known_still m store p q (Some n) adds known = store_known store p q adds n m.machine.store known

pub album_still : (m : BufferedState) (p q : Pools) (kept : List Numbers) (number : Option ℕ) → AddsTo m.machine.store p q → IsAlbum m p kept
    number → IsAlbum m q kept number
album_still m p q kept number adds is = record {
  fits = All-weaker (FitsHost m p) (FitsHost m q) (λ k fits. fits_still m.machine.store p q adds m k fits) kept is.fits;
  shapes = shapes_still m.machine.store p q adds is.shapes;
  known = known_still m m.machine.store p q number adds is.known;
}

-- the machine has another store, of which the number is known
module _ (old new : BufferedState) (p : Pools) (stores : List Contents) (kept : List Numbers) (number : Option ℕ)
    (went : IsSameHost old.machine new.machine) (adds : (stores ≡ p.stores) ⊎ (stores ≡ p.stores ++ old.machine.store ∷ []))
    (is : IsAlbum old p kept number) where
  abbrev more : Pools
  more = record { stores = stores; jobs = p.jobs; buffers = p.buffers }

  pub album_settled : (now : Option ℕ) → IfSome now (λ n. slice_get stores n ≡ Some new.machine.store) → IsAlbum new more kept now
  album_settled now known =
      let still = album_still old p more kept number (adds_store old.machine.store p stores adds) is in
      let after = album_after old new more kept number went still in
      record { fits = after.fits; shapes = after.shapes; known = known }

  pub states_settled : states new more kept ≡ states old p kept
  states_settled =
      states_after old new more kept went
      ∙ states_still old old.machine.store p more kept (adds_store old.machine.store p stores adds) is.fits

-- ---- one of them
pub state_inside : (m : BufferedState) (p : Pools) (kept : List Numbers) (i : ℕ) → i < length (states m p kept) → i < length kept
state_inside m p kept i less = subst (λ (n : ℕ). i < n) (length-map kept (kept_state p m.machine.programs)) less

pub state_at : (m : BufferedState) (p : Pools) (kept : List Numbers) (i : ℕ) (k : Numbers) → slice_get kept i ≡ Some k → slice_get
    (states m p kept) i ≡ Some (kept_state p m.machine.programs k)
state_at m p kept i k at = slice_get-map (kept_state p m.machine.programs) kept i ∙ ap (option_map (kept_state p m.machine.programs)) at

pub fits_at : (m : BufferedState) (p : Pools) (kept : List Numbers) (i : ℕ) (k : Numbers) → All (FitsHost m p) kept → slice_get kept i ≡ Some
    k → FitsHost m p k
fits_at m p kept i k all at = subst (FitsHost m p) (get_or_from_slice_get kept i k k at) (all i k (slice_get_within kept i k at))

pub kept_at : (m : BufferedState) (p : Pools) (kept : List Numbers) (i : ℕ) (s : BufferedState) → slice_get (states m p kept) i ≡ Some s →
    (k : Numbers) × (slice_get kept i ≡ Some k) × (kept_state p m.machine.programs k ≡ s)
kept_at m p kept i s is = from (slice_get kept i) refl (sym (slice_get-map (kept_state p m.machine.programs) kept i) ∙ is)
  where
    from : (o : Option Numbers) → slice_get kept i ≡ o → option_map (kept_state p m.machine.programs) o ≡ Some s → (k : Numbers) ×
        (slice_get kept i ≡ Some k) × (kept_state p m.machine.programs k ≡ s)
    from (Some k) at shown = (k, at, (let two : Some (kept_state p m.machine.programs k) ≡ Some s = shown in cc))
    from None at shown = let no : None ≡ Some s = shown in cc

-- its jobs have ended, or not
pub ended_at : (m : BufferedState) (p : Pools) (kept : List Numbers) (i : ℕ) (k : Numbers) → slice_get kept i ≡ Some k → HaveEnded
    (jobs_of p k) → HaveEndedAt (states m p kept) i
ended_at m p kept i k at ended s is =
    let two : Some (kept_state p m.machine.programs k) ≡ Some s = sym (state_at m p kept i k at) ∙ is in
    let same : kept_state p m.machine.programs k ≡ s = cc in
    subst (λ (z : BufferedState). HaveEnded z.machine.jobs) same ended

pub open_at : (m : BufferedState) (p : Pools) (kept : List Numbers) (i : ℕ) (k : Numbers) → slice_get kept i ≡ Some k → HaveEndedAt
    (states m p kept) i → HaveEnded (jobs_of p k)
open_at m p kept i k at all = all (kept_state p m.machine.programs k) (state_at m p kept i k at)

-- a CPU beyond the machine's has no move that changes anything
pub beyond_at : (m : BufferedState) (p : Pools) (kept : List Numbers) (n : ℕ) → ((c : ℕ) → has_cpu m.machine.store c ≡ nat_lt c n) → All
    (FitsHost m p) kept → (i c : ℕ) (s : BufferedState) → slice_get (states m p kept) i ≡ Some s → n ≤ c → MovesTo s (TurnOf c) s ×
    CannotMove s (FlushOf c)
beyond_at m p kept n has all i c s is above =
    let k = kept_at m p kept i s is in
    let fits = fits_at m p kept i k.0 all k.1 in
    let own : (d : ℕ) → has_cpu (store_of p k.0) d ≡ nat_lt d n = λ d. fits.host.shape.0 d ∙ has d in
    subst (λ (z : BufferedState). MovesTo z (TurnOf c) z × CannotMove z (FlushOf c)) k.2 (
      rests (store_of p k.0) m.machine.programs (jobs_of p k.0) (buffers_of p k.0) fits.board n own c above,
      none_flushes (store_of p k.0) m.machine.programs (jobs_of p k.0) (buffers_of p k.0) fits.board n own c above,
    )

-- ---- one more, which is the machine as it is
module _ (m : BufferedState) (p q : Pools) (kept : List Numbers) (number : Option ℕ) (k : Numbers) (adds : AddsTo m.machine.store p q)
    (is : IsAlbum m p kept number) (pooled : IsPooled q m k) where
  pub one_more : states m q (kept ++ k ∷ []) ≡ states m p kept ++ m ∷ []
  one_more =
      map_push (kept_state q m.machine.programs) kept k
      ∙ ap (λ (l : List BufferedState). l ++ kept_state q m.machine.programs k ∷ []) (states_still m m.machine.store p q kept adds is.fits)
      ∙ ap (λ (s : BufferedState). states m p kept ++ s ∷ []) pooled.is

  pub album_more : IsAlbum m q (kept ++ k ∷ []) number
  album_more =
      let still = album_still m p q kept number adds is in
      record {
        fits = All-push (FitsHost m q) kept k still.fits pooled.fits;
        shapes = still.shapes;
        known = still.known;
      }

-- ---- the machine has a store that looks like its own
pub moves_too : (old mid new : BufferedState) (move : Move) → MovesTo old move mid → ShowsAsMuch mid new → MovesTo old move new
moves_too old mid new move moves shows x there = let r = moves x there in (r.0, r.1, shows r.0 r.2)

pub turns_too : (old mid new : BufferedState) (c : ℕ) (turn : Turn) → TurnsTo old c turn mid → ShowsAsMuch mid new → TurnsTo old c turn new
turns_too old mid new c turn turns shows x there = let r = turns x there in (r.0, r.1, shows r.0 r.2)
