-- Ports from call to call.
use Rattle.std.proofs.Common.{◌≡◌, ◌≢◌, ◌⊎◌, ℕ, zero, suc, ◌+◌, ◌%◌, ◌^◌, ◌<◌, Bool, true, false, List, [], ◌∷◌, ◌++◌, append_assoc, ◌==◌}
use Rattle.std.proofs.Common.{Option, Some, Result, Ok, Err, OnOk, OnErr, length, get_or, slice_get, slice_index, IfSome, set, inl, inr}
use Rattle.std.proofs.Common.{refl, ap, sym, subst, ◌∙◌, arith, eq-eqb, None}
use Rattle.std.proofs.lemmas.List.{get_or_default, get_or-set_same, get_or-set_other, length-set}
use Rattle.std.proofs.lemmas.Bool.Decides.{nat_tests}
use Rattle.atomic_table.specs.Seated.{TableId}
use Rattle.bpf_shared.specs.declared.sharing.Worn.{Worn}
use Rattle.bpf_shared.specs.declared.events.Event.{Event}
use Rattle.bpf_shared.specs.declared.events.Event.TheVariants.{Begin, End, Lookup, Keys}
use Rattle.bpf_shared.specs.History.{IsLegal, events_of, entry}
use Rattle.bpf_shared.proofs.Chains.{events_of-append, events_of-own, turns_of-append}
use Rattle.hop_layout.specs.declared.about.About.{About}
use Rattle.hop_words.specs.declared.known.Known.{Known}
use Rattle.hop_words.specs.declared.known.Sight.{Sight}
use Rattle.hop_words.specs.declared.known.Limbo.{Limbo}
use Rattle.hop_layout.specs.declared.place.Place.TheVariants.{RunCount}
use Rattle.hop_words.specs.Sights.{LeavesLocks, look}
use Rattle.hop_words.proofs.Sighted.{each-append}
use Rattle.hop_words.specs.Ghost.{HasElement, Each, limbo_at}
use Rattle.hop_words.specs.Inside.{Shown, Standing}
use Rattle.bpf_shared.specs.Own.{turns_of, in_run}
use Rattle.hop_words.specs.Kinds.{run_count, TakesEffect, AddsEvent}
use Rattle.hop_epoch.specs.declared.batches.Batches.{Batches}
use Rattle.hop_epoch.specs.Batch.{front, Notes, Tracks, KeepsBatches, SeesRunning}
use Rattle.hop_arena.specs.declared.arena.Arena.{Arena}
use Rattle.hop_map.specs.declared.port.HopPort.TheInside.{Inside as InPort}
use Rattle.bpf_shared.specs.declared.events.Span.{Span}
use Rattle.hop_arena.specs.Claiming.{IsArena}
use Rattle.hop_map.specs.Call.{Searches, AreBatchesOf, IsOneCall, IsReclaimed}
use Rattle.hop_map.specs.Finding.{Looked}
use Rattle.hop_map.specs.Noting.{CallNotes}
use Rattle.hop_map.specs.Private.Listing.{Listed}
use Rattle.bpf_shared.specs.Shape.{IsElementSpan}
use Rattle.hop_map.proofs.Spans.{last_found_lies}
use Rattle.hop_map.specs.Port.{AreArenas, arena_at, no_arena, Port, AreBatches, IsPortOf, runs, batches_at, no_batches}
use Rattle.hop_map.specs.Private.Port.{port_of, standing_in, IsEnding}

pub apart : true ≡ false → ⊥
apart e = cc

pub by_equal : {P : Type 0} (n m : ℕ) → (n ≡ m → P) → (n ≢ m → P) → P
by_equal {P} n m same other = go (n == m) refl
  where
    go : (b : Bool) → (n == m) ≡ b → P
    go true is = same (grind (arith, nat_tests))
    go false is = other (λ e. absurd (let wrong : true ≡ false = sym (eq-eqb n m e) ∙ is in apart wrong))

pub less : (m n : ℕ) → m < n + 1 → m ≢ n → m < n
less m n inside ne = grind arith

abbrev pub port_with : Standing → List Arena → List Batches → Option ℕ → Port
port_with s xs bs o = record { table = s.table; known = s.known; arenas = xs; batches = bs; spilled = o }

-- the port whose lane was taken out
pub port_is : (i : InPort) (o : Option Standing) (s : Standing) → o ≡ i.lane → o ≡ Some s → port_of i ≡ port_with s i.arenas.items i.batches.items i.spilled
port_is i o s from is = ap (λ (x : Option Standing). port_with (standing_in x) i.arenas.items i.batches.items i.spilled) (sym from ∙ is)

-- ---- what a CPU's own events say, after one more
pub own_after : (a : About) (l l' : Known) (e : Event) → TakesEffect a l e l'.seen → l'.cpu ≡ l.cpu → events_of l'.cpu l'.seen ≡ events_of
    l.cpu l.seen ++ e ∷ []
own_after a l l' e s same =
    let o = s.others in
    ap (λ (c : ℕ). events_of c l'.seen) same
    ∙ (ap (events_of l.cpu) s.after
    ∙ (events_of-append l.cpu l.seen (o ++ entry l.cpu e ∷ [])
    ∙ ap (λ (es : List Event). events_of l.cpu l.seen ++ es)
    (events_of-append l.cpu o (entry l.cpu e ∷ []) ∙ (ap (λ (es : List Event). es ++ events_of l.cpu (entry l.cpu e ∷ [])) s.foreign ∙ events_of-own l.cpu e))))

pub turned : (a : About) (l l' : Known) (e : Event) → TakesEffect a l e l'.seen → l'.cpu ≡ l.cpu → turns_of (events_of l'.cpu l'.seen) ≡
    turns_of (events_of l.cpu l.seen) + turns_of (e ∷ [])
turned a l l' e s same = ap turns_of (own_after a l l' e s same) ∙ turns_of-append (events_of l.cpu l.seen) (e ∷ [])

-- the counter has room after a quiet event, if it had room before
pub room_stays : (a : About) (l l' : Known) (e : Event) → TakesEffect a l e l'.seen → l'.cpu ≡ l.cpu → turns_of (e ∷ []) ≡ 0 →
    (in_run (events_of l.cpu l.seen) ≡ true → run_count a l + 1 < 2 ^ 64)
    → in_run (events_of l'.cpu l'.seen) ≡ true → run_count a l' + 1 < 2 ^ 64
room_stays a l l' e s same quiet room runs' =
    let turns : turns_of (events_of l'.cpu l'.seen) ≡ turns_of (events_of l.cpu l.seen) = let n = turned a l l' e s same in omega (arith, quiet) in
    let r = room (ap (λ (k : ℕ). k % 2 == 1) (sym turns) ∙ runs') in omega (arith, turns)

-- ---- batches of a map that a step leaves alone
pub tracks_stay : (a : About) (l l' : Known) (m : ℕ) (young old : Option ℕ) (ns : List ℕ) → length l'.limbo ≡ length l.limbo → limbo_at
    l'.limbo m ≡ limbo_at l.limbo m → Tracks a l m young old ns → Tracks a l' m young old ns
tracks_stay a l l' m young old ns size same t = record {
  room = subst (λ (n : ℕ). m < n) (sym size) t.room;
  young_is = t.young_is ∙ ap (λ (x : Limbo). front x.young) (sym same);
  old_is = t.old_is ∙ ap (λ (x : Limbo). front x.old) (sym same);
  young_inside = subst (λ (x : Limbo). Each (HasElement a m) x.young) (sym same) t.young_inside;
  old_inside = subst (λ (x : Limbo). Each (HasElement a m) x.old) (sym same) t.old_inside;
  counters = subst (λ (x : Limbo). (x.old ≡ []) ⊎ Notes a x.noted ns) (sym same) t.counters;
}

pub batches_stay : (a : About) (l l' : Known) (n : ℕ) (bs : List Batches) → l'.limbo ≡ l.limbo → AreBatches a l n bs → AreBatches a l' n bs
batches_stay a l l' n bs same h = record {
  size = h.size;
  map = h.map;
  each = λ m inside. tracks_stay a l l' m (batches_at bs m).young (batches_at bs m).aged (batches_at bs m).noted (ap length same)
      (ap (λ (x : List Limbo). limbo_at x m) same) (h.each m inside);
}

-- of one map they changed
pub batches_change : (a : About) (l l' : Known) (n m : ℕ) (bs : List Batches) (b : Batches) → length l'.limbo ≡ length l.limbo →
    ((k : ℕ) → k ≢ m → limbo_at l'.limbo k ≡ limbo_at l.limbo k) → m < n → b.map ≡ m
    → Tracks a l' m b.young b.aged b.noted → AreBatches a l n bs → AreBatches a l' n (set bs m b)
batches_change a l l' n m bs b size others here name t h = record {
  size = length-set bs m b ∙ h.size;
  map = λ k inside. by_equal k m
      (λ e. subst (λ (j : ℕ). (batches_at (set bs m b) j).map ≡ j) (sym e) (ap (λ (x : Batches). x.map) at_m ∙ name))
      (λ ne. ap (λ (x : Batches). x.map) (at_else k ne) ∙ h.map k inside);
  each = λ k inside. by_equal k m
      (λ e. subst (λ (j : ℕ). IsTracked j (batches_at (set bs m b) j)) (sym e) (subst (IsTracked m) (sym at_m) t))
      (λ ne. subst (IsTracked k) (sym (at_else k ne)) (tracks_stay a l l' k (batches_at bs k).young (batches_at bs k).aged
      (batches_at bs k).noted size (others k ne) (h.each k inside)));
}
  where
    IsTracked : ℕ → Batches → Type 0
    IsTracked k x = Tracks a l' k x.young x.aged x.noted

    at_m : batches_at (set bs m b) m ≡ b
    at_m = get_or-set_same bs m b no_batches (let z = h.size in omega arith)

    at_else : (k : ℕ) → k ≢ m → batches_at (set bs m b) k ≡ batches_at bs k
    at_else k ne = get_or-set_other bs m k b no_batches ne

-- ---- ports
-- a port stays one, where the batches are as they were
pub moved : (t : Shown) (p : Port) (z : TableId) (l : Known) → IsPortOf t p → z ≡ p.table → l.cpu ≡ p.known.cpu → l.limbo ≡ p.known.limbo
    → (in_run (events_of l.cpu l.seen) ≡ true → run_count t.about l + 1 < 2 ^ 64) → IsLegal t.about.shape l.seen → IsPortOf t
    (record { table = z; known = l; arenas = p.arenas; batches = p.batches; spilled = p.spilled })
moved t p z l h table cpu limbo room legal = record {
  table = table ∙ h.table;
  cpu = subst (λ (c : ℕ). c < t.about.shape.cpus) (sym cpu) h.cpu;
  even = h.even;
  room = room;
  legal = legal;
  limbo = ap length limbo ∙ h.limbo;
  arenas = h.arenas;
  batches = batches_stay t.about p.known l (length t.about.shape.maps) p.batches limbo h.batches;
}

pub begins : (t : Shown) (p : Port) (z : TableId) (l : Known) (r : Result (Unit {0}) Worn) → IsPortOf t p → z ≡ p.table → OnOk r
    (AddsEvent t.about p.known Begin l) → OnOk r (run_count t.about p.known + 2 < 2 ^ 64)
    → OnErr r (l ≡ p.known) → IsPortOf t (record { table = z; known = l; arenas = p.arenas; batches = p.batches; spilled = p.spilled })
begins t p z l (Ok u) h table told room same = moved t p z l h table (ap (λ (k : Known). k.cpu) told.after) (ap (λ (k : Known). k.limbo) told.after)
    (λ now. let n = turned t.about p.known l Begin told.seen (ap (λ (k : Known). k.cpu) told.after) in omega (arith, room)) told.seen.legal
begins t p z l (Err e) h table told room same = moved t p z l h table (ap (λ (k : Known). k.cpu) same) (ap (λ (k : Known). k.limbo) same)
    (subst (λ (k : Known). in_run (events_of k.cpu k.seen) ≡ true → run_count t.about k + 1 < 2 ^ 64) (sym same) h.room)
    (subst (λ (k : Known). IsLegal t.about.shape k.seen) (sym same) h.legal)

-- ---- the end of a run

pub reclaims : (t : Shown) (ended l l' : Known) (m : ℕ) (bs : List Batches) (b : Batches) → m < length t.about.shape.maps → b.map ≡ m →
    KeepsBatches m l l' → Tracks t.about l' m b.young b.aged b.noted → IsEnding t ended l bs → IsEnding t ended l' (set bs m b)
reclaims t ended l l' m bs b here name keeps tracks i = record {
  cpu = keeps.cpu ∙ i.cpu;
  seen = keeps.seen ∙ i.seen;
  sights = (
    keeps.sights.0 ++ i.sights.0,
    keeps.sights.1 ∙ (ap (λ (z : List Sight). keeps.sights.0 ++ z) i.sights.1 ∙ sym (append_assoc keeps.sights.0 i.sights.0 ended.tally)),
    each-append LeavesLocks keeps.sights.0 i.sights.0 keeps.sights.2 i.sights.2,
  );
  nothing = record {
    fresh = keeps.fresh ∙ i.nothing.fresh;
    locks = keeps.locks ∙ i.nothing.locks;
    used = λ k. by_equal k m
        (λ e. subst (λ (j : ℕ). (limbo_at l'.limbo j).used ≡ []) (sym e) (keeps.used ∙ i.nothing.used m))
        (λ ne. ap (λ (x : Limbo). x.used) (keeps.others k ne) ∙ i.nothing.used k);
  };
  limbo = keeps.size ∙ i.limbo;
  batches = batches_change t.about l l' (length t.about.shape.maps) m bs b keeps.size keeps.others here name tracks i.batches;
}

-- the run has ended
pub ends_last : (t : Shown) (p : Port) (z : TableId) (ended l : Known) (bs : List Batches) (o : Option ℕ) → IsPortOf t p → runs p ≡ true → z
    ≡ t.id → AddsEvent t.about p.known End ended → IsEnding t ended l bs → IsPortOf t
    (record { table = z; known = l; arenas = p.arenas; batches = bs; spilled = o })
ends_last t p z ended l bs o h running table told i =
    let cpu = i.cpu ∙ ap (λ (k : Known). k.cpu) told.after in record {
      table = table;
      cpu = subst (λ (c : ℕ). c < t.about.shape.cpus) (sym cpu) h.cpu;
      even = h.even;
      room = λ now. absurd (
          let n = turned t.about p.known l End (subst (TakesEffect t.about p.known End) (sym i.seen) told.seen) cpu in grind (arith, nat_tests));
      legal = subst (IsLegal t.about.shape) (sym i.seen) told.seen.legal;
      limbo = i.limbo;
      arenas = h.arenas;
      batches = i.batches;
    }

-- ---- calls
pub map_inside : {A : Type 0} (xs : List A) (m : ℕ) (x : A) → slice_get xs m ≡ Some x → m < length xs
map_inside [] m x e = absurd (nothing_there e)
  where
    nothing_there : None ≡ Some x → ⊥
    nothing_there q = cc
map_inside (y ∷ xs) zero x e = omega arith
map_inside (y ∷ xs) (suc m) x e = let z = map_inside xs m x e in omega arith

-- where the port's CPU looks for free elements of one map changed
pub arenas_change : (a : About) (n m : ℕ) (xs : List Arena) (x : Arena) → m < n → Searches a m x → AreArenas a n xs → AreArenas a n (set xs m x)
arenas_change a n m xs x here s h = record {
  size = length-set xs m x ∙ h.size;
  map = λ k inside. by_equal k m
      (λ e. subst (λ (j : ℕ). (arena_at (set xs m x) j).map ≡ j) (sym e) (ap (λ (y : Arena). y.map) at_m ∙ s.0))
      (λ ne. ap (λ (y : Arena). y.map) (at_else k ne) ∙ h.map k inside);
  each = λ k inside. by_equal k m
      (λ e. subst (λ (j : ℕ). Is j (arena_at (set xs m x) j)) (sym e) (subst (Is m) (sym at_m) (subst (λ (j : ℕ). IsArena a j x.elements x.start) s.0 s.1)))
      (λ ne. subst (Is k) (sym (at_else k ne)) (h.each k inside));
}
  where
    Is : ℕ → Arena → Type 0
    Is k y = IsArena a k y.elements y.start

    at_m : arena_at (set xs m x) m ≡ x
    at_m = get_or-set_same xs m x no_arena (let z = h.size in omega arith)

    at_else : (k : ℕ) → k ≢ m → arena_at (set xs m x) k ≡ arena_at xs k
    at_else k ne = get_or-set_other xs m k x no_arena ne

pub follows_at : (a : About) (l : Known) (n m : ℕ) (bs : List Batches) (b : Batches) → m < n → AreBatches a l n bs → b ≡ get_or bs m b → AreBatchesOf a l m b
follows_at a l n m bs b here h is =
    let old : b ≡ batches_at bs m = is ∙ get_or_default bs m b no_batches (let z = h.size in omega arith) in
    let name : b.map ≡ m = ap (λ (y : Batches). y.map) old ∙ h.map m here in (
      name,
      subst (λ (k : ℕ). Tracks a l k b.young b.aged b.noted) (sym name)
          (subst (λ (y : Batches). Tracks a l m y.young y.aged y.noted) (sym old) (h.each m here)),
    )

pub called_fits : (t : Shown) (p : Port) (z : TableId) (l : Known) (m : ℕ) (e : Event) (xs : List Arena) (b : Batches) (o : Option ℕ) →
    IsPortOf t p → z ≡ t.id → m < length t.about.shape.maps → turns_of (e ∷ []) ≡ 0
    → IsOneCall t.about p.known m e l → AreArenas t.about (length t.about.shape.maps) xs → AreBatchesOf t.about l m b → IsPortOf t
    (record { table = z; known = l; arenas = xs; batches = set p.batches m b; spilled = o })
called_fits t p z l m e xs b o h table here quiet c arenas f = record {
  table = table;
  cpu = subst (λ (k : ℕ). k < t.about.shape.cpus) (sym c.cpu) h.cpu;
  even = h.even;
  room = room_stays t.about p.known l e c.seen c.cpu quiet h.room;
  legal = c.seen.legal;
  limbo = c.size ∙ h.limbo;
  arenas = arenas;
  batches = batches_change t.about p.known l (length t.about.shape.maps) m p.batches b c.size c.others here f.0
      (subst (λ (k : ℕ). Tracks t.about l k b.young b.aged b.noted) f.0 f.1) h.batches;
}

pub looked_fits : (t : Shown) (p : Port) (z : TableId) (l : Known) (m : ℕ) (key : List ℕ) (o : Option Span) → IsPortOf t p → z ≡ t.id →
    Looked t.about p.known m key o l
    → IsPortOf t (record { table = z; known = l; arenas = p.arenas; batches = p.batches; spilled = p.spilled })
looked_fits t p z l m key o h table c = moved t p z l h (table ∙ sym h.table) cpu (ap (λ (k : Known). k.limbo) c.after)
    (room_stays t.about p.known l (Lookup m key o) c.seen cpu refl h.room) c.seen.legal
  where
    cpu : l.cpu ≡ p.known.cpu
    cpu = ap (λ (k : Known). k.cpu) c.after

-- a lookup's span is that of an element of its map
pub looked_lies : (a : About) (l l' : Known) (m : ℕ) (key : List ℕ) (o : Option Span) → Looked a l m key o l' → IfSome o (IsElementSpan a.shape.maps m)
looked_lies a l l' m key o c = last_found_lies a.shape l.seen c.seen.others l.cpu m key o (subst (IsLegal a.shape) c.seen.after c.seen.legal)

-- ---- whether the port's CPU is in a run
pub still_runs : (a : About) (l l' : Known) (e : Event) → TakesEffect a l e l'.seen → l'.cpu ≡ l.cpu → turns_of (e ∷ []) ≡ 0 → in_run
    (events_of l.cpu l.seen) ≡ true → in_run (events_of l'.cpu l'.seen) ≡ true
still_runs a l l' e s same quiet runs' =
    let turns : turns_of (events_of l'.cpu l'.seen) ≡ turns_of (events_of l.cpu l.seen) = let n = turned a l l' e s same in omega (arith, quiet) in
    ap (λ (k : ℕ). k % 2 == 1) turns ∙ runs'

pub begun_runs : (a : About) (l l' : Known) (r : Result (Unit {0}) Worn) → OnOk r (AddsEvent a l Begin l') → in_run (events_of l.cpu l.seen)
    ≡ false → OnOk r (in_run (events_of l'.cpu l'.seen) ≡ true)
begun_runs a l l' (Ok u) told idle = let n = turned a l l' Begin told.seen (ap (λ (k : Known). k.cpu) told.after) in grind (arith, nat_tests)
begun_runs a l l' (Err e) told idle = tt

pub ended_idle : (t : Shown) (p : Port) (ended l : Known) (bs : List Batches) → AddsEvent t.about p.known End ended → IsEnding t ended l bs
    → runs p ≡ true → in_run (events_of l.cpu l.seen) ≡ false
ended_idle t p ended l bs told i running =
    let cpu = i.cpu ∙ ap (λ (k : Known). k.cpu) told.after in
    let n = turned t.about p.known l End (subst (TakesEffect t.about p.known End) (sym i.seen) told.seen) cpu in
    grind (arith, nat_tests)

-- ---- what a beginning and an end note
pub begun_notes : (a : About) (l l' : Known) (r : Result (Unit {0}) Worn) → OnOk r (AddsEvent a l Begin l') → OnOk r (CallNotes a Begin l l')
begun_notes a l l' (Ok u) told = ([], ap (λ (k : Known). k.tally) told.after, refl)
begun_notes a l l' (Err e) told = tt

pub ended_notes : (t : Shown) (p : Port) (ended l : Known) (bs : List Batches) → AddsEvent t.about p.known End ended → IsEnding t ended l bs
    → CallNotes t.about End p.known l
ended_notes t p ended l bs told i = (i.sights.0, i.sights.1 ∙ ap (λ (k : Known). i.sights.0 ++ k.tally) told.after, i.sights.2)

-- ---- batches that were looked at
pub reclaimed_now : (m : ℕ) (before : List Sight) (l l' : Known) → (more : List Sight) × (l.tally ≡ more ++ before) × Each LeavesLocks more
    → ((limbo_at l'.limbo m).old ≡ [] → (limbo_at l'.limbo m).young ≡ [])
    → ((limbo_at l'.limbo m).old ≡ []) ⊎ SeesRunning m l l' → IsReclaimed m before l'
reclaimed_now m before l l' sights empty (inl none) = inl (none, empty none)
reclaimed_now m before l l' (more, is, leave) empty (inr (d, sooner, seen, odd)) = inr (
  d,
  [],
  sooner ++ more,
  seen ∙ ap (λ (z : List Sight). look (RunCount d) (slice_index (limbo_at l'.limbo m).noted d) ∷ z)
      (ap (λ (z : List Sight). sooner ++ z) is ∙ sym (append_assoc sooner more before)),
  odd,
)

pub reclaimed_still : (m k : ℕ) (before : List Sight) (l l' : Known) → m ≢ k → KeepsBatches k l l' → IsReclaimed m before l → IsReclaimed m before l'
reclaimed_still m k before l l' ne keeps (inl (old, young)) = inl
    (ap (λ (x : Limbo). x.old) (keeps.others m ne) ∙ old, ap (λ (x : Limbo). x.young) (keeps.others m ne) ∙ young)
reclaimed_still m k before l l' ne keeps (inr (d, later, sooner, is, odd)) =
    let same : slice_index (limbo_at l'.limbo m).noted d ≡ slice_index (limbo_at l.limbo m).noted d = ap
    (λ (x : Limbo). slice_index x.noted d) (keeps.others m ne) in
    inr (
      d,
      keeps.sights.0 ++ later,
      sooner,
      keeps.sights.1
          ∙ (ap (λ (z : List Sight). keeps.sights.0 ++ z) is
          ∙ (sym (append_assoc keeps.sights.0 later (look (RunCount d) (slice_index (limbo_at l.limbo m).noted d) ∷ (sooner ++ before)))
          ∙ ap (λ (n : ℕ). (keeps.sights.0 ++ later) ++ (look (RunCount d) n ∷ (sooner ++ before))) (sym same))),
      ap (λ (n : ℕ). n % 2) same ∙ odd,
    )

-- of each map so far, and of one more
pub reclaimed_more : (n : ℕ) (before : List Sight) (l l' : Known) → KeepsBatches n l l' → ((m : ℕ) → m < n → IsReclaimed m before l) →
    IsReclaimed n before l' → (m : ℕ) → m < n + 1 → IsReclaimed m before l'
reclaimed_more n before l l' keeps all here m inside = by_equal m n
    (λ e. subst (λ (k : ℕ). IsReclaimed k before l') (sym e) here)
    (λ ne. reclaimed_still m n before l l' ne keeps (all m (less m n inside ne)))

pub ended_reclaimed : (t : Shown) (p : Port) (ended l : Known) (m : ℕ) → AddsEvent t.about p.known End ended → IsReclaimed m ended.tally l →
    IsReclaimed m p.known.tally l
ended_reclaimed t p ended l m told is = subst (λ (z : List Sight). IsReclaimed m z l) (ap (λ (k : Known). k.tally) told.after) is

-- a listing turns no run
pub listed_fits : (t : Shown) (p : Port) (z : TableId) (l : Known) (m : ℕ) (keys : List (List ℕ)) → IsPortOf t p → z ≡ p.table → Listed
    t.about p.known m keys l → IsPortOf t (record { table = z; known = l; arenas = p.arenas; batches = p.batches; spilled = p.spilled })
listed_fits t p z l m keys fits table e = moved t p z l fits table (ap (λ (k : Known). k.cpu) e.after) (ap (λ (k : Known). k.limbo) e.after)
    (room_stays t.about p.known l (Keys m keys) e.seen (ap (λ (k : Known). k.cpu) e.after) refl fits.room) e.seen.legal

pub listed_runs : (a : About) (l l' : Known) (m : ℕ) (keys : List (List ℕ)) → Listed a l m keys l' → in_run (events_of l'.cpu l'.seen) ≡
    in_run (events_of l.cpu l.seen)
listed_runs a l l' m keys e =
    let t = turned a l l' (Keys m keys) e.seen (ap (λ (k : Known). k.cpu) e.after) in
    ap (λ (n : ℕ). n % 2 == 1) (let same : turns_of (events_of l'.cpu l'.seen) ≡ turns_of (events_of l.cpu l.seen) = omega arith in same)
