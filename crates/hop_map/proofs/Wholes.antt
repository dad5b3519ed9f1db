-- A whole call, from its steps.
use Rattle.std.proofs.Common.{◌≡◌, ℕ, ◌+◌, ◌-◌, ◌%◌, ◌^◌, ◌<◌, ◌≤◌, ◌⊎◌, inl, inr, ⊎_elim, true, List, [], ◌∷◌, ◌++◌, Option, Some, None}
use Rattle.std.proofs.Common.{MatchOption, length, length-set, get_or-set_other, slice_index, append_assoc, refl, ap, sym, subst, ◌∙◌}
use Rattle.bpf_shared.specs.Shape.{IsPairOf, IsKeyOf}
use Rattle.bpf_shared.specs.declared.shapes.MapShape.{MapShape}
use Rattle.bpf_shared.specs.History.{events_of, entry}
use Rattle.bpf_shared.specs.declared.events.Entry.{Entry}
use Rattle.bpf_shared.specs.declared.events.Event.{Event}
use Rattle.bpf_shared.specs.declared.events.Event.TheVariants.{Delete}
use Rattle.bpf_shared.specs.declared.events.MapAnswer.{MapAnswer}
use Rattle.bpf_shared.specs.declared.events.MapAnswer.TheVariants.{Done, Invalid, Busy, Exists, Absent, Full, NoMemory}
use Rattle.hop_layout.specs.declared.about.About.{About}
use Rattle.hop_words.specs.declared.known.Known.{Known}
use Rattle.hop_words.specs.declared.known.Limbo.{Limbo}
use Rattle.hop_words.specs.declared.known.Sight.{Sight}
use Rattle.hop_layout.specs.declared.place.Place.TheVariants.{RunCount}
use Rattle.hop_words.specs.Sights.{IsLook, LeavesLocks, LeavesElements, IsTakenSince, look, lock_taken}
use Rattle.hop_words.specs.Ghost.{shape_at, limbo_at, no_limbo, Each}
use Rattle.hop_words.specs.Shortage.{done_in, updates_of}
use Rattle.hop_map.specs.Private.Call.{HoldsNew}
use Rattle.hop_words.specs.Kinds.{TakesEffect, SawAllTaken, LocksSegment, holding, retiring, with_gone}
use Rattle.bpf_shared.specs.Own.{in_run}
use Rattle.hop_words.specs.Owning.{tail_of}
use Rattle.hop_layout.proofs.Maps.{map_of}
use Rattle.hop_words.proofs.Sighted.{looks_leave}
use Rattle.hop_arena.specs.Claiming.{NotesSights, IsSeenTaken, Misses, Claims}
use Rattle.hop_arena.specs.declared.element.Element.{Element}
use Rattle.hop_epoch.specs.Batch.{KeepsBatches, SeesRunning}
use Rattle.hop_epoch.proofs.Batching.{at_set, keeps_then}
use Rattle.hop_map.specs.Private.Locks.{locked_with}
use Rattle.hop_map.specs.Private.Removals.{Dropped, Kept}
use Rattle.hop_map.specs.Private.Updates.{ClaimsOrLacks}
use Rattle.hop_map.specs.Call.{IsBetweenCalls, IsOneCall, SearchesInVain, IsShortage}
use Rattle.hop_layout.specs.Layout.{gained}

-- ---- the event, seen from before
pub saw_as : (a : About) (l l1 : Known) (ev : Event) (s : List Entry) → l1.cpu ≡ l.cpu → l1.seen ≡ l.seen → TakesEffect a l1 ev s → TakesEffect a l ev s
saw_as a l l1 ev s c e w = record {
  others = w.others;
  foreign = subst (λ (n : ℕ). events_of n w.others ≡ []) c w.foreign;
  after = w.after ∙ (λ j. e j ++ (w.others ++ entry (c j) ev ∷ []));
  legal = w.legal;
}

pub pair_at : (a : About) (m : ℕ) (key bytes : List ℕ) → IsPairOf a.shape.maps m key bytes → (m < length a.shape.maps) ×
    (length key ≡ (shape_at a m).key) × (length bytes ≡ (shape_at a m).value)
pair_at a m key bytes p =
    let t = map_of a.shape m p.0 p.1 in
    (t.0, p.2 ∙ ap (λ (g : MapShape). g.key) (sym t.1), p.3 ∙ ap (λ (g : MapShape). g.value) (sym t.1))

-- ---- looking for a free element
pub keeps_sees : (m : ℕ) (l l1 : Known) (more : List Sight) → Each LeavesLocks more → NotesSights l more l1 → KeepsBatches m l l1
keeps_sees m l l1 more leave s = subst (KeepsBatches m l) (sym s)
    (record {
      cpu = refl;
      seen = refl;
      fresh = refl;
      locks = refl;
      readings = refl;
      size = refl;
      others = λ n ne. refl;
      used = refl;
      sights
          = (more, refl, leave);
    })

pub keeps_holding : (m e : ℕ) (l l1 : Known) → KeepsBatches m l l1 → KeepsBatches m (holding l m e) (holding l1 m e)
keeps_holding m e l l1 p = record {
  cpu = p.cpu;
  seen = p.seen;
  fresh = λ j. record
      { map = m; element = e; update = updates_of m (events_of (p.cpu j) (p.seen j)); key = []; value = [] } ∷ p.fresh j;
  locks = p.locks;
  readings = p.readings;
  size = p.size;
  others = p.others;
  used = p.used;
  sights = p.sights;
}

-- what was claimed with an empty hand is for the next update
pub holds_new : (l l' : Known) (m e : ℕ) → l.fresh ≡ [] → KeepsBatches m (holding l m e) l' → HoldsNew l' m e
holds_new l l' m e none p = p.fresh ∙ (λ j. record {
  map = m;
  element = e;
  update = updates_of m (events_of (sym p.cpu j) (sym p.seen j));
  key = [];
  value = [];
} ∷ none j)

each_still : (m : ℕ) (ss : List Sight) → Each IsLook ss → Each (LeavesElements m) ss
each_still m [] t = tt
each_still m (s ∷ ss) t = ((λ i _. t.0), each_still m ss t.1)

-- the two steps that find none
pub short : (a : About) (m : ℕ) (l l2 l3 : Known) → KeepsBatches m l l2 → ((limbo_at l2.limbo m).old ≡ [] → (limbo_at l2.limbo m).young ≡ [])
    → ((limbo_at l2.limbo m).old ≡ []) ⊎ SeesRunning m l l2 → Misses a l2 m l3 → SearchesInVain a l m l3
short a m l l2 l3 kept empty blocked last = subst (SearchesInVain a l m) (sym last.1.0) (⊎_elim
    (λ (none : (limbo_at l2.limbo m).old ≡ []). record {
      sooner = kept.sights.0;
      later = last.0;
      sights = ap (λ (z : List Sight). last.0 ++ z) kept.sights.1;
      kept = inl (none, empty none);
      still = each_still m last.0 last.1.1;
      taken = last.2;
    })
    (λ (r : SeesRunning m l l2). record {
      sooner = look (RunCount r.0) (slice_index (limbo_at l2.limbo m).noted r.0) ∷ r.1;
      later = last.0;
      sights = ap (λ (z : List Sight). last.0 ++ z) r.2;
      kept = inr (r.0, r.1, refl, r.3);
      still = each_still m last.0 last.1.1;
      taken = last.2;
    })
    blocked)

-- what was noted before such a search
pub in_vain_after : (a : About) (m : ℕ) (l k l' : Known) → KeepsBatches m l k → SearchesInVain a k m l' → SearchesInVain a l m l'
in_vain_after a m l k l' kept p = record {
  sooner = p.sooner ++ kept.sights.0;
  later = p.later;
  sights = p.sights ∙ ap (λ (z : List Sight). p.later ++ z) (ap (λ (z : List Sight). p.sooner ++ z) kept.sights.1 ∙ sym
      (append_assoc p.sooner kept.sights.0 l.tally));
  still = p.still;
  kept = ⊎_elim
      (λ none. inl none)
      (λ r. inr (r.0, r.1 ++ kept.sights.0, ap (λ (z : List Sight). z ++ kept.sights.0) r.2, r.3))
      p.kept;
  taken = p.taken;
}

-- and something more was noted, that left the map's elements
pub searched_on : (a : About) (l : Known) (m : ℕ) (l1 l2 : Known) (k : Sight) → SearchesInVain a l m l1 → LeavesElements m k → l2.tally ≡ k
    ∷ l1.tally → l2.limbo ≡ l1.limbo → SearchesInVain a l m l2
searched_on a l m l1 l2 k p leaves more same = record {
  sooner = p.sooner;
  later = k ∷ p.later;
  sights = more ∙ ap (λ (z : List Sight). k ∷ z) p.sights;
  still = (leaves, p.still);
  kept = subst (λ (ls : List Limbo).
      (((limbo_at ls m).old ≡ []) × ((limbo_at ls m).young ≡ []))
      ⊎ ((d : ℕ) × (more : List Sight) × (p.sooner ≡ look (RunCount d) (slice_index (limbo_at ls m).noted d) ∷ more) ×
      (slice_index (limbo_at ls m).noted d % 2 ≡ 1))) (sym same) p.kept;
  taken = λ e few. inr (p.taken e few);
}

pub lock_leaves : (m n s stamp : ℕ) → LeavesElements m (lock_taken n s stamp)
lock_leaves m n s stamp i h = cc

-- what was seen since the call's last step on an element of the map
taken_since : (m e : ℕ) (later before : List Sight) → Each (LeavesElements m) later → IsSeenTaken later m e → IsTakenSince (later ++ before) m e
taken_since m e [] before still seen = absurd seen
taken_since m e (s ∷ ss) before still (inl here) = (still.0, inl here)
taken_since m e (s ∷ ss) before still (inr later) = (still.0, inr (taken_since m e ss before still.1 later))

pub saw_all : (a : About) (l : Known) (m : ℕ) (l1 : Known) → l1.fresh ≡ [] → SearchesInVain a l m l1 → SawAllTaken a l1 m
saw_all a l m l1 empty p = record {
  hand = empty;
  taken = λ e few. subst (λ (z : List Sight). IsTakenSince z m e) (sym p.sights) (taken_since m e p.later (p.sooner ++ l.tally) p.still (p.taken e few));
}

pub saw_locked : (a : About) (l : Known) (m s n : ℕ) (l2 : Known) → LocksSegment a l m s n l2 → SawAllTaken a l m → SawAllTaken a l2 m
saw_locked a l m s n l2 t p = subst (λ (q : Known). SawAllTaken a q m) (sym t.after)
    (record { hand = p.hand; taken = λ e few. (lock_leaves m m s n, inr (p.taken e few)) })

pub missed_keeps : (a : About) (m : ℕ) (l l1 : Known) → Misses a l m l1 → KeepsBatches m l l1
missed_keeps a m l l1 p = keeps_sees m l l1 p.0 (looks_leave p.0 p.1.1) p.1.0

pub claimed_keeps : (a : About) (m : ℕ) (l l1 : Known) (x : Element) → Claims a l m x l1 → KeepsBatches m (holding l m x.number) l1
claimed_keeps a m l l1 x p = keeps_sees m (holding l m x.number) l1 p.0 p.4 p.1

pub found_at_once : (a : About) (m : ℕ) (l l1 : Known) (x : Element) → Claims a l m x l1 → ClaimsOrLacks a l m (Some x) l1
found_at_once a m l l1 x p = (claimed_keeps a m l l1 x p, p.2, p.3)

pub found_after : (a : About) (m : ℕ) (l l2 l3 : Known) → KeepsBatches m l l2 → ((limbo_at l2.limbo m).old ≡ [] → (limbo_at l2.limbo m).young ≡ [])
    → ((limbo_at l2.limbo m).old ≡ []) ⊎ SeesRunning m l l2 → (o : Option Element) → MatchOption o (Misses a l2 m l3) (λ (x : Element). Claims a l2 m x l3)
    → ClaimsOrLacks a l m o l3
found_after a m l l2 l3 kept empty blocked None p = (
  keeps_then m l l2 l3 kept (missed_keeps a m l2 l3 p),
  short a m l l2 l3 kept empty blocked p,
)
found_after a m l l2 l3 kept empty blocked (Some x) p = (
  keeps_then m (holding l m x.number) (holding l2 m x.number) l3 (keeps_holding m x.number l l2 kept) (claimed_keeps a m l2 l3 x p),
  p.2,
  p.3,
)

-- the same, seen from before
pub found_later : (a : About) (m : ℕ) (l k l' : Known) → KeepsBatches m l k → (o : Option Element) → ClaimsOrLacks a k m o l' → ClaimsOrLacks a l m o l'
found_later a m l k l' kept None p = (keeps_then m l k l' kept p.0, in_vain_after a m l k l' kept p.1)
found_later a m l k l' kept (Some x) p = (
  keeps_then m (holding l m x.number) (holding k m x.number) l' (keeps_holding m x.number l k kept) p.0,
  p.1,
  p.2,
)

pub kept_runs : (m : ℕ) (l l1 : Known) → KeepsBatches m l l1 → in_run (events_of l.cpu l.seen) ≡ true → in_run (events_of l1.cpu l1.seen) ≡ true
kept_runs m l l1 k runs = (λ j. in_run (events_of (k.cpu j) (k.seen j))) ∙ runs

-- ---- the answer
pub lacks_of : (a : About) (l : Known) (m : ℕ) (r : MapAnswer) (l2 : Known) →
    (r ≡ Busy → 2 ^ 56 - 1 ≤ a.version + gained (shape_at a m) + done_in m l2.seen) → (r ≡ NoMemory → SearchesInVain a l m l2) → IsShortage a l m r l2
lacks_of a l m Done l2 worn none = tt
lacks_of a l m Invalid l2 worn none = tt
lacks_of a l m Busy l2 worn none = worn refl
lacks_of a l m Exists l2 worn none = tt
lacks_of a l m Absent l2 worn none = tt
lacks_of a l m Full l2 worn none = tt
lacks_of a l m NoMemory l2 worn none = none refl

pub key_at_map : (a : About) (m : ℕ) (key : List ℕ) → IsKeyOf a.shape.maps m key → (m < length a.shape.maps) × (length key ≡ (shape_at a m).key)
key_at_map a m key p = let t = map_of a.shape m p.0 p.1 in (t.0, p.2 ∙ ap (λ (g : MapShape). g.key) (sym t.1))

pub kept_called : (a : About) (l : Known) (k : Sight) (m : ℕ) (key : List ℕ) (r : MapAnswer) (l2 : Known) → IsBetweenCalls l m → Kept a
    (locked_with l k) m key r l2 → IsOneCall a l m (Delete m key r) l2
kept_called a l k m key r l2 rests p = record {
  seen = saw_as a l (locked_with l k) (Delete m key r) l2.seen refl refl p.seen;
  rests = record {
    fresh = ap (λ (q : Known). q.fresh) p.after ∙ rests.fresh;
    locks = ap (λ (q : Known). q.locks) p.after;
    used = ap (λ (q : Known). (limbo_at q.limbo m).used) p.after ∙ rests.used;
  };
  cpu = ap (λ (q : Known). q.cpu) p.after;
  size = ap (λ (q : Known). length q.limbo) p.after;
  others = λ n ne. ap (λ (q : Known). limbo_at q.limbo n) p.after;
}

module _ (a : About) (l : Known) (k : Sight) (m : ℕ) (key : List ℕ) (old : ℕ) (l2 : Known) (rests : IsBetweenCalls l m)
    (room : m < length l.limbo) (p : Dropped a (locked_with l k) m key old l2) where
  pub dropped_limbo : l2.limbo ≡ with_gone l m old
  dropped_limbo = ap (λ (q : Known). q.limbo) p.after

  dropped_used : (limbo_at l2.limbo m).used ≡ old ∷ []
  dropped_used = ap (λ (ls : List Limbo). (limbo_at ls m).used) dropped_limbo
      ∙ (ap (λ (z : Limbo). z.used) (at_set l m (record (limbo_at l.limbo m) { used = old ∷ (limbo_at l.limbo m).used }) room) ∙ ap
      (λ (us : List ℕ). old ∷ us) rests.used)

  pub dropped_front : (limbo_at l2.limbo m).used ≡ old ∷ tail_of (limbo_at l2.limbo m).used
  dropped_front = dropped_used ∙ ap (λ (us : List ℕ). old ∷ us) (sym (ap tail_of dropped_used))

  dropped_size : length l2.limbo ≡ length l.limbo
  dropped_size = ap (λ (ls : List Limbo). length ls) dropped_limbo ∙ length-set l.limbo m
      (record (limbo_at l.limbo m) { used = old ∷ (limbo_at l.limbo m).used })

  pub dropped_called : (l3 : Known) → l3 ≡ retiring l2 m old (tail_of (limbo_at l2.limbo m).used) → IsOneCall a l m (Delete m key Done) l3
  dropped_called l3 retired =
      let x : Limbo = record (limbo_at l2.limbo m) { used = tail_of (limbo_at l2.limbo m).used; young = old ∷ (limbo_at l2.limbo m).young } in
      let room2 : m < length l2.limbo = subst (λ (i : ℕ). m < i) (sym dropped_size) room in
      subst (IsOneCall a l m (Delete m key Done)) (sym retired) (record {
        seen = saw_as a l (locked_with l k) (Delete m key Done) l2.seen refl refl p.seen;
        rests = record {
          fresh = ap (λ (q : Known). q.fresh) p.after ∙ rests.fresh;
          locks = ap (λ (q : Known). q.locks) p.after;
          used = ap (λ (z : Limbo). z.used) (at_set l2 m x room2) ∙ ap tail_of dropped_used;
        };
        cpu = ap (λ (q : Known). q.cpu) p.after;
        size = length-set l2.limbo m x ∙ dropped_size;
        others = λ n ne. get_or-set_other l2.limbo m n x no_limbo ne
            ∙ (ap (λ (ls : List Limbo). limbo_at ls n) dropped_limbo ∙ get_or-set_other l.limbo m n
            (record (limbo_at l.limbo m) { used = old ∷ (limbo_at l.limbo m).used }) no_limbo ne);
      })
