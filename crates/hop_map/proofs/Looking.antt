-- A lookup under the lock.
use Rattle.std.proofs.Common.{◌≡◌, ℕ, Bool, ◌||◌, List, [], ◌∷◌, Option, Some, None, MatchOption, ap, sym, subst, ◌∙◌}
use Rattle.bpf_shared.specs.declared.events.Event.{Event}
use Rattle.bpf_shared.specs.declared.events.Event.TheVariants.{Lookup}
use Rattle.hop_layout.specs.declared.about.About.{About}
use Rattle.hop_words.specs.declared.known.Known.{Known}
use Rattle.hop_words.specs.declared.known.Lock.{Lock}
use Rattle.hop_words.specs.Content.{IsShare}
use Rattle.hop_words.specs.Ghost.{shape_at, lock_home}
use Rattle.hop_words.specs.Rule.{image}
use Rattle.hop_words.specs.Kinds.{LooksUpLocked, LookedUp, TakesEffect, LocksSegment as Lock_taken, found_span}
use Rattle.hop_words.specs.Locking.{lock_of}
use Rattle.hop_seg.specs.Segment.{Sound as SegSound}
use Rattle.hop_seg.specs.Content.{IsAbsent as SegAbsent, HasPair}
use Rattle.hop_map.specs.LockedSegment.{Locked, Ready, fills_element, is_put}
use Rattle.hop_map.specs.Private.LockedSegment.{seen_words}
use Rattle.hop_map.specs.Private.UnderLock.{LockShows}
use Rattle.hop_words.specs.Sights.{lock_taken}
use Rattle.hop_map.specs.Private.Locks.{with_lock}
use Rattle.hop_map.specs.Finding.{AsksForKey, Looked, TakesLock, OwnsKey}
use Rattle.hop_map.specs.Private.Finding.{AsksHere}
use Rattle.hop_map.proofs.Puts.{sound_with, absent_with, leads_with}
use Rattle.hop_words.specs.Depths.{stamp_depth, home_by}

module _ (x : Locked) (key : List ℕ) (c : LockShows x.about x.known x.map x.segment)
    (b : AsksHere x.about x.known x.map x.segment (stamp_depth (lock_of x.known).stamp) key) where
  abbrev k : Lock
  k = lock_of x.known

  more : ℕ → Bool
  more e = is_put k.change e || fills_element x.known.fresh x.map e

  pub look_sound : SegSound (seen_words x)
  unfolding more
  look_sound = sound_with x.about x.known x.map x.segment c more

  -- what was found is where the key leads
  pub look_shows : (o : Option ℕ) → MatchOption o (SegAbsent (seen_words x) key) (λ e. HasPair (seen_words x) key e) → (before : List ℕ → Option ℕ)
      → IsShare x.about.seed (shape_at x.about k.map) (lock_home x.about k) (image x.about k.first) k.map k.segment before → before key ≡ o
  unfolding more
  look_shows None gone = absent_with x.about x.known x.map x.segment c more key b.home gone
  look_shows (Some e) there = leads_with x.about x.known x.map x.segment c more key b.home e there

  pub looks_up : (o : Option ℕ) → MatchOption o (SegAbsent (seen_words x) key) (λ e. HasPair (seen_words x) key e) → Ready x.about x.known
      x.map x.segment → LooksUpLocked x.about x.known k key o
  looks_up o found r =
      let b' : AsksHere x.about x.known k.map k.segment (stamp_depth k.stamp) key = subst
      (λ (t : ℕ). AsksHere x.about x.known k.map t (stamp_depth k.stamp) key) (sym c.segment)
      (subst (λ (n : ℕ). AsksHere x.about x.known n x.segment (stamp_depth k.stamp) key) (sym c.map) b) in
      record { lock = r.held; clean = c.clean; home = b'.home; key_size = b'.size; shown = look_shows o found; runs = b.runs }

-- from the lock to the unlock
module _ (a : About) (l : Known) (m s n : ℕ) (key : List ℕ) (l2 : Known) (t : Lock_taken a l m s n l2) where
  pub asks_here : AsksForKey a l m key → home_by a m (stamp_depth n) key ≡ s → AsksHere a l2 m s (stamp_depth (lock_of l2).stamp) key
  asks_here q home = subst (λ (z : Known). AsksHere a z m s (stamp_depth (lock_of z).stamp) key) (sym t.after)
      (record { home = home; size = q.size; runs = q.runs })

  -- the lane after the unlock, by the one before the lock
  module _ (q : AsksForKey a l m key) (o : Option ℕ) (l3 : Known) (p : LookedUp a l2 (lock_of l2) key o l3) where
    lock_map : (lock_of l2).map ≡ m
    lock_map = ap (λ (z : Known). (lock_of z).map) t.after

    after : l3 ≡ record (with_lock l m s n) { seen = l3.seen }
    after = p.after ∙ (ap (λ (z : Known). record z { seen = l3.seen; locks = [] }) t.after ∙
        (λ j. record (with_lock l m s n) { seen = l3.seen; locks = sym q.locks j }))

    pub looked_readings : l3.readings ≡ []
    looked_readings = ap (λ (z : Known). z.readings) after

    looked_tally : l3.tally ≡ lock_taken m s n ∷ l.tally
    looked_tally = ap (λ (z : Known). z.tally) after

    pub takes_lock : OwnsKey a m key s n → TakesLock a l m key l3
    takes_lock own = (s, n, own, looked_tally)

    abbrev event : Event
    event = Lookup m key (found_span a m o)

    seen : TakesEffect a l event l3.seen
    seen =
        let w = subst (λ (i : ℕ). TakesEffect a l2 (Lookup i key (found_span a i o)) l3.seen) lock_map p.seen in
        let v = subst (λ (z : Known). TakesEffect a z event l3.seen) t.after w in
        record { others = v.others; foreign = v.foreign; after = v.after; legal = v.legal }

    pub looked : Looked a l m key (found_span a m o) l3
    looked = record { seen = seen; after = after ∙ (λ j. record l { seen = l3.seen; readings = sym looked_readings j; tally = sym looked_tally j }) }
