-- A new element: from the lock to the unlock.
use Rattle.std.proofs.Common.{◌≡◌, ℕ, ◌<◌, ◌%◌, ◌^◌, eq-eqb, Bool, true, false, ◌||◌, ◌==◌, List, [], ◌∷◌, Option, Some, None, refl, ap, sym, subst, ◌∙◌}
use Rattle.std.proofs.lemmas.Bool.{or_right, or_left}
use Rattle.bpf_shared.specs.Shape.{elements}
use Rattle.hop_layout.specs.declared.about.About.{About}
use Rattle.hop_words.specs.declared.known.Known.{Known}
use Rattle.hop_words.specs.declared.known.Lock.{Lock}
use Rattle.hop_words.specs.declared.known.Change.TheVariants.{Puts}
use Rattle.hop_words.specs.Locking.{lock_of, hand}
use Rattle.hop_map.specs.LockedSegment.{home, Locked, Stays, Ready, knows}
use Rattle.hop_map.specs.Private.LockedSegment.{segment_view, locked_view, seen_words}
use Rattle.hop_words.specs.Content.{MapWords, IsShare, HasKey}
use Rattle.hop_words.specs.Ghost.{shape_at, lock_home}
use Rattle.hop_words.specs.Rule.{image, put_key}
use Rattle.hop_words.specs.Kinds.{has, Inserted, IsKeyAbsent, IsWritten, LeadsToElement}
use Rattle.hop_seg.specs.Words.{Fixed}
use Rattle.hop_seg.specs.Segment.{Sound as SegSound, IsOwn, element_key}
use Rattle.hop_seg.specs.Content.{IsAbsent as SegAbsent, HasPair, Gains}
use Rattle.hop_map.specs.Private.UnderLock.{LockShows, OffersInsertion}
use Rattle.hop_map.proofs.Keys.{spells}
use Rattle.hop_map.proofs.Bridge.{seg_sound, pair_leads, leads_pair, inserted, power_is}
use Rattle.hop_words.specs.Depths.{stamp_depth, home_by}
use Rattle.hop_map.specs.LockedSegment.{locked_home}

module _ (a : About) (l : Known) (m s : ℕ) (c : LockShows a l m s) where
  abbrev x : MapWords
  x = image a (lock_of l).copy

  -- whatever share the words show, its elements are known
  pub any_known : (f : List ℕ → Option ℕ) → IsShare a.seed (shape_at a m) (home_by a m (stamp_depth (lock_of l).stamp)) x m s f →
      (key : List ℕ) (e : ℕ) → f key ≡ Some e → locked_home a l m key ≡ s → (e < elements (shape_at a m)) × (has e (lock_of l).known ≡ true)
  any_known f p key e is at_home =
      let t = p.all key e is at_home in
      let q = subst (λ (ws : List ℕ). IsShare a.seed (shape_at a m) (home_by a m (stamp_depth (lock_of l).stamp)) (image a ws) m s
      c.content) (sym c.copied) c.share in
      let k = q.each e t.0 in
      c.all_known k.0 e k.3 k.2

  -- the share that the lock's first words show
  pub here : (f : List ℕ → Option ℕ) → IsShare a.seed (shape_at a (lock_of l).map) (lock_home a (lock_of l)) (image a (lock_of l).first)
      (lock_of l).map (lock_of l).segment f → IsShare a.seed (shape_at a m) (home_by a m (stamp_depth (lock_of l).stamp)) x m s f
  here f p = subst (λ (ws : List ℕ). IsShare a.seed (shape_at a m) (home_by a m (stamp_depth (lock_of l).stamp)) (image a ws) m s f) (sym c.copied)
      (subst (λ (t : ℕ). IsShare a.seed (shape_at a m) (home_by a m (stamp_depth (lock_of l).stamp)) (image a (lock_of l).first) m t f) c.segment
      (subst (λ (n : ℕ). IsShare a.seed (shape_at a n) (home_by a n (stamp_depth (lock_of l).stamp)) (image a (lock_of l).first) n
      (lock_of l).segment f) c.map p))

  pub share : IsShare a.seed (shape_at a m) (home_by a m (stamp_depth (lock_of l).stamp)) x m s c.content
  share = subst (λ (ws : List ℕ). IsShare a.seed (shape_at a m) (home_by a m (stamp_depth (lock_of l).stamp)) (image a ws) m s c.content) (sym c.copied) c.share

  module _ (more : ℕ → Bool) where
    kn : ℕ → Bool
    kn e = has e (lock_of l).known || more e

    pub known_by : (f : List ℕ → Option ℕ) → IsShare a.seed (shape_at a m) (home_by a m (stamp_depth (lock_of l).stamp)) x m s f →
        (key : List ℕ) (e : ℕ) → f key ≡ Some e → locked_home a l m key ≡ s → (e < elements (shape_at a m)) ×
        (has e (lock_of l).known || more e ≡ true)
    known_by f p key e is at_home = let t = any_known f p key e is at_home in (t.0, or_left (has e (lock_of l).known) (more e) t.1)

    pub sound_with : SegSound (segment_view a m s (stamp_depth (lock_of l).stamp) (λ e. has e (lock_of l).known || more e) x)
    sound_with = seg_sound a m s (stamp_depth (lock_of l).stamp) (λ e. has e (lock_of l).known || more e) x c.content share (known_by c.content share)

    module _ (key : List ℕ) (at_home : locked_home a l m key ≡ s) where
      pub none_with : SegAbsent (segment_view a m s (stamp_depth (lock_of l).stamp) (λ e. has e (lock_of l).known || more e) x) key →
          (f : List ℕ → Option ℕ) → IsShare a.seed (shape_at a m) (home_by a m (stamp_depth (lock_of l).stamp)) x m s f → f key ≡ None
      none_with gone f p = go (f key) refl
        where
          go : (o : Option ℕ) → f key ≡ o → f key ≡ None
          go None is = is
          go (Some e) is = absurd (gone e (leads_pair a m s (stamp_depth (lock_of l).stamp) (λ e. has e (lock_of l).known || more e) x f p
              (known_by f p) key e is at_home))

      pub absent_with : SegAbsent (segment_view a m s (stamp_depth (lock_of l).stamp) (λ e. has e (lock_of l).known || more e) x) key →
          IsKeyAbsent a (lock_of l) key
      absent_with gone f p = none_with gone f (here f p)

      pub leads_with : (e : ℕ) → HasPair (segment_view a m s (stamp_depth (lock_of l).stamp) (λ e. has e (lock_of l).known || more e) x) key
          e → LeadsToElement a (lock_of l) key e
      leads_with e h f p = (pair_leads a m s (stamp_depth (lock_of l).stamp) (λ e. has e (lock_of l).known || more e) x f (here f p)
          (known_by f (here f p)) key e h).0

      -- an element that a key leads to is one of the map's
      pub was_inside : (e : ℕ) → HasPair (segment_view a m s (stamp_depth (lock_of l).stamp) (λ e. has e (lock_of l).known || more e) x) key
          e → e < elements (shape_at a m)
      was_inside e h = (known_by c.content share key e (pair_leads a m s (stamp_depth (lock_of l).stamp)
          (λ e. has e (lock_of l).known || more e) x c.content share (known_by c.content share) key e h).0 at_home).0

-- after the count has gone up
module _ (x : Locked) (key bytes : List ℕ) (flags element : ℕ) (c : LockShows x.about x.known x.map x.segment)
    (b : OffersInsertion x.about x.known x.map x.segment key bytes flags element) (gone : SegAbsent (seen_words x) key)
    (y : Locked) (table : y.table ≡ x.table) (about : y.about ≡ x.about) (map : y.map ≡ x.map) (segment : y.segment ≡ x.segment)
    (i : Inserted x.about x.known (lock_of x.known) (hand x.known) [] key bytes flags y.known) where
  abbrev o : ℕ
  o = (hand x.known).element

  more : ℕ → Bool
  more e = (e == o) || false

  abbrev lane1 : Known
  lane1 = record x.known { seen = y.known.seen; fresh = []; locks = record (lock_of x.known) { change = Puts key o; dirty = true } ∷ [] }

  abbrev x1 : Locked
  x1 = record x { known = lane1 }

  y_is : y ≡ x1
  y_is = λ j. record { table = table j; about = about j; known = i.after j; map = map j; segment = segment j }

  keyed : HasKey (shape_at x.about x.map) (image x.about (lock_of x.known).copy) x.map element key
  keyed = subst (λ (ws : List ℕ). HasKey (shape_at x.about x.map) (image x.about ws) x.map element key) (sym c.copied) b.filled.keyed

  spelt : element_key (seen_words x1) element ≡ key
  spelt = spells x.about x.map (image x.about (lock_of x.known).copy) element key keyed

  pub spelt_after : element_key (seen_words y) element ≡ key
  spelt_after = subst (λ (z : Locked). element_key (seen_words z) element ≡ key) (sym y_is) spelt

  pub sound_after : SegSound (seen_words y)
  unfolding more
  sound_after = subst (λ (z : Locked). SegSound (seen_words z)) (sym y_is) (sound_with x.about x.known x.map x.segment c more)

  own : IsOwn (seen_words x1).fixed element
  unfolding more
  own = record {
    known = (
      or_right (has element (lock_of x.known).known) ((element == o) || false)
          (or_left (element == o) false (eq-eqb element o (sym b.filled.number))),
      b.filled.inside,
    );
    home = ap (λ (q : List ℕ). home x.about.seed (shape_at x.about x.map).mask q % 2 ^ (stamp_depth (lock_of x.known).stamp)) spelt
        ∙ (ap (λ (n : ℕ). home x.about.seed (shape_at x.about x.map).mask key % n) (sym (power_is (stamp_depth (lock_of x.known).stamp))) ∙ b.filled.home);
  }

  pub own_after : IsOwn (seen_words y).fixed element
  own_after = subst (λ (z : Locked). IsOwn (seen_words z).fixed element) (sym y_is) own

  none : (f : List ℕ → Option ℕ) → IsShare x.about.seed (shape_at x.about x.map) (locked_home x.about x.known x.map)
      (image x.about (lock_of x.known).copy) x.map x.segment f → f key ≡ None
  none f p = none_with x.about x.known x.map x.segment c _ key b.filled.home gone f p

  absent : SegAbsent (seen_words x1) (element_key (seen_words x1) element)
  unfolding more
  absent e h =
      let p = share x.about x.known x.map x.segment c in
      let t = pair_leads x.about x.map x.segment (stamp_depth (lock_of x.known).stamp) (λ e. has e (lock_of x.known).known || more e)
      (image x.about (lock_of x.known).copy) c.content p (known_by x.about x.known x.map x.segment c more c.content p) key e
      (subst (λ (k : List ℕ). HasPair (seen_words x1) k e) spelt h) in
      let z : None ≡ Some e = sym (none c.content p) ∙ t.0 in
      cc

  pub absent_after : SegAbsent (seen_words y) (element_key (seen_words y) element)
  absent_after = subst (λ (z : Locked). SegAbsent (seen_words z) (element_key (seen_words z) element)) (sym y_is) absent

  -- after the writes
  written : (l2 : Known) → Ready x.about l2 x.map x.segment → lock_of l2 ≡ record (lock_of x.known)
      { change = Puts key o; copy = (lock_of l2).copy; dirty = (lock_of l2).dirty }
      → Gains (seen_words x1) (locked_view x.about l2 x.map x.segment) key element → IsWritten x.about (lock_of l2)
  unfolding more
  written l2 r lock g = subst (IsWritten x.about) (sym lock) (λ before sh.
      let p = here x.about x.known x.map x.segment c before sh in
      let kn : ℕ → Bool = λ e. has e (lock_of x.known).known || more e in
      let same : knows l2 x.map ≡ kn = ap (λ (f : Fixed). f.known) g.fixed in
      let done = inserted x.about x.map x.segment (stamp_depth (lock_of x.known).stamp) kn (image x.about (lock_of x.known).copy)
      (image x.about (lock_of l2).copy) before p (known_by x.about x.known x.map x.segment c more before p)
      (subst (λ (n : ℕ → Bool). (e : ℕ) → n e ≡ true → (q : List ℕ) × HasKey (shape_at x.about x.map) (image x.about (lock_of l2).copy)
      x.map e q) same (λ e k. (r.known_is e k).1))
      key b.filled.home element (none before p)
      (subst (λ (n : ℕ → Bool). Gains (seen_words x1) (segment_view x.about x.map x.segment (stamp_depth (lock_of x.known).stamp) n
      (image x.about (lock_of l2).copy)) key element) same
      (subst (λ (i : ℕ). Gains (seen_words x1) (segment_view x.about x.map x.segment i (knows l2 x.map) (image x.about (lock_of l2).copy))
      key element) (ap (λ (f : Fixed). f.depth) g.fixed) g)) in
      subst (λ (e : ℕ). IsShare x.about.seed (shape_at x.about (lock_of x.known).map) (lock_home x.about (lock_of x.known))
      (image x.about (lock_of l2).copy) (lock_of x.known).map (lock_of x.known).segment (put_key before key (Some e))) (sym b.filled.number)
      (subst (λ (t : ℕ). IsShare x.about.seed (shape_at x.about (lock_of x.known).map) (lock_home x.about (lock_of x.known))
      (image x.about (lock_of l2).copy) (lock_of x.known).map t (put_key before key (Some element))) (sym c.segment)
      (subst (λ (n : ℕ). IsShare x.about.seed (shape_at x.about n) (locked_home x.about x.known n) (image x.about (lock_of l2).copy) n
      x.segment (put_key before key (Some element))) (sym c.map) done)))

  pub written_after : (z : Locked) → Stays y z → Gains (seen_words y) (seen_words z) (element_key (seen_words y) element) element → Ready
      z.about z.known z.map z.segment → IsWritten z.about (lock_of z.known)
  written_after z st g = subst (λ (q : Locked). (lock_of q.known ≡ record (lock_of x.known)
      { change = Puts key o; copy = (lock_of q.known).copy; dirty = (lock_of q.known).dirty })
      → Gains (seen_words x1) (seen_words q) key element → Ready q.about q.known q.map q.segment → IsWritten q.about (lock_of q.known))
      (sym z_is) (λ lock g r. written z.known r lock g)
      (st.lock ∙ ap (λ (k : Lock). record k { copy = (lock_of z.known).copy; dirty = (lock_of z.known).dirty }) (ap (λ (q : Locked). lock_of q.known) y_is))
      (subst (λ (q : Locked). Gains (seen_words q) (seen_words z) key element) y_is
      (subst (λ (k : List ℕ). Gains (seen_words y) (seen_words z) k element) spelt_after g))
    where
      z_is : z ≡ record x { known = z.known }
      z_is = λ j. record {
        table = (st.table ∙ table) j;
        about = (st.about ∙ about) j;
        known = z.known;
        map = (st.map ∙ map) j;
        segment =
            (st.segment ∙ segment) j;
      }
