-- A replacement: from the lock to the unlock.
use Rattle.std.proofs.Common.{◌≡◌, ℕ, ◌<◌, ◌%◌, ◌^◌, eq-eqb, Bool, true, true≢false, ◌||◌, ◌&&◌, ◌==◌, List, [], ◌∷◌, Some, refl, ap, sym, subst, ◌∙◌}
use Rattle.std.proofs.lemmas.Bool.{or_right}
use Rattle.bpf_shared.specs.Shape.{elements}
use Rattle.bpf_shared.specs.declared.events.Event.TheVariants.{Update}
use Rattle.bpf_shared.specs.declared.events.MapAnswer.TheVariants.{Done}
use Rattle.hop_layout.specs.declared.about.About.{About}
use Rattle.hop_words.specs.declared.known.Known.{Known}
use Rattle.hop_words.specs.declared.known.Lock.{Lock}
use Rattle.hop_words.specs.declared.known.Fresh.{Fresh}
use Rattle.hop_map.specs.LockedSegment.{home, Locked, Stays, Ready, fills_element, is_put}
use Rattle.hop_map.specs.Private.LockedSegment.{seen_words}
use Rattle.hop_words.specs.Content.{IsShare, HasKey}
use Rattle.hop_words.specs.Ghost.{shape_at, lock_home}
use Rattle.hop_words.specs.Rule.{image, put_key}
use Rattle.hop_words.specs.Kinds.{has, Replaces, Replaced, TakesEffect, with_gone}
use Rattle.hop_seg.specs.Segment.{Sound as SegSound, IsOwn, element_key}
use Rattle.hop_seg.specs.Content.{HasPair, IsInSegment, Changes}
use Rattle.hop_words.specs.Locking.{lock_of, hand}
use Rattle.hop_map.specs.Private.UnderLock.{LockShows}
use Rattle.hop_map.specs.Private.Replacing.{OffersReplacement, IsReplacement}
use Rattle.hop_map.proofs.Keys.{spells}
use Rattle.hop_map.proofs.Bridge.{replaced, reached_of, power_is}
use Rattle.hop_map.proofs.Staying.{stays_is}
use Rattle.hop_map.proofs.Puts.{sound_with, share, any_known, leads_with, known_by, here, was_inside}
use Rattle.hop_words.specs.Depths.{stamp_depth, home_by}

module _ (x : Locked) (key bytes : List ℕ) (flags element : ℕ) (c : LockShows x.about x.known x.map x.segment)
    (b : OffersReplacement x.about x.known x.map x.segment key bytes flags element) where
  abbrev k : Lock
  k = lock_of x.known

  more : ℕ → Bool
  more e = is_put k.change e || fills_element x.known.fresh x.map e

  pub over_sound : SegSound (seen_words x)
  unfolding more
  over_sound = sound_with x.about x.known x.map x.segment c more

  pub over_spelt : element_key (seen_words x) element ≡ key
  over_spelt = spells x.about x.map (image x.about k.copy) element key
      (subst (λ (ws : List ℕ). HasKey (shape_at x.about x.map) (image x.about ws) x.map element key) (sym c.copied) b.filled.keyed)

  pub over_fresh : IsInSegment (seen_words x) element → ⊥
  unfolding more
  over_fresh linked =
      let p = share x.about x.known x.map x.segment c in
      let t = p.each element (reached_of x.about x.map x.segment (stamp_depth k.stamp) (λ e. has e k.known || more e) (image x.about k.copy) element linked) in
      let q = any_known x.about x.known x.map x.segment c c.content p t.0 element t.3 t.2 in
      true≢false (sym q.1 ∙ b.apart)

  held_here : fills_element x.known.fresh x.map element ≡ true
  held_here = subst (λ (fs : List Fresh). fills_element fs x.map element ≡ true) (sym b.filled.in_hand)
      ((λ j. eq-eqb (hand x.known).map x.map b.filled.map j && (element == (hand x.known).element)) ∙ eq-eqb element (hand x.known).element
      (sym b.filled.number))

  pub over_own : IsOwn (seen_words x).fixed element
  over_own = record {
    known = (or_right (has element k.known) _ (or_right (is_put k.change element) _ held_here), b.filled.inside);
    home = ap (λ (q : List ℕ). home x.about.seed (shape_at x.about x.map).mask q % 2 ^ (stamp_depth k.stamp)) over_spelt
        ∙ (ap (λ (n : ℕ). home x.about.seed (shape_at x.about x.map).mask key % n) (sym (power_is (stamp_depth k.stamp))) ∙ b.filled.home);
  }

  abbrev lit : List ℕ → Bool → Known
  lit ws d = record x.known { locks = record k { copy = ws; dirty = d } ∷ [] }

  at_lock : (P : ℕ → ℕ → Type 0) → P x.map x.segment → P k.map k.segment
  at_lock P p = subst (P k.map) (sym c.segment) (subst (λ (n : ℕ). P n x.segment) (sym c.map) p)

  replaces : (ws : List ℕ) (d : Bool) (old : ℕ) → Ready x.about (lit ws d) x.map x.segment → Changes (seen_words x)
      (seen_words (record x { known = lit ws d })) key old element
      → Replaces x.about (lit ws d) (lock_of (lit ws d)) (hand (lit ws d)) [] key bytes flags old
  unfolding more
  replaces ws d old r g =
      let b' : OffersReplacement x.about x.known k.map k.segment key bytes flags element = at_lock
      (λ n t. OffersReplacement x.about x.known n t key bytes flags element) b in
      record {
        filled = record {
          lock = refl;
          nothing = c.nothing;
          hand = b.filled.in_hand;
          map = b'.filled.map;
          element = subst (λ (e : ℕ). e < elements (shape_at x.about k.map)) (sym b'.filled.number) b'.filled.inside;
          home = b'.filled.home;
          key_size = b'.filled.keyed.0;
          size = b'.filled.size;
          are_bytes = b.filled.are_bytes;
          filled = b'.filled.filled;
          value = b'.filled.value;
          runs = b.filled.runs;
        };
        there = leads_with x.about x.known x.map x.segment c more key b.filled.home old g.was;
        written = λ before sh.
            let p = here x.about x.known x.map x.segment c before sh in
            let done = replaced x.about x.map x.segment (stamp_depth k.stamp) (λ e. has e k.known || more e) (image x.about k.copy)
            (image x.about ws) before p (known_by x.about x.known x.map x.segment c more before p)
            (λ e kn. (r.known_is e kn).1) key b.filled.home old element g in
            subst (λ (e : ℕ). IsShare x.about.seed (shape_at x.about k.map) (lock_home x.about k) (image x.about ws) k.map k.segment
            (put_key before key (Some e))) (sym b.filled.number)
            (at_lock (λ n t. IsShare x.about.seed (shape_at x.about n) (home_by x.about n (stamp_depth k.stamp)) (image x.about ws) n t
            (put_key before key (Some element))) done);
        flags_known = b.flags_known;
        room = b'.limbo;
      }

  module _ (z : Locked) (st : Stays x z) where
    pub over_replaces : (old : ℕ) → Changes (seen_words x) (seen_words z) key old element → Ready z.about z.known z.map z.segment → Replaces
        z.about z.known (lock_of z.known) (hand z.known) [] key bytes flags old
    over_replaces old g r = subst (λ (q : Locked). Changes (seen_words x) (seen_words q) key old element → Ready q.about q.known q.map
        q.segment → Replaces q.about q.known (lock_of q.known) (hand q.known) [] key bytes flags old)
        (sym (stays_is x z st r.held)) (λ g r. replaces (lock_of z.known).copy (lock_of z.known).dirty old r g) g r

    pub over_ends : (old : ℕ) (l3 : Known) → HasPair (seen_words x) key old → Replaced z.about z.known (lock_of z.known) [] key bytes flags
        old l3 → IsReplacement x.about x.known x.map key bytes flags old l3
    unfolding more
    over_ends old l3 was p =
        let m : (lock_of z.known).map ≡ x.map = ap (λ (q : Lock). q.map) st.lock ∙ c.map in
        let w : TakesEffect x.about x.known (Update x.map key bytes flags Done) l3.seen =
        (let v = subst (λ (q : Known). TakesEffect x.about q (Update x.map key bytes flags Done) l3.seen) st.known
        (subst (λ (a : About). TakesEffect a z.known (Update x.map key bytes flags Done) l3.seen) st.about
        (subst (λ (n : ℕ). TakesEffect z.about z.known (Update n key bytes flags Done) l3.seen) m p.seen)) in
        record { others = v.others; foreign = v.foreign; after = v.after; legal = v.legal }) in
        record {
          inside = was_inside x.about x.known x.map x.segment c more key b.filled.home old was;
          seen = w;
          after = p.after ∙ (λ j. record (st.known j) { seen = l3.seen; fresh = []; limbo = with_gone (st.known j) (m j) old; locks = [] });
        }
