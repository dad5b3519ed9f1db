-- A deletion: from the lock to the unlock.
use Rattle.std.proofs.Common.{◌≡◌, ℕ, ◌-◌, ◌/◌, ◌^◌, ◌<◌, ◌≤◌, Bool, true, ◌||◌, List, [], ◌∷◌, None, refl, ap, sym, subst, ◌∙◌}
use Rattle.bpf_shared.specs.declared.events.Event.TheVariants.{Delete}
use Rattle.bpf_shared.specs.declared.events.MapAnswer.TheVariants.{Done, Absent, Busy}
use Rattle.hop_layout.specs.declared.about.About.{About}
use Rattle.hop_words.specs.declared.known.Known.{Known}
use Rattle.hop_words.specs.declared.known.Lock.{Lock}
use Rattle.hop_words.specs.declared.known.Change.TheVariants.{Drops}
use Rattle.hop_words.specs.Content.{IsShare}
use Rattle.hop_words.specs.Ghost.{shape_at}
use Rattle.hop_words.specs.Rule.{image, put_key, numbered}
use Rattle.hop_words.specs.Kinds.{has, IsKeyAbsent, AnswersUnderLock, Removes, IsWritten, TakesEffect, with_gone}
use Rattle.hop_words.specs.Locking.{lock_of}
use Rattle.hop_layout.proofs.Maps.{map_is}
use Rattle.bpf_shared.specs.Shape.{Shape, IsMap, elements}
use Rattle.std.specs.FinMap.{get}
use Rattle.std.specs.Prelude.{is_some}
use Rattle.hop_seg.specs.Segment.{Sound as SegSound}
use Rattle.hop_seg.specs.Content.{IsAbsent as SegAbsent, HasPair, Loses}
use Rattle.hop_map.specs.LockedSegment.{Locked, Stays, Ready, fills_element, is_put}
use Rattle.hop_map.specs.Private.LockedSegment.{seen_words}
use Rattle.hop_map.specs.Private.UnderLock.{LockShows}
use Rattle.hop_map.specs.Private.Removals.{NamesKey, Dropped}
use Rattle.hop_map.proofs.Bridge.{removed}
use Rattle.hop_map.proofs.Staying.{stays_is}
use Rattle.hop_map.proofs.Puts.{sound_with, absent_with, leads_with, known_by, here, was_inside}
use Rattle.hop_words.specs.Depths.{stamp_depth, home_by}

-- the lock, once the key has been counted off
abbrev pub dropping : Known → List ℕ → Lock
dropping l key = record (lock_of l) { change = Drops key; dirty = true }

module _ (x : Locked) (key : List ℕ) (c : LockShows x.about x.known x.map x.segment) (b : NamesKey x.about x.known x.map x.segment key) where
  abbrev k : Lock
  k = lock_of x.known

  more : ℕ → Bool
  more e = is_put k.change e || fills_element x.known.fresh x.map e

  pub drop_inside : (e : ℕ) → HasPair (seen_words x) key e → e < elements (shape_at x.about x.map)
  unfolding more
  drop_inside e h = was_inside x.about x.known x.map x.segment c more key b.home e h

  pub drop_sound : SegSound (seen_words x)
  unfolding more
  drop_sound = sound_with x.about x.known x.map x.segment c more

  -- the key isn't there, so the answer is allowed
  pub drop_answers : SegAbsent (seen_words x) key → Ready x.about x.known x.map x.segment → AnswersUnderLock x.about x.known k (Delete x.map key Absent)
  unfolding more
  drop_answers gone r =
      let absent : IsKeyAbsent x.about k key = absent_with x.about x.known x.map x.segment c more key b.home gone in
      let b' : NamesKey x.about x.known k.map k.segment key = subst (λ (t : ℕ). NamesKey x.about x.known k.map t key) (sym c.segment)
      (subst (λ (n : ℕ). NamesKey x.about x.known n x.segment key) (sym c.map) b) in
      record {
        lock = r.held;
        clean = c.clean;
        quiet = refl;
        runs = b.runs;
        shortage = tt;
        allowed = λ s before number shape running share maps. (
          running,
          (
            (
              shape_at x.about x.map,
              subst (λ (h : Shape). IsMap h.maps x.map (shape_at x.about x.map)) (sym shape)
                  (map_is x.about.shape x.map r.inside.0),
              b.size,
            ),
            (
              ap is_some (subst (λ (m : ℕ). get (s.maps m) key ≡ None) c.map (maps key b'.home ∙ ap (numbered number) (absent before share))),
              refl,
            ),
          ),
        );
      }

  -- a deletion may always be refused with Busy where the segment has its last version
  pub worn_answers : 2 ^ 56 - 1 ≤ k.stamp / 256 → Ready x.about x.known x.map x.segment → AnswersUnderLock x.about x.known k (Delete x.map key Busy)
  worn_answers worn r = record {
    lock = r.held;
    clean = c.clean;
    quiet = refl;
    runs = b.runs;
    shortage = (sym c.map, worn);
    allowed = λ s before number shape running share maps. (
      running,
      (
        (
          shape_at x.about x.map,
          subst (λ (h : Shape). IsMap h.maps x.map (shape_at x.about x.map)) (sym shape)
              (map_is x.about.shape x.map r.inside.0),
          b.size,
        ),
        refl,
      ),
    );
  }

  abbrev lit : List ℕ → Bool → Known
  lit ws d = record x.known { locks = record k { copy = ws; dirty = d } ∷ [] }

  at_lock : (P : ℕ → ℕ → Type 0) → P x.map x.segment → P k.map k.segment
  at_lock P p = subst (P k.map) (sym c.segment) (subst (λ (n : ℕ). P n x.segment) (sym c.map) p)

  removes : (ws : List ℕ) (d : Bool) (old : ℕ) → Loses (seen_words x) (seen_words (record x { known = lit ws d })) key old → Removes x.about
      (lit ws d) (lock_of (lit ws d)) key old
  unfolding more
  removes ws d old g =
      let b' : NamesKey x.about x.known k.map k.segment key = at_lock (λ n t. NamesKey x.about x.known n t key) b in
      record {
        lock = refl;
        nothing = c.nothing;
        home = b'.home;
        key_size = b'.size;
        there = leads_with x.about x.known x.map x.segment c more key b.home old g.was;
        room = b'.limbo;
        runs = b.runs;
      }

  written : (ws : List ℕ) (d : Bool) (old : ℕ) → Ready x.about (lit ws d) x.map x.segment → Loses (seen_words x)
      (seen_words (record x { known = lit ws d })) key old → IsWritten x.about (dropping (lit ws d) key)
  unfolding more
  written ws d old r g = λ before sh.
      let p = here x.about x.known x.map x.segment c before sh in
      let done = removed x.about x.map x.segment (stamp_depth k.stamp) (λ e. has e k.known || more e) (image x.about k.copy)
      (image x.about ws) before p (known_by x.about x.known x.map x.segment c more before p)
      (λ e kn. (r.known_is e kn).1) key b.home old g in
      at_lock (λ n t. IsShare x.about.seed (shape_at x.about n) (home_by x.about n (stamp_depth k.stamp)) (image x.about ws) n t (put_key before key None)) done

  module _ (z : Locked) (st : Stays x z) where
    pub drop_removes : (old : ℕ) → Loses (seen_words x) (seen_words z) key old → Ready z.about z.known z.map z.segment → Removes z.about
        z.known (lock_of z.known) key old
    drop_removes old g r = subst (λ (q : Locked). Loses (seen_words x) (seen_words q) key old → Removes q.about q.known (lock_of q.known) key old)
        (sym (stays_is x z st r.held)) (λ g. removes (lock_of z.known).copy (lock_of z.known).dirty old g) g

    pub drop_written : (old : ℕ) → Loses (seen_words x) (seen_words z) key old → Ready z.about z.known z.map z.segment → IsWritten z.about
        (dropping z.known key)
    drop_written old g r = subst (λ (q : Locked). Loses (seen_words x) (seen_words q) key old → Ready q.about q.known q.map q.segment →
        IsWritten q.about (dropping q.known key))
        (sym (stays_is x z st r.held)) (λ g r. written (lock_of z.known).copy (lock_of z.known).dirty old r g) g r

    pub drop_ends : (old : ℕ) (l3 : Known) → Dropped z.about z.known (lock_of z.known).map key old l3 → Dropped x.about x.known x.map key old l3
    drop_ends old l3 p =
        let m : (lock_of z.known).map ≡ x.map = ap (λ (q : Lock). q.map) st.lock ∙ c.map in
        let w : TakesEffect x.about x.known (Delete x.map key Done) l3.seen =
        (let v = subst (λ (q : Known). TakesEffect x.about q (Delete x.map key Done) l3.seen) st.known
        (subst (λ (a : About). TakesEffect a z.known (Delete x.map key Done) l3.seen) st.about
        (subst (λ (n : ℕ). TakesEffect z.about z.known (Delete n key Done) l3.seen) m p.seen)) in
        record { others = v.others; foreign = v.foreign; after = v.after; legal = v.legal }) in
        record {
          seen = w;
          after = p.after ∙ (λ j. record (st.known j) { seen = l3.seen; limbo = with_gone (st.known j) (m j) old; locks = [] });
        }
