-- What the lock says is what the code of a segment needs.
use Rattle.std.proofs.Common.{true≢false, ◌≡◌, ℕ, ◌<◌, ◌≤◌, Bool, true, false, ◌||◌, ◌==◌, List, [], ◌∷◌, refl, ap, sym, subst, ◌∙◌, inl, inr, ◌%◌}
use Rattle.std.proofs.lemmas.Bool.{and_parts}
use Rattle.atomic_table.specs.Seated.{TableId}
use Rattle.bpf_shared.specs.Shape.{elements}
use Rattle.hop_layout.specs.declared.about.About.{About}
use Rattle.hop_words.specs.declared.known.Known.{Known}
use Rattle.hop_words.specs.declared.known.Fresh.{Fresh}
use Rattle.hop_words.specs.declared.known.Lock.{Lock}
use Rattle.hop_words.specs.Content.{MapWords, HasKey}
use Rattle.hop_words.specs.Ghost.{shape_at, IsSegment, Each}
use Rattle.hop_words.specs.Rule.{image, StartsWith}
use Rattle.hop_words.specs.Kinds.{has, MayLink, LocksSegment, locking, AreElsewhere, unlocking, TakesEffect, with_gone}
use Rattle.hop_layout.proofs.Layouts.{one}
use Rattle.hop_words.specs.Locking.{lock_of, other_locks, unlocking_last, hand}
use Rattle.hop_words.specs.Owning.{tail_of}
use Rattle.hop_map.specs.LockedSegment.{Fits, Locked, Ready, knows, fills_element}
use Rattle.hop_map.specs.Private.UnderLock.{LockShows}
use Rattle.bpf_shared.specs.declared.events.Event.TheVariants.{Update, Delete}
use Rattle.bpf_shared.specs.declared.events.Entry.{Entry}
use Rattle.bpf_shared.specs.declared.events.MapAnswer.{MapAnswer}
use Rattle.bpf_shared.specs.declared.events.MapAnswer.TheVariants.{Done, Absent, Busy}
use Rattle.hop_map.specs.declared.ending.Ending.{Ending}
use Rattle.hop_map.specs.declared.ending.Ending.TheVariants.{Added, Replaced, Refused}
use Rattle.hop_map.specs.Private.Updates.{Wants, Offers, UpdateEnds, Refusal}
use Rattle.hop_map.specs.Finding.{OwnsKey}
use Rattle.hop_map.specs.Private.Locks.{CarriesKey, Readies, with_lock}
use Rattle.hop_map.proofs.Keys.{spells}
use Rattle.hop_map.specs.declared.dropping.Deletion.{Deletion}
use Rattle.hop_map.specs.declared.dropping.Deletion.TheVariants.{Gone, Missing, Worn}
use Rattle.hop_map.specs.Private.Removals.{NamesKey, Kept, DeleteEnds}
use Rattle.hop_words.specs.Depths.{stamp_depth, home_by}
use Rattle.hop_map.specs.Private.Updates.{Brought}
use Rattle.hop_map.specs.Private.Locks.{Taken}
use Rattle.hop_layout.specs.Layout.{power}
use Rattle.hop_layout.specs.Home.{home_of}
use Rattle.hop_map.specs.Private.Removals.{NamesKeyOf}

-- what is so of these parts is so of the words made of them, and the other way round
module _ (x : Locked) (a : About) (l : Known) (m s : ℕ) (about : x.about ≡ a) (known : x.known ≡ l) (map : x.map ≡ m)
    (segment : x.segment ≡ s) (P : About → Known → ℕ → ℕ → Type 0) where
  is : x ≡ record { table = x.table; about = a; known = l; map = m; segment = s }
  is = λ j. record { table = x.table; about = about j; known = known j; map = map j; segment = segment j }

  pub of_words : P a l m s → P x.about x.known x.map x.segment
  of_words = subst (λ (z : Locked). P z.about z.known z.map z.segment) (sym is)

  pub of_parts : P x.about x.known x.map x.segment → P a l m s
  of_parts = subst (λ (z : Locked). P z.about z.known z.map z.segment) is

module _ (a : About) (l : Known) (m s n : ℕ) (at_s : IsSegment a m s) (l2 : Known) (t : LocksSegment a l m s n l2) where
  abbrev x : MapWords
  x = image a t.words

  abbrev pub locked : Known
  locked = locking l m s n t.words t.known

  linked : (e : ℕ) → has e t.known ≡ true → MayLink a locked (lock_of locked) e × ((q : List ℕ) × HasKey (shape_at a m) x m e q)
  linked e k =
      let q = t.known_is e k in
      let here = t.share.all q.1.0 e q.1.1 q.1.2 in (
        (
          q.0,
          inr (λ before sh.
              let w = sh.each e here.0 in
              let same : w.0 ≡ q.1.0 = sym (spells a m x e w.0 w.1) ∙ spells a m x e q.1.0 here.1 in
              (q.1.0, ap before (sym same) ∙ w.3, q.1.2)),
        ),
        (q.1.0, here.1),
      )

  contents : LockShows a locked m s
  contents = record {
    map = refl;
    segment = refl;
    content = t.content;
    share = t.share;
    all_known = t.is_known;
    copied = refl;
    nothing =
        refl;
    clean = refl;
    sized = t.sized;
  }

  pub locked_contents : LockShows a l2 m s
  locked_contents = subst (λ (l : Known). LockShows a l m s) (sym t.after) contents

  -- where the elements in hand may be read too
  module _ (mine : (e : ℕ) → fills_element l.fresh m e ≡ true → MayLink a locked (lock_of locked) e × ((q : List ℕ) × HasKey (shape_at a m) x m e q)) where
    locked_known : (e : ℕ) → knows locked m e ≡ true → MayLink a locked (lock_of locked) e × ((q : List ℕ) × HasKey (shape_at a m) x m e q)
    locked_known e k = go (has e t.known) refl
      where
        go : (b : Bool) → has e t.known ≡ b → MayLink a locked (lock_of locked) e × ((q : List ℕ) × HasKey (shape_at a m) x m e q)
        go true h = linked e h
        go false h = mine e (subst (λ (b : Bool). (b || (false || fills_element l.fresh m e)) ≡ true) h k)

    pub ready_with : l.locks ≡ [] → Ready a l2 m s
    ready_with idle = subst (λ (l : Known). Ready a l m s) (sym t.after)
        (record {
          held = ap (λ (ks : List Lock). lock_of locked ∷ ks) idle;
          map = refl;
          segment = refl;
          inside = at_s;
          sized = t.sized;
          known_is = locked_known;
        })

-- no element is in hand
pub empty_ready : (a : About) (l : Known) (m s n : ℕ) (at_s : IsSegment a m s) (l2 : Known) (t : LocksSegment a l m s n l2) → l.fresh ≡ [] →
    l.locks ≡ [] → Ready a l2 m s
empty_ready a l m s n at_s l2 t none idle = ready_with a l m s n at_s l2 t (λ e k.
    let z : false ≡ true = subst (λ (fs : List Fresh). fills_element fs m e ≡ true) none k in
    absurd (true≢false (sym z))) idle

-- so with it the words of the segment fit the table
pub empty_fits : (id standing : TableId) (a : About) (l : Known) (m s n key_size count : ℕ) (at_s : IsSegment a m s) (l2 : Known)
    (t : LocksSegment a l m s n l2) → l.fresh ≡ [] → l.locks ≡ [] → standing ≡ id
    → key_size ≡ (shape_at a m).key → key_size ≤ 64 → count ≡ elements (shape_at a m) → Fits id a standing l2 m s key_size count
empty_fits id standing a l m s n key_size count at_s l2 t none idle seated keyed small counted =
    record { seated = seated; keyed = keyed; small = small; counted = counted; ready = empty_ready a l m s n at_s l2 t none idle }

module _ (a : About) (l : Known) (m s n : ℕ) (at_s : IsSegment a m s) (key : List ℕ) (element : ℕ) (c : CarriesKey a l m key element)
    (l2 : Known) (t : LocksSegment a l m s n l2) where
  abbrev y : MapWords
  y = image a t.words

  own_key : HasKey (shape_at a m) y m element key
  own_key =
      let f : StartsWith (hand l).key (y.key (hand l).map (hand l).element) =
      (subst (Each (λ (f : Fresh). StartsWith f.key (y.key f.map f.element))) c.in_hand t.filled).0 in
      (c.size, c.are_bytes, λ j lt. (λ i. y.key (sym c.map i) (sym c.number i) j) ∙ (f j (subst (λ (i : ℕ). j < i) (sym c.filled) lt) ∙ c.spelled j lt))

  mine : (e : ℕ) → fills_element l.fresh m e ≡ true → MayLink a (locked a l m s n at_s l2 t) (lock_of (locked a l m s n at_s l2 t)) e ×
      ((q : List ℕ) × HasKey (shape_at a m) y m e q)
  mine e k =
      let both_are = and_parts ((hand l).map == m) (e == (hand l).element) (subst (λ (fs : List Fresh). fills_element fs m e ≡ true) c.in_hand k) in
      let same : element ≡ e = sym c.number ∙ sym (one e (hand l).element both_are.1) in (
        (subst (λ (i : ℕ). i < elements (shape_at a m)) same c.inside, inl (hand l, [], c.in_hand, c.map, c.number ∙ same)),
        (key, subst (λ (i : ℕ). HasKey (shape_at a m) y m i key) same own_key),
      )

  pub locked_ready : l.locks ≡ [] → Ready a l2 m s
  locked_ready = ready_with a l m s n at_s l2 t mine

-- ---- an update
module _ (a : About) (l : Known) (m s n : ℕ) (key bytes : List ℕ) (flags : ℕ) (l2 : Known) (t : LocksSegment a l m s n l2) where
  pub locked_wants : Brought a l m key bytes flags → home_by a m (stamp_depth n) key ≡ s → Wants a l2 m s key bytes flags
  locked_wants b home = subst (λ (q : Known). Wants a q m s key bytes flags) (sym t.after)
      (record {
        home = home;
        key_size = b.key_size;
        size = b.size;
        are_bytes = b.are_bytes;
        flags_known = b.flags_known;
        limbo = b.limbo;
        runs = b.runs;
      })

  module _ (idle : l.locks ≡ []) where
    saw_before : (r : MapAnswer) (seen : List Entry) → TakesEffect a l2 (Update m key bytes flags r) seen → TakesEffect a
        (with_lock l m s n) (Update m key bytes flags r) seen
    saw_before r seen p =
        let w = subst (λ (q : Known). TakesEffect a q (Update m key bytes flags r) seen) t.after p in record
        { others = w.others; foreign = w.foreign; after = w.after; legal = w.legal }

    pub refusal_before : (r : MapAnswer) (l3 : Known) → Refusal a l2 m key bytes flags r l3 → Refusal a (with_lock l m s n) m key bytes flags r l3
    refusal_before r l3 p = record {
      seen = saw_before r l3.seen p.seen;
      after = p.after ∙ ap (λ (q : Known). record q { seen = l3.seen; locks = [] }) t.after;
      refused = p.refused;
      worn = p.worn;
    }

    pub ends_before : (e : Ending) (l3 : Known) → UpdateEnds a l2 m key bytes flags e l3 → UpdateEnds a (with_lock l m s n) m key bytes flags e l3
    ends_before (Added spilled) l3 p = record {
      seen = saw_before Done l3.seen p.seen;
      after = p.after ∙ ap (λ (q : Known). record q { seen = l3.seen; fresh = []; locks = [] }) t.after;
    }
    ends_before (Replaced e) l3 p = record {
      inside = p.inside;
      seen = saw_before Done l3.seen p.seen;
      after = p.after ∙ ap (λ (q : Known). record q { seen = l3.seen; fresh = []; limbo = with_gone q m e; locks = [] }) t.after;
    }
    ends_before (Refused r) l3 p = (refusal_before r l3 p.0, p.1)

module _ (a : About) (l : Known) (m s n : ℕ) (at_s : IsSegment a m s) (key bytes : List ℕ) (flags element : ℕ)
    (c : Readies a l m key bytes flags element) (l2 : Known) (t : LocksSegment a l m s n l2) (home : home_by a m (stamp_depth n) key ≡ s) where
  pub locked_offers : Offers a l2 m s key bytes flags element
  locked_offers = subst (λ (q : Known). Offers a q m s key bytes flags element) (sym t.after) (record {
    wants = record {
      home = home;
      key_size = c.brought.key_size;
      size = c.brought.size;
      are_bytes = c.brought.are_bytes;
      flags_known =
          c.brought.flags_known;
      limbo = c.brought.limbo;
      runs = c.brought.runs;
    };
    valued = record { filled = c.valued.filled; value = c.valued.value };
    in_hand = c.carries.in_hand;
    map = c.carries.map;
    number = c.carries.number;
    inside = c.carries.inside;
    keyed = own_key a l m s n at_s key element c.carries l2 t;
    apart = subst (λ (i : ℕ). has i t.known ≡ false) c.carries.number (t.apart (hand l) [] c.carries.in_hand c.carries.map);
  })

-- ---- a deletion
module _ (a : About) (l : Known) (m s n : ℕ) (key : List ℕ) (l2 : Known) (t : LocksSegment a l m s n l2) where
  pub locked_names : NamesKeyOf a l m key → home_by a m (stamp_depth n) key ≡ s → NamesKey a l2 m s key
  locked_names b home = subst (λ (q : Known). NamesKey a q m s key) (sym t.after) (record { home = home; size = b.size; limbo = b.limbo; runs = b.runs })

  module _ (idle : l.locks ≡ []) where
    saw_deleted : (r : MapAnswer) (seen : List Entry) → TakesEffect a l2 (Delete m key r) seen → TakesEffect a (with_lock l m s n) (Delete m key r) seen
    saw_deleted r seen p =
        let w = subst (λ (q : Known). TakesEffect a q (Delete m key r) seen) t.after p in record
        { others = w.others; foreign = w.foreign; after = w.after; legal = w.legal }

    kept_before : (r : MapAnswer) (l3 : Known) → Kept a l2 m key r l3 → Kept a (with_lock l m s n) m key r l3
    kept_before r l3 p = record { seen = saw_deleted r l3.seen p.seen; after = p.after ∙ ap (λ (q : Known). record q { seen = l3.seen; locks = [] }) t.after }

    pub delete_before : (d : Deletion) (l3 : Known) → DeleteEnds a l2 m key d l3 → DeleteEnds a (with_lock l m s n) m key d l3
    delete_before (Gone e) l3 p = (
      record {
        seen = saw_deleted Done l3.seen p.0.seen;
        after = p.0.after ∙ ap
            (λ (q : Known). record q { seen = l3.seen; limbo = with_gone q m e; locks = [] }) t.after;
      },
      p.1,
    )
    delete_before Missing l3 p = kept_before Absent l3 p
    delete_before Worn l3 p = (kept_before Busy l3 p.0, p.1)

-- ---- the one lock is the last
pub alone_last : (l : Known) → l.locks ≡ lock_of l ∷ [] → l.locks ≡ lock_of l ∷ other_locks l
alone_last l h = h ∙ ap (λ (ks : List Lock). lock_of l ∷ tail_of ks) (sym h)

pub alone_else : (l : Known) → l.locks ≡ lock_of l ∷ [] → AreElsewhere (lock_of l) (other_locks l)
alone_else l h = subst (AreElsewhere (lock_of l)) (sym (ap (λ (ks : List Lock). tail_of ks) h)) tt

pub alone_given : (l : Known) → l.locks ≡ lock_of l ∷ [] → unlocking_last l ≡ unlocking l
alone_given l h = ap (λ (ks : List Lock). record l { locks = tail_of ks }) h

-- the key's home by the stamp that was taken
pub taken_home : (a : About) (l : Known) (m s n h : ℕ) (key : List ℕ) (l2 : Known) → h ≡ home_of key a.seed (shape_at a m).mask → Taken a l
    m h s n l2 → home_by a m (stamp_depth n) key ≡ s
taken_home a l m s n h key l2 is t = ap (λ (i : ℕ). i % power (stamp_depth n)) (sym is) ∙ t.here

pub taken_own : (a : About) (l : Known) (m s n h : ℕ) (key : List ℕ) (l2 : Known) → h ≡ home_of key a.seed (shape_at a m).mask → Taken a l m
    h s n l2 → OwnsKey a m key s n
taken_own a l m s n h key l2 same t = (t.locked.deep, taken_home a l m s n h key l2 same t)
