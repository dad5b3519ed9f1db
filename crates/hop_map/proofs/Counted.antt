-- The count goes up, and the words remain to be written.
use Rattle.std.proofs.Common.{◌≡◌, ℕ, ◌<◌, ◌==◌, ◌||◌, Bool, true, false, if◌then◌else◌, List, [], ◌∷◌, Some, None, slice_index_or, Result}
use Rattle.std.proofs.Common.{Ok, Err, IsOk, IsErr, refl, ap, sym, subst, ◌∙◌, arith, ⊎_elim, inr}
use Rattle.std.proofs.lemmas.Bool.{or_left}
use Rattle.bpf_shared.specs.Shape.{elements}
use Rattle.bpf_shared.specs.declared.events.Entry.{Entry}
use Rattle.hop_layout.specs.declared.about.About.{About}
use Rattle.hop_words.specs.declared.known.Known.{Known}
use Rattle.hop_words.specs.declared.known.Lock.{Lock}
use Rattle.hop_words.specs.declared.known.Fresh.{Fresh}
use Rattle.hop_words.specs.declared.known.Change.{Change}
use Rattle.hop_words.specs.declared.known.Change.TheVariants.{Puts}
use Rattle.hop_words.specs.Content.{HasKey}
use Rattle.hop_words.specs.Ghost.{shape_at}
use Rattle.hop_words.specs.Rule.{image, changed}
use Rattle.hop_words.specs.Kinds.{has, MayLink, Inserts, Inserted, IsKeyAbsent}
use Rattle.hop_layout.proofs.Layouts.{one}
use Rattle.hop_words.proofs.Small.{key_self, key_apart}
use Rattle.hop_words.specs.Locking.{lock_of, hand, nothing_in_hand}
use Rattle.hop_map.specs.LockedSegment.{Ready, knows}
use Rattle.hop_map.specs.Private.UnderLock.{LockShows, OffersInsertion}

pub or_false : (x : Bool) → (x || false) ≡ true → x ≡ true
or_false true is = refl
or_false false is = is

pub by_answer : {A E : Type 0} (r : Result A E) (P : Type 0) → (IsOk r → P) → (IsErr r → P) → P
by_answer (Ok x) P said unsaid = said refl
by_answer (Err e) P said unsaid = unsaid refl

module _ (a : About) (l : Known) (m s : ℕ) (r : Ready a l m s) where
  abbrev k : Lock
  k = lock_of l

  at_lock : (P : ℕ → ℕ → Type 0) → P m s → P k.map k.segment
  at_lock P p = subst (P k.map) (sym r.segment) (subst (λ (n : ℕ). P n s) (sym r.map) p)

  module _ (key bytes : List ℕ) (flags element : ℕ) (c : LockShows a l m s) (b : OffersInsertion a l m s key bytes flags element)
      (absent : IsKeyAbsent a k key) where
    b' : OffersInsertion a l k.map k.segment key bytes flags element
    b' = at_lock (λ n t. OffersInsertion a l n t key bytes flags element) b

    pub inserts : (count : ℕ) → count < (shape_at a m).max → Inserts a l k (hand l) [] key bytes flags count
    inserts count room = record {
      filled = record {
        lock = r.held;
        nothing = c.nothing;
        hand = b.filled.in_hand;
        map = b'.filled.map;
        element = subst (λ (e : ℕ). e < elements (shape_at a k.map)) (sym b'.filled.number) b'.filled.inside;
        home = b'.filled.home;
        key_size = b'.filled.keyed.0;
        size = b'.filled.size;
        are_bytes = b.filled.are_bytes;
        filled = b'.filled.filled;
        value = b'.filled.value;
        runs = b.filled.runs;
      };
      absent = absent;
      flags_known = (let f = b.flags_known in omega arith);
      room = at_lock (λ n t. count < (shape_at a n).max) room;
    }

    module _ (seen : List Entry) where
      abbrev pub counted : Known
      counted = record l { seen = seen; fresh = []; locks = record k { change = Puts key (hand l).element; dirty = true } ∷ [] }

      own_link : (e : ℕ) → (hand l).element ≡ e → MayLink a counted (lock_of counted) e
      own_link e is = (
        subst (λ (i : ℕ). i < elements (shape_at a k.map)) (sym b'.filled.number ∙ is) b'.filled.inside,
        inr (λ before share. (key, (λ j. if key_self key j then Some (is j) else before key), b'.filled.home)),
      )

      link_on : (e : ℕ) → MayLink a l k e → MayLink a counted (lock_of counted) e
      link_on e may = ⊎_elim
          (λ (f : (f : Fresh) × (rest : List Fresh) × (l.fresh ≡ f ∷ rest) × (f.map ≡ k.map) × (f.element ≡ e)).
          own_link e (ap (λ (fs : List Fresh). (slice_index_or fs 0 nothing_in_hand).element) f.2 ∙ f.4))
          (λ due. (
            may.0,
            inr (λ before share.
                let t = due before share in
                let was : before t.0 ≡ Some e = ap (λ (h : Change). changed h before t.0) (sym c.nothing) ∙ t.1 in (
                  t.0,
                  (λ j. if key_apart t.0 key (λ (same : t.0 ≡ key).
                      let z : None ≡ Some e = sym (absent before share) ∙ (ap before (sym same) ∙ was) in cc) j then Some (hand l).element
                      else before t.0) ∙ was,
                  t.2,
                )),
          ))
          may.1

      own_key : (e : ℕ) → (hand l).element ≡ e → (q : List ℕ) × HasKey (shape_at a m) (image a k.copy) m e q
      own_key e is = (
        key,
        subst (λ (ws : List ℕ). HasKey (shape_at a m) (image a ws) m e key) (sym c.copied)
            (subst (λ (i : ℕ). HasKey (shape_at a m) (image a k.first) m i key) (sym b.filled.number ∙ is) b.filled.keyed),
      )

      counted_known : (e : ℕ) → knows counted m e ≡ true → MayLink a counted (lock_of counted) e × ((q : List ℕ) × HasKey (shape_at a m) (image a k.copy) m e q)
      counted_known e is = go (has e k.known) refl
        where
          go : (x : Bool) → has e k.known ≡ x → MayLink a counted (lock_of counted) e × ((q : List ℕ) × HasKey (shape_at a m) (image a k.copy) m e q)
          go true h = let t = r.known_is e (or_left (has e k.known) _ h) in (link_on e t.0, t.1)
          go false h =
              let same : (hand l).element ≡ e = sym (one e (hand l).element
              (or_false (e == (hand l).element) (subst (λ (x : Bool). (x || ((e == (hand l).element) || false)) ≡ true) h is))) in
              (own_link e same, own_key e same)

      pub counted_is : Ready a counted m s
      counted_is = record { held = refl; map = r.map; segment = r.segment; inside = r.inside; sized = r.sized; known_is = counted_known }

    pub counted_ready : (l2 : Known) → Inserted a l k (hand l) [] key bytes flags l2 → Ready a l2 m s
    counted_ready l2 i = subst (λ (l : Known). Ready a l m s) (sym i.after) (counted_is l2.seen)
