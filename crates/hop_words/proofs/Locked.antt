-- The steps under the lock that a lane took last, named by map and segment.
use Rattle.std.proofs.Common.{◌≡◌, ℕ, ◌+◌, ◌<◌, true, List, ◌∷◌, length, refl, ap, sym, subst, ◌∙◌}
use Rattle.std.proofs.lemmas.Bool.{lt-ltb}
use Rattle.bpf_shared.specs.Shape.{elements}
use Rattle.hop_layout.specs.declared.place.Place.{Place}
use Rattle.hop_layout.specs.declared.place.Place.TheVariants.{Stamp, Head, Hop, Slot, Link, KeyCount}
use Rattle.hop_layout.specs.declared.about.About.{About}
use Rattle.hop_words.specs.declared.known.Known.{Known}
use Rattle.hop_words.specs.declared.known.Lock.{Lock}
use Rattle.hop_layout.specs.Layout.{is_place, segments, mem}
use Rattle.hop_words.specs.Ghost.{shape_at, IsSegment, HasElement}
use Rattle.hop_words.specs.Private.Step.{Steps}
use Rattle.hop_words.specs.Locking.{lock_of, HasLock, HasLastLock}
use Rattle.hop_words.specs.Owning.{tail_of}
use Rattle.hop_words.proofs.Stays.{stay}
use Rattle.hop_words.proofs.Counts.{read_stamp}

-- the places of a segment are the shape's
pub head_there : (a : About) (m s : ℕ) → IsSegment a m s → is_place a.shape (Head m s) ≡ true
head_there a m s at_s = rw (lt-ltb m (length a.shape.maps) at_s.0, lt-ltb s (segments (shape_at a m)) at_s.1) refl

pub hop_there : (a : About) (m s b : ℕ) → IsSegment a m s → b < 64 → is_place a.shape (Hop m s b) ≡ true
hop_there a m s b at_s few = rw (lt-ltb m (length a.shape.maps) at_s.0, lt-ltb s (segments (shape_at a m)) at_s.1, lt-ltb b 64 few) refl

pub slot_there : (a : About) (m s b : ℕ) → IsSegment a m s → b < 64 → is_place a.shape (Slot m s b) ≡ true
slot_there a m s b at_s few = rw (lt-ltb m (length a.shape.maps) at_s.0, lt-ltb s (segments (shape_at a m)) at_s.1, lt-ltb b 64 few) refl

pub link_there : (a : About) (m e : ℕ) → HasElement a m e → is_place a.shape (Link m e) ≡ true
link_there a m e at_e = rw (lt-ltb m (length a.shape.maps) at_e.0, lt-ltb e (elements (shape_at a m)) at_e.1) refl

-- a look at any word says nothing
pub looks : (a : About) (l : Known) (p : Place) → Steps a l p (λ n. n) (λ ws n l'. l' ≡ l)
looks a l p ws g sized r is inside fits = stay a (mem a.shape ws) g l.cpu p (λ l'. l' ≡ l) r is

-- ---- the key count of the locked map, and the stamp of the locked segment
pub at_count : (a : About) (l : Known) (m : ℕ) (f : ℕ → ℕ) (told : List ℕ → ℕ → Known → Type 0) → (lock_of l).map ≡ m → Steps a l
    (KeyCount (lock_of l).map) f told → Steps a l (KeyCount m) f told
at_count a l m f told e step = subst (λ (n : ℕ). Steps a l (KeyCount n) f told) e step

pub at_stamp : (a : About) (l : Known) (m s : ℕ) (h : HasLock l m s) (stamp more : ℕ) (told : List ℕ → ℕ → Known → Type 0) → stamp ≡
    (lock_of l).stamp → Steps a l (Stamp (lock_of l).map (lock_of l).segment) (λ _. (lock_of l).stamp + more) told
    → Steps a l (Stamp m s) (λ _. stamp + more) told
at_stamp a l m s h stamp more told e step =
    subst (λ (n : ℕ). Steps a l (Stamp n s) (λ _. stamp + more) told) h.1
    (subst (λ (t : ℕ). Steps a l (Stamp (lock_of l).map t) (λ _. stamp + more) told) h.2
    (subst (λ (i : ℕ). Steps a l (Stamp (lock_of l).map (lock_of l).segment) (λ _. i + more) told) (sym e) step))

pub at_same_stamp : (a : About) (l : Known) (m s : ℕ) (h : HasLock l m s) (stamp : ℕ) (told : List ℕ → ℕ → Known → Type 0) → stamp ≡
    (lock_of l).stamp → Steps a l (Stamp (lock_of l).map (lock_of l).segment) (λ _. (lock_of l).stamp) told
    → Steps a l (Stamp m s) (λ _. stamp) told
at_same_stamp a l m s h stamp told e step =
    subst (λ (n : ℕ). Steps a l (Stamp n s) (λ _. stamp) told) h.1
    (subst (λ (t : ℕ). Steps a l (Stamp (lock_of l).map t) (λ _. stamp) told) h.2
    (subst (λ (i : ℕ). Steps a l (Stamp (lock_of l).map (lock_of l).segment) (λ _. i) told) (sym e) step))

-- ---- the stamp of the segment that was locked last
-- a lock with no other is the last one
pub only_last : (l : Known) (m s : ℕ) → HasLock l m s → HasLastLock l m s
only_last l m s h = (h.0 ∙ ap (λ (ks : List Lock). lock_of l ∷ ks) (sym (ap tail_of h.0)), h.1, h.2)

module _ (a : About) (l : Known) (m s : ℕ) (h : HasLastLock l m s) where
  last_here : (P : ℕ → ℕ → Type 0) → P (lock_of l).map (lock_of l).segment → P m s
  last_here P p = subst (λ (n : ℕ). P n s) h.1 (subst (P (lock_of l).map) h.2 p)

  pub reads_stamp : Steps a l (Stamp m s) (λ n. n) (λ ws n l'. (n ≡ (lock_of l).stamp + 1) × (l' ≡ l))
  reads_stamp = last_here (λ n t. Steps a l (Stamp n t) (λ n. n) (λ ws i l'. (i ≡ (lock_of l).stamp + 1) × (l' ≡ l))) (read_stamp a l (lock_of l) h.0)

  pub at_last_stamp : (stamp : ℕ) (told : List ℕ → ℕ → Known → Type 0) → stamp ≡ (lock_of l).stamp → Steps a l
      (Stamp (lock_of l).map (lock_of l).segment) (λ _. (lock_of l).stamp) told → Steps a l (Stamp m s) (λ _. stamp) told
  at_last_stamp stamp told e step = last_here (λ n t. Steps a l (Stamp n t) (λ _. stamp) told)
      (subst (λ (i : ℕ). Steps a l (Stamp (lock_of l).map (lock_of l).segment) (λ _. i) told) (sym e) step)
