-- What the words of a locked segment show, once one of them was read.
use Rattle.std.proofs.Common.{◌≡◌, ℕ, ◌+◌, ◌*◌, ◌%◌, ◌<◌, ap, sym, subst, ◌∙◌, arith}
use Rattle.hop_layout.specs.declared.about.About.{About}
use Rattle.hop_layout.proofs.Indexes.{at_stamp, at_head, at_hop, at_slot}
use Rattle.hop_layout.specs.declared.place.Place.{Place}
use Rattle.hop_layout.specs.declared.place.Place.TheVariants.{Head, Hop, Slot, Link}
use Rattle.hop_layout.specs.Layout.{mem}
use Rattle.hop_words.specs.Content.{item}
use Rattle.hop_words.specs.Locking.{lock_of}
use Rattle.hop_words.specs.Guarded.{IsGuarded}
use Rattle.hop_seg.specs.Words.{Words as SegWords, IsKnown}
use Rattle.hop_map.specs.LockedSegment.{Locked, Ready}
use Rattle.hop_map.specs.Private.LockedSegment.{seen_words, IsWordAt}
use Rattle.hop_map.proofs.Written.{mine}

-- where a segment's words are, counted from its first
module _ (a : About) (m s : ℕ) (p : Place) where
  pub hop_at : (b : ℕ) → b < 64 → p ≡ Hop m s b → IsWordAt a m s (2 + 2 * b) p
  hop_at b few is = subst (IsWordAt a m s (2 + 2 * b)) (sym is) (omega arith, (let x = at_hop a.shape m s b in let y = at_stamp a.shape m s in omega arith))

  pub slot_at : (b : ℕ) → b < 64 → p ≡ Slot m s b → IsWordAt a m s (3 + 2 * b) p
  slot_at b few is = subst (IsWordAt a m s (3 + 2 * b)) (sym is) (omega arith, (let x = at_slot a.shape m s b in let y = at_stamp a.shape m s in omega arith))

  pub head_at : p ≡ Head m s → IsWordAt a m s 1 p
  head_at is = subst (IsWordAt a m s 1) (sym is) (omega arith, (let x = at_head a.shape m s in let y = at_stamp a.shape m s in omega arith))

module _ (x y : Locked) (p : Place) (n : ℕ) (r : Ready x.about x.known x.map x.segment) (same : y ≡ x)
    (is : IsGuarded x.about x.known p → n ≡ mem x.about.shape (lock_of x.known).copy p) (w : SegWords) (a : w ≡ seen_words y) where
  there : (q : Place) → p ≡ q → IsGuarded x.about x.known q → n ≡ mem x.about.shape (lock_of x.known).copy q
  there q at = subst (λ (q : Place). IsGuarded x.about x.known q → n ≡ mem x.about.shape (lock_of x.known).copy q) at is

  shown : seen_words x ≡ w
  shown = sym (a ∙ ap seen_words same)

  pub hop_read : (b : ℕ) → p ≡ Hop x.map x.segment b → n % 4294967296 ≡ w.hop b
  hop_read b at = ap (λ (k : ℕ). k % 4294967296) (there (Hop x.map x.segment b) at (r.map, r.segment)) ∙ ap (λ (u : SegWords). u.hop b) shown

  pub slot_read : (b : ℕ) → p ≡ Slot x.map x.segment b → item n ≡ w.slot b
  slot_read b at = ap item (there (Slot x.map x.segment b) at (r.map, r.segment)) ∙ ap (λ (u : SegWords). u.slot b) shown

  pub head_read : p ≡ Head x.map x.segment → item n ≡ w.head
  head_read at = ap item (there (Head x.map x.segment) at (r.map, r.segment)) ∙ ap (λ (u : SegWords). u.head) shown

  pub next_read : (e : ℕ) → p ≡ Link x.map e → IsKnown w.fixed e → item n ≡ w.next e
  next_read e at k =
      let kn : IsKnown (seen_words x).fixed e = subst (λ (u : SegWords). IsKnown u.fixed e) (sym shown) k in
      ap item (there (Link x.map e) at (mine x.about x.known x.map x.segment e r kn.0)) ∙ ap (λ (u : SegWords). u.next e) shown
