-- What a write leaves of the segment as it is seen.
use Rattle.std.proofs.Common.{◌≡◌, ℕ, suc, zero, ◌+◌, ◌<◌, ◌^◌, ◌%◌, nat_lt, Bool, true, false, ◌==◌, if◌then◌else◌, Option, Some, None}
use Rattle.std.proofs.Common.{refl, ap, ◌∙◌, arith, eq-eqb, ◌≢◌, sym, subst}
use Rattle.std.specs.Prelude.{IfSome}
use Rattle.std.proofs.lemmas.Bool.Decides.{nat_tests}
use Rattle.hop_layout.specs.declared.place.Place.{Place}
use Rattle.hop_layout.specs.declared.place.Place.TheVariants.{Head, Hop, Slot, Link}
use Rattle.hop_layout.specs.Layout.{mem, is_place, put_at}
use Rattle.hop_words.specs.Content.{words_by_place, item}
use Rattle.hop_layout.proofs.Layouts.{wrote}
use Rattle.hop_seg.specs.Words.{Words as SegWords, with_hop, with_slot, with_head, with_next, replace_at}
use Rattle.hop_words.specs.Locking.{lock_of}
use Rattle.hop_map.specs.LockedSegment.{Locked, Ready, knows, Stays}
use Rattle.hop_map.specs.Private.LockedSegment.{segment_view, seen_words, written}
use Rattle.hop_epoch.specs.Batch.{link_word}
use Rattle.hop_words.specs.Depths.{stamp_depth}
use Rattle.hop_layout.proofs.Births.{some_power}
use Rattle.hop_words.proofs.Locks.{put_else}
use Rattle.hop_words.specs.Ghost.{child}
use Rattle.hop_seg.specs.Split.{Front}
use Rattle.hop_map.specs.LockedSegment.{front_view, child_front, StaysBeside}

-- ---- items
pub item_word : (o : Option ℕ) → IfSome o (λ e. e < 2 ^ 32) → item (link_word o) ≡ o
item_word None small = refl
item_word (Some e) small = go (e + 1) refl
  where
    go : (n : ℕ) → n ≡ e + 1 → item n ≡ Some e
    go zero h = absurd (omega arith)
    go (suc n) h =
        let same : n ≡ e = omega arith in
        (λ j. if nat_lt (same j) (2 ^ 32) then Some (same j) else None) ∙ ap (λ (b : Bool). if b then Some e else None)
        (let z : nat_lt e (2 ^ 32) ≡ true = (let l : e < 2 ^ 32 = small in grind (arith, nat_tests)) in z)

low : (n : ℕ) → n < 2 ^ 32 → n % 2 ^ 32 ≡ n
low n l = omega arith

module _ (x : Locked) (r : Ready x.about x.known x.map x.segment) where
  w : Place → ℕ
  w = mem x.about.shape (lock_of x.known).copy

  seen : (Place → ℕ) → SegWords
  seen v = segment_view x.about x.map x.segment (stamp_depth (lock_of x.known).stamp) (knows x.known x.map) (words_by_place v)

  after : (p : Place) (n : ℕ) → is_place x.about.shape p ≡ true → seen_words (written x p n) ≡ seen (put_at w p n)
  unfolding seen w
  after p n there = ap seen (wrote x.about.shape (lock_of x.known).copy p n r.sized there)

  choose : {A : Type 0} (f : ℕ → A) (b : Bool) (n k : ℕ) → f (if b then n else k) ≡ (if b then f n else f k)
  choose f true n k = refl
  choose f false n k = refl

  pub hop_set : (b n : ℕ) (y : Locked) → n < 2 ^ 32 → is_place x.about.shape (Hop x.map x.segment b) ≡ true → y ≡ written x
      (Hop x.map x.segment b) n → seen_words y ≡ with_hop (seen_words x) b n
  unfolding seen w
  hop_set b n y small there is = ap seen_words is ∙ (after (Hop x.map x.segment b) n there ∙ ap
      (λ (h : ℕ → ℕ). record (seen_words x) { hop = h }) (λ j d. each d j))
    where
      each : (d : ℕ) → put_at w (Hop x.map x.segment b) n (Hop x.map x.segment d) % 2 ^ 32 ≡ replace_at (λ d. w (Hop x.map x.segment d) % 2 ^ 32) b n d
      each d = rw (eq-eqb x.map x.map refl, eq-eqb x.segment x.segment refl)
          (choose (λ i. i % 2 ^ 32) (d == b) n (w (Hop x.map x.segment d)) ∙ ap
          (λ i. if d == b then i else w (Hop x.map x.segment d) % 2 ^ 32) (low n small))

  pub slot_set : (p : ℕ) (o : Option ℕ) (y : Locked) → IfSome o (λ e. e < 2 ^ 32) → is_place x.about.shape (Slot x.map x.segment p) ≡ true →
      y ≡ written x (Slot x.map x.segment p) (link_word o) → seen_words y ≡ with_slot (seen_words x) p o
  unfolding seen w
  slot_set p o y small there is = ap seen_words is ∙ (after (Slot x.map x.segment p) (link_word o) there ∙ ap
      (λ (h : ℕ → Option ℕ). record (seen_words x) { slot = h }) (λ j d. each d j))
    where
      each : (d : ℕ) → item (put_at w (Slot x.map x.segment p) (link_word o) (Slot x.map x.segment d)) ≡ replace_at
          (λ d. item (w (Slot x.map x.segment d))) p o d
      each d = rw (eq-eqb x.map x.map refl, eq-eqb x.segment x.segment refl)
          (choose item (d == p) (link_word o) (w (Slot x.map x.segment d)) ∙ ap
          (λ (i : Option ℕ). if d == p then i else item (w (Slot x.map x.segment d))) (item_word o small))

  pub head_set : (o : Option ℕ) (y : Locked) → IfSome o (λ e. e < 2 ^ 32) → is_place x.about.shape (Head x.map x.segment) ≡ true → y ≡
      written x (Head x.map x.segment) (link_word o) → seen_words y ≡ with_head (seen_words x) o
  unfolding seen w
  head_set o y small there is = ap seen_words is ∙ (after (Head x.map x.segment) (link_word o) there ∙ ap
      (λ (h : Option ℕ). record (seen_words x) { head = h }) here)
    where
      here : item (put_at w (Head x.map x.segment) (link_word o) (Head x.map x.segment)) ≡ o
      here = rw (eq-eqb x.map x.map refl, eq-eqb x.segment x.segment refl) (item_word o small)

  pub next_set : (e : ℕ) (o : Option ℕ) (y : Locked) → IfSome o (λ e. e < 2 ^ 32) → is_place x.about.shape (Link x.map e) ≡ true → y ≡
      written x (Link x.map e) (link_word o) → seen_words y ≡ with_next (seen_words x) e o
  unfolding seen w
  next_set e o y small there is = ap seen_words is ∙ (after (Link x.map e) (link_word o) there ∙ ap
      (λ (h : ℕ → Option ℕ). record (seen_words x) { next = h }) (λ j d. each d j))
    where
      each : (d : ℕ) → item (put_at w (Link x.map e) (link_word o) (Link x.map d)) ≡ replace_at (λ d. item (w (Link x.map d))) e o d
      each d = rw (eq-eqb x.map x.map refl) (choose item (d == e) (link_word o) (w (Link x.map d)) ∙ ap
          (λ (i : Option ℕ). if d == e then i else item (w (Link x.map d))) (item_word o small))

-- ---- the words of the segment that would be born here
abbrev c_of : Locked → ℕ
c_of x = child (lock_of x.known)

abbrev pub segment_at : Place → ℕ
segment_at (Head m s) = s
segment_at (Hop m s b) = s
segment_at (Slot m s p) = s
segment_at p = 0

module _ (x : Locked) (r : Ready x.about x.known x.map x.segment) (p : Place) (n : ℕ) (there : is_place x.about.shape p ≡ true) where
  wc : Place → ℕ
  wc = mem x.about.shape (lock_of x.known).copy

  front : (Place → ℕ) → Front
  front v = front_view x.map (c_of x) (words_by_place v)

  now : child_front (written x p n) ≡ front (put_at wc p n)
  unfolding front wc
  now = ap front (wrote x.about.shape (lock_of x.known).copy p n r.sized there)

  pub front_kept : ((j : ℕ) → Hop x.map (c_of x) j ≢ p) → ((j : ℕ) → Slot x.map (c_of x) j ≢ p) → Head x.map (c_of x) ≢ p → (y : Locked) → y
      ≡ written x p n → child_front y ≡ child_front x
  unfolding front wc
  front_kept hop slot head y is = ap child_front is ∙ (now ∙ (λ j. record {
    hop = λ b. put_else wc p (Hop x.map (c_of x) b) n (hop b) j % 2 ^ 32;
    slot = λ q. item (put_else wc p (Slot x.map (c_of x) q) n (slot q) j);
    head = item (put_else wc p (Head x.map (c_of x)) n head j);
  }))

  apart : c_of x ≢ (lock_of x.known).segment
  apart e = let o = some_power (stamp_depth (lock_of x.known).stamp) in omega arith

  -- a write of a word of the segment itself
  pub own_kept : segment_at p ≡ x.segment → (y : Locked) → y ≡ written x p n → child_front y ≡ child_front x
  own_kept own = front_kept
      (λ j e. apart (ap segment_at e ∙ (own ∙ sym r.segment)))
      (λ j e. apart (ap segment_at e ∙ (own ∙ sym r.segment)))
      (λ e. apart (ap segment_at e ∙ (own ∙ sym r.segment)))

pub stays_by : (x : Locked) (p : Place) (n : ℕ) (y : Locked) → child_front y ≡ child_front x → y ≡ written x p n → Stays x y
stays_by x p n y kept is = subst (λ (z : Locked). child_front z ≡ child_front x → Stays x z) (sym is)
    (λ k. record { table = refl; about = refl; map = refl; segment = refl; known = refl; lock = refl; child = k }) kept

pub stays_beside_by : (x : Locked) (p : Place) (n : ℕ) (y : Locked) → y ≡ written x p n → StaysBeside x y
stays_beside_by x p n y is = subst (StaysBeside x) (sym is) (record { table = refl; about = refl; map = refl; segment = refl; known = refl; lock = refl })
