-- A split under the lock: what the child's words become, and what publishing asks for.
use Rattle.std.proofs.Common.{◌≡◌, ℕ, ◌+◌, ◌-◌, ◌*◌, ◌/◌, ◌%◌, ◌^◌, ◌<◌, ◌≤◌, ◌≢◌, Bool, true, false, ◌||◌, ◌==◌, if◌then◌else◌, List}
use Rattle.std.proofs.Common.{Option, length, refl, ap, sym, subst, ◌∙◌, arith, eq-eqb}
use Rattle.std.specs.Prelude.{IfSome}
use Rattle.std.proofs.lemmas.Bool.Decides.{nat_tests}
use Rattle.std.proofs.lemmas.Bool.{lt-ltb}
use Rattle.hop_layout.specs.declared.about.About.{About}
use Rattle.hop_layout.specs.declared.place.Place.{Place}
use Rattle.hop_layout.specs.declared.place.Place.TheVariants.{Head, Hop, Slot, Stamp}
use Rattle.bpf_shared.specs.declared.shapes.MapShape.{MapShape}
use Rattle.hop_layout.specs.Layout.{power, depth, segments, mem, is_place, put_at}
use Rattle.hop_layout.proofs.Layouts.{wrote}
use Rattle.hop_words.specs.declared.known.Known.{Known}
use Rattle.hop_words.specs.declared.known.Lock.{Lock}
use Rattle.hop_words.specs.Content.{MapWords, words_by_place, item, HasKey, IsShare}
use Rattle.hop_words.specs.Depths.{stamp_depth, home_by}
use Rattle.hop_words.specs.Ghost.{shape_at, child, IsSegment}
use Rattle.hop_words.specs.Rule.{image}
use Rattle.hop_words.specs.Kinds.{MayShow, Splits}
use Rattle.hop_words.specs.Locking.{lock_of}
use Rattle.hop_seg.specs.Words.{Words as SegWords, Fixed, replace_at}
use Rattle.hop_seg.specs.Segment.{Sound as SegSound}
use Rattle.hop_seg.specs.Split.{Front, Splits as SegSplits, front_with_hop, front_with_slot}
use Rattle.hop_epoch.specs.Batch.{link_word}
use Rattle.hop_map.specs.LockedSegment.{Locked, Ready, StaysBeside, is_put, fills_element, knows, front_view, child_front}
use Rattle.hop_map.specs.Private.LockedSegment.{segment_view, seen_words, locked_view, written}
use Rattle.hop_map.specs.Private.Splitting.{IsParted}
use Rattle.hop_map.specs.Private.UnderLock.{LockShows}
use Rattle.hop_map.proofs.Bridge.{power_is}
use Rattle.hop_map.proofs.Puts.{here, known_by, sound_with}
use Rattle.hop_map.proofs.Parting.{parent_share, child_share}
use Rattle.hop_map.proofs.Writings.{item_word, segment_at}
use Rattle.hop_words.proofs.Locks.{put_else}
use Rattle.hop_layout.proofs.Births.{some_power, power_less, power_mono}
use Rattle.hop_layout.proofs.Depths.{depth_most}

small_hop : (n : ℕ) → n < 2 ^ 32 → n % 2 ^ 32 ≡ n
small_hop n l = omega arith

-- ---- writes of the child's words
module _ (x : Locked) (r : Ready x.about x.known x.map x.segment) where
  abbrev c : ℕ
  c = child (lock_of x.known)

  w : Place → ℕ
  w = mem x.about.shape (lock_of x.known).copy

  front : (Place → ℕ) → Front
  front v = front_view x.map c (words_by_place v)

  now : (p : Place) (n : ℕ) → is_place x.about.shape p ≡ true → child_front (written x p n) ≡ front (put_at w p n)
  unfolding front w
  now p n there = ap front (wrote x.about.shape (lock_of x.known).copy p n r.sized there)

  choose : {A : Type 0} (f : ℕ → A) (b : Bool) (n k : ℕ) → f (if b then n else k) ≡ (if b then f n else f k)
  choose f true n k = refl
  choose f false n k = refl

  pub hop_beside : (b n : ℕ) (y : Locked) → n < 2 ^ 32 → is_place x.about.shape (Hop x.map c b) ≡ true → y ≡ written x (Hop x.map c b) n →
      child_front y ≡ front_with_hop (child_front x) b n
  unfolding front w
  hop_beside b n y small there is = ap child_front is ∙ (now (Hop x.map c b) n there ∙ ap (λ (h : ℕ → ℕ). record (child_front x) { hop = h }) (λ j d. each d j))
    where
      each : (d : ℕ) → put_at w (Hop x.map c b) n (Hop x.map c d) % 2 ^ 32 ≡ replace_at (λ d. w (Hop x.map c d) % 2 ^ 32) b n d
      each d = rw (eq-eqb x.map x.map refl, eq-eqb c c refl) (choose (λ i. i % 2 ^ 32) (d == b) n (w (Hop x.map c d)) ∙ ap
          (λ i. if d == b then i else w (Hop x.map c d) % 2 ^ 32) (small_hop n small))

  pub slot_beside : (p : ℕ) (o : Option ℕ) (y : Locked) → IfSome o (λ e. e < 2 ^ 32) → is_place x.about.shape (Slot x.map c p) ≡ true → y ≡
      written x (Slot x.map c p) (link_word o) → child_front y ≡ front_with_slot (child_front x) p o
  unfolding front w
  slot_beside p o y small there is = ap child_front is ∙ (now (Slot x.map c p) (link_word o) there ∙ ap
      (λ (h : ℕ → Option ℕ). record (child_front x) { slot = h }) (λ j d. each d j))
    where
      each : (d : ℕ) → item (put_at w (Slot x.map c p) (link_word o) (Slot x.map c d)) ≡ replace_at (λ d. item (w (Slot x.map c d))) p o d
      each d = rw (eq-eqb x.map x.map refl, eq-eqb c c refl) (choose item (d == p) (link_word o) (w (Slot x.map c d)) ∙ ap
          (λ (i : Option ℕ). if d == p then i else item (w (Slot x.map c d))) (item_word o small))

  pub head_beside : (o : Option ℕ) (y : Locked) → IfSome o (λ e. e < 2 ^ 32) → is_place x.about.shape (Head x.map c) ≡ true → y ≡ written x
      (Head x.map c) (link_word o) → child_front y ≡ record (child_front x) { head = o }
  unfolding front w
  head_beside o y small there is = ap child_front is ∙ (now (Head x.map c) (link_word o) there ∙ ap
      (λ (h : Option ℕ). record (child_front x) { head = h }) same)
    where
      same : item (put_at w (Head x.map c) (link_word o) (Head x.map c)) ≡ o
      same = rw (eq-eqb x.map x.map refl, eq-eqb c c refl) (item_word o small)

  -- a word of the child is none of the segment's
  seen : (Place → ℕ) → SegWords
  seen v = segment_view x.about x.map x.segment (stamp_depth (lock_of x.known).stamp) (knows x.known x.map) (words_by_place v)

  after : (p : Place) (n : ℕ) → is_place x.about.shape p ≡ true → seen_words (written x p n) ≡ seen (put_at w p n)
  unfolding seen w
  after p n there = ap seen (wrote x.about.shape (lock_of x.known).copy p n r.sized there)

  apart : x.segment ≢ c
  apart e = let o = some_power (stamp_depth (lock_of x.known).stamp) in let s = r.segment in omega arith

  pub hop_else : (b n : ℕ) (y : Locked) → is_place x.about.shape (Hop x.map c b) ≡ true → y ≡ written x (Hop x.map c b) n → seen_words y ≡ seen_words x
  unfolding seen w
  hop_else b n y there is = ap seen_words is ∙ (after (Hop x.map c b) n there ∙ (λ j. record (seen_words x) {
    hop = λ d. put_else w (Hop x.map c b) (Hop x.map x.segment d) n (λ e. apart (ap segment_at e)) j % 2 ^ 32;
  }))

  pub slot_else : (p n : ℕ) (y : Locked) → is_place x.about.shape (Slot x.map c p) ≡ true → y ≡ written x (Slot x.map c p) n → seen_words y ≡ seen_words x
  unfolding seen w
  slot_else p n y there is = ap seen_words is ∙ (after (Slot x.map c p) n there ∙ (λ j. record (seen_words x) {
    slot = λ d. item (put_else w (Slot x.map c p) (Slot x.map x.segment d) n (λ e. apart (ap segment_at e)) j);
  }))

  pub head_else : (n : ℕ) (y : Locked) → is_place x.about.shape (Head x.map c) ≡ true → y ≡ written x (Head x.map c) n → seen_words y ≡ seen_words x
  unfolding seen w
  head_else n y there is = ap seen_words is ∙ (after (Head x.map c) n there ∙ (λ j. record (seen_words x) {
    head = item (put_else w (Head x.map c) (Head x.map x.segment) n (λ e. apart (ap segment_at e)) j);
  }))

  -- the stamp of the child is no word of a segment's content
  pub stamp_there : (n : ℕ) → is_place x.about.shape (Stamp x.map c) ≡ true → mem x.about.shape
      (lock_of (written x (Stamp x.map c) n).known).copy (Stamp x.map c) ≡ n
  unfolding w
  stamp_there n there = ap (λ (v : Place → ℕ). v (Stamp x.map c)) (wrote x.about.shape (lock_of x.known).copy (Stamp x.map c) n r.sized there)
      ∙ rw (eq-eqb x.map x.map refl, eq-eqb c c refl) refl

  pub stamp_image : (n : ℕ) → is_place x.about.shape (Stamp x.map c) ≡ true → image x.about
      (lock_of (written x (Stamp x.map c) n).known).copy ≡ image x.about (lock_of x.known).copy
  unfolding w
  stamp_image n there = ap words_by_place (wrote x.about.shape (lock_of x.known).copy (Stamp x.map c) n r.sized there)

  -- what publishing asks for
  pub splits_after : IsParted x.about (lock_of x.known) → (n : ℕ) (z : Locked) → is_place x.about.shape (Stamp x.map c) ≡ true → z ≡ written
      x (Stamp x.map c) n → n % 2 ≡ 0 → stamp_depth n ≡ stamp_depth (lock_of x.known).stamp + 1 → n / 256 ≤ x.about.version
      → stamp_depth (lock_of x.known).stamp < depth (shape_at x.about x.map) → Splits z.about z.known (lock_of z.known) n
  splits_after p n z there is even deep version less = subst (λ (z : Locked). Splits z.about z.known (lock_of z.known) n) (sym is) (record {
    lock = refl;
    nothing = p.0;
    room = subst (λ (i : ℕ). stamp_depth (lock_of x.known).stamp < depth (shape_at x.about i)) (sym r.map) less;
    stamp = ap (λ (i : ℕ). mem x.about.shape (lock_of (written x (Stamp x.map c) n).known).copy (Stamp i c)) r.map ∙ stamp_there n there;
    even = even;
    deep = deep;
    version = version;
    parted = λ before sh.
        let q = p.1 before sh in (
          subst (λ (v : MapWords). IsShare x.about.seed (shape_at x.about (lock_of x.known).map)
              (home_by x.about (lock_of x.known).map (stamp_depth (lock_of x.known).stamp + 1)) v (lock_of x.known).map
              (lock_of x.known).segment before) (sym (stamp_image n there)) q.0,
          subst (λ (v : MapWords). IsShare x.about.seed (shape_at x.about (lock_of x.known).map)
              (home_by x.about (lock_of x.known).map (stamp_depth (lock_of x.known).stamp + 1)) v (lock_of x.known).map c before)
              (sym (stamp_image n there)) q.1,
        );
  })

-- ---- the shares of the segment and its child, once its items are parted
module _ (a : About) (l : Known) (m s : ℕ) (c : LockShows a l m s) (room : s < power (stamp_depth (lock_of l).stamp)) where
  abbrev d : ℕ
  d = stamp_depth (lock_of l).stamp

  more : ℕ → Bool
  more e = is_put (lock_of l).change e || fills_element l.fresh m e

  -- the segment is sound before
  pub sound_locked : SegSound (locked_view a l m s)
  unfolding more
  sound_locked = sound_with a l m s c more

  module _ (l2 : Known) (r : Ready a l2 m s) (lock : lock_of l2 ≡ record (lock_of l) { copy = (lock_of l2).copy; dirty = (lock_of l2).dirty })
      (sp : SegSplits (locked_view a l m s) (locked_view a l2 m s) (front_view m (child (lock_of l2)) (image a (lock_of l2).copy))) where
    abbrev k2 : Lock
    k2 = record (lock_of l) { copy = (lock_of l2).copy; dirty = (lock_of l2).dirty }

    abbrev y : MapWords
    y = image a (lock_of l2).copy

    same : knows l2 m ≡ knows l m
    same = ap (λ (f : Fixed). f.known) sp.fixed

    child_is : child (lock_of l2) ≡ s + 2 ^ d
    child_is = ap child lock ∙ ((λ j. c.segment j + power d) ∙ ap (λ (n : ℕ). s + n) (power_is d))

    split_is : SegSplits (locked_view a l m s) (segment_view a m s d (knows l m) y) (front_view m (s + 2 ^ d) y)
    split_is = subst (λ (n : ℕ). SegSplits (locked_view a l m s) (segment_view a m s d (knows l m) y) (front_view m n y)) child_is
        (subst (λ (f : ℕ → Bool). SegSplits (locked_view a l m s) (segment_view a m s d f y) (front_view m (child (lock_of l2)) y)) same
        (subst (λ (n : ℕ). SegSplits (locked_view a l m s) (segment_view a m s n (knows l2 m) y) (front_view m (child (lock_of l2)) y))
        (ap (λ (f : Fixed). f.depth) sp.fixed) sp))

    keyed : (e : ℕ) → knows l m e ≡ true → (key : List ℕ) × HasKey (shape_at a m) y m e key
    keyed e is = (r.known_is e (ap (λ (f : ℕ → Bool). f e) same ∙ is)).1

    both_shares : (before : List ℕ → Option ℕ) → MayShow a k2 before
        → IsShare a.seed (shape_at a k2.map) (home_by a k2.map (d + 1)) (image a k2.copy) k2.map k2.segment before
        × IsShare a.seed (shape_at a k2.map) (home_by a k2.map (d + 1)) (image a k2.copy) k2.map (child k2) before
    unfolding more
    both_shares before sh =
        let p = here a l m s c before sh in
        let known = known_by a l m s c more before p in
        let one = parent_share a m s d (knows l m) (image a (lock_of l).copy) y room before p known keyed split_is in
        let two = child_share a m s d (knows l m) (image a (lock_of l).copy) y room before p known keyed split_is in (
          subst (λ (n : ℕ). IsShare a.seed (shape_at a n) (home_by a n (d + 1)) y n k2.segment before) (sym c.map)
              (subst (λ (t : ℕ). IsShare a.seed (shape_at a m) (home_by a m (d + 1)) y m t before) (sym c.segment) one),
          subst (λ (n : ℕ). IsShare a.seed (shape_at a n) (home_by a n (d + 1)) y n (child k2) before) (sym c.map)
              (subst (λ (t : ℕ). IsShare a.seed (shape_at a m) (home_by a m (d + 1)) y m t before) (sym (ap child (sym lock) ∙ child_is)) two),
        )

    pub parts : IsParted a (lock_of l2)
    parts = subst (IsParted a) (sym lock) (c.nothing, both_shares)

pub parts_after : (x : Locked) → LockShows x.about x.known x.map x.segment → x.segment < power (stamp_depth (lock_of x.known).stamp) →
    (y : Locked) → StaysBeside x y → SegSplits (seen_words x) (seen_words y) (child_front y) → Ready y.about y.known y.map y.segment
    → IsParted y.about (lock_of y.known)
parts_after x c room y st sp r =
    subst (λ (q : Locked). (lock_of q.known ≡ record (lock_of x.known) { copy = (lock_of q.known).copy; dirty = (lock_of q.known).dirty }) →
    SegSplits (seen_words x) (seen_words q) (child_front q) → Ready q.about q.known q.map q.segment → IsParted q.about (lock_of q.known))
    (sym y_is) (λ lock sp r. parts x.about x.known x.map x.segment c room y.known r lock sp) st.lock sp r
  where
    y_is : y ≡ record x { known = y.known }
    y_is = λ j. record { table = st.table j; about = st.about j; known = y.known; map = st.map j; segment = st.segment j }

-- ---- numbers
-- the child's number is one of the map's
pub child_inside : (g : MapShape) (s d : ℕ) → s < power d → d < depth g → (s + power d < power (depth g)) × (power (depth g) ≤ 1024) × (d ≤ 9)
child_inside g s d room less =
    let up = power_less d (depth g) less in
    let ten = depth_most g in
    let most = power_mono (depth g) 10 ten in
    (omega arith, most, omega arith)

pub stamp_place : (a : About) (m s : ℕ) → IsSegment a m s → is_place a.shape (Stamp m s) ≡ true
stamp_place a m s at_s = rw (lt-ltb m (length a.shape.maps) at_s.0, lt-ltb s (segments (shape_at a m)) at_s.1) refl

pub child_deep : (w d : ℕ) → d < 31 → (w * 256 + 2 * (d + 1)) / 2 % 32 ≡ d + 1
child_deep w d few = omega arith

pub child_version : (v d : ℕ) → d < 31 → (v % 2 ^ 56 * 256 + 2 * (d + 1)) / 256 ≤ v
child_version v d few = let w : v % 2 ^ 56 ≤ v = omega arith in omega arith

pub stamp_fits : (n : ℕ) → n < 2 ^ 64 - 256 → n % 2 ≡ 0 → n / 2 % 32 < 31 → n + 258 < 2 ^ 64
stamp_fits n less even deep = omega arith

-- ---- a word after the other becomes this
pub replaced_all : {A : Type 0} (f : ℕ → A) (z : A) (n : ℕ) → ((b : ℕ) → b < n → f b ≡ z) → (b : ℕ) → b < n + 1 → replace_at f n z b ≡ z
replaced_all f z n all b l = go (b == n) refl
  where
    go : (t : Bool) → (b == n) ≡ t → replace_at f n z b ≡ z
    go true is = ap (λ (t : Bool). if t then z else f b) is
    go false is = ap (λ (t : Bool). if t then z else f b) is ∙ all b (let lt : b < n = grind (arith, nat_tests) in lt)
