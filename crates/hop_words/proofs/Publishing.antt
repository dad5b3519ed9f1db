-- Publish split: the parent's unlocking store, by which its child is born.
use Rattle.std.proofs.Common.{◌≡◌, ◌≢◌, ℕ, suc, ◌+◌, ◌/◌, ◌%◌, ◌<◌, ◌≤◌, Bool, true, false, true≢false, List, [], ◌∷◌, Some, if◌then◌else◌}
use Rattle.std.proofs.Common.{refl, ap, sym, subst, ◌∙◌, arith, eq-eqb, ne_eqb, ⊎_elim, inl, inr, ◌⊎◌}
use Rattle.std.proofs.lemmas.Bool.{cases_eq}
use Rattle.bpf_shared.specs.Store.{put}
use Rattle.bpf_shared.proofs.Puts.{put-same, put-other}
use Rattle.hop_layout.specs.declared.place.Place.{Place}
use Rattle.hop_layout.specs.declared.place.Place.TheVariants.{Stamp}
use Rattle.hop_layout.specs.declared.about.About.{About}
use Rattle.hop_words.specs.declared.known.Known.{Known}
use Rattle.hop_words.specs.declared.known.Lock.{Lock}
use Rattle.hop_words.specs.declared.known.Reading.{Reading}
use Rattle.hop_words.specs.declared.known.Peek.{Peek}
use Rattle.hop_layout.specs.Layout.{mem, put_at, power, depth, first_depth}
use Rattle.hop_words.specs.Content.{words_by_place, IsShare}
use Rattle.hop_words.specs.Depths.{stamp_depth, IsBorn, home_by, Deep}
use Rattle.hop_layout.specs.Births.{is_born, AreDepths, child_of, split_depths}
use Rattle.hop_words.specs.Ghost.{child}
use Rattle.hop_layout.specs.Home.{home_of}
use Rattle.hop_words.specs.Ghost.{lane, Era, Ghost, shape_at, Each, lock_home}
use Rattle.hop_words.specs.Rule.{Rule, Worn, Segment, Segments, Minded, Holds, Locking, Held, IsSoundReading, IsPeek, image, changed, times_lock}
use Rattle.hop_words.specs.Shortage.{done_in}
use Rattle.hop_words.specs.Private.Step.{Steps}
use Rattle.hop_words.specs.Kinds.{Splits, unlocking}
use Rattle.hop_words.proofs.Small.{here_or}
use Rattle.hop_words.proofs.Histories.{prefix_refl}
use Rattle.hop_layout.proofs.Births.{some_power}
use Rattle.hop_layout.proofs.Births.{mod_low, mod_small, mod_once, still_born, born_before, depths_after, parent_depth, child_depth, elsewhere}
use Rattle.hop_layout.proofs.Depths.{depth_most}
use Rattle.hop_words.proofs.Segs.{share_same, no_child, off_child, lock_else}
use Rattle.hop_words.proofs.Locks.{put_here, put_else, stamp_apart, holds, low, alone}

-- the same home, by one bit more
home_low : (a : About) (m d s : ℕ) (key : List ℕ) → home_by a m d key ≡ s → home_by a m (d + 1) key % power d ≡ s
home_low a m d s key h = (let e : d + 1 ≡ suc d = omega arith in ap (λ (i : ℕ). home_by a m i key % power d) e) ∙
    (mod_low (home_of key a.seed (shape_at a m).mask) d (suc d) (omega arith) ∙ h)

pub home_up : (a : About) (m d : ℕ) (key : List ℕ) → home_by a m d key ≡ home_by a m (d + 1) key % power d
home_up a m d key = sym ((let e : d + 1 ≡ suc d = omega arith in ap (λ (i : ℕ). home_by a m i key % power d) e) ∙ mod_low
    (home_of key a.seed (shape_at a m).mask) d (suc d) (omega arith))

module _ (a : About) (l : Known) (k : Lock) (n : ℕ) (i : Splits a l k n) (w : Place → ℕ) (g : Ghost) (r : Rule a w g)
    (is : lane g.lanes l.cpu ≡ l) (inside : l.cpu < a.shape.cpus) where
  abbrev m : ℕ
  m = k.map

  abbrev s : ℕ
  s = k.segment

  abbrev d : ℕ
  d = g.depths k.map k.segment

  abbrev c : ℕ
  c = child_of (g.depths k.map) k.segment

  abbrev v : ℕ
  v = k.stamp + 258

  h : Holds a g.depths (words_by_place w) (λ n t. w (Stamp n t)) g.eras g.linked g.holder l.cpu k
  h = holds a l k i.lock w g r is

  room : s < power d
  room = (r.deep.sound m h.inside.0 s h.inside.2).0

  few : d < depth (shape_at a m)
  few = let z = i.room in let y = h.deep in omega arith

  child_is : child k ≡ c
  child_is = ap (λ (j : ℕ). k.segment + power j) h.deep

  abbrev depths' : ℕ → ℕ → ℕ
  depths' = put g.depths m (split_depths (g.depths m) s)

  abbrev era_s : Era
  era_s = record { era = v; writer = l.cpu; dirty = false; credit = 0; old = image a k.copy }

  abbrev era_c : Era
  era_c = record { era = n; writer = l.cpu; dirty = false; credit = 0; old = image a k.copy }

  abbrev eras' : ℕ → ℕ → Era
  eras' = put g.eras m (put (put (g.eras m) s era_s) c era_c)

  abbrev g' : Ghost
  g' = record g { lanes = record g.lanes { locks = put g.lanes.locks l.cpu [] }; depths = depths'; eras = eras' }

  abbrev w' : Place → ℕ
  w' = put_at w (Stamp m s) v

  apart : c ≢ s
  apart e = let o = some_power d in omega arith

  -- ---- the two segments
  depth_s : depths' m s ≡ d + 1
  depth_s = ap (λ (f : ℕ → ℕ). f s) (put-same g.depths m m (split_depths (g.depths m) s) refl) ∙ parent_depth (g.depths m)
      (depth (shape_at a m)) s h.inside.2 room few

  depth_c : depths' m c ≡ d + 1
  depth_c = ap (λ (f : ℕ → ℕ). f c) (put-same g.depths m m (split_depths (g.depths m) s) refl) ∙ child_depth (g.depths m)
      (depth (shape_at a m)) s h.inside.2 room few

  era_s_is : eras' m s ≡ era_s
  era_s_is = ap (λ (f : ℕ → Era). f s) (put-same g.eras m m _ refl) ∙
      (put-other (put (g.eras m) s era_s) c s era_c (λ e. apart (sym e)) ∙ put-same (g.eras m) s s era_s refl)

  era_c_is : eras' m c ≡ era_c
  era_c_is = ap (λ (f : ℕ → Era). f c) (put-same g.eras m m _ refl) ∙ put-same (put (g.eras m) s era_s) c c era_c refl

  stamp_s : w' (Stamp m s) ≡ v
  stamp_s = put_here w (Stamp m s) v

  stamp_c : w' (Stamp m c) ≡ n
  stamp_c = put_else w (Stamp m s) (Stamp m c) v (stamp_apart m s m c (λ _ e. apart e)) ∙
      (ap (λ (j : ℕ). w (Stamp m j)) (sym child_is) ∙ (h.beside_stamp ∙ i.stamp))

  -- ---- all others
  record Else (x t : ℕ) : Type 0 where
    pub born : IsBorn a g.depths x t
    pub off : x ≡ m → (t ≢ s) × (t ≢ c)

  module _ (x t : ℕ) (off : x ≡ m → (t ≢ s) × (t ≢ c)) where
    depth_same : depths' x t ≡ g.depths x t
    depth_same = ⊎_elim
        (λ (e : x ≡ m). ap (λ (f : ℕ → ℕ). f t) (put-same g.depths m x (split_depths (g.depths m) s) e) ∙
        (elsewhere (g.depths m) (depth (shape_at a m)) s h.inside.2 room few t (off e).1 (off e).0 ∙ ap (λ (j : ℕ). g.depths j t) (sym e)))
        (λ (ne : x ≢ m). ap (λ (f : ℕ → ℕ). f t) (put-other g.depths m x (split_depths (g.depths m) s) ne))
        (cases_eq x m)

    era_same : eras' x t ≡ g.eras x t
    era_same = ⊎_elim
        (λ (e : x ≡ m). ap (λ (f : ℕ → Era). f t) (put-same g.eras m x _ e) ∙
        (put-other (put (g.eras m) s era_s) c t era_c (off e).1 ∙ (put-other (g.eras m) s t era_s (off e).0 ∙ ap (λ (j : ℕ). g.eras j t)
        (sym e))))
        (λ (ne : x ≢ m). ap (λ (f : ℕ → Era). f t) (put-other g.eras m x _ ne))
        (cases_eq x m)

    stamp_same : w' (Stamp x t) ≡ w (Stamp x t)
    stamp_same = put_else w (Stamp m s) (Stamp x t) v (stamp_apart m s x t (λ e. (off e).0))

  still : (x t : ℕ) → IsBorn a g.depths x t → IsBorn a depths' x t
  still x t b = (
    b.0,
    b.1,
    ⊎_elim
        (λ (e : x ≡ m). ap (λ (f : ℕ → ℕ). is_born f (depth (shape_at a x)) t) (put-same g.depths m x (split_depths (g.depths m) s) e) ∙
        (ap (λ (j : ℕ). is_born (split_depths (g.depths m) s) (depth (shape_at a j)) t) e ∙ still_born (g.depths m)
        (depth (shape_at a m)) s h.inside.2 room few (depth (shape_at a m)) h.inside.2 t
        ((λ q. is_born (g.depths (sym e q)) (depth (shape_at a (sym e q))) t) ∙ b.2)))
        (λ (ne : x ≢ m). ap (λ (f : ℕ → ℕ). is_born f (depth (shape_at a x)) t) (put-other g.depths m x (split_depths (g.depths m) s) ne) ∙ b.2)
        (cases_eq x m),
  )

  -- a segment is the parent, the child, or one that was born before
  sort : (x t : ℕ) → IsBorn a depths' x t → ((x ≡ m) × (t ≡ s)) ⊎ (((x ≡ m) × (t ≡ c)) ⊎ Else x t)
  sort x t b = ⊎_elim
      (λ (e : x ≡ m). ⊎_elim
      (λ (f : t ≡ s). inl (e, f))
      (λ (ns : t ≢ s). ⊎_elim
      (λ (f : t ≡ c). inr (inl (e, f)))
      (λ (nc : t ≢ c). ⊎_elim
      (λ (f : t ≡ c). absurd (nc f))
      (λ (old : is_born (g.depths m) (depth (shape_at a m)) t ≡ true). inr
      (inr (record { born = (b.0, b.1, (λ q. is_born (g.depths (e q)) (depth (shape_at a (e q))) t) ∙ old); off = λ _. (ns, nc) })))
      (born_before (g.depths m) (depth (shape_at a m)) s h.inside.2 room few (depth (shape_at a m)) t
      (ap (λ (j : ℕ). is_born (split_depths (g.depths m) s) (depth (shape_at a j)) t) (sym e) ∙
      (ap (λ (f : ℕ → ℕ). is_born f (depth (shape_at a x)) t) (sym (put-same g.depths m x (split_depths (g.depths m) s) e)) ∙ b.2))))
      (cases_eq t c))
      (cases_eq t s))
      (λ (ne : x ≢ m). inr (inr (record {
        born = (
          b.0,
          b.1,
          ap (λ (f : ℕ → ℕ). is_born f (depth (shape_at a x)) t)
              (sym (put-other g.depths m x (split_depths (g.depths m) s) ne)) ∙ b.2,
        );
        off = λ e. absurd (ne e);
      })))
      (cases_eq x m)

  -- who was born is one of the others, or the parent
  old_off : (x t : ℕ) → IsBorn a g.depths x t → (x ≡ m → t ≢ s) → x ≡ m → (t ≢ s) × (t ≢ c)
  old_off x t b ne e = (ne e, no_child a g.depths m s t r.deep.sound h.inside (subst (λ (j : ℕ). IsBorn a g.depths j t) e b))

  -- ---- the map grows
  growing : (shape_at a m).grow ≡ true
  growing = go ((shape_at a m).grow) refl
    where
      go : (x : Bool) → (shape_at a m).grow ≡ x → x ≡ true
      go true e = refl
      go false e = absurd (let z = r.deep.whole m s h.inside.0 h.inside.1 e in let y = few in omega arith)

  from_none : first_depth (shape_at a m) ≡ 0
  from_none = ap (λ (x : Bool). if x then 0 else depth (shape_at a m)) growing

  -- ---- homes
  at_parent : (q : List ℕ) → home_by a m (d + 1) q ≡ s → lock_home a k q ≡ s
  at_parent q e = ap (λ (j : ℕ). home_by a m j q) h.deep ∙ (home_up a m d q ∙ (ap (λ (j : ℕ). j % power d) e ∙ mod_small s (power d) room))

  at_child : (q : List ℕ) → home_by a m (d + 1) q ≡ c → lock_home a k q ≡ s
  at_child q e = ap (λ (j : ℕ). home_by a m j q) h.deep ∙ (home_up a m d q ∙
      (ap (λ (j : ℕ). j % power d) e ∙ (mod_once c (power d) (omega arith) (let z = room in omega arith) ∙ (let o = some_power d in omega arith))))

  due : (q : List ℕ) → lock_home a k q ≡ s → g.linked m q ≡ h.due.0 q
  due q e = h.due.2 q e ∙ ap (λ x. changed x h.due.0 q) i.nothing

  depth_up : stamp_depth k.stamp + 1 ≡ d + 1
  depth_up = let z = h.deep in omega arith

  share_s : IsShare a.seed (shape_at a m) (home_by a m (d + 1)) (image a k.copy) m s (g.linked m)
  share_s = share_same a.seed (shape_at a m) (home_by a m (d + 1)) (image a k.copy) m s h.due.0 (g.linked m) (λ q e. due q (at_parent q e))
      (subst (λ (j : ℕ). IsShare a.seed (shape_at a m) (home_by a m j) (image a k.copy) m s h.due.0) depth_up (i.parted h.due.0 h.due.1).0)

  share_c : IsShare a.seed (shape_at a m) (home_by a m (d + 1)) (image a k.copy) m c (g.linked m)
  share_c = share_same a.seed (shape_at a m) (home_by a m (d + 1)) (image a k.copy) m c h.due.0 (g.linked m) (λ q e. due q (at_child q e))
      (subst (λ (j : ℕ). IsShare a.seed (shape_at a m) (home_by a m (d + 1)) (image a k.copy) m j h.due.0) child_is
      (subst (λ (j : ℕ). IsShare a.seed (shape_at a m) (home_by a m j) (image a k.copy) m (child k) h.due.0) depth_up
      (i.parted h.due.0 h.due.1).1))

  mind : (e : ℕ) (key : List ℕ) → g.linked m key ≡ Some e → lock_home a k key ≡ s → Minded (lock_home a k) l.cpu s (g.holder m e)
  mind e key leads home = subst (Minded (lock_home a k) l.cpu s) (sym (r.linked.within m key e leads).1) home

  -- ---- the segments
  own_s : Segment a depths' (words_by_place w) v era_s m s (g.linked m)
  own_s = record {
    at_rest = λ _. refl;
    clean = λ _. (
      (let z = h.even in omega arith),
      record {
        head = h.copied.head;
        hop = h.copied.hop;
        slot = h.copied.slot;
        link = λ e on. h.copied.link e (let t = share_s.each e on in mind e t.0 t.3 (at_parent t.0 t.2));
        key = λ e j on. h.copied.key e j (let t = share_s.each e on in mind e t.0 t.3 (at_parent t.0 t.2));
      },
    );
    written = λ e. absurd (true≢false (sym e));
    shows = λ _. subst (λ (j : ℕ). IsShare a.seed (shape_at a m) (home_by a m j) (image a k.copy) m s (g.linked m)) (sym depth_s) share_s;
  }

  own_c : Segment a depths' (words_by_place w) n era_c m c (g.linked m)
  own_c = record {
    at_rest = λ _. refl;
    clean = λ _. (
      (let z = i.even in omega arith),
      record {
        head = ap (λ (j : ℕ). (words_by_place w).head m j) (sym child_is) ∙ (h.beside.head ∙ ap (λ (j : ℕ). (image a k.copy).head m j) child_is);
        hop = λ b. ap (λ (j : ℕ). (words_by_place w).hop m j b) (sym child_is) ∙ (h.beside.hop b ∙ ap (λ (j : ℕ). (image a k.copy).hop m j b) child_is);
        slot = λ b. ap (λ (j : ℕ). (words_by_place w).slot m j b) (sym child_is) ∙ (h.beside.slot b ∙ ap (λ (j : ℕ). (image a k.copy).slot m j b) child_is);
        link = λ e on. h.copied.link e (let t = share_c.each e on in mind e t.0 t.3 (at_child t.0 t.2));
        key = λ e j on. h.copied.key e j (let t = share_c.each e on in mind e t.0 t.3 (at_child t.0 t.2));
      },
    );
    written = λ e. absurd (true≢false (sym e));
    shows = λ _. subst (λ (j : ℕ). IsShare a.seed (shape_at a m) (home_by a m j) (image a k.copy) m c (g.linked m)) (sym depth_c) share_c;
  }

  segments : Segments a depths' (words_by_place w') (λ x t. w' (Stamp x t)) eras' g.linked
  segments x t b = ⊎_elim
      (λ (e : (x ≡ m) × (t ≡ s)). at x t m s e.0 e.1 (subst (λ (j : ℕ). Segment a depths' (words_by_place w) j (eras' m s) m s (g.linked m))
      (sym stamp_s) (subst (λ (y : Era). Segment a depths' (words_by_place w) v y m s (g.linked m)) (sym era_s_is) own_s)))
      (λ (f : ((x ≡ m) × (t ≡ c)) ⊎ Else x t). ⊎_elim
      (λ (e : (x ≡ m) × (t ≡ c)). at x t m c e.0 e.1 (subst (λ (j : ℕ). Segment a depths' (words_by_place w) j (eras' m c) m c (g.linked m))
      (sym stamp_c) (subst (λ (y : Era). Segment a depths' (words_by_place w) n y m c (g.linked m)) (sym era_c_is) own_c)))
      (λ (o : Else x t). let q = r.segments x t o.born in
      subst (λ (j : ℕ). Segment a depths' (words_by_place w) j (eras' x t) x t (g.linked x)) (sym (stamp_same x t o.off))
      (subst (λ (y : Era). Segment a depths' (words_by_place w) (w (Stamp x t)) y x t (g.linked x)) (sym (era_same x t o.off)) (record {
        at_rest = q.at_rest;
        clean = q.clean;
        written = q.written;
        shows = λ e. subst (λ (j : ℕ). IsShare a.seed (shape_at a x) (home_by a x j) (g.eras x t).old x t (g.linked x))
            (sym (depth_same x t o.off)) (q.shows e);
      })))
      f)
      (sort x t b)
    where
      at : (x t y u : ℕ) → x ≡ y → t ≡ u → Segment a depths' (words_by_place w) (w' (Stamp y u)) (eras' y u) y u (g.linked y) → Segment a
          depths' (words_by_place w) (w' (Stamp x t)) (eras' x t) x t (g.linked x)
      at x t y u e f p = subst (λ (z : ℕ). Segment a depths' (words_by_place w) (w' (Stamp z t)) (eras' z t) z t (g.linked z)) (sym e)
          (subst (λ (z : ℕ). Segment a depths' (words_by_place w) (w' (Stamp y z)) (eras' y z) y z (g.linked y)) (sym f) p)

  worn : Worn a depths' (λ x t. w' (Stamp x t)) eras' g.log
  worn x t b = ⊎_elim
      (λ (e : (x ≡ m) × (t ≡ s)). at x t m s e.0 e.1 (
      let q = r.worn m s h.inside in
      let z = h.locked in
      let y : w (Stamp m s) / 256 ≡ (k.stamp + 1) / 256 = ap (λ (j : ℕ). j / 256) h.locked in
      let ev = h.even in
      let lo = i.room in
      let ten = depth_most (shape_at a m) in
      let o : (k.stamp + 1) / 256 ≡ k.stamp / 256 = omega arith in
      let up : v / 256 ≡ k.stamp / 256 + 1 = omega arith in
      let st : w' (Stamp m s) / 256 ≡ v / 256 = ap (λ (j : ℕ). j / 256) stamp_s in
      let cr : (eras' m s).credit ≡ 0 = ap (λ (j : Era). j.credit) era_s_is in
      let ds = depth_s in
      omega arith))
      (λ (f : ((x ≡ m) × (t ≡ c)) ⊎ Else x t). ⊎_elim
      (λ (e : (x ≡ m) × (t ≡ c)). at x t m c e.0 e.1 (
      let st : w' (Stamp m c) / 256 ≡ n / 256 = ap (λ (j : ℕ). j / 256) stamp_c in
      let cr : (eras' m c).credit ≡ 0 = ap (λ (j : Era). j.credit) era_c_is in
      let no = from_none in
      let ve = i.version in
      omega arith))
      (λ (o : Else x t).
      let q = r.worn x t o.born in
      let st : w' (Stamp x t) / 256 ≡ w (Stamp x t) / 256 = ap (λ (j : ℕ). j / 256) (stamp_same x t o.off) in
      let cr : (eras' x t).credit ≡ (g.eras x t).credit = ap (λ (j : Era). j.credit) (era_same x t o.off) in
      let ds = depth_same x t o.off in
      omega arith)
      f)
      (sort x t b)
    where
      Fair : ℕ → ℕ → Type 0
      Fair x t = w' (Stamp x t) / 256 + (eras' x t).credit + first_depth (shape_at a x) ≤ a.version + depths' x t + done_in x g.log

      at : (x t y u : ℕ) → x ≡ y → t ≡ u → Fair y u → Fair x t
      at x t y u e f p = subst (λ (z : ℕ). Fair z t) (sym e) (subst (λ (z : ℕ). Fair y z) (sym f) p)

  deep : Deep a (λ x t. w' (Stamp x t)) depths'
  deep = record {
    sound = λ x in_x. ⊎_elim
        (λ (e : x ≡ m). subst (λ (j : ℕ). AreDepths (depths' j) (depth (shape_at a j))) (sym e)
        (subst (λ (f : ℕ → ℕ). AreDepths f (depth (shape_at a m))) (sym (put-same g.depths m m (split_depths (g.depths m) s) refl))
        (depths_after (g.depths m) (depth (shape_at a m)) s h.inside.2 room few (r.deep.sound m h.inside.0))))
        (λ (ne : x ≢ m). subst (λ (f : ℕ → ℕ). AreDepths f (depth (shape_at a x)))
        (sym (put-other g.depths m x (split_depths (g.depths m) s) ne)) (r.deep.sound x in_x))
        (cases_eq x m);
    stamped = λ x t b. ⊎_elim
        (λ (e : (x ≡ m) × (t ≡ s)). at x t m s e.0 e.1 (ap stamp_depth stamp_s ∙
        ((let z = h.even in let y = i.room in let ten = depth_most (shape_at a m) in let q : stamp_depth v ≡ stamp_depth k.stamp + 1 = omega arith in q)
        ∙ (depth_up ∙ sym depth_s))))
        (λ (f : ((x ≡ m) × (t ≡ c)) ⊎ Else x t). ⊎_elim
        (λ (e : (x ≡ m) × (t ≡ c)). at x t m c e.0 e.1 (ap stamp_depth stamp_c ∙ (i.deep ∙ (depth_up ∙ sym depth_c))))
        (λ (o : Else x t). ap stamp_depth (stamp_same x t o.off) ∙ (r.deep.stamped x t o.born ∙ sym (depth_same x t o.off)))
        f)
        (sort x t b);
    whole = λ x t in_x in_t no. ⊎_elim
        (λ (e : x ≡ m). absurd (true≢false (sym growing ∙ (ap (λ (j : ℕ). (shape_at a j).grow) (sym e) ∙ no))))
        (λ (ne : x ≢ m). depth_same x t (λ e. absurd (ne e)) ∙ r.deep.whole x t in_x in_t no)
        (cases_eq x m);
  }
    where
      at : (x t y u : ℕ) → x ≡ y → t ≡ u → stamp_depth (w' (Stamp y u)) ≡ depths' y u → stamp_depth (w' (Stamp x t)) ≡ depths' x t
      at x t y u e f p = (λ q. stamp_depth (w' (Stamp (e q) (f q)))) ∙ (p ∙ (λ q. depths' (sym e q) (sym f q)))

  -- ---- locks of others
  other_lock : (b : ℕ) (k2 : Lock) → b ≢ l.cpu → Holds a g.depths (words_by_place w) (λ x t. w (Stamp x t)) g.eras g.linked g.holder b k2 →
      Holds a depths' (words_by_place w') (λ x t. w' (Stamp x t)) eras' g.linked g.holder b k2
  other_lock b k2 ne p = record {
    inside = still k2.map k2.segment p.inside;
    deep = p.deep ∙ sym (depth_same k2.map k2.segment off);
    even = p.even;
    locked = stamp_same k2.map k2.segment off ∙ p.locked;
    writer = ap (λ (y : Era). y.writer) same ∙ p.writer;
    dirty = ap (λ (y : Era). y.dirty) same ∙ p.dirty;
    credit = ap (λ (y : Era). y.credit) same ∙ p.credit;
    untouched = p.untouched;
    sized = p.sized;
    copied = p.copied;
    beside = p.beside;
    beside_stamp = put_else w (Stamp m s) (Stamp k2.map (child k2)) v (stamp_apart m s k2.map (child k2) (λ e. (beside_off e).0)) ∙ p.beside_stamp;
    due = p.due;
  }
    where
      away : k2.map ≡ m → k2.segment ≢ s
      away = alone a l k i.lock w g r is b k2 ne p

      off : k2.map ≡ m → (k2.segment ≢ s) × (k2.segment ≢ c)
      off = old_off k2.map k2.segment p.inside away

      same : eras' k2.map k2.segment ≡ g.eras k2.map k2.segment
      same = era_same k2.map k2.segment off

      beside_off : k2.map ≡ m → (child k2 ≢ s) × (child k2 ≢ c)
      beside_off = subst (λ (j : ℕ). k2.map ≡ m → (k2.segment + power j ≢ s) × (k2.segment + power j ≢ c)) (sym p.deep)
          (off_child a g.depths m s k2.map k2.segment r.deep.sound h.inside p.inside away)

  other_locks : (b : ℕ) → b ≢ l.cpu → (ks : List Lock) → Each (Holds a g.depths (words_by_place w) (λ x t. w (Stamp x t)) g.eras g.linked
      g.holder b) ks → Each (Holds a depths' (words_by_place w') (λ x t. w' (Stamp x t)) eras' g.linked g.holder b) ks
  other_locks b ne [] p = tt
  other_locks b ne (k2 ∷ ks) p = (other_lock b k2 ne p.0, other_locks b ne ks p.1)

  locking : Locking a depths' (words_by_place w') (λ x t. w' (Stamp x t)) eras' g.linked g.holder (put g.lanes.locks l.cpu [])
  locking b = ⊎_elim
      (λ (e : b ≡ l.cpu). subst (λ (ks : List Lock). Each (Holds a depths' (words_by_place w') (λ x t. w' (Stamp x t)) eras' g.linked
      g.holder b) ks) (sym (put-same g.lanes.locks l.cpu b [] e)) tt)
      (λ (ne : b ≢ l.cpu). subst (λ (ks : List Lock). Each (Holds a depths' (words_by_place w') (λ x t. w' (Stamp x t)) eras' g.linked
      g.holder b) ks) (sym (put-other g.lanes.locks l.cpu b [] ne)) (other_locks b ne (g.lanes.locks b) (r.locking b)))
      (cases_eq b l.cpu)

  held : Held a depths' (λ x t. w' (Stamp x t)) eras' (put g.lanes.locks l.cpu [])
  held x t b odd = ⊎_elim
      (λ (e : (x ≡ m) × (t ≡ s)). absurd (let z : w' (Stamp x t) ≡ v = (λ q. w' (Stamp (e.0 q) (e.1 q))) ∙ stamp_s in let ev = h.even in omega arith))
      (λ (f : ((x ≡ m) × (t ≡ c)) ⊎ Else x t). ⊎_elim
      (λ (e : (x ≡ m) × (t ≡ c)). absurd (let z : w' (Stamp x t) ≡ n = (λ q. w' (Stamp (e.0 q) (e.1 q))) ∙ stamp_c in let ev = i.even in omega arith))
      (λ (o : Else x t).
      let q = r.held x t o.born (ap (λ (j : ℕ). j % 2) (sym (stamp_same x t o.off)) ∙ odd) in
      let who : (eras' x t).writer ≡ (g.eras x t).writer = ap (λ (y : Era). y.writer) (era_same x t o.off) in
      let ne : (g.eras x t).writer ≢ l.cpu = λ e.
      let mine : g.lanes.locks (g.eras x t).writer ≡ k ∷ [] = ap g.lanes.locks e ∙ (ap (λ (z : Known). z.locks) is ∙ i.lock) in
      let none = lock_else m s x t (λ e2. (o.off e2).0) in
      let z : times_lock x t (g.lanes.locks (g.eras x t).writer) ≡ times_lock x t (k ∷ []) = ap (times_lock x t) mine in
      let y = q.1 in
      omega arith in (
        subst (λ (j : ℕ). j < a.shape.cpus) (sym who) q.0,
        subst (λ (j : ℕ). 1 ≤ times_lock x t (put g.lanes.locks l.cpu [] j)) (sym who)
            (subst (λ (ks : List Lock). 1 ≤ times_lock x t ks) (sym (put-other g.lanes.locks l.cpu (g.eras x t).writer [] ne)) q.1),
      ))
      f)
      (sort x t b)

  -- ---- readings
  reads : (rd : Reading) → IsSoundReading a g.depths g.eras rd → IsSoundReading a depths' eras' rd
  reads rd p = ⊎_elim
      (λ (e : (rd.map ≡ m) × (rd.segment ≡ s)).
      let old : g.eras rd.map rd.segment ≡ g.eras m s = λ q. g.eras (e.0 q) (e.1 q) in
      let new : eras' rd.map rd.segment ≡ era_s = (λ q. eras' (e.0 q) (e.1 q)) ∙ era_s_is in
      let lo = low a l k i.lock w g r is in
      let z : (g.eras rd.map rd.segment).era ≡ (g.eras m s).era = ap (λ (y : Era). y.era) old in
      let y : (eras' rd.map rd.segment).era ≡ v = ap (λ (y : Era). y.era) new in
      let bound = p.behind in
      let st = h.locked in
      let du : depths' rd.map rd.segment ≡ d + 1 = (λ q. depths' (e.0 q) (e.1 q)) ∙ depth_s in
      let dd : g.depths rd.map rd.segment ≡ d = λ q. g.depths (e.0 q) (e.1 q) in
      let pd = p.deep in
      record { inside = still rd.map rd.segment p.inside; deep = omega arith; even = p.even; behind = omega arith; stays = λ is. absurd (omega arith) })
      (λ (ne : rd.map ≡ m → rd.segment ≢ s).
      let off = old_off rd.map rd.segment p.inside ne in
      let same = era_same rd.map rd.segment off in
      let ds = depth_same rd.map rd.segment off in
      let pd = p.deep in
      record {
        inside = still rd.map rd.segment p.inside;
        deep = omega arith;
        even = p.even;
        behind = subst (λ (y : Era). rd.stamp ≤ y.era) (sym same) p.behind;
        stays = subst (λ (y : Era). rd.stamp ≡ y.era → Each (λ (z : Peek). IsPeek y.old rd.map rd.segment z.place z.number) rd.peeks) (sym same) p.stays;
      })
      (here_or m rd.map s rd.segment)

  all_reads : (rs : List Reading) → Each (IsSoundReading a g.depths g.eras) rs → Each (IsSoundReading a depths' eras') rs
  all_reads [] p = tt
  all_reads (rd ∷ rs) p = (reads rd p.0, all_reads rs p.1)

  published : Rule a w' g'
  published = record {
    shaped = r.shaped;
    fixed = r.fixed;
    logged = r.logged;
    keyed = r.keyed;
    worn = worn;
    runs = r.runs;
    batched = r.batched;
    owned = r.owned;
    linked = r.linked;
    filled = r.filled;
    deep = deep;
    segments = segments;
    locking = locking;
    held = held;
    reading = λ b. all_reads (g.lanes.readings b) (r.reading b);
    valued = r.valued;
    shown = r.shown;
  }

-- the child is born, with what the copy shows of its share; no event
pub publish_split : (a : About) (l : Known) (k : Lock) (n : ℕ) → Splits a l k n → Steps a l (Stamp k.map k.segment) (λ _. k.stamp + 258)
    (λ ws found l'. (found ≡ k.stamp + 1) × (l' ≡ unlocking l))
publish_split a l k n i ws g sized r is inside fits =
    let w = mem a.shape ws in
    record {
      ghost = g' a l k n i w g r is inside;
      rule = published a l k n i w g r is inside;
      others = λ d ne. rw (ne_eqb d l.cpu ne) refl;
      longer = prefix_refl g.log;
      tally = refl;
      says = ((h a l k n i w g r is inside).locked, rw (eq-eqb l.cpu l.cpu refl) (ap (λ (x : Known). record x { locks = [] }) is));
    }
