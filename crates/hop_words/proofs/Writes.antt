-- Write under lock, read under lock.
use Rattle.std.proofs.Common.{◌≡◌, ◌≢◌, ℕ, ◌<◌, ◌≤◌, true, true≢false, List, [], ◌∷◌, ◌==◌, length-set, slice_set, refl, ap, sym, subst}
use Rattle.std.proofs.Common.{◌∙◌, arith, eq-eqb, ne_eqb, ⊎_elim, inl, inr, ◌⊎◌, ◌+◌, ◌/◌}
use Rattle.bpf_shared.specs.Store.{put}
use Rattle.hop_layout.specs.declared.place.Place.{Place}
use Rattle.hop_layout.specs.declared.place.Place.TheVariants.{RunCount, KeyCount, FreeBits, Stamp, Head, Hop, Slot, Link, KeyWord, ValueWord, FixedWord}
use Rattle.hop_layout.specs.declared.about.About.{About}
use Rattle.hop_words.specs.declared.known.Known.{Known}
use Rattle.hop_words.specs.declared.known.Fresh.{Fresh}
use Rattle.hop_words.specs.declared.known.Lock.{Lock}
use Rattle.hop_layout.specs.Layout.{mem, at, is_place, put_at, power}
use Rattle.hop_words.specs.Content.{words_by_place, one_if, times, AgreesInSegment, AgreesFront}
use Rattle.hop_words.specs.Ghost.{Filling, Leaving, Within, lane, Era, Ghost, HasElement, limbo_at, lock_home}
use Rattle.hop_words.specs.Rule.{Rule, Segment, Minded, Holds, image, Runs, Keyed, Batched, Chained, times_limbo, Owned, Filled, Valued, ShowsFixed, times_lock}
use Rattle.hop_words.specs.Private.Step.{Next, Steps}
use Rattle.hop_words.specs.Kinds.{writing, MayLink}
use Rattle.hop_layout.proofs.Layouts.{wrote}
use Rattle.hop_words.proofs.Small.{here_or, put2-same, put2-other}
use Rattle.hop_words.proofs.Histories.{prefix_refl}
use Rattle.hop_words.proofs.Comes.{in_hand, in_limbo, within_once}
use Rattle.hop_words.proofs.Segs.{Elsewhere, segments_step, locking_step, readings_step, held_step, lock_once, Off, off_born, one_home}
use Rattle.hop_words.proofs.Locks.{put_alike, put_else, holds, is_odd, low, alone}
use Rattle.hop_words.specs.Depths.{stamp_depth, IsBorn, home_by}
use Rattle.hop_layout.specs.Births.{child_of}
use Rattle.hop_words.specs.Ghost.{child}
use Rattle.hop_layout.proofs.Births.{some_power}

-- the words that a write under a lock leaves alone, kind by kind
abbrev pub key_counts : (Place → ℕ) → ℕ → ℕ
key_counts w = λ m. w (KeyCount m)

abbrev pub run_counts : (Place → ℕ) → ℕ → ℕ
run_counts w = λ c. w (RunCount c)

abbrev pub stamps : (Place → ℕ) → ℕ → ℕ → ℕ
stamps w = λ m s. w (Stamp m s)

abbrev pub free_bits : (Place → ℕ) → ℕ → ℕ → ℕ
free_bits w = λ m i. w (FreeBits m i)

abbrev pub key_words : (Place → ℕ) → ℕ → ℕ → ℕ → ℕ
key_words w = λ m e k. w (KeyWord m e k)

abbrev pub value_words : (Place → ℕ) → ℕ → ℕ → ℕ → ℕ
value_words w = λ m e k. w (ValueWord m e k)

abbrev pub fixed_words : (Place → ℕ) → ℕ → ℕ → ℕ
fixed_words w = λ b k. w (FixedWord b k)

pub record Alone (w w' : Place → ℕ) : Type 0 where
  pub key_counts_same : key_counts w' ≡ key_counts w
  pub run_counts_same : run_counts w' ≡ run_counts w
  pub free_same : free_bits w' ≡ free_bits w
  pub keys_same : key_words w' ≡ key_words w
  pub values_same : value_words w' ≡ value_words w
  pub fixed_same : fixed_words w' ≡ fixed_words w

module _ (a : About) (l : Known) (k : Lock) (held : l.locks ≡ k ∷ []) (p : Place) (there : is_place a.shape p ≡ true) (n : ℕ) (ws : List ℕ)
    (g : Ghost) (r : Rule a (mem a.shape ws) g) (is : lane g.lanes l.cpu ≡ l) where
  abbrev pub w : Place → ℕ
  w = mem a.shape ws

  abbrev pub w' : Place → ℕ
  w' = put_at w p n

  abbrev pub k' : Lock
  k' = record k { copy = slice_set k.copy (at a.shape p) n; dirty = true }

  abbrev pub era' : Era
  era' = record { era = w (Stamp k.map k.segment); writer = l.cpu; dirty = true; credit = (g.eras k.map k.segment).credit; old = (g.eras k.map k.segment).old }

  abbrev pub g' : Ghost
  g' = record g { lanes = record g.lanes { locks = put g.lanes.locks l.cpu (k' ∷ []) }; eras = put g.eras k.map (put (g.eras k.map) k.segment era') }

  h : Holds a g.depths (words_by_place w) (stamps w) g.eras g.linked g.holder l.cpu k
  h = holds a l k held w g r is

  now_era : g'.eras k.map k.segment ≡ era'
  now_era = put2-same g.eras k.map k.segment k.map k.segment era' refl refl

  copy_is : image a (slice_set k.copy (at a.shape p) n) ≡ words_by_place (put_at (mem a.shape k.copy) p n)
  copy_is = ap words_by_place (wrote a.shape k.copy p n h.sized there)

  own_lock : stamps w' k.map k.segment ≡ stamps w k.map k.segment → Holds a g.depths (words_by_place w') (stamps w') g'.eras g.linked g.holder l.cpu k'
  own_lock same = record {
    inside = h.inside;
    deep = h.deep;
    even = h.even;
    locked = same ∙ h.locked;
    writer = ap (λ (y : Era). y.writer) now_era;
    dirty = ap (λ (y : Era). y.dirty) now_era;
    credit = ap (λ (y : Era). y.credit) now_era ∙ h.credit;
    untouched = λ d. absurd (true≢false d);
    sized = length-set k.copy (at a.shape p) n ∙ h.sized;
    copied = subst (AgreesInSegment k.map k.segment (λ e. Minded (lock_home a k) l.cpu k.segment (g.holder k.map e)) (words_by_place w'))
        (sym copy_is) (record {
          head = put_alike w (mem a.shape k.copy) p (Head k.map k.segment) n h.copied.head;
          hop = λ b. put_alike w (mem a.shape k.copy) p (Hop k.map k.segment b) n (h.copied.hop b);
          slot = λ b. put_alike w (mem a.shape k.copy) p (Slot k.map k.segment b) n (h.copied.slot b);
          link = λ e on. put_alike w (mem a.shape k.copy) p (Link k.map e) n (h.copied.link e on);
          key = λ e j on. put_alike w (mem a.shape k.copy) p (KeyWord k.map e j) n (h.copied.key e j on);
        });
    beside = subst (AgreesFront k.map (child k) (words_by_place w')) (sym copy_is) (record {
      head = put_alike w (mem a.shape k.copy) p (Head k.map (child k)) n h.beside.head;
      hop = λ b. put_alike w (mem a.shape k.copy) p (Hop k.map (child k) b) n (h.beside.hop b);
      slot = λ b. put_alike w (mem a.shape k.copy) p (Slot k.map (child k) b) n (h.beside.slot b);
    });
    beside_stamp = put_alike w (mem a.shape k.copy) p (Stamp k.map (child k)) n h.beside_stamp ∙ ap
        (λ (f : Place → ℕ). f (Stamp k.map (child k))) (sym (wrote a.shape k.copy p n h.sized there));
    due = h.due;
  }

  -- after a write of a word that nobody else minds
  pub write_next : Alone w w' → stamps w' k.map k.segment ≡ stamps w k.map k.segment → Elsewhere a g.depths k.map k.segment l.cpu
      (words_by_place w) (words_by_place w') (stamps w) (stamps w') g.eras g'.eras g.linked g.linked g.holder g.holder
      → Batched a (λ m e. w' (Link m e)) (run_counts w) g.lanes.limbo g.last.held g.number → l.cpu < a.shape.cpus → Next a w' g l.cpu
      (λ l'. l' ≡ writing a l k p n)
  write_next same own_stamp apart links inside = record {
    ghost = g';
    rule = record {
      shaped = r.shaped;
      deep = record { sound = r.deep.sound; whole = r.deep.whole; stamped = λ m s b. ap stamp_depth (stamp_same m s b) ∙ r.deep.stamped m s b };
      logged = r.logged;
      keyed = subst (λ x. Keyed a x g.last.maps g.linked g.number) (sym same.key_counts_same) r.keyed;
      worn = λ m s in_s. ⊎_elim
          (λ (t : (m ≡ k.map) × (s ≡ k.segment)).
          let z = ap (λ (y : Era). y.credit) (put2-same g.eras k.map k.segment m s era' t.0 t.1) in
          let q : (g.eras k.map k.segment).credit ≡ (g.eras m s).credit = ap (λ (y : Era). y.credit) (λ j. g.eras (sym t.0 j) (sym t.1 j))
          in let b = r.worn m s in_s in let v : stamps w' m s / 256 ≡ stamps w m s / 256 = ap (λ (i : ℕ). i / 256) (stamp_same m s in_s) in omega arith)
          (λ (ne : m ≡ k.map → s ≢ k.segment).
          let z = ap (λ (y : Era). y.credit) (put2-other g.eras k.map k.segment m s era' ne) in
          let b = r.worn m s in_s in let v : stamps w' m s / 256 ≡ stamps w m s / 256 = ap (λ (i : ℕ). i / 256) (stamp_same m s in_s) in omega arith)
          (here_or k.map m k.segment s);
      runs = subst (λ x. Runs a x g.log) (sym same.run_counts_same) r.runs;
      batched = subst (λ x. Batched a (λ m e. w' (Link m e)) x g.lanes.limbo g.last.held g.number) (sym same.run_counts_same) links;
      owned = subst (λ x. Owned a x g.lanes.fresh g.lanes.limbo g.holder) (sym same.free_same) r.owned;
      linked = r.linked;
      filled = subst (λ x. Filled a x (value_words w') g.lanes.fresh) (sym same.keys_same)
          (subst (λ x. Filled a (key_words w) x g.lanes.fresh) (sym same.values_same) r.filled);
      segments = segments_step a g.depths k.map k.segment l.cpu (words_by_place w) (words_by_place w') (stamps w) (stamps w') g.eras g'.eras
          g.linked g.linked g.holder g.holder apart r.deep.sound h.inside r.segments r.linked
          (subst (λ (i : ℕ). Segment a g.depths (words_by_place w') i (g'.eras k.map k.segment) k.map k.segment (g.linked k.map))
          (sym own_stamp) (subst (λ (y : Era). Segment a g.depths (words_by_place w') (w (Stamp k.map k.segment)) y k.map k.segment
          (g.linked k.map)) (sym now_era) (record {
            at_rest = λ even. absurd (let o = is_odd a l k held w g r is in omega arith);
            clean = λ d. absurd (true≢false d);
            written = λ d. refl;
            shows = λ d. absurd (true≢false d);
          })));
      locking = locking_step a g.depths k.map k.segment l.cpu (words_by_place w) (words_by_place w') (stamps w) (stamps w') g.eras g'.eras
          g.linked g.linked g.holder g.holder apart r.deep.sound h.inside g.lanes.locks (k' ∷ []) r.locking (alone a l k held w g r is)
          (own_lock own_stamp, tt);
      held = held_step a g.depths k.map k.segment l.cpu (stamps w) (stamps w') g.eras g'.eras g.lanes.locks (k' ∷ []) inside r.held
          (λ odd. (ap (λ (y : Era). y.writer) now_era, (let z = lock_once k' in omega arith)))
          (λ n t b ne. (
            apart.stamps n t (off_born a g.depths k.map k.segment n t r.deep.sound h.inside b ne),
            put2-other g.eras k.map
                k.segment n t era' ne,
            ap (times_lock n t) (sym (ap (λ (z : Known). z.locks) is ∙ held)),
          ));
      reading = readings_step a g.depths k.map k.segment g.eras g'.eras g.lanes.readings (record {
        same_eras = λ m s ne. put2-other g.eras k.map k.segment m s era' ne;
        up = subst (λ (y : Era). (g.eras k.map k.segment).era ≤ y.era) (sym now_era) (low a l k held w g r is);
        stays = λ i even le eq. absurd (let o = is_odd a l k held w g r is in let z = eq ∙ ap (λ (y : Era). y.era) now_era in omega arith);
      }) r.reading;
      fixed = subst (λ x. ShowsFixed a x g.last.value) (sym same.fixed_same) r.fixed;
      valued = subst (λ x. Valued a x g.last.made g.last.value g.last.held g.holder g.number) (sym same.values_same) r.valued;
      shown = r.shown;
    };
    others = λ d ne. rw (ne_eqb d l.cpu ne) refl;
    longer = prefix_refl g.log;
    tally = refl;
    says = rw (eq-eqb l.cpu l.cpu refl) (ap (λ (x : Known). record x { locks = k' ∷ [] }) is);
  }
    where
      stamp_same : (m s : ℕ) → IsBorn a g.depths m s → stamps w' m s ≡ stamps w m s
      stamp_same m s b = ⊎_elim
          (λ (t : (m ≡ k.map) × (s ≡ k.segment)). (λ j. stamps w' (t.0 j) (t.1 j)) ∙ (own_stamp ∙ (λ j. stamps w (sym t.0 j) (sym t.1 j))))
          (λ (ne : m ≡ k.map → s ≢ k.segment). apart.stamps m s (off_born a g.depths k.map k.segment m s r.deep.sound h.inside b ne))
          (here_or k.map m k.segment s)

-- ---- the four words that are written under a lock
-- the words that are the locked segment's alone, or its child's
abbrev pub IsOf : Lock → Place → Type 0
IsOf k (Head n t) = (n ≡ k.map) × ((t ≡ k.segment) ⊎ (t ≡ child k))
IsOf k (Hop n t b) = (n ≡ k.map) × ((t ≡ k.segment) ⊎ (t ≡ child k))
IsOf k (Slot n t b) = (n ≡ k.map) × ((t ≡ k.segment) ⊎ (t ≡ child k))
IsOf k (Stamp n t) = (n ≡ k.map) × (t ≡ child k)
IsOf k p = ⊥

pub write_own : (a : About) (l : Known) (k : Lock) (p : Place) (n : ℕ) → IsOf k p → l.locks ≡ k ∷ [] → is_place a.shape p ≡ true → Steps a l
    p (λ _. n) (λ ws found l'. l' ≡ writing a l k p n)
write_own a l k p n own held there ws g sized r is inside fits = write_next a l k held p there n ws g r is
    (record {
      key_counts_same = λ j m. same (KeyCount m) (λ o. o) j;
      run_counts_same = λ j c. same (RunCount c) (λ o. o) j;
      free_same = λ j m i. same (FreeBits m i) (λ o. o) j;
      keys_same = λ j m e i. same (KeyWord m e i) (λ o. o) j;
      values_same = λ j m e i. same (ValueWord m e i) (λ o. o) j;
      fixed_same = λ j b i. same (FixedWord b i) (λ o. o) j;
    })
    (same (Stamp k.map k.segment) (λ o. let z = o.1 in let y = some_power (stamp_depth k.stamp) in omega arith))
    (record {
      stamps = λ m s off. same (Stamp m s) (λ o. (off o.0).1 (o.1 ∙ at_child m o.0));
      same_eras = λ m s ne. put2-other g.eras k.map k.segment m s _ ne;
      keys = λ m s q b ne home. refl;
      heads = λ m s off. same (Head m s) (λ o. neither m s off o.0 o.1);
      hops = λ m s b off. same (Hop m s b) (λ o. neither m s off o.0 o.1);
      slots = λ m s b off. same (Slot m s b) (λ o. neither m s off o.0 o.1);
      within = λ m s e q b ne home i. (links m e, keyed m e);
      minded = λ m s d e apart b ne mind. (mind, links m e, keyed m e);
    })
    (subst (λ x. Batched a x (run_counts (mem a.shape ws)) g.lanes.limbo g.last.held g.number) (sym all_links) r.batched) inside
  where
    at_child : (m : ℕ) → m ≡ k.map → child k ≡ child_of (g.depths k.map) k.segment
    at_child m e = ap (λ (i : ℕ). k.segment + power i) (holds a l k held (mem a.shape ws) g r is).deep

    neither : (m s : ℕ) → Off g.depths k.map k.segment m s → m ≡ k.map → (s ≡ k.segment) ⊎ (s ≡ child k) → ⊥
    neither m s off e t = ⊎_elim (λ (h : s ≡ k.segment). (off e).0 h) (λ (h : s ≡ child k). (off e).1 (h ∙ at_child m e)) t

    same : (q : Place) → (IsOf k q → ⊥) → put_at (mem a.shape ws) p n q ≡ mem a.shape ws q
    same q other = put_else (mem a.shape ws) p q n (λ (e : q ≡ p). other (subst (IsOf k) (sym e) own))

    links : (m e : ℕ) → put_at (mem a.shape ws) p n (Link m e) ≡ mem a.shape ws (Link m e)
    links m e = same (Link m e) (λ o. o)

    all_links : ◌≡◌ {A = ℕ → ℕ → ℕ} (λ m e. put_at (mem a.shape ws) p n (Link m e)) (λ m e. mem a.shape ws (Link m e))
    all_links = λ j m e. links m e j

    keyed : (m e i : ℕ) → put_at (mem a.shape ws) p n (KeyWord m e i) ≡ mem a.shape ws (KeyWord m e i)
    keyed m e i = same (KeyWord m e i) (λ o. o)

pub write_head : (a : About) (l : Known) (k : Lock) (n : ℕ) → l.locks ≡ k ∷ [] → is_place a.shape (Head k.map k.segment) ≡ true → Steps a l
    (Head k.map k.segment) (λ _. n) (λ ws found l'. l' ≡ writing a l k (Head k.map k.segment) n)
write_head a l k n = write_own a l k (Head k.map k.segment) n (refl, inl refl)

pub write_hop : (a : About) (l : Known) (k : Lock) (b n : ℕ) → l.locks ≡ k ∷ [] → is_place a.shape (Hop k.map k.segment b) ≡ true → Steps a
    l (Hop k.map k.segment b) (λ _. n) (λ ws found l'. l' ≡ writing a l k (Hop k.map k.segment b) n)
write_hop a l k b n = write_own a l k (Hop k.map k.segment b) n (refl, inl refl)

pub write_slot : (a : About) (l : Known) (k : Lock) (b n : ℕ) → l.locks ≡ k ∷ [] → is_place a.shape (Slot k.map k.segment b) ≡ true → Steps
    a l (Slot k.map k.segment b) (λ _. n) (λ ws found l'. l' ≡ writing a l k (Slot k.map k.segment b) n)
write_slot a l k b n = write_own a l k (Slot k.map k.segment b) n (refl, inl refl)

-- ---- links
times_one : (e : ℕ) (es : List ℕ) → 1 ≤ times e (e ∷ es)
times_one e es = let z : one_if (e == e) ≡ 1 = ap one_if (eq-eqb e e refl) in omega arith

pub chained_same : (link link' : ℕ → ℕ) (es : List ℕ) → ((d : ℕ) → 1 ≤ times d es → link' d ≡ link d) → Chained link es → Chained link' es
chained_same link link' [] same p = tt
chained_same link link' (e ∷ es) same p = (same e (times_one e es) ∙ p.0, chained_same link link' es (λ d i. same d (omega arith)) p.1)

pub write_link : (a : About) (l : Known) (k : Lock) (e n : ℕ) → l.locks ≡ k ∷ [] → is_place a.shape (Link k.map e) ≡ true → MayLink a l k e
    → Steps a l (Link k.map e) (λ _. n) (λ ws found l'. l' ≡ writing a l k (Link k.map e) n)
write_link a l k e n held there may ws g sized r is inside fits = write_next a l k held (Link k.map e) there n ws g r is
    (record { key_counts_same = refl; run_counts_same = refl; free_same = refl; keys_same = refl; values_same = refl; fixed_same = refl })
    refl
    (record {
      stamps = λ m s off. refl;
      same_eras = λ m s ne. put2-other g.eras k.map k.segment m s _ ne;
      keys = λ m s q b ne home. refl;
      heads = λ m s ne. refl;
      hops = λ m s d ne. refl;
      slots = λ m s d ne. refl;
      within = λ m s d p b ne home i. (put_else w (Link k.map e) (Link m d) n (λ q. not_within m s d p b ne home i (ap map_of q) (ap element_of q)), λ j. refl);
      minded = λ m s b d apart at_s ne mind. (
        mind,
        put_else w (Link k.map e) (Link m d) n
            (λ q. not_minded m s b d apart at_s ne mind (ap map_of q) (ap element_of q)),
        λ j. refl,
      );
    })
    (record {
      young = λ c m in_c. chained_same (λ d. w (Link m d)) (λ d. put_at w (Link k.map e) n (Link m d)) (limbo_at (g.lanes.limbo c) m).young
          (λ d i. not_limbo c m d in_c (omega arith)) (r.batched.young c m in_c);
      old = λ c m in_c. chained_same (λ d. w (Link m d)) (λ d. put_at w (Link k.map e) n (Link m d)) (limbo_at (g.lanes.limbo c) m).old
          (λ d i. not_limbo c m d in_c (omega arith)) (r.batched.old c m in_c);
      noted = r.batched.noted;
    })
    inside
  where
    w : Place → ℕ
    w = mem a.shape ws

    map_of : Place → ℕ
    map_of (Link m d) = m
    map_of p = 0

    element_of : Place → ℕ
    element_of (Link m d) = d
    element_of p = 0

    at_e : HasElement a k.map e
    at_e = ((holds a l k held w g r is).inside.0, may.0)

    h : Holds a g.depths (words_by_place w) (stamps w) g.eras g.linked g.holder l.cpu k
    h = holds a l k held w g r is

    Mine : Type 0
    Mine = (key : List ℕ) × (g.holder k.map e ≡ Within key) × (home_by a k.map (g.depths k.map k.segment) key ≡ k.segment)

    holder_is : (g.holder k.map e ≡ Filling l.cpu) ⊎ Mine
    holder_is = ⊎_elim
        (λ (f : (f : Fresh) × (rest : List Fresh) × (l.fresh ≡ f ∷ rest) × (f.map ≡ k.map) × (f.element ≡ e)). inl
        (subst (λ (x : ℕ). g.holder k.map x ≡ Filling l.cpu) f.4
        (in_hand a _ g.lanes.fresh g.lanes.limbo g.holder l.cpu k.map f.0 f.1 r.owned inside (subst (HasElement a k.map) (sym f.4) at_e) f.3
        (ap (λ (x : Known). x.fresh) is ∙ f.2))))
        (λ due. let d = (holds a l k held w g r is).due in let t = due d.0 d.1 in inr
        (t.0, (r.linked.within k.map t.0 e (d.2 t.0 t.2 ∙ t.1)).1, ap (λ (i : ℕ). home_by a k.map i t.0) (sym h.deep) ∙ t.2))
        may.1

    not_within : (m s d : ℕ) (q : List ℕ) → IsBorn a g.depths m s → (m ≡ k.map → s ≢ k.segment) → home_by a m (g.depths m s) q ≡ s →
        g.holder m d ≡ Within q → m ≡ k.map → d ≡ e → ⊥
    not_within m s d q b ne home i t u = ⊎_elim
        (λ (f : g.holder k.map e ≡ Filling l.cpu). let z : Filling l.cpu ≡ Within q = sym f ∙ ((λ j. g.holder (sym t j) (sym u j)) ∙ i) in cc)
        (λ (f : Mine). let same : q ≡ f.0 = within_once (sym i ∙ ((λ j. g.holder (t j) (u j)) ∙ f.1)) in ne t
        (one_home a g.depths k.map k.segment m s f.0 h.inside b t f.2 (ap (home_by a m (g.depths m s)) (sym same) ∙ home)))
        holder_is

    not_minded : (m s b d : ℕ) → b ≢ l.cpu → IsBorn a g.depths m s → (m ≡ k.map → s ≢ k.segment) → Minded (home_by a m (g.depths m s)) b s
        (g.holder m d) → m ≡ k.map → d ≡ e → ⊥
    not_minded m s b d apart at_s ne mind t u = ⊎_elim
        (λ (f : g.holder k.map e ≡ Filling l.cpu). apart (sym (subst (Minded (home_by a m (g.depths m s)) b s) ((λ j. g.holder (t j) (u j)) ∙ f) mind)))
        (λ (f : Mine). ne t (one_home a g.depths k.map k.segment m s f.0 h.inside at_s t f.2
        (subst (Minded (home_by a m (g.depths m s)) b s) ((λ j. g.holder (t j) (u j)) ∙ f.1) mind)))
        holder_is

    not_limbo : (c m d : ℕ) → c < a.shape.cpus → 1 ≤ times_limbo d (limbo_at (g.lanes.limbo c) m) → put_at w (Link k.map e) n (Link m d) ≡ w (Link m d)
    not_limbo c m d in_c has = put_else w (Link k.map e) (Link m d) n (λ q. bad (ap map_of q) (ap element_of q))
      where
        bad : m ≡ k.map → d ≡ e → ⊥
        bad t u =
            let at_d : HasElement a m d = subst (λ (x : ℕ). HasElement a x d) (sym t) (subst (HasElement a k.map) (sym u) at_e) in
            let left : g.holder k.map e ≡ Leaving c = (λ j. g.holder (sym t j) (sym u j)) ∙ in_limbo a _ g.lanes.fresh g.lanes.limbo
            g.holder c m d r.owned in_c at_d has in
            ⊎_elim
            (λ (f : g.holder k.map e ≡ Filling l.cpu). let z : Filling l.cpu ≡ Leaving c = sym f ∙ left in cc)
            (λ (f : Mine). let z : Within f.0 ≡ Leaving c = sym f.1 ∙ left in cc)
            holder_is
