-- Segments, locks and readings: what a step at one segment leaves of the others.
use Rattle.std.proofs.Common.{◌≡◌, ◌≢◌, ℕ, ◌%◌, ◌<◌, ◌≤◌, Bool, true, false, List, [], ◌∷◌, Option, ◌==◌, ◌&&◌, eq-eqb, ne_eqb, refl, ap}
use Rattle.std.proofs.Common.{sym, subst, ◌∙◌, arith, ⊎_elim, ◌+◌, true≢false, length}
use Rattle.std.proofs.lemmas.Bool.{cases_eq}
use Rattle.bpf_shared.specs.declared.shapes.MapShape.{MapShape}
use Rattle.bpf_shared.specs.Store.{put}
use Rattle.bpf_shared.proofs.Puts.{put-same, put-other}
use Rattle.hop_layout.specs.declared.about.About.{About}
use Rattle.hop_words.specs.declared.known.Lock.{Lock}
use Rattle.hop_words.specs.declared.known.Reading.{Reading}
use Rattle.hop_words.specs.declared.known.Peek.{Peek}
use Rattle.hop_words.specs.Content.{one_if, MapWords, IsShare, AgreesInSegment}
use Rattle.hop_words.specs.Ghost.{Holder, Within, Era, shape_at, Each}
use Rattle.hop_words.specs.Rule.{Segment, Segments, Minded, Holds, Locking, IsPeek, IsSoundReading, Readings, Linked, Held, times_lock}
use Rattle.hop_words.proofs.Small.{here_or}
use Rattle.hop_words.specs.Depths.{stamp_depth, IsBorn, home_by}
use Rattle.hop_layout.specs.Births.{is_born, AreDepths, child_of}
use Rattle.hop_words.specs.Ghost.{child}
use Rattle.hop_layout.specs.Layout.{power, depth, map_shape}
use Rattle.hop_layout.proofs.Births.{child_unborn, one_parent, one_owner}

-- a share speaks of the keys that are at home in the segment, and of no others
pub share_same : (seed : ℕ) (g : MapShape) (home : List ℕ → ℕ) (x : MapWords) (m s : ℕ) (f f' : List ℕ → Option ℕ) →
    ((q : List ℕ) → home q ≡ s → f' q ≡ f q) → IsShare seed g home x m s f → IsShare seed g home x m s f'
share_same seed g home x m s f f' same p = record {
  sound = p.sound;
  each = λ e r. let k = p.each e r in (k.0, k.1, k.2, same k.0 k.2 ∙ k.3);
  all = λ q e is here. p.all q e (sym (same q here) ∙ is) here;
}

pub agrees_on : (m s : ℕ) (on on' : ℕ → Type 0) (x x' y : MapWords) → AgreesInSegment m s on x y → x'.head m s ≡ x.head m s →
    ((b : ℕ) → x'.hop m s b ≡ x.hop m s b) → ((b : ℕ) → x'.slot m s b ≡ x.slot m s b)
    → ((e : ℕ) → on' e → on e × (x'.link m e ≡ x.link m e) × ((k : ℕ) → x'.key m e k ≡ x.key m e k)) → AgreesInSegment m s on' x' y
agrees_on m s on on' x x' y p head hop slot el = record {
  head = head ∙ p.head;
  hop = λ b. hop b ∙ p.hop b;
  slot = λ b. slot b ∙ p.slot b;
  link = λ e o. (el e o).1 ∙ p.link e (el e o).0;
  key = λ e k o. (el e o).2 k ∙ p.key e k (el e o).0;
}

-- ---- born segments
-- no born segment's depth leaves too little room for its number
abbrev pub AllDepths : About → (ℕ → ℕ → ℕ) → Type 0
AllDepths a depths = (m : ℕ) → m < length a.shape.maps → AreDepths (depths m) (depth (map_shape a.shape m))

-- the segment is neither s nor the one that is born when s splits
abbrev pub Off : (ℕ → ℕ → ℕ) → ℕ → ℕ → ℕ → ℕ → Type 0
Off depths m s n t = n ≡ m → (t ≢ s) × (t ≢ child_of (depths m) s)

-- a born segment is no child to be
pub no_child : (a : About) (depths : ℕ → ℕ → ℕ) (m s t : ℕ) → AllDepths a depths → IsBorn a depths m s → IsBorn a depths m t → t ≢ child_of (depths m) s
no_child a depths m s t all bs bt e =
    true≢false (sym bt.2 ∙ (ap (is_born (depths m) (depth (map_shape a.shape m))) e ∙ child_unborn (depths m) (depth (map_shape a.shape m))
    s bs.2 (all m bs.0 s bs.2).0))

born_at : (a : About) (depths : ℕ → ℕ → ℕ) (m n t : ℕ) → n ≡ m → IsBorn a depths n t → IsBorn a depths m t
born_at a depths m n t e b = subst (λ (i : ℕ). IsBorn a depths i t) e b

pub off_born : (a : About) (depths : ℕ → ℕ → ℕ) (m s n t : ℕ) → AllDepths a depths → IsBorn a depths m s → IsBorn a depths n t →
    (n ≡ m → t ≢ s) → Off depths m s n t
off_born a depths m s n t all bs bt ne e = (ne e, no_child a depths m s t all bs (born_at a depths m n t e bt))

-- the children of two segments are two
pub off_child : (a : About) (depths : ℕ → ℕ → ℕ) (m s n t : ℕ) → AllDepths a depths → IsBorn a depths m s → IsBorn a depths n t →
    (n ≡ m → t ≢ s) → Off depths m s n (child_of (depths n) t)
off_child a depths m s n t all bs bt ne e =
    let c : child_of (depths n) t ≡ child_of (depths m) t = ap (λ (i : ℕ). child_of (depths i) t) e in
    let bt' = born_at a depths m n t e bt in (
      (λ (q : child_of (depths n) t ≡ s). no_child a depths m t s all bt' bs (sym q ∙ c)),
      (λ (q : child_of (depths n) t ≡ child_of (depths m) s). ne e (one_parent (depths m) t s (all m bt'.0 t bt'.2).0 (all m bs.0 s bs.2).0 (sym c ∙ q))),
    )

-- a key is at home in one born segment
pub one_home : (a : About) (depths : ℕ → ℕ → ℕ) (m s n t : ℕ) (key : List ℕ) → IsBorn a depths m s → IsBorn a depths n t → n ≡ m → home_by a
    m (depths m s) key ≡ s → home_by a n (depths n t) key ≡ t → t ≡ s
one_home a depths m s n t key bs bt e hs ht =
    let bt' = born_at a depths m n t e bt in
    let ht' : home_by a m (depths m t) key ≡ t = (λ j. home_by a (sym e j) (depths (sym e j) t) key) ∙ ht in
    one_owner (depths m) (depth (map_shape a.shape m)) t s _ bt'.2 bs.2 ht' hs

-- away from the segment s of the map m, the step of the CPU c changes nothing that others mind
pub record Elsewhere (a : About) (depths : ℕ → ℕ → ℕ) (m s c : ℕ) (x x' : MapWords) (stamp stamp' : ℕ → ℕ → ℕ) (eras eras' : ℕ → ℕ → Era)
    (linked linked' : ℕ → List ℕ → Option ℕ) (holder holder' : ℕ → ℕ → Holder) : Type 0 where
  pub stamps : (n t : ℕ) → Off depths m s n t → stamp' n t ≡ stamp n t
  pub same_eras : (n t : ℕ) → (n ≡ m → t ≢ s) → eras' n t ≡ eras n t
  pub keys : (n t : ℕ) (q : List ℕ) → IsBorn a depths n t → (n ≡ m → t ≢ s) → home_by a n (depths n t) q ≡ t → linked' n q ≡ linked n q
  pub heads : (n t : ℕ) → Off depths m s n t → x'.head n t ≡ x.head n t
  pub hops : (n t b : ℕ) → Off depths m s n t → x'.hop n t b ≡ x.hop n t b
  pub slots : (n t b : ℕ) → Off depths m s n t → x'.slot n t b ≡ x.slot n t b
  pub within : (n t e : ℕ) (q : List ℕ) → IsBorn a depths n t → (n ≡ m → t ≢ s) → home_by a n (depths n t) q ≡ t → holder n e ≡ Within q →
      (x'.link n e ≡ x.link n e) × ((k : ℕ) → x'.key n e k ≡ x.key n e k)
  pub minded : (n t d e : ℕ) → d ≢ c → IsBorn a depths n t → (n ≡ m → t ≢ s) → Minded (home_by a n (depths n t)) d t (holder' n e) → Minded
      (home_by a n (depths n t)) d t (holder n e) × (x'.link n e ≡ x.link n e) × ((k : ℕ) → x'.key n e k ≡ x.key n e k)

-- a step by which no word changes but a stamp
pub only_stamp : (a : About) (depths : ℕ → ℕ → ℕ) (m s c : ℕ) (x : MapWords) (stamp stamp' : ℕ → ℕ → ℕ) (eras eras' : ℕ → ℕ → Era)
    (linked : ℕ → List ℕ → Option ℕ) (holder : ℕ → ℕ → Holder)
    → ((n t : ℕ) → (n ≡ m → t ≢ s) → stamp' n t ≡ stamp n t) → ((n t : ℕ) → (n ≡ m → t ≢ s) → eras' n t ≡ eras n t)
    → Elsewhere a depths m s c x x stamp stamp' eras eras' linked linked holder holder
only_stamp a depths m s c x stamp stamp' eras eras' linked holder stamps same_eras = record {
  stamps = λ n t off. stamps n t (λ e. (off e).0);
  same_eras = same_eras;
  keys = λ n t q bt ne home. refl;
  heads = λ n t off. refl;
  hops = λ n t b off. refl;
  slots = λ n t b off. refl;
  within = λ n t d q bt ne home h. (refl, λ j. refl);
  minded = λ n t b d apart bt ne mind. (mind, refl, λ j. refl);
}

module _ (a : About) (depths : ℕ → ℕ → ℕ) (m s c : ℕ) (x x' : MapWords) (stamp stamp' : ℕ → ℕ → ℕ) (eras eras' : ℕ → ℕ → Era)
    (linked linked' : ℕ → List ℕ → Option ℕ) (holder holder' : ℕ → ℕ → Holder)
    (w : Elsewhere a depths m s c x x' stamp stamp' eras eras' linked linked' holder holder') (all : AllDepths a depths) (bs : IsBorn a depths m s) where
  pub segments_step : Segments a depths x stamp eras linked → Linked a linked holder → Segment a depths x' (stamp' m s) (eras' m s) m s
      (linked' m) → Segments a depths x' stamp' eras' linked'
  segments_step p l own n t inside = ⊎_elim
      (λ (h : (n ≡ m) × (t ≡ s)). subst (λ (i : ℕ). Segment a depths x' (stamp' i t) (eras' i t) i t (linked' i)) (sym h.0)
      (subst (λ (j : ℕ). Segment a depths x' (stamp' m j) (eras' m j) m j (linked' m)) (sym h.1) own))
      (λ (ne : n ≡ m → t ≢ s). else_ ne)
      (here_or m n s t)
    where
      else_ : (n ≡ m → t ≢ s) → Segment a depths x' (stamp' n t) (eras' n t) n t (linked' n)
      else_ ne = subst (λ (i : ℕ). Segment a depths x' i (eras' n t) n t (linked' n)) (sym (w.stamps n t off))
          (subst (λ (r : Era). Segment a depths x' (stamp n t) r n t (linked' n)) (sym (w.same_eras n t ne)) (record {
            at_rest = q.at_rest;
            clean = λ e. (
              (q.clean e).0,
              agrees_on n t _ _ x x' _ (q.clean e).1 (w.heads n t off) (λ b. w.hops n t b off) (λ b. w.slots n t b off)
                  (λ d r. let k = (q.shows e).each d r in let z = w.within n t d k.0 inside ne k.2 (l.within n k.0 d k.3).1 in (r, z.0, z.1)),
            );
            written = q.written;
            shows = λ e. share_same a.seed (shape_at a n) (home_by a n (depths n t)) (eras n t).old n t (linked n) (linked' n)
                (λ k home. w.keys n t k inside ne home) (q.shows e);
          }))
        where
          q : Segment a depths x (stamp n t) (eras n t) n t (linked n)
          q = p n t inside

          off : Off depths m s n t
          off = off_born a depths m s n t all bs inside ne

  holds_else : (d : ℕ) (k : Lock) → d ≢ c → (k.map ≡ m → k.segment ≢ s) → Holds a depths x stamp eras linked holder d k → Holds a depths x'
      stamp' eras' linked' holder' d k
  holds_else d k apart ne p = record {
    inside = p.inside;
    deep = p.deep;
    even = p.even;
    locked = w.stamps k.map k.segment off ∙ p.locked;
    writer = ap (λ (r : Era). r.writer) same ∙ p.writer;
    dirty = ap (λ (r : Era). r.dirty) same ∙ p.dirty;
    credit = ap (λ (r : Era). r.credit) same ∙ p.credit;
    untouched = p.untouched;
    sized = p.sized;
    copied = agrees_on k.map k.segment _ _ x x' _ p.copied (w.heads k.map k.segment off) (λ b. w.hops k.map k.segment b off)
        (λ b. w.slots k.map k.segment b off) mind;
    beside = record {
      head = w.heads k.map (child k) beside_off ∙ p.beside.head;
      hop = λ b. w.hops k.map (child k) b beside_off ∙ p.beside.hop b;
      slot = λ b. w.slots k.map (child k) b beside_off ∙ p.beside.slot b;
    };
    beside_stamp = w.stamps k.map (child k) beside_off ∙ p.beside_stamp;
    due = (p.due.0, p.due.1, λ q home. w.keys k.map k.segment q p.inside ne (ap (λ (i : ℕ). home_by a k.map i q) (sym p.deep) ∙ home) ∙ p.due.2 q home);
  }
    where
      same : eras' k.map k.segment ≡ eras k.map k.segment
      same = w.same_eras k.map k.segment ne

      off : Off depths m s k.map k.segment
      off = off_born a depths m s k.map k.segment all bs p.inside ne

      beside_off : Off depths m s k.map (child k)
      beside_off = subst (λ (i : ℕ). Off depths m s k.map (k.segment + power i)) (sym p.deep) (off_child a depths m s k.map k.segment all bs p.inside ne)

      Mind : ℕ → ℕ → Type 0
      Mind i e = Minded (home_by a k.map i) d k.segment (holder' k.map e) → Minded (home_by a k.map i) d k.segment (holder k.map e) ×
          (x'.link k.map e ≡ x.link k.map e) × ((j : ℕ) → x'.key k.map e j ≡ x.key k.map e j)

      mind : (e : ℕ) → Mind (stamp_depth k.stamp) e
      mind e = subst (λ (i : ℕ). Mind i e) (sym p.deep) (w.minded k.map k.segment d e apart p.inside ne)

  pub each_else : (d : ℕ) (ks : List Lock) → d ≢ c → ((k : Lock) → Holds a depths x stamp eras linked holder d k → k.map ≡ m → k.segment ≢
      s) → Each (Holds a depths x stamp eras linked holder d) ks → Each (Holds a depths x' stamp' eras' linked' holder' d) ks
  each_else d [] apart alone p = tt
  each_else d (k ∷ ks) apart alone p = (holds_else d k apart (alone k p.0) p.0, each_else d ks apart alone p.1)

  -- a CPU keeps its other locks
  pub each_apart : (d : ℕ) (ks : List Lock) → d ≢ c → Each (λ (k : Lock). k.map ≡ m → k.segment ≢ s) ks → Each
      (Holds a depths x stamp eras linked holder d) ks → Each (Holds a depths x' stamp' eras' linked' holder' d) ks
  each_apart d [] apart others p = tt
  each_apart d (k ∷ ks) apart others p = (holds_else d k apart others.0 p.0, each_apart d ks apart others.1 p.1)

  pub locking_step : (locks : ℕ → List Lock) (ks : List Lock) → Locking a depths x stamp eras linked holder locks →
      ((d : ℕ) (k : Lock) → d ≢ c → Holds a depths x stamp eras linked holder d k → k.map ≡ m → k.segment ≢ s)
      → Each (Holds a depths x' stamp' eras' linked' holder' c) ks → Locking a depths x' stamp' eras' linked' holder' (put locks c ks)
  locking_step locks ks p alone own d = ⊎_elim
      (λ (t : d ≡ c). subst (λ (y : List Lock). Each (Holds a depths x' stamp' eras' linked' holder' d) y) (sym (put-same locks c d ks t))
      (subst (λ (i : ℕ). Each (Holds a depths x' stamp' eras' linked' holder' i) ks) (sym t) own))
      (λ (ne : d ≢ c). subst (λ (y : List Lock). Each (Holds a depths x' stamp' eras' linked' holder' d) y)
      (sym (put-other locks c d ks ne)) (each_else d (locks d) ne (λ k. alone d k ne) (p d)))
      (cases_eq d c)

-- ---- readings
-- the segment's era goes up, or stays with its words
pub record Upward (m s : ℕ) (eras eras' : ℕ → ℕ → Era) : Type 0 where
  pub same_eras : (n t : ℕ) → (n ≡ m → t ≢ s) → eras' n t ≡ eras n t
  pub up : (eras m s).era ≤ (eras' m s).era
  pub stays : (i : ℕ) → i % 2 ≡ 0 → i ≤ (eras m s).era → i ≡ (eras' m s).era → (i ≡ (eras m s).era) × ((eras' m s).old ≡ (eras m s).old)

reads_step : (a : About) (depths : ℕ → ℕ → ℕ) (m s : ℕ) (eras eras' : ℕ → ℕ → Era) (r : Reading) → Upward m s eras eras' → IsSoundReading a
    depths eras r → IsSoundReading a depths eras' r
reads_step a depths m s eras eras' r u p = ⊎_elim
    (λ (h : (r.map ≡ m) × (r.segment ≡ s)). record {
      inside = p.inside;
      deep = p.deep;
      even = p.even;
      behind = (let b = p.behind in let z = ap (λ (e : Era). e.era) (λ i. eras (h.0 i) (h.1 i)) in
          let z' = ap (λ (e : Era). e.era) (λ i. eras' (h.0 i) (h.1 i)) in let t = u.up in omega arith);
      stays = λ is. (let z : (eras r.map r.segment) ≡ (eras m s) = λ i. eras (h.0 i) (h.1 i) in
          let z' : (eras' r.map r.segment) ≡ (eras' m s) = λ i. eras' (h.0 i) (h.1 i) in
          let k = u.stays r.stamp p.even (subst (λ (e : Era). r.stamp ≤ e.era) z p.behind) (is ∙ ap (λ (e : Era). e.era) z') in
          subst (λ (x : MapWords). Each (λ (y : Peek). IsPeek x r.map r.segment y.place y.number) r.peeks)
          (sym (ap (λ (e : Era). e.old) z' ∙ (k.1 ∙ sym (ap (λ (e : Era). e.old) z)))) (p.stays (k.0 ∙ sym (ap (λ (e : Era). e.era) z))));
    })
    (λ (ne : r.map ≡ m → r.segment ≢ s). let same : eras' r.map r.segment ≡ eras r.map r.segment = u.same_eras r.map r.segment ne in record {
      inside = p.inside;
      deep = p.deep;
      even = p.even;
      behind = subst (λ (e : Era). r.stamp ≤ e.era) (sym same) p.behind;
      stays = λ is. subst (λ (e : Era). Each (λ (y : Peek). IsPeek e.old r.map r.segment y.place y.number) r.peeks) (sym same)
          (p.stays (is ∙ ap (λ (e : Era). e.era) same));
    })
    (here_or m r.map s r.segment)

pub readings_step : (a : About) (depths : ℕ → ℕ → ℕ) (m s : ℕ) (eras eras' : ℕ → ℕ → Era) (readings : ℕ → List Reading) → Upward m s eras
    eras' → Readings a depths eras readings → Readings a depths eras' readings
readings_step a depths m s eras eras' readings u p c = go (readings c) (p c)
  where
    go : (rs : List Reading) → Each (IsSoundReading a depths eras) rs → Each (IsSoundReading a depths eras') rs
    go [] q = tt
    go (r ∷ rs) q = (reads_step a depths m s eras eras' r u q.0, go rs q.1)

-- ---- holders of locks
pub held_step : (a : About) (depths : ℕ → ℕ → ℕ) (m s c : ℕ) (stamp stamp' : ℕ → ℕ → ℕ) (eras eras' : ℕ → ℕ → Era) (locks : ℕ → List Lock)
    (ks : List Lock) → c < a.shape.cpus → Held a depths stamp eras locks
    → (stamp' m s % 2 ≡ 1 → ((eras' m s).writer ≡ c) × (1 ≤ times_lock m s ks))
    → ((n t : ℕ) → IsBorn a depths n t → (n ≡ m → t ≢ s) → (stamp' n t ≡ stamp n t) × (eras' n t ≡ eras n t) ×
    (times_lock n t ks ≡ times_lock n t (locks c))) → Held a depths stamp' eras' (put locks c ks)
held_step a depths m s c stamp stamp' eras eras' locks ks inside p own same n t at_s odd = ⊎_elim
    (λ (h : (n ≡ m) × (t ≡ s)).
    let o = own (sym (λ j. stamp' (h.0 j) (h.1 j) % 2) ∙ odd) in
    let w : (eras' n t).writer ≡ c = ap (λ (y : Era). y.writer) (λ j. eras' (h.0 j) (h.1 j)) ∙ o.0 in (
      subst (λ (b : ℕ). b < a.shape.cpus) (sym w) inside,
      subst (λ (b : ℕ). 1 ≤ times_lock n t (put locks c ks b)) (sym w)
          (subst (λ (y : List Lock). 1 ≤ times_lock n t y) (sym (put-same locks c c ks refl))
          (let z : times_lock n t ks ≡ times_lock m s ks = λ j. times_lock (h.0 j) (h.1 j) ks in let y = o.1 in omega arith)),
    ))
    (λ (ne : n ≡ m → t ≢ s).
    let k = same n t at_s ne in
    let q = p n t at_s (ap (λ (x : ℕ). x % 2) (sym k.0) ∙ odd) in
    let w : (eras' n t).writer ≡ (eras n t).writer = ap (λ (y : Era). y.writer) k.1 in (
      subst (λ (b : ℕ). b < a.shape.cpus) (sym w) q.0,
      subst (λ (b : ℕ). 1 ≤ times_lock n t (put locks c ks b)) (sym w) (⊎_elim
          (λ (e : (eras n t).writer ≡ c). subst (λ (y : List Lock). 1 ≤ times_lock n t y) (sym (put-same locks c (eras n t).writer ks e))
          (let y = q.1 in let z : times_lock n t (locks (eras n t).writer) ≡ times_lock n t (locks c) = ap (λ (b : ℕ). times_lock n t (locks b)) e in
          let x = k.2 in omega arith))
          (λ (d : (eras n t).writer ≢ c). subst (λ (y : List Lock). 1 ≤ times_lock n t y) (sym (put-other locks c (eras n t).writer ks d)) q.1)
          (cases_eq (eras n t).writer c)),
    ))
    (here_or m n s t)

-- the one lock in a list
pub lock_once : (k : Lock) → times_lock k.map k.segment (k ∷ []) ≡ 1
lock_once k = rw (eq-eqb k.map k.map refl, eq-eqb k.segment k.segment refl) refl

pub lock_else : (m s n t : ℕ) → (n ≡ m → t ≢ s) → one_if ((m == n) && (s == t)) ≡ 0
lock_else m s n t ne = ap one_if (⊎_elim
    (λ (e : n ≡ m). ap (λ (z : Bool). (m == n) && z) (ne_eqb s t (λ (q : s ≡ t). ne e (sym q))) ∙ and_false (m == n))
    (λ (d : n ≢ m). ap (λ (z : Bool). z && (s == t)) (ne_eqb m n (λ (q : m ≡ n). d (sym q))))
    (cases_eq n m))
  where
    and_false : (z : Bool) → z && false ≡ false
    and_false true = refl
    and_false false = refl
