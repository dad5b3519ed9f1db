-- Lock, read under lock, write under lock, unlock.
use Rattle.std.proofs.Common.{◌≡◌, ◌≢◌, ℕ, zero, suc, ◌+◌, ◌/◌, ◌%◌, ◌<◌, ◌≤◌, Bool, true, false, true≢false, ◌||◌, List, [], ◌∷◌, ◌==◌}
use Rattle.std.proofs.Common.{if◌then◌else◌, length, refl, ap, sym, subst, ◌∙◌, arith, eq-eqb, ne_eqb, ⊎_elim, ◌-◌}
use Rattle.std.proofs.lemmas.Bool.{cases_lt, lt-ltb, and_from, cases_eq}
use Rattle.atomic_table.proofs.Lists.{exchanged}
use Rattle.bpf_shared.specs.Shape.{elements}
use prog.Atomic.{either}
use Rattle.bpf_shared.specs.Store.{put}
use Rattle.hop_layout.specs.declared.place.Place.{Place}
use Rattle.hop_layout.specs.declared.place.Place.TheVariants.{Stamp, KeyWord, ValueWord}
use Rattle.hop_layout.specs.declared.about.About.{About}
use Rattle.hop_words.specs.declared.known.Known.{Known}
use Rattle.hop_words.specs.declared.known.Fresh.{Fresh}
use Rattle.hop_words.specs.declared.known.Lock.{Lock}
use Rattle.hop_words.specs.declared.known.Change.TheVariants.{Nothing}
use Rattle.hop_layout.specs.Layout.{mem, same_place, put_at, size, first_depth, depth, power}
use Rattle.hop_words.specs.Content.{words_by_place, Reached, IsShare}
use Rattle.hop_words.specs.Ghost.{Holder, Free, Filling, Leaving, Within, lane, Era, Ghost, shape_at, HasElement, Each, lock_home, IsHomeIn}
use Rattle.hop_words.specs.Shortage.{done_in}
use Rattle.hop_words.specs.Rule.{Rule, Segment, Minded, Holds, image, changed, owed, StartsWith, times_lock, IsSoundReading, Readings}
use Rattle.hop_words.specs.Sights.{sighted, lock_taken}
use Rattle.hop_words.specs.Private.Step.{Next, Steps}
use Rattle.hop_words.specs.Kinds.{has, locking, LocksSegment, KeysHaveRoom, IsWritten, AreElsewhere, KnowsBorn, First, Whole, Seen, Child}
use Rattle.hop_layout.proofs.Layouts.{same_is, same_self, one}
use Rattle.hop_words.proofs.Small.{here_or, put2-same, put2-other}
use Rattle.hop_words.proofs.Histories.{prefix_refl}
use Rattle.hop_words.proofs.Segs.{share_same, Elsewhere, only_stamp, segments_step, locking_step, readings_step, held_step, lock_once}
use Rattle.hop_words.proofs.Segs.{lock_else, each_else, each_apart, one_home}
use Rattle.hop_words.proofs.Shares.{share_agrees}
use Rattle.hop_words.proofs.Rooms.{shares_of, room_for}
use Rattle.hop_words.proofs.Stays.{stay}
use Rattle.hop_words.proofs.Comes.{in_hand}
use Rattle.bpf_shared.proofs.Puts.{put-same, put-other}
use Rattle.hop_words.specs.Depths.{stamp_depth, IsBorn, home_by, Deep}
use Rattle.hop_layout.specs.Births.{is_born}
use Rattle.hop_words.specs.Ghost.{child}
use Rattle.hop_layout.proofs.Births.{born_first, born_child, born_small, power_mono, low_is, high_is}
use Rattle.hop_layout.proofs.Births.{some_power}

-- ---- words at a place, and at others
pub put_here : (w : Place → ℕ) (p : Place) (n : ℕ) → put_at w p n p ≡ n
put_here w p n = rw (same_self p) refl

pub put_else : (w : Place → ℕ) (p q : Place) (n : ℕ) → q ≢ p → put_at w p n q ≡ w q
put_else w p q n ne = go (same_place q p) refl
  where
    go : (b : Bool) → same_place q p ≡ b → put_at w p n q ≡ w q
    go true e = absurd (ne (same_is q p e))
    go false e = rw e refl

-- two memories that agree at a place still do after the same write
pub put_alike : (w v : Place → ℕ) (p q : Place) (n : ℕ) → w q ≡ v q → put_at w p n q ≡ put_at v p n q
put_alike w v p q n e = ap (λ (x : ℕ). if same_place q p then n else x) e

pub stamp_apart : (m s n t : ℕ) → (n ≡ m → t ≢ s) → Stamp n t ≢ Stamp m s
stamp_apart m s n t ne e = ne (ap map_of_stamp e) (ap segment_of_stamp e)
  where
    map_of_stamp : Place → ℕ
    map_of_stamp (Stamp m s) = m
    map_of_stamp p = 0

    segment_of_stamp : Place → ℕ
    segment_of_stamp (Stamp m s) = s
    segment_of_stamp p = 0

-- ---- depths
-- a step by which no stamp says another depth
pub deep_step : (a : About) (depths : ℕ → ℕ → ℕ) (m s : ℕ) (stamp stamp' : ℕ → ℕ → ℕ) → Deep a stamp depths →
    ((n t : ℕ) → (n ≡ m → t ≢ s) → stamp' n t ≡ stamp n t) → stamp_depth (stamp' m s) ≡ depths m s → Deep a stamp' depths
deep_step a depths m s stamp stamp' p same own = record {
  sound = p.sound;
  whole = p.whole;
  stamped = λ n t b. ⊎_elim
      (λ (h : (n ≡ m) × (t ≡ s)). (λ j. stamp_depth (stamp' (h.0 j) (h.1 j))) ∙ (own ∙ (λ j. depths (sym h.0 j) (sym h.1 j))))
      (λ (ne : n ≡ m → t ≢ s). ap stamp_depth (same n t ne) ∙ p.stamped n t b)
      (here_or m n s t);
}

-- ---- what a holder of a lock knows
module _ (a : About) (l : Known) (k : Lock) {rest : List Lock} (held : l.locks ≡ k ∷ rest) (w : Place → ℕ) (g : Ghost) (r : Rule a w g)
    (is : lane g.lanes l.cpu ≡ l) where
  pub holds : Holds a g.depths (words_by_place w) (λ n t. w (Stamp n t)) g.eras g.linked g.holder l.cpu k
  holds = (subst (Each (Holds a g.depths (words_by_place w) (λ n t. w (Stamp n t)) g.eras g.linked g.holder l.cpu))
      (ap (λ (x : Known). x.locks) is ∙ held) (r.locking l.cpu)).0

  pub rest_holds : Each (Holds a g.depths (words_by_place w) (λ n t. w (Stamp n t)) g.eras g.linked g.holder l.cpu) rest
  rest_holds = (subst (Each (Holds a g.depths (words_by_place w) (λ n t. w (Stamp n t)) g.eras g.linked g.holder l.cpu))
      (ap (λ (x : Known). x.locks) is ∙ held) (r.locking l.cpu)).1

  pub segment : Segment a g.depths (words_by_place w) (w (Stamp k.map k.segment)) (g.eras k.map k.segment) k.map k.segment (g.linked k.map)
  segment = r.segments k.map k.segment holds.inside

  pub is_odd : w (Stamp k.map k.segment) % 2 ≡ 1
  is_odd = let o = holds.locked in let z = holds.even in omega arith

  pub low : (g.eras k.map k.segment).era ≤ w (Stamp k.map k.segment)
  low = go (g.eras k.map k.segment).dirty refl
    where
      go : (b : Bool) → (g.eras k.map k.segment).dirty ≡ b → (g.eras k.map k.segment).era ≤ w (Stamp k.map k.segment)
      go true d = let z = segment.written d in omega arith
      go false d = let z = (segment.clean d).0 in omega arith

  pub alone : (d : ℕ) (k2 : Lock) → d ≢ l.cpu → Holds a g.depths (words_by_place w) (λ n t. w (Stamp n t)) g.eras g.linked g.holder d k2 →
      k2.map ≡ k.map → k2.segment ≢ k.segment
  alone d k2 apart p h u = apart (sym p.writer ∙ (ap (λ (y : Era). y.writer) (λ j. g.eras (h j) (u j)) ∙ holds.writer))

-- ---- unlock with the next version
module _ (a : About) (l : Known) (k : Lock) {rest : List Lock} (held : l.locks ≡ k ∷ rest) (w : Place → ℕ) (g : Ghost) (r : Rule a w g)
    (is : lane g.lanes l.cpu ≡ l) (inside : l.cpu < a.shape.cpus) (elsewhere : AreElsewhere k rest) (era' : Era) (v : ℕ) where
  abbrev pub unlocked : Ghost
  unlocked = record g { lanes = record g.lanes { locks = put g.lanes.locks l.cpu rest }; eras = put g.eras k.map (put (g.eras k.map) k.segment era') }

  abbrev pub w' : Place → ℕ
  w' = put_at w (Stamp k.map k.segment) v

  unlock_elsewhere : Elsewhere a g.depths k.map k.segment l.cpu (words_by_place w) (words_by_place w) (λ n t. w (Stamp n t))
      (λ n t. w' (Stamp n t)) g.eras unlocked.eras g.linked g.linked g.holder g.holder
  unlock_elsewhere = only_stamp _ _ _ _ _ _ _ _ _ _ _ _ (λ n t ne. put_else w (Stamp k.map k.segment) (Stamp n t) v
      (stamp_apart k.map k.segment n t ne)) (λ n t ne. put2-other g.eras k.map k.segment n t era' ne)

  -- the other locks of the lane: a stamp is all that changes, so they stay as those of others do
  rest_stays : Each (Holds a g.depths (words_by_place w) (λ n t. w' (Stamp n t)) unlocked.eras g.linked g.holder l.cpu) rest
  rest_stays = each_apart a g.depths k.map k.segment (suc l.cpu) (words_by_place w) (words_by_place w) _ _ g.eras unlocked.eras g.linked
      g.linked g.holder g.holder
      (only_stamp _ _ _ _ _ _ _ _ _ _ _ _ (λ n t ne. put_else w (Stamp k.map k.segment) (Stamp n t) v (stamp_apart k.map k.segment n t ne))
      (λ n t ne. put2-other g.eras k.map k.segment n t era' ne))
      r.deep.sound (holds a l k held w g r is).inside l.cpu rest (λ (e : l.cpu ≡ suc l.cpu). omega arith) elsewhere (rest_holds a l k held w g r is)

  -- a segment that is given back as it was, or with what was written
  unlock_rule : v % 2 ≡ 0 → stamp_depth v ≡ g.depths k.map k.segment → Segment a g.depths (words_by_place w) v era' k.map k.segment
      (g.linked k.map) → (g.eras k.map k.segment).era ≤ era'.era
      → ((i : ℕ) → i % 2 ≡ 0 → i ≤ (g.eras k.map k.segment).era → i ≡ era'.era → (i ≡ (g.eras k.map k.segment).era) × (era'.old ≡ (g.eras k.map k.segment).old))
      → (v / 256 + era'.credit + first_depth (shape_at a k.map) ≤ a.version + g.depths k.map k.segment + done_in k.map g.log) → Rule a w' unlocked
  unlock_rule at_rest deep own up stays fair = record {
    shaped = r.shaped;
    fixed = r.fixed;
    deep = deep_step a g.depths k.map k.segment _ _ r.deep (λ n t ne. put_else w (Stamp k.map k.segment) (Stamp n t) v
        (stamp_apart k.map k.segment n t ne)) (ap stamp_depth (put_here w (Stamp k.map k.segment) v) ∙ deep);
    logged = r.logged;
    keyed = r.keyed;
    worn = λ n t at_s. ⊎_elim
        (λ (h : (n ≡ k.map) × (t ≡ k.segment)).
        let z = ap (λ (y : Era). y.credit) (put2-same g.eras k.map k.segment n t era' h.0 h.1) in
        let y : w' (Stamp n t) ≡ v = (λ j. w' (Stamp (h.0 j) (h.1 j))) ∙ put_here w (Stamp k.map k.segment) v in
        let d : done_in n g.log ≡ done_in k.map g.log = λ j. done_in (h.0 j) g.log in
        let f : first_depth (shape_at a n) ≡ first_depth (shape_at a k.map) = λ j. first_depth (shape_at a (h.0 j)) in
        let o : g.depths n t ≡ g.depths k.map k.segment = λ j. g.depths (h.0 j) (h.1 j) in
        let e : w' (Stamp n t) / 256 ≡ v / 256 = ap (λ (i : ℕ). i / 256) y in
        omega arith)
        (λ (ne : n ≡ k.map → t ≢ k.segment).
        let z = ap (λ (y : Era). y.credit) (put2-other g.eras k.map k.segment n t era' ne) in
        let y : w' (Stamp n t) ≡ w (Stamp n t) = put_else w (Stamp k.map k.segment) (Stamp n t) v (stamp_apart k.map k.segment n t ne) in
        let e : w' (Stamp n t) / 256 ≡ w (Stamp n t) / 256 = ap (λ (i : ℕ). i / 256) y in
        let b = r.worn n t at_s in
        omega arith)
        (here_or k.map n k.segment t);
    runs = r.runs;
    batched = r.batched;
    owned = r.owned;
    linked = r.linked;
    filled = r.filled;
    segments = segments_step a g.depths k.map k.segment l.cpu (words_by_place w) (words_by_place w) _ _ g.eras unlocked.eras g.linked
        g.linked g.holder g.holder unlock_elsewhere r.deep.sound (holds a l k held w g r is).inside r.segments r.linked
        (subst (λ (e : Era). Segment a g.depths (words_by_place w) (w' (Stamp k.map k.segment)) e k.map k.segment (g.linked k.map))
        (sym (put2-same g.eras k.map k.segment k.map k.segment era' refl refl))
        (subst (λ (n : ℕ). Segment a g.depths (words_by_place w) n era' k.map k.segment (g.linked k.map)) (sym (put_here w (Stamp k.map k.segment) v)) own));
    locking = locking_step a g.depths k.map k.segment l.cpu (words_by_place w) (words_by_place w) _ _ g.eras unlocked.eras g.linked g.linked
        g.holder g.holder unlock_elsewhere r.deep.sound (holds a l k held w g r is).inside g.lanes.locks rest r.locking
        (alone a l k held w g r is) rest_stays;
    held = held_step a g.depths k.map k.segment l.cpu _ _ g.eras unlocked.eras g.lanes.locks rest inside r.held
        (λ odd. absurd (let z : w' (Stamp k.map k.segment) % 2 ≡ v % 2 = ap (λ (n : ℕ). n % 2) (put_here w (Stamp k.map k.segment) v) in
        let e = at_rest in omega arith))
        (λ n t _ ne. (
          put_else w (Stamp k.map k.segment) (Stamp n t) v (stamp_apart k.map k.segment n t ne),
          put2-other g.eras k.map k.segment n t era' ne,
          sym (ap (times_lock n t) (ap (λ (z : Known). z.locks) is ∙ held) ∙ (let z = lock_else k.map k.segment n t ne in omega arith)),
        ));
    reading = readings_step a g.depths k.map k.segment g.eras unlocked.eras g.lanes.readings (record {
      same_eras = λ n t ne. put2-other g.eras k.map k.segment n t era' ne;
      up = subst (λ (y : Era). (g.eras k.map k.segment).era ≤ y.era) (sym (put2-same g.eras k.map k.segment k.map k.segment era' refl refl)) up;
      stays = λ i even le eq.
          let z = put2-same g.eras k.map k.segment k.map k.segment era' refl refl in
          let q = stays i even le (eq ∙ ap (λ (y : Era). y.era) z) in (q.0, ap (λ (y : Era). y.old) z ∙ q.1);
    }) r.reading;
    valued = r.valued;
    shown = r.shown;
  }

-- with the next version, where something took effect: the copy shows it
pub unlock_new : (a : About) (l : Known) (k : Lock) (held : l.locks ≡ k ∷ []) (w : Place → ℕ) (g : Ghost) (r : Rule a w g)
    (is : lane g.lanes l.cpu ≡ l) (inside : l.cpu < a.shape.cpus) → owed k.change ≡ 1 → IsWritten a k
    → (e : Era) × Rule a (put_at w (Stamp k.map k.segment) (k.stamp + 256)) (unlocked a l k held w g r is inside tt e (k.stamp + 256))
unlock_new a l k held w g r is inside owes written = (
  era',
  unlock_rule a l k held w g r is inside tt era' (k.stamp + 256) (let z = h.even in omega arith)
      (let z : stamp_depth (k.stamp + 256) ≡ stamp_depth k.stamp = omega arith in z ∙ h.deep) own
      (let z = low a l k held w g r is in let o = h.locked in omega arith)
      (λ i even le eq. absurd (let z = low a l k held w g r is in let o = h.locked in omega arith))
      (let b = r.worn k.map k.segment h.inside in let o = h.locked in let c = h.credit ∙ owes in let z = h.even in
      let q : (k.stamp + 256) / 256 ≡ (k.stamp + 1) / 256 + 1 = omega arith in
      let y : w (Stamp k.map k.segment) / 256 ≡ (k.stamp + 1) / 256 = ap (λ (i : ℕ). i / 256) o in omega arith),
)
  where
    h : Holds a g.depths (words_by_place w) (λ n t. w (Stamp n t)) g.eras g.linked g.holder l.cpu k
    h = holds a l k held w g r is

    era' : Era
    era' = record { era = k.stamp + 256; writer = l.cpu; dirty = false; credit = 0; old = image a k.copy }

    share : IsShare a.seed (shape_at a k.map) (lock_home a k) (image a k.copy) k.map k.segment (g.linked k.map)
    share = share_same a.seed (shape_at a k.map) (lock_home a k) (image a k.copy) k.map k.segment (changed k.change h.due.0)
        (g.linked k.map) (λ q home. h.due.2 q home) (written h.due.0 h.due.1)

    own : Segment a g.depths (words_by_place w) (k.stamp + 256) era' k.map k.segment (g.linked k.map)
    own = record {
      at_rest = λ _. refl;
      clean = λ _. (
        (let z = h.even in omega arith),
        record {
          head = h.copied.head;
          hop = h.copied.hop;
          slot = h.copied.slot;
          link = λ e on. h.copied.link e (mind e on);
          key = λ e j on. h.copied.key e j (mind e on);
        },
      );
      written = λ d. absurd (true≢false (sym d));
      shows = λ _. subst (λ (i : ℕ). IsShare a.seed (shape_at a k.map) (home_by a k.map i) (image a k.copy) k.map k.segment (g.linked k.map)) h.deep share;
    }
      where
        mind : (e : ℕ) → Reached (image a k.copy) k.map k.segment e → Minded (lock_home a k) l.cpu k.segment (g.holder k.map e)
        mind e on = let t = share.each e on in subst (Minded (lock_home a k) l.cpu k.segment) (sym (r.linked.within k.map t.0 e t.3).1) t.2

-- with the same version, where nothing was changed
pub unlock_same : (a : About) (l : Known) (k : Lock) {rest : List Lock} (held : l.locks ≡ k ∷ rest) (w : Place → ℕ) (g : Ghost)
    (r : Rule a w g) (is : lane g.lanes l.cpu ≡ l) (inside : l.cpu < a.shape.cpus) (elsewhere : AreElsewhere k rest) → k.dirty ≡ false
    → (e : Era) × Rule a (put_at w (Stamp k.map k.segment) k.stamp) (unlocked a l k held w g r is inside elsewhere e k.stamp)
unlock_same a l k held w g r is inside elsewhere none = (
  era',
  unlock_rule a l k held w g r is inside elsewhere era' k.stamp h.even h.deep own (let z = (seg.clean clean).0 in omega arith) (λ i even le eq. (eq, refl))
      (let b = r.worn k.map k.segment h.inside in let o = h.locked in let z = h.even in
      let q : (k.stamp + 1) / 256 ≡ k.stamp / 256 = omega arith in
      let y : w (Stamp k.map k.segment) / 256 ≡ (k.stamp + 1) / 256 = ap (λ (i : ℕ). i / 256) o in omega arith),
)
  where
    h : Holds a g.depths (words_by_place w) (λ n t. w (Stamp n t)) g.eras g.linked g.holder l.cpu k
    h = holds a l k held w g r is

    seg : Segment a g.depths (words_by_place w) (w (Stamp k.map k.segment)) (g.eras k.map k.segment) k.map k.segment (g.linked k.map)
    seg = segment a l k held w g r is

    clean : (g.eras k.map k.segment).dirty ≡ false
    clean = h.dirty ∙ none

    era' : Era
    era' = record { era = (g.eras k.map k.segment).era; writer = l.cpu; dirty = false; credit = 0; old = (g.eras k.map k.segment).old }

    own : Segment a g.depths (words_by_place w) k.stamp era' k.map k.segment (g.linked k.map)
    own = record {
      at_rest = λ _. refl;
      clean = λ _. ((let z = (seg.clean clean).0 in let o = h.locked in let e = h.even in omega arith), (seg.clean clean).1);
      written = λ d. absurd (true≢false (sym d));
      shows = λ _. seg.shows clean;
    }

-- ---- lock
abbrev is_within : (List ℕ → ℕ) → ℕ → Holder → Bool
is_within home s (Within key) = home key == s
is_within home s x = false

-- the numbers below n that pass a test
abbrev listing : ℕ → (ℕ → Bool) → List ℕ
listing zero p = []
listing (suc n) p = if p n then n ∷ listing n p else listing n p

listing_has : (n : ℕ) (p : ℕ → Bool) (e : ℕ) → has e (listing n p) ≡ true → (e < n) × (p e ≡ true)
listing_has zero p e h = absurd (true≢false (sym h))
listing_has (suc n) p e h = go (p n) refl (λ k. listing_has n p e k)
  where
    go : (b : Bool) → p n ≡ b → (has e (listing n p) ≡ true → (e < n) × (p e ≡ true)) → (e < suc n) × (p e ≡ true)
    go false is t0 = let t = t0 (subst (λ (b : Bool). has e (if b then n ∷ listing n p else listing n p) ≡ true) is h) in let z = t.0 in (omega arith, t.1)
    go true is t0 = here (e == n) refl (subst (λ (b : Bool). has e (if b then n ∷ listing n p else listing n p) ≡ true) is h) t0
      where
        here : (b : Bool) → (e == n) ≡ b → (e == n) || has e (listing n p) ≡ true → (has e (listing n p) ≡ true → (e < n) × (p e ≡ true)) →
            (e < suc n) × (p e ≡ true)
        here true same k t0 = let z : e ≡ n = one e n same in (omega arith, ap p z ∙ is)
        here false same k t0 = let t = t0 (subst (λ (b : Bool). b || has e (listing n p) ≡ true) same k) in let z = t.0 in (omega arith, t.1)

or_true : (b : Bool) → (b || true) ≡ true
or_true true = refl
or_true false = refl

has_listing : (n : ℕ) (p : ℕ → Bool) (e : ℕ) → e < n → p e ≡ true → has e (listing n p) ≡ true
has_listing zero p e l is = absurd (omega arith)
has_listing (suc n) p e l is = here (e == n) refl (λ k. has_listing n p e k is)
  where
    later : (b : Bool) → has e (listing n p) ≡ true → has e (if b then n ∷ listing n p else listing n p) ≡ true
    later true t = (λ j. (e == n) || t j) ∙ or_true (e == n)
    later false t = t

    here : (b : Bool) → (e == n) ≡ b → (e < n → has e (listing n p) ≡ true) → has e (listing (suc n) p) ≡ true
    here true same t = let z : e ≡ n = one e n same in subst (λ (b : Bool). has e (if b then n ∷ listing n p else listing n p) ≡ true)
        (sym (ap p (sym z) ∙ is)) (λ j. same j || has e (listing n p))
    here false same t = let z : e ≢ n = (λ h. true≢false (sym (eq-eqb e n h) ∙ same)) in later (p n) (t (omega arith))

within_is : (home : List ℕ → ℕ) (s : ℕ) (x : Holder) → is_within home s x ≡ true → (key : List ℕ) × (x ≡ Within key) × (home key ≡ s)
within_is home s Free p = absurd (true≢false (sym p))
within_is home s (Filling c) p = absurd (true≢false (sym p))
within_is home s (Leaving c) p = absurd (true≢false (sym p))
within_is home s (Within key) p = (key, refl, one (home key) s p)

-- ---- depths
-- what a CPU knows to be born is born
pub known_born : (a : About) (w : Place → ℕ) (g : Ghost) (r : Rule a w g) (l : Known) (is : lane g.lanes l.cpu ≡ l) (m s : ℕ) → m < length
    a.shape.maps → KnowsBorn a l m s → IsBorn a g.depths m s
known_born a w g r l is m s in_m (First e) = (
  in_m,
  (let z = e in let o = some_power (depth (shape_at a m)) in omega arith),
  ap
      (is_born (g.depths m) (depth (shape_at a m))) e ∙ born_first (g.depths m) (depth (shape_at a m)),
)
known_born a w g r l is m s in_m (Whole all few) = (in_m, few, go (depth (shape_at a m)) s few (omega arith))
  where
    go : (n t : ℕ) → t < power n → n ≤ depth (shape_at a m) → is_born (g.depths m) n t ≡ true
    go zero t lt le = let e : t ≡ 0 = omega arith in ap (λ (i : ℕ). i == 0) e
    go (suc n) t lt le = ⊎_elim
        (λ (low : t < power n). low_is (g.depths m) n t low ∙ go n t low (omega arith))
        (λ (high : power n ≤ t).
        let up = power_mono n (depth (shape_at a m)) (omega arith) in
        let z = r.deep.whole m (t - power n) in_m (omega arith) all in
        high_is (g.depths m) n t high ∙ and_from _ _ (lt-ltb n (g.depths m (t - power n)) (omega arith)) (go n (t - power n) (omega arith) (omega arith)))
        (cases_lt t (power n))
known_born a w g r l is m s in_m (Seen rd h e f) =
    let q = (subst (Each (IsSoundReading a g.depths g.eras)) (ap (λ (x : Known). x.readings) is ∙ h) (r.reading l.cpu)).0 in
    subst (λ (i : ℕ). IsBorn a g.depths i s) e (subst (λ (j : ℕ). IsBorn a g.depths rd.map j) f q.inside)
known_born a w g r l is m s in_m (Child rd u h e small deep f) =
    let q = (subst (Each (IsSoundReading a g.depths g.eras)) (ap (λ (x : Known). x.readings) is ∙ h) (r.reading l.cpu)).0 in
    let b = q.inside in
    let k = r.deep.sound rd.map b.0 rd.segment b.2 in
    let c = born_child (g.depths rd.map) (depth (shape_at a rd.map)) rd.segment u b.2 small (let z = q.deep in omega arith)
    (let z = q.deep in let y = k.1 in omega arith) in
    let born : IsBorn a g.depths rd.map (rd.segment + power u) = (b.0, born_small (g.depths rd.map) (depth (shape_at a rd.map)) (rd.segment + power u) c, c) in
    subst (λ (i : ℕ). IsBorn a g.depths i s) e (subst (λ (j : ℕ). IsBorn a g.depths rd.map j) (sym f) born)

module _ (a : About) (l : Known) (m s old : ℕ) (in_m : m < length a.shape.maps) (knows : KnowsBorn a l m s) (even : old % 2 ≡ 0)
    (ws : List ℕ) (g : Ghost) (sized : length ws ≡ size a.shape) (r : Rule a (mem a.shape ws) g) (is : lane g.lanes l.cpu ≡ l)
    (inside : l.cpu < a.shape.cpus) (found : mem a.shape ws (Stamp m s) ≡ old) where
  at_s : IsBorn a g.depths m s
  at_s = known_born a (mem a.shape ws) g r l is m s in_m knows

  says : stamp_depth old ≡ g.depths m s
  says = ap stamp_depth (sym found) ∙ r.deep.stamped m s at_s

  abbrev pub lw : Place → ℕ
  lw = mem a.shape ws

  abbrev lw' : Place → ℕ
  lw' = put_at lw (Stamp m s) (old + 1)

  abbrev pub new_lock : Lock
  new_lock = record {
    map = m;
    segment = s;
    stamp = old;
    first = ws;
    copy = ws;
    change = Nothing;
    known = listing (elements (shape_at a m))
        (λ e. is_within (home_by a m (stamp_depth old)) s (g.holder m e));
    dirty = false;
  }

  abbrev pub lock_era : Era
  lock_era = record { era = (g.eras m s).era; writer = l.cpu; dirty = false; credit = 0; old = (g.eras m s).old }

  abbrev pub locked_ghost : Ghost
  locked_ghost = record g {
    lanes = record g.lanes { locks = put g.lanes.locks l.cpu (new_lock ∷ l.locks); readings = put g.lanes.readings l.cpu [] };
    eras = put g.eras m (put (g.eras m) s lock_era);
  }

  lock_elsewhere : Elsewhere a g.depths m s l.cpu (words_by_place lw) (words_by_place lw) (λ n t. lw (Stamp n t)) (λ n t. lw' (Stamp n t))
      g.eras locked_ghost.eras g.linked g.linked g.holder g.holder
  lock_elsewhere = only_stamp _ _ _ _ _ _ _ _ _ _ _ _ (λ n t ne. put_else lw (Stamp m s) (Stamp n t) (old + 1) (stamp_apart m s n t ne))
      (λ n t ne. put2-other g.eras m s n t lock_era ne)

  lock_seg : Segment a g.depths (words_by_place lw) (lw (Stamp m s)) (g.eras m s) m s (g.linked m)
  lock_seg = r.segments m s at_s

  at_rest : (g.eras m s).dirty ≡ false
  at_rest = lock_seg.at_rest (ap (λ (n : ℕ). n % 2) found ∙ even)

  lock_share : IsShare a.seed (shape_at a m) (home_by a m (stamp_depth old)) (image a ws) m s (g.linked m)
  lock_share = subst (λ (i : ℕ). IsShare a.seed (shape_at a m) (home_by a m i) (image a ws) m s (g.linked m)) (sym says)
      (share_agrees a.seed (shape_at a m) (home_by a m (g.depths m s)) (words_by_place lw) (g.eras m s).old m s (g.linked m)
      (lock_seg.clean at_rest).1 (lock_seg.shows at_rest))

  era_now : locked_ghost.eras m s ≡ lock_era
  era_now = put2-same g.eras m s m s lock_era refl refl

  stamp_now : lw' (Stamp m s) ≡ old + 1
  stamp_now = put_here lw (Stamp m s) (old + 1)

  lock_held : Holds a g.depths (words_by_place lw) (λ n t. lw' (Stamp n t)) locked_ghost.eras g.linked g.holder l.cpu new_lock
  lock_held = record {
    inside = at_s;
    deep = says;
    even = even;
    locked = stamp_now;
    writer = ap (λ (y : Era). y.writer) era_now;
    dirty = ap (λ (y : Era). y.dirty) era_now;
    credit = ap (λ (y : Era). y.credit) era_now;
    untouched = λ d. (refl, refl);
    sized = sized;
    copied = record { head = refl; hop = λ b. refl; slot = λ b. refl; link = λ e on. refl; key = λ e j on. refl };
    beside = record { head = refl; hop = λ b. refl; slot = λ b. refl };
    beside_stamp = put_else lw (Stamp m s) (Stamp m (child new_lock)) (old + 1)
        (stamp_apart m s m (child new_lock) (λ _ e. let o = some_power (stamp_depth old) in omega arith));
    due = (g.linked m, lock_share, λ q home. refl);
  }

  nobody : (d : ℕ) (k2 : Lock) → Holds a g.depths (words_by_place lw) (λ n t. lw (Stamp n t)) g.eras g.linked g.holder d k2 → k2.map ≡ m → k2.segment ≢ s
  nobody d k2 p h u = let o : lw (Stamp k2.map k2.segment) ≡ k2.stamp + 1 = p.locked in let z = p.even in
      let y : lw (Stamp k2.map k2.segment) ≡ lw (Stamp m s) = λ j. lw (Stamp (h j) (u j)) in let f = found in let e = even in omega arith

  -- the locks that the lane has already
  own_stay : Each (Holds a g.depths (words_by_place lw) (λ n t. lw' (Stamp n t)) locked_ghost.eras g.linked g.holder l.cpu) l.locks
  own_stay = each_else a g.depths m s (suc l.cpu) (words_by_place lw) (words_by_place lw) _ _ g.eras locked_ghost.eras g.linked g.linked g.holder g.holder
      (only_stamp _ _ _ _ _ _ _ _ _ _ _ _ (λ n t ne. put_else lw (Stamp m s) (Stamp n t) (old + 1) (stamp_apart m s n t ne))
      (λ n t ne. put2-other g.eras m s n t lock_era ne))
      r.deep.sound at_s l.cpu l.locks (λ (e : l.cpu ≡ suc l.cpu). omega arith) (λ k2 p. nobody l.cpu k2 p)
      (subst (Each (Holds a g.depths (words_by_place lw) (λ n t. lw (Stamp n t)) g.eras g.linked g.holder l.cpu))
      (ap (λ (x : Known). x.locks) is) (r.locking l.cpu))

  none_read : Readings a g.depths locked_ghost.eras g.lanes.readings → Readings a g.depths locked_ghost.eras (put g.lanes.readings l.cpu [])
  none_read p d = ⊎_elim
      (λ (t : d ≡ l.cpu). subst (Each (IsSoundReading a g.depths locked_ghost.eras)) (sym (put-same g.lanes.readings l.cpu d [] t)) tt)
      (λ (ne : d ≢ l.cpu). subst (Each (IsSoundReading a g.depths locked_ghost.eras)) (sym (put-other g.lanes.readings l.cpu d [] ne)) (p d))
      (cases_eq d l.cpu)

  lock_rule : Rule a lw' locked_ghost
  lock_rule = record {
    shaped = r.shaped;
    fixed = r.fixed;
    deep = deep_step a g.depths m s _ _ r.deep (λ n t ne. put_else lw (Stamp m s) (Stamp n t) (old + 1) (stamp_apart m s n t ne))
        (ap stamp_depth stamp_now ∙ ((let z = even in let q : stamp_depth (old + 1) ≡ stamp_depth old = omega arith in q) ∙ says));
    logged = r.logged;
    keyed = r.keyed;
    worn = λ n t in_s. ⊎_elim
        (λ (h : (n ≡ m) × (t ≡ s)).
        let z = ap (λ (y : Era). y.credit) (put2-same g.eras m s n t lock_era h.0 h.1) in
        let y : lw' (Stamp n t) ≡ old + 1 = (λ j. lw' (Stamp (h.0 j) (h.1 j))) ∙ stamp_now in
        let f : lw (Stamp n t) ≡ old = (λ j. lw (Stamp (h.0 j) (h.1 j))) ∙ found in
        let e : lw' (Stamp n t) / 256 ≡ (old + 1) / 256 = ap (λ (i : ℕ). i / 256) y in
        let e' : lw (Stamp n t) / 256 ≡ old / 256 = ap (λ (i : ℕ). i / 256) f in
        let q : (old + 1) / 256 ≡ old / 256 = (let x = even in omega arith) in
        let b = r.worn n t in_s in
        omega arith)
        (λ (ne : n ≡ m → t ≢ s).
        let z = ap (λ (y : Era). y.credit) (put2-other g.eras m s n t lock_era ne) in
        let e : lw' (Stamp n t) / 256 ≡ lw (Stamp n t) / 256 = ap (λ (i : ℕ). i / 256)
        (put_else lw (Stamp m s) (Stamp n t) (old + 1) (stamp_apart m s n t ne)) in
        let b = r.worn n t in_s in
        omega arith)
        (here_or m n s t);
    runs = r.runs;
    batched = r.batched;
    owned = r.owned;
    linked = r.linked;
    filled = r.filled;
    segments = segments_step a g.depths m s l.cpu (words_by_place lw) (words_by_place lw) _ _ g.eras locked_ghost.eras g.linked g.linked
        g.holder g.holder lock_elsewhere r.deep.sound at_s r.segments r.linked
        (subst (λ (e : Era). Segment a g.depths (words_by_place lw) (lw' (Stamp m s)) e m s (g.linked m)) (sym era_now) (record {
          at_rest = λ _. refl;
          clean = λ _. ((let z = (lock_seg.clean at_rest).0 in let f = found in let y = stamp_now in let e = even in omega arith), (lock_seg.clean at_rest).1);
          written = λ d. absurd (true≢false (sym d));
          shows = λ _. lock_seg.shows at_rest;
        }));
    locking = locking_step a g.depths m s l.cpu (words_by_place lw) (words_by_place lw) _ _ g.eras locked_ghost.eras g.linked g.linked
        g.holder g.holder lock_elsewhere r.deep.sound at_s g.lanes.locks (new_lock ∷ l.locks) r.locking (λ d k2 apart p. nobody d k2 p)
        (lock_held, own_stay);
    held = held_step a g.depths m s l.cpu _ _ g.eras locked_ghost.eras g.lanes.locks (new_lock ∷ l.locks) inside r.held
        (λ odd. (ap (λ (y : Era). y.writer) era_now, (let z = lock_once new_lock in omega arith)))
        (λ n t _ ne. (
          put_else lw (Stamp m s) (Stamp n t) (old + 1) (stamp_apart m s n t ne),
          put2-other g.eras m s n t lock_era ne,
          (let z = lock_else m s n t ne in
              let y : times_lock n t (g.lanes.locks l.cpu) ≡ times_lock n t l.locks = ap (times_lock n t) (ap (λ (z : Known). z.locks) is) in
              omega arith),
        ));
    reading = none_read (readings_step a g.depths m s g.eras locked_ghost.eras g.lanes.readings (record {
      same_eras = λ n t ne. put2-other g.eras m s n t lock_era ne;
      up = subst (λ (y : Era). (g.eras m s).era ≤ y.era) (sym era_now) (omega arith);
      stays = λ i ev le eq. (eq ∙ ap (λ (y : Era). y.era) era_now, ap (λ (y : Era). y.old) era_now);
    }) r.reading);
    valued = r.valued;
    shown = r.shown;
  }

  key_words : (fs : List Fresh) → Each (λ (f : Fresh). StartsWith f.key (λ j. lw (KeyWord f.map f.element j)) × StartsWith f.value
      (λ j. lw (ValueWord f.map f.element j))) fs → Each (λ (f : Fresh). StartsWith f.key ((image a ws).key f.map f.element)) fs
  key_words [] p = tt
  key_words (f ∷ fs) p = (p.0.0, key_words fs p.1)

  lane_is : lane g.lanes l.cpu ≡ l
  lane_is = is

  apart_of : (f : Fresh) (rest : List Fresh) → l.fresh ≡ f ∷ rest → f.map ≡ m → (b : Bool) → has f.element
      (listing (elements (shape_at a m)) (λ e. is_within (home_by a m (stamp_depth old)) s (g.holder m e))) ≡ b → b ≡ false
  apart_of f rest h u false is = refl
  apart_of f rest h u true is =
      let b = listing_has (elements (shape_at a m)) (λ e. is_within (home_by a m (stamp_depth old)) s (g.holder m e)) f.element is in
      let w = (within_is (home_by a m (stamp_depth old)) s (g.holder m f.element) b.1) in
      let fill = in_hand a _ g.lanes.fresh g.lanes.limbo g.holder l.cpu m f rest r.owned inside (at_s.0, b.0) u (ap (λ (x : Known). x.fresh) lane_is ∙ h) in
      let z : Filling l.cpu ≡ Within w.0 = sym fill ∙ w.1 in
      cc

  -- the lane, as its lock is noted
  locked_lane : sighted (lane locked_ghost.lanes l.cpu) (lock_taken m s old) ≡ locking l m s old ws
      (listing (elements (shape_at a m)) (λ e. is_within (home_by a m (stamp_depth old)) s (g.holder m e)))
  locked_lane = rw (eq-eqb l.cpu l.cpu refl) (ap (λ (x : Known). record x
      { locks = new_lock ∷ l.locks; readings = []; tally = lock_taken m s old ∷ x.tally }) is)

  -- no key is at home in two of the lane's segments
  lock_others : (ks : List Lock) → Each (Holds a g.depths (words_by_place lw) (λ n t. lw (Stamp n t)) g.eras g.linked g.holder l.cpu) ks
      → Each (λ (k2 : Lock). k2.map ≡ m → (key : List ℕ) → IsHomeIn a k2 key → home_by a m (stamp_depth old) key ≢ s) ks
  lock_others [] p = tt
  lock_others (k2 ∷ ks) p = (
    (λ e key home here. nobody l.cpu k2 p.0 e (one_home a g.depths m s k2.map k2.segment key at_s p.0.inside e
        (ap (λ (i : ℕ). home_by a m i key) (sym says) ∙ here) (ap (λ (i : ℕ). home_by a k2.map i key) (sym p.0.deep) ∙ home))),
    lock_others ks p.1,
  )

  lock_told : LocksSegment a l m s old (sighted (lane locked_ghost.lanes l.cpu) (lock_taken m s old))
  lock_told = record {
    words = ws;
    sized = sized;
    deep = record {
      room = subst (λ (i : ℕ). s < power i) (sym says) (r.deep.sound m in_m s at_s.2).0;
      most =
          (let z = says in let y = (r.deep.sound m in_m s at_s.2).1 in omega arith);
      whole = λ no. says ∙ r.deep.whole m s in_m at_s.1 no;
    };
    after = locked_lane;
    content = g.linked m;
    share = lock_share;
    filled = key_words l.fresh (subst (Each (λ (f : Fresh). StartsWith f.key (λ j. lw (KeyWord f.map f.element j)) × StartsWith f.value
        (λ j. lw (ValueWord f.map f.element j)))) (ap (λ (x : Known). x.fresh) is) (r.filled l.cpu inside));
    known = listing (elements (shape_at a m)) (λ e. is_within (home_by a m (stamp_depth old)) s (g.holder m e));
    known_is = λ e k.
        let b = listing_has (elements (shape_at a m)) (λ e. is_within (home_by a m (stamp_depth old)) s (g.holder m e)) e k in
        let at_e : HasElement a m e = (at_s.0, b.0) in
        let w = within_is (home_by a m (stamp_depth old)) s (g.holder m e) b.1 in
        (at_e.1, (w.0, r.linked.leads m e w.0 at_e w.1, w.2));
    apart = λ f rest h u. apart_of f rest h u _ refl;
    is_known = λ key e is home.
        let q = r.linked.within m key e is in (
          q.0.1,
          has_listing (elements (shape_at a m)) (λ e. is_within (home_by a m (stamp_depth old)) s (g.holder m e)) e q.0.1
              (ap (is_within (home_by a m (stamp_depth old)) s) q.1 ∙ eq-eqb _ _ home),
        );
    others = lock_others l.locks (subst (Each (Holds a g.depths (words_by_place lw) (λ n t. lw (Stamp n t)) g.eras g.linked g.holder l.cpu))
        (ap (λ (x : Known). x.locks) is) (r.locking l.cpu));
    room = λ clean. subst (KeysHaveRoom a m) (sym (ap (λ (x : Known). x.locks) locked_lane))
        (room_for a lw' locked_ghost lock_rule (lane locked_ghost.lanes l.cpu) refl inside m at_s.0 (new_lock ∷ l.locks)
        (shares_of a g.depths l.cpu (words_by_place lw) (λ n t. lw' (Stamp n t)) locked_ghost.eras g.linked g.holder (new_lock ∷ l.locks)
        (lock_held, own_stay) (refl, clean)));
  }

pub lock : (a : About) (l : Known) (m s old : ℕ) → m < length a.shape.maps → KnowsBorn a l m s → old % 2 ≡ 0
    → Steps a l (Stamp m s) (λ n. either (n == old) (old + 1) n)
    (λ ws n l'. (n ≡ old → LocksSegment a l m s old (sighted l' (lock_taken m s old))) × (n ≢ old → l' ≡ l))
lock a l m s old in_m knows even ws g sized r is inside fits =
    let w = mem a.shape ws in
    exchanged (w (Stamp m s)) old (old + 1) (λ n. Next a (put_at w (Stamp m s) n) g l.cpu
    (λ l'. (w (Stamp m s) ≡ old → LocksSegment a l m s old (sighted l' (lock_taken m s old))) × (w (Stamp m s) ≢ old → l' ≡ l)))
    (λ found. record {
      ghost = locked_ghost a l m s old in_m knows even ws g sized r is inside found;
      rule = lock_rule a l m s old in_m knows even ws g sized r is inside found;
      others = λ d ne. rw (ne_eqb d l.cpu ne) refl;
      longer = prefix_refl g.log;
      tally = refl;
      says = ((λ _. lock_told a l m s old in_m knows even ws g sized r is inside found), (λ ne. absurd (ne found)));
    })
    (λ ne. stay a w g l.cpu (Stamp m s) _ r ((λ found. absurd (ne found)), (λ _. is)))
