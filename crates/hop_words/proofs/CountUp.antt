-- Count up: the compare-exchange by which the insertion of a new key takes effect.
use Rattle.std.proofs.Common.{◌≡◌, ◌≢◌, ℕ, ◌+◌, ◌%◌, ◌<◌, ◌≤◌, Bool, true, false, true≢false, not, ◌&&◌, List, [], ◌∷◌, ◌++◌, Option, Some}
use Rattle.std.proofs.Common.{None, is_some, ◌==◌, take, refl, ap, sym, subst, ◌∙◌, arith, eq-eqb, ne_eqb, ⊎_elim, inl, inr}
use Rattle.std.proofs.lemmas.Bool.Decides.{nat_tests}
use Rattle.std.specs.FinMap.{get, len}
use Rattle.atomic_table.proofs.Lists.{exchanged}
use prog.Atomic.{either}
use Rattle.bpf_shared.specs.declared.events.Event.{Event}
use Rattle.bpf_shared.specs.declared.events.Event.TheVariants.{Update}
use Rattle.bpf_shared.specs.declared.events.Entry.{Entry}
use Rattle.bpf_shared.specs.declared.events.MapAnswer.TheVariants.{Done, Invalid, Exists, Absent, Full}
use Rattle.bpf_shared.specs.First.{first_of}
use Rattle.bpf_shared.specs.Shape.{element_span}
use Rattle.bpf_shared.specs.Store.{Plain, Value, put, fixed_count}
use Rattle.bpf_shared.specs.Events.{Allowed, after_update}
use Rattle.bpf_shared.specs.History.{entry, events_of}
use Rattle.bpf_shared.specs.Own.{in_run}
use Rattle.bpf_shared.proofs.Puts.{put-same}
use Rattle.hop_layout.specs.declared.place.Place.{Place}
use Rattle.hop_layout.specs.declared.place.Place.TheVariants.{RunCount, KeyCount, Stamp, ValueWord, FixedWord}
use Rattle.hop_layout.specs.declared.about.About.{About}
use Rattle.hop_words.specs.declared.known.Known.{Known}
use Rattle.hop_words.specs.declared.known.Fresh.{Fresh}
use Rattle.hop_words.specs.declared.known.Lock.{Lock}
use Rattle.hop_words.specs.declared.known.Change.TheVariants.{Puts}
use Rattle.hop_layout.specs.Layout.{mem, put_at, words_for}
use Rattle.hop_words.specs.Shortage.{is_update, HasHadValue}
use Rattle.hop_layout.specs.Words.{bytes_of_words}
use Rattle.hop_words.specs.Content.{words_by_place, one_if}
use Rattle.hop_words.specs.Ghost.{Free, Filling, Within, lane, Era, Ghost, shape_at, HasElement, Each, lock_home}
use Rattle.hop_words.specs.Rule.{times_fresh, Rule, Worn, Minded, put_key, changed, Holds, Segment, numbered, owed, Keyed, times_lock}
use Rattle.hop_words.specs.Private.Step.{Next, Steps}
use Rattle.hop_words.specs.Kinds.{Inserts, Inserted}
use Rattle.hop_words.proofs.Small.{equal_keys, here_or, put2-same, put2-other, put_key-same, put_key-other}
use Rattle.hop_words.proofs.Spelling.{value_spelled}
use Rattle.hop_words.proofs.Histories.{logged_event, done_in-append}
use Rattle.hop_words.proofs.Shortages.{begun_answer, causes_on, empty_still, run_quiet, had_update, new_update, settles_put, shown_step, hand_held, hand_rest}
use Rattle.hop_words.proofs.Comes.{in_hand, now_old, linked_comes, owned_comes, keyed_comes, batched_comes, filled_rest, valued_comes}
use Rattle.hop_words.proofs.Segs.{Elsewhere, segments_step, locking_step, Upward, readings_step, held_step, lock_once, one_home}
use Rattle.hop_words.proofs.Stays.{stay, next_as, saw, running_is, map_there, runs_quiet, place_for, shape_is}
use Rattle.hop_words.specs.Depths.{home_by}
use Rattle.hop_words.proofs.FixedPlaces.{fixed_later, sound}

pub four : (b0 b1 b2 b3 : Bool) → b0 ≡ false → b1 ≡ false → b2 ≡ false → b3 ≡ false → first_of
    ((Invalid, b0) ∷ (Exists, b1) ∷ (Absent, b2) ∷ (Full, b3) ∷ []) ≡ None
four b0 b1 b2 b3 e0 e1 e2 e3 = rw (e0, e1, e2, e3) refl

pub and_false : (x : Bool) → x && false ≡ false
and_false true = refl
and_false false = refl

is_done_here : (m : ℕ) (b : Bool) → b ≡ true → one_if b + 0 ≡ 1
is_done_here m b e = rw e refl

module _ (a : About) (l : Known) (k : Lock) (f : Fresh) (rest : List Fresh) (key bytes : List ℕ) (flags old : ℕ) (i : Inserts a l k f rest key bytes flags old)
    (w : Place → ℕ) (g : Ghost) (r : Rule a w g) (is : lane g.lanes l.cpu ≡ l) (inside : l.cpu < a.shape.cpus) where
  c : ℕ
  c = l.cpu

  abbrev m : ℕ
  m = k.map

  abbrev s : ℕ
  s = k.segment

  abbrev e : ℕ
  e = f.element

  holds : Holds a g.depths (words_by_place w) (λ n t. w (Stamp n t)) g.eras g.linked g.holder l.cpu k
  holds = (subst (Each (Holds a g.depths (words_by_place w) (λ n t. w (Stamp n t)) g.eras g.linked g.holder l.cpu))
      (ap (λ (x : Known). x.locks) is ∙ i.filled.lock) (r.locking l.cpu)).0

  at_e : HasElement a m e
  at_e = (holds.inside.0, i.filled.element)

  hand : g.lanes.fresh l.cpu ≡ f ∷ rest
  hand = ap (λ (x : Known). x.fresh) is ∙ i.filled.hand

  was : g.holder m e ≡ Filling l.cpu
  was = in_hand a _ g.lanes.fresh g.lanes.limbo g.holder l.cpu m f rest r.owned inside at_e i.filled.map hand

  none : g.linked m key ≡ None
  none = holds.due.2 key i.filled.home ∙ (ap (λ x. changed x holds.due.0 key) i.filled.nothing ∙ i.absent holds.due.0 holds.due.1)

  abbrev x : Value
  x = record { bytes = bytes; span = element_span m (shape_at a m) e }

  abbrev event : Event
  event = Update m key bytes flags Done

  abbrev log' : List Entry
  log' = g.log ++ entry l.cpu event ∷ []

  abbrev last' : Plain
  last' = after_update g.last m key x

  abbrev k' : Lock
  k' = record k { change = Puts key e; dirty = true }

  abbrev era' : Era
  era' = record { era = w (Stamp m s); writer = l.cpu; dirty = true; credit = 1; old = (g.eras m s).old }

  abbrev g' : Ghost
  g' = record {
    log = log';
    last = last';
    lanes = record g.lanes { seen = put g.lanes.seen l.cpu log'; fresh = put g.lanes.fresh l.cpu rest; locks = put g.lanes.locks l.cpu (k' ∷ []) };
    holder = put g.holder m (put (g.holder m) e (Within key));
    number = put g.number m (put (g.number m) e g.last.made);
    linked = put g.linked m (put_key (g.linked m) key (Some e));
    taker = g.taker;
    depths = g.depths;
    eras = put g.eras m (put (g.eras m) s era');
  }

  get_none : get (g.last.maps m) key ≡ None
  get_none = r.keyed.leads m key ∙ ap (λ o. numbered (g.number m) o) none

  may : w (KeyCount m) ≡ old → Allowed g.last l.cpu event last'
  may found = (
    running_is a w g r l is inside i.filled.runs,
    (
      shape_at a m,
      map_there a w g r l is inside m holds.inside.0,
      i.filled.key_size,
      i.filled.size,
      (
        four _ _ _ _ (let t = i.flags_known in grind (arith, nat_tests))
            (ap (λ (o : Option ℕ). (flags == 1) && is_some o) get_none ∙ and_false (flags == 1))
            (ap (λ (b : Bool). b && not (is_some (get (g.last.maps m) key))) (ne_eqb flags 2 (λ (q : flags ≡ 2). let t = i.flags_known in omega arith)))
            (ap (λ (b : Bool). not (is_some (get (g.last.maps m) key)) && b)
            (ne_eqb (len (g.last.maps m)) (shape_at a m).max (λ (q : len (g.last.maps m) ≡ (shape_at a m).max).
            let t = r.keyed.counted m holds.inside.0 in let u = i.room in omega arith)) ∙ and_false _),
        (element_span m (shape_at a m) e, place_for a w g r l is inside m e l.cpu at_e was, refl),
      ),
    ),
  )

  is_segment_odd : w (Stamp m s) % 2 ≡ 1
  is_segment_odd = let o = holds.locked in let z = holds.even in omega arith

  low : (g.eras m s).era ≤ w (Stamp m s)
  low = go (g.eras m s).dirty refl
    where
      seg : Segment a g.depths (words_by_place w) (w (Stamp m s)) (g.eras m s) m s (g.linked m)
      seg = r.segments m s holds.inside

      go : (b : Bool) → (g.eras m s).dirty ≡ b → (g.eras m s).era ≤ w (Stamp m s)
      go true d = let z = seg.written d in omega arith
      go false d = let z = (seg.clean d).0 in omega arith

  upward : Upward m s g.eras g'.eras
  upward = record {
    same_eras = λ n t ne. put2-other g.eras m s n t era' ne;
    up = subst (λ (y : Era). (g.eras m s).era ≤ y.era) (sym (put2-same g.eras m s m s era' refl refl)) low;
    stays = λ j even le eq. absurd (let o = is_segment_odd in let z = eq ∙ ap (λ (y : Era). y.era) (put2-same g.eras m s m s era' refl refl) in omega arith);
  }

  home_is : home_by a m (g.depths m s) key ≡ s
  home_is = ap (λ (i : ℕ). home_by a m i key) (sym holds.deep) ∙ i.filled.home

  elsewhere : Elsewhere a g.depths m s l.cpu (words_by_place w) (words_by_place w) (λ n t. w (Stamp n t)) (λ n t. w (Stamp n t)) g.eras
      g'.eras g.linked g'.linked g.holder g'.holder
  elsewhere = record {
    stamps = λ n t off. refl;
    same_eras = λ n t ne. put2-other g.eras m s n t era' ne;
    keys = λ n t q b ne home. now_old a l.cpu m e s key g.holder was g.linked n q
        (λ h u. ne h (one_home a g.depths m s n t q holds.inside b h (ap (home_by a m (g.depths m s)) u ∙ home_is) home));
    heads = λ n t ne. refl;
    hops = λ n t b ne. refl;
    slots = λ n t b ne. refl;
    within = λ n t d q b ne home h. (refl, λ j. refl);
    minded = λ n t b d apart at_t ne mind. (
      ⊎_elim
          (λ (h : (n ≡ m) × (d ≡ e)). absurd (ne h.0 (one_home a g.depths m s n t key holds.inside at_t h.0 home_is
          (subst (Minded (home_by a n (g.depths n t)) b t) (put2-same g.holder m e n d (Within key) h.0 h.1) mind))))
          (λ (nh : n ≡ m → d ≢ e). subst (Minded (home_by a n (g.depths n t)) b t) (put2-other g.holder m e n d (Within key) nh) mind)
          (here_or m n e d),
      refl,
      λ j. refl,
    );
  }

  -- nobody else has this lock
  alone : (d : ℕ) (k2 : Lock) → d ≢ l.cpu → Holds a g.depths (words_by_place w) (λ n t. w (Stamp n t)) g.eras g.linked g.holder d k2 →
      k2.map ≡ m → k2.segment ≢ s
  alone d k2 apart p h u = apart (sym p.writer ∙ (ap (λ (y : Era). y.writer) (λ j. g.eras (h j) (u j)) ∙ holds.writer))

  now_era : g'.eras m s ≡ era'
  now_era = put2-same g.eras m s m s era' refl refl

  own_segment : Segment a g.depths (words_by_place w) (w (Stamp m s)) (g'.eras m s) m s (g'.linked m)
  own_segment = subst (λ (y : Era). Segment a g.depths (words_by_place w) (w (Stamp m s)) y m s (g'.linked m)) (sym now_era) (record {
    at_rest = λ even. absurd (let o = is_segment_odd in omega arith);
    clean = λ d. absurd (true≢false d);
    written = λ d. refl;
    shows = λ d. absurd (true≢false d);
  })

  own_lock : Holds a g.depths (words_by_place w) (λ n t. w (Stamp n t)) g'.eras g'.linked g'.holder l.cpu k'
  own_lock = record {
    inside = holds.inside;
    deep = holds.deep;
    even = holds.even;
    locked = holds.locked;
    writer = ap (λ (y : Era). y.writer) now_era;
    dirty = ap (λ (y : Era). y.dirty) now_era;
    credit = ap (λ (y : Era). y.credit) now_era;
    untouched = λ d. absurd (true≢false d);
    sized = holds.sized;
    copied = record {
      head = holds.copied.head;
      hop = holds.copied.hop;
      slot = holds.copied.slot;
      link = λ d on. holds.copied.link d (mine d on);
      key = λ d j on. holds.copied.key d j (mine d on);
    };
    beside = holds.beside;
    beside_stamp = holds.beside_stamp;
    due = (
      holds.due.0,
      holds.due.1,
      λ q home. ⊎_elim
          (λ (u : q ≡ key). ap (λ (h : List ℕ → Option ℕ). h q) (put-same g.linked m m (put_key (g.linked m) key (Some e)) refl) ∙
          (put_key-same (g.linked m) key q (Some e) u ∙ sym (put_key-same holds.due.0 key q (Some e) u)))
          (λ (u : q ≢ key). now_old a l.cpu m e s key g.holder was g.linked m q (λ _. u) ∙
          (holds.due.2 q home ∙ (ap (λ y. changed y holds.due.0 q) i.filled.nothing ∙ sym (put_key-other holds.due.0 key q (Some e) u))))
          (equal_keys q key),
    );
  }
    where
      mine : (d : ℕ) → Minded (lock_home a k) l.cpu s (g'.holder m d) → Minded (lock_home a k) l.cpu s (g.holder m d)
      mine d on = ⊎_elim
          (λ (h : (m ≡ m) × (d ≡ e)). subst (Minded (lock_home a k) l.cpu s) (sym ((λ j. g.holder m (h.1 j)) ∙ was)) refl)
          (λ (nh : m ≡ m → d ≢ e). subst (Minded (lock_home a k) l.cpu s) (put2-other g.holder m e m d (Within key) nh) on)
          (here_or m m e d)

  worn : Worn a g.depths (λ n t. w (Stamp n t)) g'.eras log'
  worn n t at_s = ⊎_elim
      (λ (h : (n ≡ m) × (t ≡ s)).
      let z = ap (λ (y : Era). y.credit) (put2-same g.eras m s n t era' h.0 h.1) in
      let old_credit : (g.eras n t).credit ≡ 0 = ap (λ (y : Era). y.credit) (λ j. g.eras (h.0 j) (h.1 j)) ∙
      (holds.credit ∙ ap (λ y. owed y) i.filled.nothing) in
      let one : one_if (m == n) + 0 ≡ 1 = is_done_here n (m == n) (eq-eqb m n (sym h.0)) in
      let sum = done_in-append n g.log (entry l.cpu event ∷ []) in
      let b = r.worn n t at_s in
      omega arith)
      (λ (ne : n ≡ m → t ≢ s).
      let z = ap (λ (y : Era). y.credit) (put2-other g.eras m s n t era' ne) in
      let sum = done_in-append n g.log (entry l.cpu event ∷ []) in
      let b = r.worn n t at_s in
      omega arith)
      (here_or m n s t)

  spelled_is : x ≡ record {
    bytes = take (shape_at a m).value (bytes_of_words (words_for (shape_at a m).value) (λ j. w (ValueWord m e j)));
    span = element_span m (shape_at a m) e;
  }
  spelled_is = ap (λ (b : List ℕ). record { bytes = b; span = element_span m (shape_at a m) e })
      (sym (value_spelled a w f rest m bytes (g.lanes.fresh l.cpu) hand (r.filled l.cpu inside) i.filled.map i.filled.filled i.filled.value
      i.filled.size i.filled.are_bytes))

  updates : is_update f.map event ≡ true
  updates = eq-eqb m f.map (sym i.filled.map)

  rule' : w (KeyCount m) ≡ old → Rule a (put_at w (KeyCount m) (old + 1)) g'
  rule' found = record {
    shaped = r.shaped;
    deep = r.deep;
    logged = logged_event a g.lanes.seen g.log g.last last' l.cpu event r.logged inside (may found);
    keyed = subst (λ (n : ℕ). Keyed a (put (λ j. w (KeyCount j)) m (n + 1)) g'.last.maps g'.linked g'.number) found
        (keyed_comes a l.cpu m e s key g.holder was g.linked r.linked (λ j. w (KeyCount j)) g.last.maps g.number g.last.made r.keyed none);
    worn = worn;
    runs = runs_quiet a w g r l is inside (λ d. w (RunCount d)) event r.runs refl;
    batched = batched_comes a l.cpu m e s key g.holder was _ _ _ g.lanes.fresh g.lanes.limbo g.last.held g.number g.last.made r.owned r.batched;
    owned = owned_comes a l.cpu m e s key g.holder was _ g.lanes.fresh g.lanes.limbo f rest r.owned i.filled.map refl hand inside;
    linked = linked_comes a l.cpu m e s key g.holder was g.linked r.linked none at_e;
    filled = filled_rest a l.cpu m e s key g.holder was _ _ g.lanes.fresh f rest r.filled hand inside;
    segments = segments_step a g.depths m s l.cpu (words_by_place w) (words_by_place w) _ _ g.eras g'.eras g.linked g'.linked g.holder
        g'.holder elsewhere r.deep.sound holds.inside r.segments r.linked own_segment;
    locking = locking_step a g.depths m s l.cpu (words_by_place w) (words_by_place w) _ _ g.eras g'.eras g.linked g'.linked g.holder
        g'.holder elsewhere r.deep.sound holds.inside g.lanes.locks (k' ∷ []) r.locking alone (own_lock, tt);
    reading = readings_step a g.depths m s g.eras g'.eras g.lanes.readings upward r.reading;
    held = held_step a g.depths m s l.cpu _ _ g.eras g'.eras g.lanes.locks (k' ∷ []) inside r.held
        (λ odd. (ap (λ (y : Era). y.writer) now_era, (let z = lock_once k' in omega arith)))
        (λ n t _ ne. (refl, put2-other g.eras m s n t era' ne, ap (times_lock n t) (sym (ap (λ (z : Known). z.locks) is ∙ i.filled.lock))));
    fixed = fixed_later a r.shaped (λ b k. w (FixedWord b k)) g.last.value g.last.made x
        (subst (λ h. fixed_count h ≤ g.last.made) (shape_is a w g r l is inside) (sound a w g r).fixed.made) r.fixed;
    valued = valued_comes a l.cpu m e s key g.holder was _ g.last.made g.last.value g.last.held g.number x r.valued spelled_is;
    shown = shown_step a g.log log' g.last last' g.lanes.fresh g'.lanes.fresh g.lanes.tally g.holder g'.holder g.taker
        (begun_answer g.log g.lanes.fresh l.cpu f rest event hand updates)
        (causes_on a g.log g.last last' g.lanes.fresh g'.lanes.fresh l.cpu event
        (begun_answer g.log g.lanes.fresh l.cpu f rest event hand updates) r.logged.legal (may found) r.shown.causes tt)
        (λ d p. ⊎_elim (λ (none : g.lanes.fresh d ≡ []). inl (empty_still g.lanes.fresh l.cpu f rest rest hand d none))
        (λ (run : in_run (events_of d g.log) ≡ true). inr (run_quiet l.cpu d event g.log refl run)) p)
        (had_update g.last m key x)
        (settles_put g.holder m e (Within key) (λ _ free. let z : Filling l.cpu ≡ Free = sym was ∙ free in cc) (λ c q. cc))
        (λ b n d inb at has. ⊎_elim
        (λ (h : (n ≡ f.map) × (d ≡ f.element)). inl (
          subst (HasHadValue last')
              (λ j. element_span ((sym i.filled.map ∙ sym h.0) j) (shape_at a ((sym i.filled.map ∙ sym h.0) j)) (sym h.1 j))
              (new_update g.last m key x),
          hand_held a w g r b n d inb at has,
        ))
        (λ (h : 1 ≤ times_fresh n d (g'.lanes.fresh b)). inr h)
        (hand_rest g.lanes.fresh l.cpu f rest hand b n d has)) r.shown;
  }

  lane_is : lane g'.lanes l.cpu ≡ record l { seen = log'; fresh = rest; locks = k' ∷ [] }
  lane_is = λ j. record {
    cpu = l.cpu;
    seen = put-same g.lanes.seen l.cpu l.cpu log' refl j;
    fresh = put-same g.lanes.fresh l.cpu l.cpu rest refl j;
    limbo = (is j).limbo;
    locks = put-same g.lanes.locks l.cpu l.cpu (k' ∷ []) refl j;
    readings = (is j).readings;
    tally = (is j).tally;
  }

  told : w (KeyCount m) ≡ old → Inserted a l k f rest key bytes flags (lane g'.lanes l.cpu)
  told found = subst (Inserted a l k f rest key bytes flags) (sym lane_is) (record {
    seen = saw a w g r l is inside event last' (may found) (rule' found).logged;
    after = refl;
  })

  next : w (KeyCount m) ≡ old → Next a (put_at w (KeyCount m) (old + 1)) g l.cpu (Inserted a l k f rest key bytes flags)
  next found = record {
    ghost = g';
    rule = rule' found;
    others = λ d ne. rw (ne_eqb d l.cpu ne) refl;
    longer = (entry l.cpu event ∷ [], refl);
    tally = refl;
    says = told found;
  }

-- the exchange of the count that was expected for one more
pub count_up : (a : About) (l : Known) (k : Lock) (f : Fresh) (rest : List Fresh) (key bytes : List ℕ) (flags old : ℕ) → Inserts a l k f
    rest key bytes flags old
    → Steps a l (KeyCount k.map) (λ n. either (n == old) (old + 1) n) (λ ws n l'. (n ≡ old → Inserted a l k f rest key bytes flags l') × (n ≢ old → l' ≡ l))
count_up a l k f rest key bytes flags old i ws g sized r is inside fits =
    let w = mem a.shape ws in
    exchanged (w (KeyCount k.map)) old (old + 1) (λ n. Next a (put_at w (KeyCount k.map) n) g l.cpu
    (λ l'. (w (KeyCount k.map) ≡ old → Inserted a l k f rest key bytes flags l') × (w (KeyCount k.map) ≢ old → l' ≡ l)))
    (λ found. next_as _ _ _ _ _ _ (λ q t. ((λ _. t), (λ ne. absurd (ne found)))) (next a l k f rest key bytes flags old i w g r is inside found))
    (λ ne. stay a w g l.cpu (KeyCount k.map) _ r ((λ found. absurd (ne found)), (λ _. is)))
