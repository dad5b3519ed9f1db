-- Unlock: with what was written, with an answer that changed nothing, and with a replacement.
use Rattle.std.proofs.Common.{◌≡◌, ◌≢◌, ℕ, ◌+◌, ◌/◌, ◌<◌, ◌≤◌, Bool, true, false, not, ◌&&◌, cond, List, [], ◌∷◌, ◌++◌, Option, Some, None}
use Rattle.std.proofs.Common.{is_some, ◌==◌, length, set, take, refl, ap, sym, subst, ◌∙◌, arith, eq-eqb, ne_eqb, ⊎_elim, inl, inr}
use Rattle.std.proofs.Common.{if◌then◌else◌}
use Rattle.std.proofs.lemmas.Bool.Decides.{nat_tests}
use Rattle.std.proofs.lemmas.Cmp.{nat_list_cmp_total}
use Rattle.std.specs.FinMap.{get, insert, len, len-insert}
use Rattle.std.proofs.lemmas.Bool.{cases_eq}
use Rattle.bpf_shared.specs.declared.events.Event.{Event}
use Rattle.bpf_shared.specs.declared.events.Event.TheVariants.{Update, Lookup, Delete}
use Rattle.bpf_shared.specs.declared.events.Entry.{Entry}
use Rattle.bpf_shared.specs.declared.events.MapAnswer.TheVariants.{Done, Busy, NoMemory}
use Rattle.bpf_shared.specs.Shape.{element_span}
use Rattle.bpf_shared.specs.Store.{Plain, KeyMap, Value, put, fixed_count}
use Rattle.bpf_shared.specs.Events.{Allowed, after_update}
use Rattle.bpf_shared.specs.History.{entry, events_of}
use Rattle.bpf_shared.proofs.Puts.{put-same, put-other, insert_cases}
use Rattle.hop_layout.specs.declared.place.Place.{Place}
use Rattle.hop_layout.specs.declared.place.Place.TheVariants.{RunCount, KeyCount, FreeBits, Stamp, ValueWord, FixedWord}
use Rattle.hop_layout.specs.declared.about.About.{About}
use Rattle.hop_words.specs.declared.known.Known.{Known}
use Rattle.hop_words.specs.declared.known.Fresh.{Fresh}
use Rattle.hop_words.specs.declared.known.Limbo.{Limbo}
use Rattle.hop_words.specs.declared.known.Lock.{Lock}
use Rattle.hop_words.specs.declared.known.Change.TheVariants.{Puts}
use Rattle.hop_layout.specs.Layout.{mem, put_at, words_for, depth, first_depth, gained}
use Rattle.hop_layout.specs.Words.{bytes_of_words}
use Rattle.hop_words.specs.Content.{words_by_place}
use Rattle.hop_words.specs.Ghost.{Holder, Free, Filling, Leaving, Within, lane, Era, Ghost, shape_at, HasElement, limbo_at, lock_home}
use Rattle.hop_words.specs.Shortage.{done_in, is_update, HasHadValue, HasCause}
use Rattle.hop_words.specs.Rule.{Rule, times_fresh, begun_in, Minded, put_key, changed, owed, Holds, numbered, Keyed, Owned, Linked}
use Rattle.bpf_shared.specs.Own.{turns_of, in_run}
use Rattle.hop_words.specs.Private.Step.{Next, Steps}
use Rattle.hop_words.specs.Kinds.{AreElsewhere, AnswersAll, AnsweredAll, Replaces, Replaced, AnswersUnderLock, Answered, ShowsShortage}
use Rattle.hop_words.specs.Kinds.{IsWritten, unlocking, with_gone, LooksUpLocked, LookedUp, found_span}
use Rattle.hop_words.proofs.Small.{equal_keys, here_or, put2-same, put2-other, put_key-same, put_key-other}
use Rattle.hop_words.proofs.Spelling.{value_spelled}
use Rattle.hop_words.proofs.Histories.{logged_event, prefix_refl, done_in-append}
use Rattle.hop_words.proofs.Shortages.{begun_answer, causes_on, empty_still, run_quiet, had_update, new_update, settles_put, shown_step}
use Rattle.hop_words.proofs.Shortages.{shown_more, hand_held, hand_rest, lack_cause}
use Rattle.hop_words.proofs.Comes.{leads_new, in_hand, now_old, now_new, linked_comes, owned_comes, batched_comes, filled_rest, valued_comes}
use Rattle.hop_words.proofs.Goes.{with_used, owned_goes, cut_old, linked_goes, batched_goes, valued_goes}
use Rattle.hop_words.proofs.Rooms.{shares_of}
use Rattle.hop_words.proofs.Locks.{holds, rest_holds, unlocked, unlock_new, unlock_same}
use Rattle.hop_words.proofs.Effects.{Effect, effect_segments, effect_locking, effect_reading, effect_held, effect_worn}
use Rattle.hop_words.proofs.CountUp.{four, and_false}
use Rattle.hop_words.proofs.Readings.{looking, looked_rule, may_look}
use Rattle.hop_words.proofs.Stays.{saw, running_is, map_there, quiet_after, runs_quiet, place_for, shape_is, worn_more}
use Rattle.hop_words.specs.Depths.{IsBorn, home_by}
use Rattle.hop_words.proofs.Segs.{one_home}
use Rattle.hop_words.proofs.FixedPlaces.{fixed_later, sound}

-- ---- how far splits took a segment's version
gains : (a : About) (w : Place → ℕ) (g : Ghost) (r : Rule a w g) (m s : ℕ) → IsBorn a g.depths m s → g.depths m s ≤ gained (shape_at a m) +
    first_depth (shape_at a m)
gains a w g r m s b = go ((shape_at a m).grow) refl
  where
    go : (x : Bool) → (shape_at a m).grow ≡ x → g.depths m s ≤ gained (shape_at a m) + first_depth (shape_at a m)
    go true e = let z : gained (shape_at a m) ≡ depth (shape_at a m) = ap (λ (y : Bool). if y then depth (shape_at a m) else 0) e in
        let k = (r.deep.sound m b.0 s b.2).1 in omega arith
    go false e = let z : first_depth (shape_at a m) ≡ depth (shape_at a m) = ap (λ (y : Bool). if y then 0 else depth (shape_at a m)) e in
        let k = r.deep.whole m s b.0 b.1 e in omega arith

-- ---- what took effect before is written now
pub unlock_written : (a : About) (l : Known) (k : Lock) → l.locks ≡ k ∷ [] → owed k.change ≡ 1 → IsWritten a k → Steps a l
    (Stamp k.map k.segment) (λ _. k.stamp + 256) (λ ws n l'. l' ≡ unlocking l)
unlock_written a l k held owes written ws g sized r is inside fits =
    let w = mem a.shape ws in
    let u = unlock_new a l k held w g r is inside owes written in
    record {
      ghost = unlocked a l k held w g r is inside tt u.0 (k.stamp + 256);
      rule = u.1;
      others = λ d ne. rw (ne_eqb d l.cpu ne) refl;
      longer = prefix_refl g.log;
      tally = refl;
      says = rw (eq-eqb l.cpu l.cpu refl) (ap (λ (x : Known). record x { locks = [] }) is);
    }

-- ---- nothing was changed, and nothing is answered: after an answer that took effect at the key count
pub unlock_silent : (a : About) (l : Known) (k : Lock) {rest : List Lock} → l.locks ≡ k ∷ rest → AreElsewhere k rest → k.dirty ≡ false →
    Steps a l (Stamp k.map k.segment) (λ _. k.stamp) (λ ws n l'. l' ≡ record l { locks = rest })
unlock_silent a l k {rest} held elsewhere clean ws g sized r is inside fits =
    let w = mem a.shape ws in
    let u = unlock_same a l k held w g r is inside elsewhere clean in
    record {
      ghost = unlocked a l k held w g r is inside elsewhere u.0 k.stamp;
      rule = u.1;
      others = λ d ne. rw (ne_eqb d l.cpu ne) refl;
      longer = prefix_refl g.log;
      tally = refl;
      says = rw (eq-eqb l.cpu l.cpu refl) (ap (λ (x : Known). record x { locks = rest }) is);
    }

-- ---- an event that leaves the store as it is, at whatever step
abbrev pub noted_event : Ghost → ℕ → Event → Ghost
noted_event g c e = record g { log = g.log ++ entry c e ∷ []; lanes = record g.lanes { seen = put g.lanes.seen c (g.log ++ entry c e ∷ []) } }

pub event_rule : (a : About) (w : Place → ℕ) (g : Ghost) (r : Rule a w g) (l : Known) (inside : l.cpu < a.shape.cpus) (e : Event) → turns_of
    (e ∷ []) ≡ 0 → HasCause a.version (begun_in g.log g.lanes.fresh)
    (record { shape = a.shape; before = g.log; store = g.last; cpu = l.cpu }) e → Allowed g.last l.cpu e g.last → Rule a w (noted_event g l.cpu e)
event_rule a w g r l inside e quiet cause may = record {
  shaped = r.shaped;
  fixed = r.fixed;
  deep = r.deep;
  logged = logged_event a g.lanes.seen g.log g.last g.last l.cpu e r.logged inside may;
  keyed = r.keyed;
  worn = worn_more a g.depths _ g.eras g.log (entry l.cpu e) r.worn;
  runs = quiet_after a (λ c. w (RunCount c)) g.log l.cpu e r.runs quiet;
  batched = r.batched;
  owned = r.owned;
  linked = r.linked;
  filled = r.filled;
  segments = r.segments;
  locking = r.locking;
  reading = r.reading;
  held = r.held;
  valued = r.valued;
  shown = shown_more a g.log l.cpu e g.last g.last g.lanes.fresh g.lanes.tally g.holder g.taker quiet r.logged.legal may cause (λ p h. h) r.shown;
}

-- a version that is used up at the lock has been paid for, and an element that isn't to be had may be taken
shortage_cause : (a : About) (w : Place → ℕ) (g : Ghost) → Rule a w g → (l : Known) (k : Lock) → lane g.lanes l.cpu ≡ l → l.cpu <
    a.shape.cpus → k.map < length a.shape.maps → k.stamp / 256 ≤ a.version + gained (shape_at a k.map) + done_in k.map g.log
    → (e : Event) → ShowsShortage a l k e → HasCause a.version (begun_in g.log g.lanes.fresh)
    (record { shape = a.shape; before = g.log; store = g.last; cpu = l.cpu }) e
shortage_cause a w g r l k is inside in_map paid (Update m key bytes flags Busy) s =
    let d : gained (shape_at a m) + done_in m g.log ≡ gained (shape_at a k.map) + done_in k.map g.log = ap
    (λ (j : ℕ). gained (shape_at a j) + done_in j g.log) s.0 in let t = s.1 in omega arith
shortage_cause a w g r l k is inside in_map paid (Update m key bytes flags NoMemory) s = lack_cause a w g r l m is inside
    (subst (λ (j : ℕ). j < length a.shape.maps) (sym s.0) in_map) s.1
shortage_cause a w g r l k is inside in_map paid (Delete m key Busy) s =
    let d : gained (shape_at a m) + done_in m g.log ≡ gained (shape_at a k.map) + done_in k.map g.log = ap
    (λ (j : ℕ). gained (shape_at a j) + done_in j g.log) s.0 in let t = s.1 in omega arith
shortage_cause a w g r l k is inside in_map paid e s = tt

pub unlock_answer : (a : About) (l : Known) (k : Lock) (e : Event) → AnswersUnderLock a l k e → Steps a l (Stamp k.map k.segment)
    (λ _. k.stamp) (λ ws n l'. Answered a l k e l')
unlock_answer a l k e i ws g sized r is inside fits = record {
  ghost = unlocked a l2 k i.lock w g1 r1 is1 inside tt u.0 k.stamp;
  rule = u.1;
  others = λ d ne. rw (ne_eqb d l.cpu ne) refl;
  longer = (entry l.cpu e ∷ [], refl);
  tally = refl;
  says = subst (Answered a l k e) (sym after) (record { seen = saw a w g r l is inside e g.last may r1.logged; worn = worn_told; after = refl });
}
  where
    w : Place → ℕ
    w = mem a.shape ws

    h : Holds a g.depths (words_by_place w) (λ n t. w (Stamp n t)) g.eras g.linked g.holder l.cpu k
    h = holds a l k i.lock w g r is

    may : Allowed g.last l.cpu e g.last
    may = i.allowed g.last h.due.0 (g.number k.map) (shape_is a w g r l is inside) (running_is a w g r l is inside i.runs) h.due.1
        (λ q home. r.keyed.leads k.map q ∙ ap (numbered (g.number k.map)) (h.due.2 q home ∙ ap (λ y. changed y h.due.0 q) (h.untouched i.clean).1))

    log' : List Entry
    log' = g.log ++ entry l.cpu e ∷ []

    paid : k.stamp / 256 ≤ a.version + gained (shape_at a k.map) + done_in k.map g.log
    paid =
        let b = r.worn k.map k.segment h.inside in
        let o = h.locked in
        let z = h.even in
        let q : (k.stamp + 1) / 256 ≡ k.stamp / 256 = omega arith in
        let y : w (Stamp k.map k.segment) / 256 ≡ (k.stamp + 1) / 256 = ap (λ (j : ℕ). j / 256) o in
        let f = gains a w g r k.map k.segment h.inside in
        omega arith

    cause : HasCause a.version (begun_in g.log g.lanes.fresh) (record { shape = a.shape; before = g.log; store = g.last; cpu = l.cpu }) e
    cause = shortage_cause a w g r l k is inside h.inside.0 paid e i.shortage

    worn_told : k.stamp / 256 ≤ a.version + gained (shape_at a k.map) + done_in k.map log'
    worn_told =
        let p = paid in
        let d = done_in-append k.map g.log (entry l.cpu e ∷ []) in
        omega arith

    l2 : Known
    l2 = record l { seen = log' }

    g1 : Ghost
    g1 = noted_event g l.cpu e

    r1 : Rule a w g1
    r1 = event_rule a w g r l inside e i.quiet cause may

    is1 : lane g1.lanes l.cpu ≡ l2
    is1 = rw (eq-eqb l.cpu l.cpu refl) (ap (λ (x : Known). record x { seen = log' }) is)

    u : (e : Era) × Rule a (put_at w (Stamp k.map k.segment) k.stamp) (unlocked a l2 k i.lock w g1 r1 is1 inside tt e k.stamp)
    u = unlock_same a l2 k i.lock w g1 r1 is1 inside tt i.clean

    after : lane (unlocked a l2 k i.lock w g1 r1 is1 inside tt u.0 k.stamp).lanes l.cpu ≡ record l { seen = log'; locks = [] }
    after = rw (eq-eqb l.cpu l.cpu refl) (ap (λ (x : Known). record x { seen = log'; locks = [] }) is)

-- ---- an answer under several locks, at the unlock of the one taken last
module _ (a : About) (l : Known) (k : Lock) (rest : List Lock) (e : Event) (i : AnswersAll a l k rest e) (ws : List ℕ) (g : Ghost)
    (r : Rule a (mem a.shape ws) g) (is : lane g.lanes l.cpu ≡ l) (inside : l.cpu < a.shape.cpus) where
  several_words : Place → ℕ
  several_words = mem a.shape ws

  abbrev HoldsHere : Lock → Type 0
  HoldsHere = Holds a g.depths (words_by_place (mem a.shape ws)) (λ n t. mem a.shape ws (Stamp n t)) g.eras g.linked g.holder l.cpu

  several_may : Allowed g.last l.cpu e g.last
  several_may = i.allowed g.last g.linked g.number (shape_is a (mem a.shape ws) g r l is inside) inside
      (shares_of a g.depths l.cpu (words_by_place (mem a.shape ws)) (λ n t. mem a.shape ws (Stamp n t)) g.eras g.linked g.holder (k ∷ rest)
      (holds a l k i.lock (mem a.shape ws) g r is, rest_holds a l k i.lock (mem a.shape ws) g r is) i.clean) r.keyed.leads

  abbrev several_log : List Entry
  several_log = g.log ++ entry l.cpu e ∷ []

  abbrev several_lane : Known
  several_lane = record l { seen = several_log }

  several_rule : Rule a (mem a.shape ws) (noted_event g l.cpu e)
  several_rule = event_rule a (mem a.shape ws) g r l inside e i.quiet
      (i.uncaused (begun_in g.log g.lanes.fresh) (record { shape = a.shape; before = g.log; store = g.last; cpu = l.cpu })) several_may

  several_is : lane (noted_event g l.cpu e).lanes l.cpu ≡ several_lane
  several_is = rw (eq-eqb l.cpu l.cpu refl) (ap (λ (x : Known). record x { seen = several_log }) is)

  several_next : Next a (put_at (mem a.shape ws) (Stamp k.map k.segment) k.stamp) g l.cpu (AnsweredAll a l rest e)
  several_next =
      let u = unlock_same a several_lane k i.lock (mem a.shape ws) (noted_event g l.cpu e) several_rule several_is inside i.elsewhere i.clean.0 in
      record {
        ghost = unlocked a several_lane k i.lock (mem a.shape ws) (noted_event g l.cpu e) several_rule several_is inside i.elsewhere u.0 k.stamp;
        rule = u.1;
        others = λ d ne. rw (ne_eqb d l.cpu ne) refl;
        longer = (entry l.cpu e ∷ [], refl);
        tally = refl;
        says = subst (AnsweredAll a l rest e) (sym (after u.0)) (record
            { seen = saw a (mem a.shape ws) g r l is inside e g.last several_may several_rule.logged; after = refl });
      }
    where
      after : (y : Era) → lane (unlocked a several_lane k i.lock (mem a.shape ws) (noted_event g l.cpu e) several_rule several_is inside
          i.elsewhere y k.stamp).lanes l.cpu ≡ record l { seen = several_log; locks = rest }
      after y = rw (eq-eqb l.cpu l.cpu refl) (ap (λ (x : Known). record x { seen = several_log; locks = rest }) is)

pub unlock_several : (a : About) (l : Known) (k : Lock) (rest : List Lock) (e : Event) → AnswersAll a l k rest e → Steps a l
    (Stamp k.map k.segment) (λ _. k.stamp) (λ ws n l'. AnsweredAll a l rest e l')
unlock_several a l k rest e i ws g sized r is inside fits = several_next a l k rest e i ws g r is inside

-- ---- a lookup under the lock
pub unlock_lookup : (a : About) (l : Known) (k : Lock) (key : List ℕ) (o : Option ℕ) → LooksUpLocked a l k key o → Steps a l
    (Stamp k.map k.segment) (λ _. k.stamp) (λ ws n l'. LookedUp a l k key o l')
unlock_lookup a l k key o i ws g sized r is inside fits = record {
  ghost = unlocked a l2 k i.lock w g1 r1 is1 inside tt u.0 k.stamp;
  rule = u.1;
  others = λ d ne. rw (ne_eqb d l.cpu ne) refl;
  longer = (entry l.cpu event ∷ [], refl);
  tally = refl;
  says = subst (LookedUp a l k key o) (sym after) (record { seen = saw a w g r l is inside event (looking a w g r l.cpu k.map o) may r1.logged; after = refl });
}
  where
    w : Place → ℕ
    w = mem a.shape ws

    h : Holds a g.depths (words_by_place w) (λ n t. w (Stamp n t)) g.eras g.linked g.holder l.cpu k
    h = holds a l k i.lock w g r is

    event : Event
    event = Lookup k.map key (found_span a k.map o)

    linked_is : g.linked k.map key ≡ o
    linked_is = h.due.2 key i.home ∙ (ap (λ y. changed y h.due.0 key) (h.untouched i.clean).1 ∙ i.shown h.due.0 h.due.1)

    may : Allowed g.last l.cpu event (looking a w g r l.cpu k.map o)
    may = may_look a w g r l.cpu k.map o key linked_is (running_is a w g r l is inside i.runs) (map_there a w g r l is inside k.map h.inside.0) i.key_size

    log' : List Entry
    log' = g.log ++ entry l.cpu event ∷ []

    l2 : Known
    l2 = record l { seen = log' }

    g1 : Ghost
    g1 = record g { log = log'; last = looking a w g r l.cpu k.map o; lanes = record g.lanes { seen = put g.lanes.seen l.cpu log' } }

    r1 : Rule a w g1
    r1 = looked_rule a w g r l.cpu k.map o key inside linked_is (found_span a k.map o) may

    is1 : lane g1.lanes l.cpu ≡ l2
    is1 = rw (eq-eqb l.cpu l.cpu refl) (ap (λ (x : Known). record x { seen = log' }) is)

    u : (e : Era) × Rule a (put_at w (Stamp k.map k.segment) k.stamp) (unlocked a l2 k i.lock w g1 r1 is1 inside tt e k.stamp)
    u = unlock_same a l2 k i.lock w g1 r1 is1 inside tt i.clean

    after : lane (unlocked a l2 k i.lock w g1 r1 is1 inside tt u.0 k.stamp).lanes l.cpu ≡ record l { seen = log'; locks = [] }
    after = rw (eq-eqb l.cpu l.cpu refl) (ap (λ (x : Known). record x { seen = log'; locks = [] }) is)

-- ---- the replacement
module _ (a : About) (l : Known) (k : Lock) (f : Fresh) (rest : List Fresh) (key bytes : List ℕ) (flags o : ℕ) (i : Replaces a l k f rest key bytes flags o)
    (w : Place → ℕ) (g : Ghost) (r : Rule a w g) (is : lane g.lanes l.cpu ≡ l) (inside : l.cpu < a.shape.cpus) where
  abbrev m : ℕ
  m = k.map

  abbrev s : ℕ
  s = k.segment

  abbrev e : ℕ
  e = f.element

  h : Holds a g.depths (words_by_place w) (λ n t. w (Stamp n t)) g.eras g.linked g.holder l.cpu k
  h = holds a l k i.filled.lock w g r is

  there : g.linked m key ≡ Some o
  there = h.due.2 key i.filled.home ∙ (ap (λ x. changed x h.due.0 key) i.filled.nothing ∙ i.there h.due.0 h.due.1)

  at_o : HasElement a m o
  at_o = (r.linked.within m key o there).0

  was_o : g.holder m o ≡ Within key
  was_o = (r.linked.within m key o there).1

  home_is : home_by a m (g.depths m s) key ≡ s
  home_is = ap (λ (j : ℕ). home_by a m j key) (sym h.deep) ∙ i.filled.home

  at_e : HasElement a m e
  at_e = (h.inside.0, i.filled.element)

  hand : g.lanes.fresh l.cpu ≡ f ∷ rest
  hand = ap (λ (x : Known). x.fresh) is ∙ i.filled.hand

  was_e : g.holder m e ≡ Filling l.cpu
  was_e = in_hand a _ g.lanes.fresh g.lanes.limbo g.holder l.cpu m f rest r.owned inside at_e i.filled.map hand

  room : m < length (g.lanes.limbo l.cpu)
  room = subst (λ (x : List Limbo). m < length x) (sym (ap (λ (x : Known). x.limbo) is)) i.room

  not_o : e ≢ o
  not_o q = let z : Filling l.cpu ≡ Within key = sym was_e ∙ (ap (g.holder m) q ∙ was_o) in cc

  -- first the old element leaves, then the new one comes
  abbrev holder1 : ℕ → ℕ → Holder
  holder1 = put g.holder m (put (g.holder m) o (Leaving l.cpu))

  abbrev linked1 : ℕ → List ℕ → Option ℕ
  linked1 = put g.linked m (put_key (g.linked m) key None)

  abbrev limbo1 : ℕ → List Limbo
  limbo1 = put g.lanes.limbo l.cpu (set (g.lanes.limbo l.cpu) m (with_used (limbo_at (g.lanes.limbo l.cpu) m) o))

  was1 : holder1 m e ≡ Filling l.cpu
  was1 = put2-other g.holder m o m e (Leaving l.cpu) (λ _. not_o) ∙ was_e

  none1 : linked1 m key ≡ None
  none1 = ap (λ (x : List ℕ → Option ℕ). x key) (put-same g.linked m m (put_key (g.linked m) key None) refl) ∙ put_key-same (g.linked m) key key None refl

  owned1 : Owned a (λ n j. w (FreeBits n j)) g.lanes.fresh limbo1 holder1
  owned1 = owned_goes a l.cpu m o s key g.holder was_o _ g.lanes.fresh g.lanes.limbo r.owned inside at_o room

  linked_1 : Linked a linked1 holder1
  linked_1 = linked_goes a l.cpu m o s key g.holder was_o g.linked r.linked there

  abbrev holder2 : ℕ → ℕ → Holder
  holder2 = put holder1 m (put (holder1 m) e (Within key))

  abbrev linked2 : ℕ → List ℕ → Option ℕ
  linked2 = put linked1 m (put_key (linked1 m) key (Some e))

  abbrev number2 : ℕ → ℕ → ℕ
  number2 = put g.number m (put (g.number m) e g.last.made)

  linked_old : (n : ℕ) (q : List ℕ) → (n ≡ m → q ≢ key) → linked2 n q ≡ g.linked n q
  linked_old n q ne = now_old a l.cpu m e s key holder1 was1 linked1 n q ne ∙ cut_old a l.cpu m o s key g.holder was_o g.linked n q ne

  linked_new : (n : ℕ) (q : List ℕ) → n ≡ m → q ≡ key → linked2 n q ≡ Some e
  linked_new = now_new a l.cpu m e s key holder1 was1 linked1

  abbrev x : Value
  x = record { bytes = bytes; span = element_span m (shape_at a m) e }

  abbrev event : Event
  event = Update m key bytes flags Done

  abbrev last' : Plain
  last' = after_update g.last m key x

  get_some : get (g.last.maps m) key ≡ Some (g.number m o)
  get_some = r.keyed.leads m key ∙ ap (numbered (g.number m)) there

  keyed2 : Keyed a (λ j. w (KeyCount j)) last'.maps linked2 number2
  keyed2 = record {
    counted = λ n lt. ⊎_elim
        (λ (t : n ≡ m). r.keyed.counted n lt ∙ (ap (λ j. len (g.last.maps j)) t ∙
        (sym as_many ∙ ap (λ (y : KeyMap). len y) (sym (put-same g.last.maps m n (insert (g.last.maps m) key g.last.made) t)))))
        (λ (ne : n ≢ m). r.keyed.counted n lt ∙ ap (λ (y : KeyMap). len y) (sym (put-other g.last.maps m n (insert (g.last.maps m) key g.last.made) ne)))
        (cases_eq n m);
    leads = λ n q. ⊎_elim
        (λ (t : n ≡ m). ap (λ (y : KeyMap). get y q) (put-same g.last.maps m n (insert (g.last.maps m) key g.last.made) t) ∙ ⊎_elim
        (λ (u : q ≡ key). ap (get (insert (g.last.maps m) key g.last.made)) u ∙
        (leads_new (g.last.maps m) key g.last.made ∙ (ap Some (sym (put2-same g.number m e n e g.last.made t refl)) ∙ ap
        (numbered (number2 n)) (sym (linked_new n q t u)))))
        (λ (u : q ≢ key). ⊎_elim
        (λ (z : (q ≡ key) × (get (insert (g.last.maps m) key g.last.made) q ≡ Some g.last.made)). absurd (u z.0))
        (λ (z : get (insert (g.last.maps m) key g.last.made) q ≡ get (g.last.maps m) q). z)
        (insert_cases (g.last.maps m) key g.last.made q) ∙ (ap (λ j. get (g.last.maps j) q) (sym t) ∙ old_leads n q (λ _. u)))
        (equal_keys q key))
        (λ (ne : n ≢ m). ap (λ (y : KeyMap). get y q) (put-other g.last.maps m n (insert (g.last.maps m) key g.last.made) ne) ∙ old_leads n
        q (λ t. absurd (ne t)))
        (cases_eq n m);
  }
    where
      as_many : len (insert (g.last.maps m) key g.last.made) ≡ len (g.last.maps m)
      as_many = len-insert nat_list_cmp_total (g.last.maps m) key g.last.made ∙ go (get (g.last.maps m) key) get_some
        where
          go : (y : Option ℕ) → y ≡ Some (g.number m o) → cond (is_some y) (len (g.last.maps m)) (len (g.last.maps m) + 1) ≡ len (g.last.maps m)
          go None z = cc
          go (Some v) z = refl

      old_leads : (n : ℕ) (q : List ℕ) → (n ≡ m → q ≢ key) → get (g.last.maps n) q ≡ numbered (number2 n) (linked2 n q)
      old_leads n q ne = r.keyed.leads n q ∙ (sym (number_kept n (g.linked n q) (λ d eq u t. not_e n d q eq t u)) ∙ ap
          (numbered (number2 n)) (sym (linked_old n q ne)))
        where
          not_e : (n d : ℕ) (q : List ℕ) → g.linked n q ≡ Some d → n ≡ m → d ≢ e
          not_e n d q eq t u = let z : Within q ≡ Filling l.cpu = sym (r.linked.within n q d eq).1 ∙ ((λ j. g.holder (t j) (u j)) ∙ was_e) in cc

          number_kept : (n : ℕ) (y : Option ℕ) → ((d : ℕ) → y ≡ Some d → d ≡ e → n ≡ m → ⊥) → numbered (number2 n) y ≡ numbered (g.number n) y
          number_kept n None not = refl
          number_kept n (Some d) not = ap Some (put2-other g.number m e n d g.last.made (λ t u. not d refl u t))

  effect : Effect a g.depths l.cpu k (Puts key e) g.linked linked2 g.holder holder2
  effect = record {
    owes = refl;
    keys = λ n t q b ne home. linked_old n q (λ u v. ne u (one_home a g.depths m s n t q h.inside b u (ap (home_by a m (g.depths m s)) v ∙ home_is) home));
    theirs = λ n t b d apart at_t ne mind. ⊎_elim
        (λ (u : (n ≡ m) × (d ≡ e)). absurd (ne u.0 (one_home a g.depths m s n t key h.inside at_t u.0 home_is
        (subst (Minded (home_by a n (g.depths n t)) b t) (put2-same holder1 m e n d (Within key) u.0 u.1) mind))))
        (λ (nu : n ≡ m → d ≢ e). let mind1 = subst (Minded (home_by a n (g.depths n t)) b t) (put2-other holder1 m e n d (Within key) nu) mind in ⊎_elim
        (λ (u : (n ≡ m) × (d ≡ o)). absurd (apart (sym (subst (Minded (home_by a n (g.depths n t)) b t)
        (put2-same g.holder m o n d (Leaving l.cpu) u.0 u.1) mind1))))
        (λ (no : n ≡ m → d ≢ o). subst (Minded (home_by a n (g.depths n t)) b t) (put2-other g.holder m o n d (Leaving l.cpu) no) mind1)
        (here_or m n o d))
        (here_or m n e d);
    mine = λ d mind. ⊎_elim
        (λ (u : d ≡ e). subst (Minded (lock_home a k) l.cpu s) (sym (ap (g.holder m) u ∙ was_e)) refl)
        (λ (nu : d ≢ e). ⊎_elim
        (λ (u : d ≡ o). subst (Minded (lock_home a k) l.cpu s) (sym (ap (g.holder m) u ∙ was_o)) i.filled.home)
        (λ (no : d ≢ o). subst (Minded (lock_home a k) l.cpu s) (put2-other g.holder m o m d (Leaving l.cpu) (λ _. no))
        (subst (Minded (lock_home a k) l.cpu s) (put2-other holder1 m e m d (Within key) (λ _. nu)) mind))
        (cases_eq d o))
        (cases_eq d e);
    due = λ before same q home. ⊎_elim
        (λ (u : q ≡ key). linked_new m q refl u ∙ sym (put_key-same before key q (Some e) u))
        (λ (u : q ≢ key). linked_old m q (λ _. u) ∙ (same q home ∙ sym (put_key-other before key q (Some e) u)))
        (equal_keys q key);
  }

  abbrev log' : List Entry
  log' = g.log ++ entry l.cpu event ∷ []

  abbrev lock' : Lock
  lock' = record k { change = Puts key e; dirty = true }

  abbrev g' : Ghost
  g' = record {
    log = log';
    last = last';
    lanes = record g.lanes {
      seen = put g.lanes.seen l.cpu log';
      fresh = put g.lanes.fresh l.cpu rest;
      limbo = limbo1;
      locks = put
          g.lanes.locks l.cpu (lock' ∷ []);
    };
    holder = holder2;
    number = number2;
    taker = g.taker;
    linked = linked2;
    depths = g.depths;
    eras = put g.eras m (put (g.eras m) s (record { era = w (Stamp m s); writer = l.cpu; dirty = true; credit = 1; old = (g.eras m s).old }));
  }

  may : Allowed g.last l.cpu event last'
  may = (
    running_is a w g r l is inside i.filled.runs,
    (
      shape_at a m,
      map_there a w g r l is inside m h.inside.0,
      i.filled.key_size,
      i.filled.size,
      (
        four _ _ _ _ (⊎_elim (λ (q : flags ≡ 0). grind (arith, nat_tests)) (λ (q : flags ≡ 2). grind (arith, nat_tests)) i.flags_known)
            (ap (λ (b : Bool). b && is_some (get (g.last.maps m) key))
            (ne_eqb flags 1 (λ (q : flags ≡ 1). ⊎_elim (λ (p : flags ≡ 0). omega arith) (λ (p : flags ≡ 2). omega arith) i.flags_known)))
            (ap (λ (y : Option ℕ). (flags == 2) && not (is_some y)) get_some ∙ and_false (flags == 2))
            (ap (λ (y : Option ℕ). not (is_some y) && (len (g.last.maps m) == (shape_at a m).max)) get_some),
        (element_span m (shape_at a m) e, place_for a w g r l is inside m e l.cpu at_e was_e, refl),
      ),
    ),
  )

  spelled_is : x ≡ record {
    bytes = take (shape_at a m).value (bytes_of_words (words_for (shape_at a m).value) (λ j. w (ValueWord m e j)));
    span = element_span m (shape_at a m) e;
  }
  spelled_is = ap (λ (b : List ℕ). record { bytes = b; span = element_span m (shape_at a m) e })
      (sym (value_spelled a w f rest m bytes (g.lanes.fresh l.cpu) hand (r.filled l.cpu inside) i.filled.map i.filled.filled i.filled.value
      i.filled.size i.filled.are_bytes))

  updates : is_update f.map event ≡ true
  updates = eq-eqb m f.map (sym i.filled.map)

  -- the event has taken effect, and the lock is still there
  swap_rule : Rule a w g'
  swap_rule = record {
    shaped = r.shaped;
    deep = r.deep;
    logged = logged_event a g.lanes.seen g.log g.last last' l.cpu event r.logged inside may;
    keyed = keyed2;
    worn = effect_worn a l k i.filled.lock w g r is i.filled.nothing (Puts key e) linked2 holder2 effect event (eq-eqb m m refl);
    runs = runs_quiet a w g r l is inside (λ d. w (RunCount d)) event r.runs refl;
    batched = batched_comes a l.cpu m e s key holder1 was1 _ _ _ g.lanes.fresh limbo1 g.last.held g.number g.last.made owned1
        (batched_goes a l.cpu m o s key g.holder was_o _ _ g.lanes.limbo g.last.held g.number r.batched room inside);
    owned = owned_comes a l.cpu m e s key holder1 was1 _ g.lanes.fresh limbo1 f rest owned1 i.filled.map refl hand inside;
    linked = linked_comes a l.cpu m e s key holder1 was1 linked1 linked_1 none1 at_e;
    filled = filled_rest a l.cpu m e s key holder1 was1 _ _ g.lanes.fresh f rest r.filled hand inside;
    segments = effect_segments a l k i.filled.lock w g r is i.filled.nothing (Puts key e) linked2 holder2 effect;
    locking = effect_locking a l k i.filled.lock w g r is i.filled.nothing (Puts key e) linked2 holder2 effect;
    reading = effect_reading a l k i.filled.lock w g r is i.filled.nothing (Puts key e) linked2 holder2 effect;
    held = effect_held a l k i.filled.lock w g r is i.filled.nothing (Puts key e) linked2 holder2 effect inside;
    fixed = fixed_later a r.shaped (λ b k. w (FixedWord b k)) g.last.value g.last.made x
        (subst (λ h. fixed_count h ≤ g.last.made) (shape_is a w g r l is inside) (sound a w g r).fixed.made) r.fixed;
    valued = valued_comes a l.cpu m e s key holder1 was1 _ g.last.made g.last.value g.last.held g.number x
        (valued_goes a l.cpu m o s key g.holder was_o _ g.last.made g.last.value g.last.held g.number r.valued) spelled_is;
    shown = shown_step a g.log log' g.last last' g.lanes.fresh (put g.lanes.fresh l.cpu rest) g.lanes.tally g.holder holder2 g.taker
        (begun_answer g.log g.lanes.fresh l.cpu f rest event hand updates)
        (causes_on a g.log g.last last' g.lanes.fresh (put g.lanes.fresh l.cpu rest) l.cpu event
        (begun_answer g.log g.lanes.fresh l.cpu f rest event hand updates) r.logged.legal may r.shown.causes tt)
        (λ d p. ⊎_elim (λ (none : g.lanes.fresh d ≡ []). inl (empty_still g.lanes.fresh l.cpu f rest rest hand d none))
        (λ (run : in_run (events_of d g.log) ≡ true). inr (run_quiet l.cpu d event g.log refl run)) p)
        (had_update g.last m key x)
        (λ n d. (
          (λ now. (settles_put g.holder m o (Leaving l.cpu) (λ _ free. let z : Within key ≡ Free = sym was_o ∙ free in cc) (λ c q. cc) n
              d).0 ((settles_put holder1 m e (Within key) (λ _ free. let z : Filling l.cpu ≡ Free = sym was1 ∙ free in cc) (λ c q. cc) n d).0 now)),
          (λ c is. (settles_put g.holder m o (Leaving l.cpu) (λ _ free. let z : Within key ≡ Free = sym was_o ∙ free in cc) (λ c q. cc) n
              d).1 c ((settles_put holder1 m e (Within key) (λ _ free. let z : Filling l.cpu ≡ Free = sym was1 ∙ free in cc) (λ c q. cc) n
              d).1 c is)),
        ))
        (λ b n d inb at has. ⊎_elim
        (λ (h : (n ≡ f.map) × (d ≡ f.element)). inl (
          subst (HasHadValue last')
              (λ j. element_span ((sym i.filled.map ∙ sym h.0) j) (shape_at a ((sym i.filled.map ∙ sym h.0) j)) (sym h.1 j))
              (new_update g.last m key x),
          hand_held a w g r b n d inb at has,
        ))
        (λ (h : 1 ≤ times_fresh n d (put g.lanes.fresh l.cpu rest b)). inr h)
        (hand_rest g.lanes.fresh l.cpu f rest hand b n d has)) r.shown;
  }

  abbrev l2 : Known
  l2 = record l { seen = log'; fresh = rest; limbo = with_gone l m o; locks = lock' ∷ [] }

  is2 : lane g'.lanes l.cpu ≡ l2
  is2 = rw (eq-eqb l.cpu l.cpu refl) (ap (λ (y : Known). record y
      { seen = log'; fresh = rest; limbo = set y.limbo m (with_used (limbo_at y.limbo m) o); locks = lock' ∷ [] }) is)

  pub swap_next : Next a (put_at w (Stamp m s) (k.stamp + 256)) g l.cpu (Replaced a l k rest key bytes flags o)
  swap_next =
      let u = unlock_new a l2 lock' refl w g' swap_rule is2 inside refl i.written in
      record {
        ghost = unlocked a l2 lock' refl w g' swap_rule is2 inside tt u.0 (k.stamp + 256);
        rule = u.1;
        others = λ d ne. rw (ne_eqb d l.cpu ne) refl;
        longer = (entry l.cpu event ∷ [], refl);
        tally = refl;
        says = subst (Replaced a l k rest key bytes flags o) (sym (after u.0))
            (record { seen = saw a w g r l is inside event last' may swap_rule.logged; after = refl });
      }
    where
      after : (y : Era) → lane (unlocked a l2 lock' refl w g' swap_rule is2 inside tt y (k.stamp + 256)).lanes l.cpu ≡ record l
          { seen = log'; fresh = rest; limbo = with_gone l m o; locks = [] }
      after y = rw (eq-eqb l.cpu l.cpu refl) (ap (λ (z : Known). record z
          { seen = log'; fresh = rest; limbo = set z.limbo m (with_used (limbo_at z.limbo m) o); locks = [] }) is)

pub unlock_replaced : (a : About) (l : Known) (k : Lock) (f : Fresh) (rest : List Fresh) (key bytes : List ℕ) (flags o : ℕ) → Replaces a l k
    f rest key bytes flags o
    → Steps a l (Stamp k.map k.segment) (λ _. k.stamp + 256) (λ ws n l'. Replaced a l k rest key bytes flags o l')
unlock_replaced a l k f rest key bytes flags o i ws g sized r is inside fits = swap_next a l k f rest key bytes flags o i (mem a.shape ws) g r is inside
