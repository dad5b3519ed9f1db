-- Count down: the fetch_sub by which a deletion takes effect.
use Rattle.std.proofs.Common.{◌≡◌, ◌≢◌, ℕ, ◌+◌, ◌-◌, ◌%◌, ◌^◌, ◌<◌, ◌≤◌, true, List, [], ◌∷◌, ◌++◌, Option, Some, None, is_some, length}
use Rattle.std.proofs.Common.{set, refl, ap, sym, subst, ◌∙◌, arith, eq-eqb, ne_eqb, ⊎_elim, inl, inr}
use native.Mathlib.Decide.{ℕ_discrete}
use mathlib.Core.Logic.{dite}
use Rattle.std.specs.FinMap.{get, len, empty, empty_of_len, get-empty}
use Rattle.std.specs.Ordering.{nat_cmp}
use Rattle.std.specs.Cmp.Lexicographic.{slice_cmp}
use Rattle.std.proofs.lemmas.Bool.{cases_eq}
use Rattle.bpf_shared.specs.declared.events.Event.{Event}
use Rattle.bpf_shared.specs.declared.events.Event.TheVariants.{Delete}
use Rattle.bpf_shared.specs.declared.events.Entry.{Entry}
use Rattle.bpf_shared.specs.declared.events.MapAnswer.TheVariants.{Done}
use Rattle.bpf_shared.specs.Store.{Plain, KeyMap, put}
use Rattle.bpf_shared.specs.Events.{Allowed, after_delete}
use Rattle.bpf_shared.specs.History.{entry, events_of}
use Rattle.bpf_shared.specs.Own.{in_run}
use Rattle.bpf_shared.proofs.Puts.{put-same}
use Rattle.hop_layout.specs.declared.place.Place.{Place}
use Rattle.hop_layout.specs.declared.place.Place.TheVariants.{RunCount, KeyCount, Stamp}
use Rattle.hop_layout.specs.declared.about.About.{About}
use Rattle.hop_words.specs.declared.known.Known.{Known}
use Rattle.hop_words.specs.declared.known.Limbo.{Limbo}
use Rattle.hop_words.specs.declared.known.Lock.{Lock}
use Rattle.hop_words.specs.declared.known.Change.TheVariants.{Drops}
use Rattle.hop_layout.specs.Layout.{mem, put_at}
use Rattle.hop_words.specs.Content.{words_by_place}
use Rattle.hop_words.specs.Ghost.{Holder, Free, Leaving, Within, lane, Ghost, shape_at, HasElement, limbo_at, lock_home}
use Rattle.hop_words.specs.Rule.{Rule, Minded, put_key, changed, Holds, numbered}
use Rattle.hop_words.specs.Private.Step.{Next, Steps}
use Rattle.hop_words.specs.Kinds.{Removes, Removed, with_gone}
use Rattle.hop_words.proofs.Small.{equal_keys, here_or, put2-same, put2-other, put_key-same, put_key-other}
use Rattle.hop_words.proofs.Histories.{logged_event}
use Rattle.hop_words.proofs.Shortages.{begun_event, causes_on, run_quiet, settles_put, shown_step}
use Rattle.hop_words.proofs.Goes.{with_used, owned_goes, cut_old, linked_goes, keyed_goes, batched_goes, valued_goes}
use Rattle.hop_words.proofs.Locks.{holds}
use Rattle.hop_words.proofs.Effects.{Effect, effect_segments, effect_locking, effect_reading, effect_held, effect_worn}
use Rattle.hop_words.proofs.Stays.{saw, running_is, map_there, runs_quiet}
use Rattle.hop_words.specs.Depths.{home_by}
use Rattle.hop_words.proofs.Segs.{one_home}

pub nothing_in : (key : List ℕ) → get {R = slice_cmp nat_cmp} (empty {X = ℕ}) key ≡ None
nothing_in key = search (get-empty)

module _ (a : About) (l : Known) (k : Lock) (key : List ℕ) (e : ℕ) (i : Removes a l k key e)
    (w : Place → ℕ) (g : Ghost) (r : Rule a w g) (is : lane g.lanes l.cpu ≡ l) (inside : l.cpu < a.shape.cpus) where
  abbrev m : ℕ
  m = k.map

  abbrev s : ℕ
  s = k.segment

  h : Holds a g.depths (words_by_place w) (λ n t. w (Stamp n t)) g.eras g.linked g.holder l.cpu k
  h = holds a l k i.lock w g r is

  there : g.linked m key ≡ Some e
  there = h.due.2 key i.home ∙ (ap (λ x. changed x h.due.0 key) i.nothing ∙ i.there h.due.0 h.due.1)

  at_e : HasElement a m e
  at_e = (r.linked.within m key e there).0

  was : g.holder m e ≡ Within key
  was = (r.linked.within m key e there).1

  home_is : home_by a m (g.depths m s) key ≡ s
  home_is = ap (λ (j : ℕ). home_by a m j key) (sym h.deep) ∙ i.home

  limbo_is : g.lanes.limbo l.cpu ≡ l.limbo
  limbo_is = ap (λ (x : Known). x.limbo) is

  room : m < length (g.lanes.limbo l.cpu)
  room = subst (λ (x : List Limbo). m < length x) (sym limbo_is) i.room

  abbrev event : Event
  event = Delete m key Done

  abbrev linked' : ℕ → List ℕ → Option ℕ
  linked' = put g.linked m (put_key (g.linked m) key None)

  abbrev holder' : ℕ → ℕ → Holder
  holder' = put g.holder m (put (g.holder m) e (Leaving l.cpu))

  effect : Effect a g.depths l.cpu k (Drops key) g.linked linked' g.holder holder'
  effect = record {
    owes = refl;
    keys = λ n t q b ne home. cut_old a l.cpu m e s key g.holder was g.linked n q
        (λ u v. ne u (one_home a g.depths m s n t q h.inside b u (ap (home_by a m (g.depths m s)) v ∙ home_is) home));
    theirs = λ n t b d apart at_t ne mind. ⊎_elim
        (λ (u : (n ≡ m) × (d ≡ e)). absurd (apart (sym (subst (Minded (home_by a n (g.depths n t)) b t)
        (put2-same g.holder m e n d (Leaving l.cpu) u.0 u.1) mind))))
        (λ (nu : n ≡ m → d ≢ e). subst (Minded (home_by a n (g.depths n t)) b t) (put2-other g.holder m e n d (Leaving l.cpu) nu) mind)
        (here_or m n e d);
    mine = λ d mind. ⊎_elim
        (λ (u : d ≡ e). subst (Minded (lock_home a k) l.cpu s) (sym (ap (g.holder m) u ∙ was)) i.home)
        (λ (nu : d ≢ e). subst (Minded (lock_home a k) l.cpu s) (put2-other g.holder m e m d (Leaving l.cpu) (λ _. nu)) mind)
        (cases_eq d e);
    due = λ before same q home. ⊎_elim
        (λ (u : q ≡ key). ap (λ (f : List ℕ → Option ℕ). f q) (put-same g.linked m m (put_key (g.linked m) key None) refl) ∙
        (put_key-same (g.linked m) key q None u ∙ sym (put_key-same before key q None u)))
        (λ (u : q ≢ key). cut_old a l.cpu m e s key g.holder was g.linked m q (λ _. u) ∙ (same q home ∙ sym (put_key-other before key q None u)))
        (equal_keys q key);
  }

  abbrev last' : Plain
  last' = after_delete g.last m key

  abbrev log' : List Entry
  log' = g.log ++ entry l.cpu event ∷ []

  abbrev limbo' : List Limbo
  limbo' = set (g.lanes.limbo l.cpu) m (with_used (limbo_at (g.lanes.limbo l.cpu) m) e)

  abbrev lock' : Lock
  lock' = record k { change = Drops key; dirty = true }

  abbrev g' : Ghost
  g' = record {
    log = log';
    last = last';
    lanes = record g.lanes { seen = put g.lanes.seen l.cpu log'; limbo = put g.lanes.limbo l.cpu limbo'; locks = put g.lanes.locks l.cpu (lock' ∷ []) };
    holder = holder';
    number = g.number;
    linked = linked';
    taker = g.taker;
    depths = g.depths;
    eras = put g.eras m (put (g.eras m) s (record { era = w (Stamp m s); writer = l.cpu; dirty = true; credit = 1; old = (g.eras m s).old }));
  }

  get_some : get (g.last.maps m) key ≡ Some (g.number m e)
  get_some = r.keyed.leads m key ∙ ap (numbered (g.number m)) there

  may : Allowed g.last l.cpu event last'
  may = (running_is a w g r l is inside i.runs, ((shape_at a m, map_there a w g r l is inside m h.inside.0, i.key_size), (ap is_some get_some, refl)))

  has_some : 1 ≤ w (KeyCount m)
  has_some = dite (ℕ_discrete (len (g.last.maps m)) 0)
      (λ (z : len (g.last.maps m) ≡ 0).
      let n : None ≡ Some (g.number m e) = sym (nothing_in key) ∙ (ap (λ (x : KeyMap). get x key) (sym (empty_of_len (g.last.maps m) z)) ∙ get_some) in cc)
      (λ nz. let c = r.keyed.counted m h.inside.0 in grind arith)

  down_rule : Rule a (put_at w (KeyCount m) (w (KeyCount m) - 1)) g'
  down_rule = record {
    shaped = r.shaped;
    fixed = r.fixed;
    deep = r.deep;
    logged = logged_event a g.lanes.seen g.log g.last last' l.cpu event r.logged inside may;
    keyed = keyed_goes a l.cpu m e s key g.holder was g.linked (λ j. w (KeyCount j)) g.last.maps g.number r.keyed there;
    worn = effect_worn a l k i.lock w g r is i.nothing (Drops key) linked' holder' effect event (eq-eqb m m refl);
    runs = runs_quiet a w g r l is inside (λ d. w (RunCount d)) event r.runs refl;
    batched = batched_goes a l.cpu m e s key g.holder was _ _ g.lanes.limbo g.last.held g.number r.batched room inside;
    owned = owned_goes a l.cpu m e s key g.holder was _ g.lanes.fresh g.lanes.limbo r.owned inside at_e room;
    linked = linked_goes a l.cpu m e s key g.holder was g.linked r.linked there;
    filled = r.filled;
    segments = effect_segments a l k i.lock w g r is i.nothing (Drops key) linked' holder' effect;
    locking = effect_locking a l k i.lock w g r is i.nothing (Drops key) linked' holder' effect;
    reading = effect_reading a l k i.lock w g r is i.nothing (Drops key) linked' holder' effect;
    held = effect_held a l k i.lock w g r is i.nothing (Drops key) linked' holder' effect inside;
    valued = valued_goes a l.cpu m e s key g.holder was _ g.last.made g.last.value g.last.held g.number r.valued;
    shown = shown_step a g.log log' g.last last' g.lanes.fresh g.lanes.fresh g.lanes.tally g.holder holder' g.taker
        (begun_event g.log g.lanes.fresh l.cpu event)
        (causes_on a g.log g.last last' g.lanes.fresh g.lanes.fresh l.cpu event (begun_event g.log g.lanes.fresh l.cpu event) r.logged.legal
        may r.shown.causes tt)
        (λ d p. ⊎_elim (λ (none : g.lanes.fresh d ≡ []). inl none)
        (λ (run : in_run (events_of d g.log) ≡ true). inr (run_quiet l.cpu d event g.log refl run)) p)
        (λ p h. h)
        (settles_put g.holder m e (Leaving l.cpu) (λ _ free. let z : Within key ≡ Free = sym was ∙ free in cc) (λ c q. cc))
        (λ c n d inb at h. inr h) r.shown;
  }

  down_lane : lane g'.lanes l.cpu ≡ record l { seen = log'; limbo = with_gone l m e; locks = lock' ∷ [] }
  down_lane = rw (eq-eqb l.cpu l.cpu refl) (ap (λ (x : Known). record x
      { seen = log'; limbo = set x.limbo m (with_used (limbo_at x.limbo m) e); locks = lock' ∷ [] }) is)

  pub down_next : Next a (put_at w (KeyCount m) (w (KeyCount m) - 1)) g l.cpu (Removed a l k key e)
  down_next = record {
    ghost = g';
    rule = down_rule;
    others = λ d ne. rw (ne_eqb d l.cpu ne) refl;
    longer = (entry l.cpu event ∷ [], refl);
    tally = refl;
    says = subst (Removed a l k key e) (sym down_lane) (record { seen = saw a w g r l is inside event last' may down_rule.logged; after = refl });
  }

pub count_down : (a : About) (l : Known) (k : Lock) (key : List ℕ) (e : ℕ) → Removes a l k key e → Steps a l (KeyCount k.map)
    (λ n. (n + (2 ^ 64 - 1)) % 2 ^ 64) (λ ws n l'. Removed a l k key e l')
count_down a l k key e i ws g sized r is inside fits =
    let w = mem a.shape ws in
    let one = has_some a l k key e i w g r is inside in
    let less : (w (KeyCount k.map) + (2 ^ 64 - 1)) % 2 ^ 64 ≡ w (KeyCount k.map) - 1 = (let n = w (KeyCount k.map) in omega arith) in
    subst (λ (n : ℕ). Next a (put_at w (KeyCount k.map) n) g l.cpu (Removed a l k key e)) (sym less) (down_next a l k key e i w g r is inside)
