-- Count run: begin and end of a run. See counter.
use Rattle.std.proofs.Common.{◌≡◌, ◌≢◌, ℕ, zero, suc, ◌+◌, ◌%◌, ◌^◌, ◌<◌, ◌≤◌, Bool, true, false, true≢false, List, [], ◌∷◌, ◌++◌, length}
use Rattle.std.proofs.Common.{set, slice_index, get_or, get_or-set_other, refl, ap, sym, subst, ◌∙◌, arith, length-set, eq-eqb, ne_eqb}
use Rattle.std.proofs.Common.{⊎_elim, inl, inr, ◌⊎◌}
use Rattle.std.proofs.lemmas.Bool.{cases_eq}
use native.Mathlib.Decide.{ℕ_discrete}
use mathlib.Core.Logic.{dite}
use Rattle.bpf_shared.specs.declared.events.Event.{Event}
use Rattle.bpf_shared.specs.declared.events.Event.TheVariants.{Begin, End}
use Rattle.bpf_shared.specs.Store.{Value, Plain, put, never, fixed_number}
use Rattle.bpf_shared.specs.Events.{Allowed, after_begin, after_end}
use Rattle.bpf_shared.specs.History.{entry, events_of}
use Rattle.bpf_shared.proofs.Puts.{put-same, put-other}
use Rattle.hop_layout.specs.declared.place.Place.{Place}
use Rattle.hop_layout.specs.declared.place.Place.TheVariants.{RunCount, Stamp, Link}
use Rattle.hop_layout.specs.declared.about.About.{About}
use Rattle.hop_words.specs.declared.known.Known.{Known}
use Rattle.hop_words.specs.declared.known.Limbo.{Limbo}
use Rattle.hop_layout.specs.Layout.{mem, put_at}
use Rattle.hop_words.specs.Content.{one_if, times}
use Rattle.hop_words.specs.Ghost.{is_leaving, lane, Ghost, HasElement, limbo_at}
use Rattle.hop_words.specs.Rule.{Rule, begun_in, Runs, Chained, times_limbo}
use Rattle.bpf_shared.specs.Own.{turns_of, in_run}
use Rattle.hop_words.specs.Shortage.{HasCause}
use Rattle.hop_words.specs.Private.Step.{Next, Steps}
use Rattle.hop_words.specs.Kinds.{run_count, AddsEvent, noting_next, ageing, cleared, limbo_set}
use Rattle.hop_words.proofs.Shortages.{begun_event, causes_on, run_else, settled, shown_step}
use Rattle.hop_words.proofs.Histories.{logged_event, runs_as_known, turns_own, turns_else, prefix_refl}
use Rattle.hop_words.proofs.Goes.{limbo_put}
use Rattle.hop_words.proofs.Locks.{put_here}
use Rattle.hop_words.proofs.Stays.{stay, put_again, saw, shape_is, worn_more}

module _ (a : About) (l : Known) (w : Place → ℕ) (g : Ghost) (r : Rule a w g) (is : lane g.lanes l.cpu ≡ l) (inside : l.cpu < a.shape.cpus) where
  own : events_of l.cpu l.seen ≡ events_of l.cpu g.log
  own = ap (events_of l.cpu) (sym (ap (λ (x : Known). x.seen) is)) ∙ r.logged.own l.cpu inside

  -- the CPU's counter is the one that its own events determine
  pub own_count : w (RunCount l.cpu) ≡ run_count a l
  own_count = r.runs l.cpu inside ∙ ap (λ es. a.count + turns_of es) (sym own)

  pub runs_now : g.last.running l.cpu ≡ in_run (events_of l.cpu l.seen)
  runs_now = runs_as_known a l.cpu g.last g.log l.seen r.shaped r.logged.legal own

  module _ (e : Event) (once : turns_of (e ∷ []) ≡ 1) (t : Plain) (may : Allowed g.last l.cpu e t)
      (cause : HasCause a.version (begun_in g.log g.lanes.fresh) (record { shape = a.shape; before = g.log; store = g.last; cpu = l.cpu })
      e) (empty : g.lanes.fresh l.cpu ≡ []) (n : ℕ) (up : n ≡ w (RunCount l.cpu) + 1)
      (maps : t.maps ≡ g.last.maps) (made : t.made ≡ g.last.made) (value : t.value ≡ g.last.value) (holds : t.held ≡ put g.last.held l.cpu never) where
    abbrev g2 : Ghost
    g2 = record g { log = g.log ++ entry l.cpu e ∷ []; last = t; lanes = record g.lanes { seen = put g.lanes.seen l.cpu (g.log ++ entry l.cpu e ∷ []) } }

    abbrev counts2 : ℕ → ℕ
    counts2 = λ c. put_at w (RunCount l.cpu) n (RunCount c)

    counts_here : counts2 l.cpu ≡ n
    counts_here = put_here w (RunCount l.cpu) n

    counts_else : (d : ℕ) → d ≢ l.cpu → counts2 d ≡ w (RunCount d)
    counts_else d ne = rw (ne_eqb d l.cpu ne) refl

    runs2 : Runs a counts2 (g.log ++ entry l.cpu e ∷ [])
    runs2 d h = ⊎_elim
        (λ (s : d ≡ l.cpu). subst (λ (x : ℕ). counts2 x ≡ a.count + turns_of (events_of x (g.log ++ entry l.cpu e ∷ []))) (sym s)
        (let b = r.runs l.cpu inside in let z = turns_own l.cpu e g.log in counts_here ∙ (up ∙ omega arith)))
        (λ (ne : d ≢ l.cpu). counts_else d ne ∙ (r.runs d h ∙ ap (λ (x : ℕ). a.count + x) (sym (turns_else l.cpu d e g.log ne))))
        (cases_eq d l.cpu)

    -- who holds a value after the turn held it before, and is another CPU
    still : (d v : ℕ) → t.held d v ≡ true → (d ≢ l.cpu) × (g.last.held d v ≡ true)
    still d v h = ⊎_elim
        (λ (s : d ≡ l.cpu). absurd (true≢false (sym h ∙ (ap (λ (f : ℕ → ℕ → Bool). f d v) holds ∙ ap (λ (f : ℕ → Bool). f v)
        (put-same g.last.held l.cpu d never s)))))
        (λ (ne : d ≢ l.cpu). (ne, sym (ap (λ (f : ℕ → ℕ → Bool). f d v) holds ∙ ap (λ (f : ℕ → Bool). f v) (put-other g.last.held l.cpu d never ne)) ∙ h))
        (cases_eq d l.cpu)

    turn_rule : Rule a (put_at w (RunCount l.cpu) n) g2
    turn_rule = record {
      shaped = r.shaped;
      fixed = λ b k i has. ap (λ f. f (fixed_number b k i)) value ∙ r.fixed b k i has;
      deep = r.deep;
      logged = logged_event a g.lanes.seen g.log g.last t l.cpu e r.logged inside may;
      keyed = rw maps r.keyed;
      worn = worn_more a g.depths (λ m s. w (Stamp m s)) g.eras g.log (entry l.cpu e) r.worn;
      runs = runs2;
      batched = record {
        young = r.batched.young;
        old = r.batched.old;
        noted = λ c m x d inc at_x has few h. let k = still d (g.number m x) h in r.batched.noted c m x d inc at_x has few k.1 ∙ sym (counts_else d k.0);
      };
      owned = r.owned;
      linked = r.linked;
      filled = r.filled;
      segments = r.segments;
      locking = r.locking;
      reading = r.reading;
      held = r.held;
      valued = record {
        lies = λ m x at_x has. ap (λ f. f (g.number m x)) value ∙ r.valued.lies m x at_x has;
        older = λ m x at_x has. subst (λ (k : ℕ). g.number m x < k) (sym made) (r.valued.older m x at_x has);
        held_in = λ d v h. r.valued.held_in d v (still d v h).1;
      };
      shown = shown_step a g.log (g.log ++ entry l.cpu e ∷ []) g.last t g.lanes.fresh g.lanes.fresh g.lanes.tally g.holder g.holder g.taker
          (begun_event g.log g.lanes.fresh l.cpu e)
          (causes_on a g.log g.last t g.lanes.fresh g.lanes.fresh l.cpu e (begun_event g.log g.lanes.fresh l.cpu e) r.logged.legal may r.shown.causes cause)
          (λ d p. ⊎_elim (λ (s : d ≡ l.cpu). inl (ap g.lanes.fresh s ∙ empty))
          (λ (ne : d ≢ l.cpu). ⊎_elim (λ (none : g.lanes.fresh d ≡ []). inl none)
          (λ (run : in_run (events_of d g.log) ≡ true). inr (run_else l.cpu d e g.log ne run)) p)
          (cases_eq d l.cpu))
          (λ p h. (h.0, subst (λ (k : ℕ). h.0 < k) (sym made) h.1, ap (λ (f : ℕ → Value). (f h.0).span) value ∙ h.2)) (settled g.holder)
          (λ c m x inb at_x h. inr h) r.shown;
    }

    pub turn_next : Next a (put_at w (RunCount l.cpu) n) g l.cpu (AddsEvent a l e)
    turn_next = record {
      ghost = g2;
      rule = turn_rule;
      others = λ d ne. rw (ne_eqb d l.cpu ne) refl;
      longer = (entry l.cpu e ∷ [], refl);
      tally = refl;
      says = subst (AddsEvent a l e) (sym (rw (eq-eqb l.cpu l.cpu refl)
          (ap (λ (z : Known). record z { seen = g.log ++ entry l.cpu e ∷ [] }) is)))
          (record { seen = saw a w g r l is inside e t may turn_rule.logged; after = refl });
    }

pub count_begin : (a : About) (l : Known) → in_run (events_of l.cpu l.seen) ≡ false → run_count a l + 1 < 2 ^ 64 → Steps a l
    (RunCount l.cpu) (λ n. (n + 1) % 2 ^ 64) (λ ws n l'. AddsEvent a l Begin l')
count_begin a l idle room ws g sized r is inside fits =
    let w = mem a.shape ws in
    let c = own_count a l w g r is inside in
    turn_next a l w g r is inside Begin refl (after_begin g.last l.cpu)
    (subst (λ h. l.cpu < h.cpus) (sym (shape_is a w g r l is inside)) inside, runs_now a l w g r is inside ∙ idle, refl) tt
    (⊎_elim (λ (none : g.lanes.fresh l.cpu ≡ []). none) (λ (run : in_run (events_of l.cpu g.log) ≡ true). absurd
    (true≢false (sym run ∙ (ap in_run (sym (own a l w g r is inside)) ∙ idle)))) (r.shown.running l.cpu))
    ((w (RunCount l.cpu) + 1) % 2 ^ 64) (omega arith) refl refl refl refl

pub count_end : (a : About) (l : Known) → l.fresh ≡ [] → in_run (events_of l.cpu l.seen) ≡ true → run_count a l + 1 < 2 ^ 64 → Steps a l
    (RunCount l.cpu) (λ n. (n + 1) % 2 ^ 64) (λ ws n l'. AddsEvent a l End l')
count_end a l empty running room ws g sized r is inside fits =
    let w = mem a.shape ws in
    let c = own_count a l w g r is inside in
    turn_next a l w g r is inside End refl (after_end g.last l.cpu) (runs_now a l w g r is inside ∙ running, refl) tt (ap (λ (x : Known). x.fresh) is ∙ empty)
    ((w (RunCount l.cpu) + 1) % 2 ^ 64) (omega arith) refl refl refl refl

-- a load of the own counter
pub see_own_count : (a : About) (l : Known) → Steps a l (RunCount l.cpu) (λ n. n) (λ ws n l'. (n ≡ run_count a l) × (l' ≡ l))
see_own_count a l ws g sized r is inside fits = stay a (mem a.shape ws) g l.cpu (RunCount l.cpu) _ r (own_count a l (mem a.shape ws) g r is inside, is)

-- ---- see counter: only what the lane has of one map changes, and in it only the batches
module _ (a : About) (l : Known) (m : ℕ) (room : m < length l.limbo) (x : Limbo) (p : Place) (w : Place → ℕ) (g : Ghost) (r : Rule a w g)
    (is : lane g.lanes l.cpu ≡ l) (inside : l.cpu < a.shape.cpus) where
  abbrev before : Limbo
  before = limbo_at (g.lanes.limbo l.cpu) m

  abbrev limbo2 : ℕ → List Limbo
  limbo2 = put g.lanes.limbo l.cpu (set (g.lanes.limbo l.cpu) m x)

  abbrev g3 : Ghost
  g3 = record g { lanes = record g.lanes { limbo = limbo2 } }

  room' : m < length (g.lanes.limbo l.cpu)
  room' = subst (λ (y : List Limbo). m < length y) (sym (ap (λ (z : Known). z.limbo) is)) room

  pub batch_next : ((e : ℕ) → times_limbo e x ≡ times_limbo e before) → Chained (λ e. w (Link m e)) x.young → Chained (λ e. w (Link m e)) x.old
      → ((e d : ℕ) → HasElement a m e → 1 ≤ times e x.old → d < length x.noted → g.last.held d (g.number m e) ≡ true → slice_index x.noted d ≡ w (RunCount d))
      → Next a (put_at w p (w p)) g l.cpu (λ l'. l' ≡ limbo_set l m x)
  batch_next same young old noted = record {
    ghost = g3;
    rule = subst (λ (v : Place → ℕ). Rule a v g3) (sym (put_again w p)) (record {
      shaped = r.shaped;
      fixed = r.fixed;
      deep = r.deep;
      logged = r.logged;
      keyed = r.keyed;
      worn = r.worn;
      runs = r.runs;
      batched = record {
        young = limbo_put (λ b n y. b < a.shape.cpus → Chained (λ e. w (Link n e)) y.young) g.lanes.limbo l.cpu m x room' (λ _. young)
            (λ b n _. r.batched.young b n);
        old = limbo_put (λ b n y. b < a.shape.cpus → Chained (λ e. w (Link n e)) y.old) g.lanes.limbo l.cpu m x room' (λ _. old) (λ b n _. r.batched.old b n);
        noted = λ b n e d. limbo_put (λ b n y. b < a.shape.cpus → HasElement a n e → 1 ≤ times e y.old → d < length y.noted → g.last.held d
            (g.number n e) ≡ true → slice_index y.noted d ≡ w (RunCount d)) g.lanes.limbo l.cpu m x room'
            (λ _. noted e d) (λ b n _. r.batched.noted b n e d) b n;
      };
      owned = record {
        bits = r.owned.bits;
        fresh_is = r.owned.fresh_is;
        limbo_is = λ b n e inb at_e. limbo_put (λ b n y. b < a.shape.cpus → HasElement a n e → times_limbo e y ≡ one_if
            (is_leaving b (g.holder n e))) g.lanes.limbo l.cpu m x room'
            (λ inc at_m. same e ∙ r.owned.limbo_is l.cpu m e inc at_m) (λ b n _ inb at_n. r.owned.limbo_is b n e inb at_n) b n inb at_e;
      };
      linked = r.linked;
      filled = r.filled;
      segments = r.segments;
      locking = r.locking;
      reading = r.reading;
      held = r.held;
      valued = r.valued;
      shown = r.shown;
    });
    others = λ d ne. rw (ne_eqb d l.cpu ne) refl;
    longer = prefix_refl g.log;
    tally = refl;
    says = rw (eq-eqb l.cpu l.cpu refl) (ap (λ (z : Known). record z { limbo = set z.limbo m x }) is);
  }

limbo_of : (g : Ghost) (l : Known) (m : ℕ) → lane g.lanes l.cpu ≡ l → limbo_at (g.lanes.limbo l.cpu) m ≡ limbo_at l.limbo m
limbo_of g l m is = ap (λ (z : Known). limbo_at z.limbo m) is

get_end : (xs : List ℕ) (n d : ℕ) → d < length (xs ++ n ∷ []) → ((d < length xs) × (get_or (xs ++ n ∷ []) d 0 ≡ get_or xs d 0)) ⊎
    ((d ≡ length xs) × (get_or (xs ++ n ∷ []) d 0 ≡ n))
get_end [] n zero h = inr (refl, refl)
get_end [] n (suc d) h = absurd (omega arith)
get_end (x ∷ xs) n zero h = inl (omega arith, refl)
get_end (x ∷ xs) n (suc d) h = ⊎_elim (λ t. inl (let z = t.0 in omega arith, t.1)) (λ t. inr (ap suc t.0, t.1)) (get_end xs n d (omega arith))

-- the next counter is noted with the old batch
pub see_counter : (a : About) (l : Known) (m : ℕ) → m < length l.limbo → Steps a l (RunCount (length (limbo_at l.limbo m).noted)) (λ n. n)
    (λ ws n l'. l' ≡ noting_next l m n)
see_counter a l m room ws g sized r is inside fits =
    let w = mem a.shape ws in
    let y = limbo_at l.limbo m in
    let c = length y.noted in
    let q = limbo_of g l m is in
    batch_next a l m room (record y { noted = y.noted ++ w (RunCount c) ∷ [] }) (RunCount c) w g r is inside
    (λ e. ap (times_limbo e) (sym q))
    (subst (λ z. Chained (λ e. w (Link m e)) z.young) q (r.batched.young l.cpu m inside))
    (subst (λ z. Chained (λ e. w (Link m e)) z.old) q (r.batched.old l.cpu m inside))
    (λ e d at_e has few h. ⊎_elim
    (λ t. t.1 ∙ subst (λ z. 1 ≤ times e z.old → d < length z.noted → slice_index z.noted d ≡ w (RunCount d)) q
    (λ i j. r.batched.noted l.cpu m e d inside at_e i j h) has t.0)
    (λ t. t.1 ∙ ap (λ (k : ℕ). w (RunCount k)) (sym t.0))
    (get_end y.noted (w (RunCount c)) d few))

-- the young batch becomes the old one, which was empty
pub see_first_counter : (a : About) (l : Known) (m : ℕ) → m < length l.limbo → (limbo_at l.limbo m).old ≡ [] → Steps a l (RunCount 0)
    (λ n. n) (λ ws n l'. l' ≡ ageing l m n)
see_first_counter a l m room none ws g sized r is inside fits =
    let w = mem a.shape ws in
    let y = limbo_at l.limbo m in
    let q = limbo_of g l m is in
    batch_next a l m room (record y { young = []; old = y.young; noted = w (RunCount 0) ∷ [] }) (RunCount 0) w g r is inside
    (λ e. (let z : times e y.old ≡ 0 = ap (times e) none in
    let s : times_limbo e (limbo_at (g.lanes.limbo l.cpu) m) ≡ times_limbo e y = ap (times_limbo e) q in omega arith))
    tt
    (subst (λ z. Chained (λ e. w (Link m e)) z.young) q (r.batched.young l.cpu m inside))
    (λ e d at_e has few h. zero_only d few)
  where
    zero_only : (d : ℕ) → d < 1 → slice_index (mem a.shape ws (RunCount 0) ∷ []) d ≡ mem a.shape ws (RunCount d)
    zero_only zero few = refl
    zero_only (suc d) few = absurd (omega arith)

-- a counter that isn't the one noted: its CPU holds nothing of the old batch
pub see_counter_again : (a : About) (l : Known) (m d : ℕ) → m < length l.limbo → d < length (limbo_at l.limbo m).noted
    → Steps a l (RunCount d) (λ n. n) (λ ws n l'. (n ≢ slice_index (limbo_at l.limbo m).noted d → l' ≡ cleared l m d) ×
    (n ≡ slice_index (limbo_at l.limbo m).noted d → l' ≡ l))
see_counter_again a l m d room few ws g sized r is inside fits = dite (ℕ_discrete (w (RunCount d)) (slice_index y.noted d)) same other
  where
    w : Place → ℕ
    w = mem a.shape ws

    y : Limbo
    y = limbo_at l.limbo m

    q : limbo_at (g.lanes.limbo l.cpu) m ≡ y
    q = limbo_of g l m is

    told : Known → Type 0
    told l' = (w (RunCount d) ≢ slice_index y.noted d → l' ≡ cleared l m d) × (w (RunCount d) ≡ slice_index y.noted d → l' ≡ l)

    same : w (RunCount d) ≡ slice_index y.noted d → Next a (put_at w (RunCount d) (w (RunCount d))) g l.cpu told
    same e = stay a w g l.cpu (RunCount d) told r ((λ ne. absurd (ne e)), (λ _. is))

    old_noted : (e c : ℕ) → HasElement a m e → 1 ≤ times e y.old → c < length y.noted → g.last.held c (g.number m e) ≡ true → slice_index
        y.noted c ≡ w (RunCount c)
    old_noted e c at_e has lt h = subst (λ z. 1 ≤ times e z.old → c < length z.noted → slice_index z.noted c ≡ w (RunCount c)) q
        (λ i j. r.batched.noted l.cpu m e c inside at_e i j h) has lt

    other : (w (RunCount d) ≡ slice_index y.noted d → ⊥) → Next a (put_at w (RunCount d) (w (RunCount d))) g l.cpu told
    other ne =
        let n = batch_next a l m room (record y { noted = set y.noted d 0 }) (RunCount d) w g r is inside
        (λ e. ap (times_limbo e) (sym q))
        (subst (λ z. Chained (λ e. w (Link m e)) z.young) q (r.batched.young l.cpu m inside))
        (subst (λ z. Chained (λ e. w (Link m e)) z.old) q (r.batched.old l.cpu m inside))
        (λ e c at_e has lt h. ⊎_elim
        (λ (t : c ≡ d). absurd (ne (ap (λ (k : ℕ). w (RunCount k)) (sym t) ∙
        (sym (old_noted e c at_e has (subst (λ (k : ℕ). k < length y.noted) (sym t) few) h) ∙ ap (λ (k : ℕ). slice_index y.noted k) t))))
        (λ (nd : c ≢ d). get_or-set_other y.noted d c 0 0 nd ∙ old_noted e c at_e has (subst (λ (k : ℕ). c < k) (length-set y.noted d 0) lt) h)
        (cases_eq c d)) in
        record { ghost = n.ghost; rule = n.rule; others = n.others; longer = n.longer; tally = n.tally; says = ((λ _. n.says), (λ e. absurd (ne e))) }
