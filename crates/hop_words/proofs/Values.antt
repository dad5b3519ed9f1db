-- Words of held values: what lies in one, and each step that changes some bytes of one.
use Rattle.std.proofs.Common.{◌≡◌, ◌≢◌, ℕ, zero, suc, ◌+◌, ◌-◌, ◌*◌, ◌/◌, ◌<◌, ◌≤◌, true, ◌&&◌, List, [], ◌∷◌, ◌++◌, ◌==◌, length, take}
use Rattle.std.proofs.Common.{refl, ap, sym, subst, ◌∙◌, arith, eq-eqb, ne_eqb, ⊎_elim, inl}
use prog.Atomic.{either}
use Rattle.bpf_shared.specs.declared.events.Event.{Event}
use Rattle.bpf_shared.specs.declared.events.Event.TheVariants.{Load, Store, Atomic}
use Rattle.bpf_shared.specs.declared.events.Size.{Size}
use Rattle.bpf_base.specs.declared.atomic.Change.{Change}
use Rattle.bpf_shared.specs.Shape.{element_span, Covers}
use Rattle.bpf_shared.specs.Store.{Plain, Value, put, fixed_count}
use Rattle.bpf_base.specs.Bytes.{little_endian, low_bytes, part, with_part}
use Rattle.bpf_base.specs.Atomic.{number_after}
use Rattle.bpf_shared.specs.Access.{bytes_in}
use Rattle.bpf_shared.specs.Events.{Allowed, Reaches, number_in, after_write}
use Rattle.bpf_shared.specs.History.{entry, events_of}
use Rattle.bpf_shared.proofs.Puts.{put-same, put-other}
use Rattle.hop_layout.specs.declared.place.Place.{Place}
use Rattle.hop_layout.specs.declared.place.Place.TheVariants.{RunCount, Stamp, KeyWord, ValueWord, FixedWord}
use Rattle.hop_layout.specs.declared.about.About.{About}
use Rattle.hop_words.specs.declared.known.Known.{Known}
use Rattle.hop_words.specs.declared.known.Fresh.{Fresh}
use Rattle.hop_layout.specs.Layout.{put_at, words_for}
use Rattle.hop_layout.specs.Words.{bytes_of_words}
use Rattle.hop_words.specs.Content.{one_if}
use Rattle.hop_words.specs.Ghost.{Carries, lane, Ghost, shape_at, HasElement, Each}
use Rattle.hop_words.specs.Rule.{begun_in, Rule, StartsWith, Filled, times_fresh, Valued}
use Rattle.bpf_shared.specs.Own.{turns_of}
use Rattle.hop_words.specs.Shortage.{HasCause}
use Rattle.hop_words.specs.Private.Step.{Next, Steps}
use Rattle.hop_words.specs.Kinds.{TouchesHeldValue, value_address, number_in_word, AddsEvent}
use Rattle.hop_words.proofs.Small.{here_or}
use Rattle.hop_words.proofs.Histories.{logged_event}
use Rattle.hop_words.proofs.Holdings.{holds_as_known}
use Rattle.hop_words.proofs.Comes.{filling_most}
use Rattle.hop_layout.proofs.WordBytes.{value_put, value_part}
use Rattle.hop_words.proofs.Locks.{put_else}
use Rattle.hop_words.proofs.Shortages.{had_write, shown_more}
use Rattle.hop_words.proofs.Stays.{saw, running_is, quiet_after, span_once, number_once, worn_more, shape_is}
use Rattle.hop_words.proofs.FixedPlaces.{fixed_later, sound}
use Rattle.hop_words.proofs.Words.{LiesIn, MayLeave, word_load, word_store, word_store_part, word_atomic_part, word_fetch}
use Rattle.bpf_shared.proofs.Soundness.{held_later, held_writable}

abbrev map_of : Place → ℕ
map_of (ValueWord m e k) = m
map_of p = 0

abbrev element_of : Place → ℕ
element_of (ValueWord m e k) = e
element_of p = 0

length-low : (n x : ℕ) → length (low_bytes n x) ≡ n
length-low zero x = refl
length-low (suc n) x = ap suc (length-low n (x / 256))

module _ (a : About) (l : Known) (m e k o b : ℕ) (i : TouchesHeldValue a l m e k o b) (w : Place → ℕ) (g : Ghost) (r : Rule a w g)
    (is : lane g.lanes l.cpu ≡ l) (inside : l.cpu < a.shape.cpus) where
  own : events_of l.cpu l.seen ≡ events_of l.cpu g.log
  own = ap (events_of l.cpu) (sym (ap (λ (x : Known). x.seen) is)) ∙ r.logged.own l.cpu inside

  -- the value that the lane holds there
  held : (v : ℕ) × (g.last.held l.cpu v ≡ true) × ((g.last.value v).span ≡ element_span m (shape_at a m) e)
  held = holds_as_known a.shape l.cpu g.last g.log l.seen r.shaped r.logged.legal own (element_span m (shape_at a m) e) i.held

  -- it lies in this element
  lies_here : Carries (g.holder m e) × (g.number m e ≡ held.0)
  lies_here =
      let k = r.valued.held_in l.cpu held.0 held.1 in
      let spans = ap (λ (x : Value). x.span) (sym (r.valued.lies k.0 k.1 k.2 k.3)) ∙ (ap (λ (n : ℕ). (g.last.value n).span) k.4 ∙ held.2) in
      let one = span_once a w g r m e k.0 k.1 i.element k.2 spans in (
        subst (λ (n : ℕ). Carries (g.holder n e)) one.0 (subst (λ (d : ℕ). Carries (g.holder k.0 d)) one.1 k.3),
        (λ j. g.number (sym one.0 j) (sym one.1 j)) ∙ k.4,
      )

  abbrev v : ℕ
  v = g.number m e

  value_is : g.last.value v ≡ record {
    bytes = take (shape_at a m).value
        (bytes_of_words (words_for (shape_at a m).value) (λ j. w (ValueWord m e j)));
    span = element_span m (shape_at a m) e;
  }
  value_is = r.valued.lies m e i.element lies_here.0

  span_is : (g.last.value v).span ≡ element_span m (shape_at a m) e
  span_is = ap (λ (x : Value). x.span) value_is

  pub reaches : Reaches g.last l.cpu v (value_address a m e k o) b
  reaches = record {
    holds = inl (ap (g.last.held l.cpu) lies_here.1 ∙ held.1);
    covers = subst (λ s. Covers s (value_address a m e k o) b) (sym span_is) (let z = i.within in (omega arith, omega arith));
  }

  offset_is : value_address a m e k o - (g.last.value v).span.at ≡ 8 * k + o
  offset_is = ap (λ s. value_address a m e k o - s.at) span_is ∙ omega arith

  pub found_is : number_in_word (w (ValueWord m e k)) o b ≡ number_in g.last v (value_address a m e k o) b
  found_is = sym (ap (λ (n : ℕ). little_endian (part (g.last.value v).bytes n b)) offset_is
      ∙ (ap (λ (x : Value). little_endian (part x.bytes (8 * k + o) b)) value_is
      ∙ ap little_endian (value_part (shape_at a m).value (words_for (shape_at a m).value) k o b (λ j. w (ValueWord m e j)) i.word i.fits i.within)))

  -- ---- a word some bytes of which become others
  module _ (x y : ℕ) (splices : low_bytes 8 x ≡ with_part (low_bytes 8 (w (ValueWord m e k))) o (low_bytes b y)) where
    abbrev w2 : Place → ℕ
    w2 = put_at w (ValueWord m e k) x

    abbrev last2 : Plain
    last2 = after_write g.last v (value_address a m e k o) b y

    words_here : (let f : ℕ → ℕ = λ j. w2 (ValueWord m e j) in f ≡ put (λ j. w (ValueWord m e j)) k x)
    words_here = rw (eq-eqb m m refl, eq-eqb e e refl) refl

    words_else : (n d : ℕ) → (n ≡ m → d ≢ e) → (let f : ℕ → ℕ = λ j. w2 (ValueWord n d j) in let h : ℕ → ℕ = λ j. w (ValueWord n d j) in f ≡ h)
    words_else n d ne = λ t j. put_else w (ValueWord m e k) (ValueWord n d j) x (λ q. ne (ap map_of q) (ap element_of q)) t

    bytes_now : with_part (g.last.value v).bytes (value_address a m e k o - (g.last.value v).span.at) (low_bytes b y) ≡ take
        (shape_at a m).value (bytes_of_words (words_for (shape_at a m).value) (λ j. w2 (ValueWord m e j)))
    bytes_now =
        ap (λ (n : ℕ). with_part (g.last.value v).bytes n (low_bytes b y)) offset_is
        ∙ (ap (λ (z : Value). with_part z.bytes (8 * k + o) (low_bytes b y)) value_is
        ∙ (sym (value_put (shape_at a m).value (words_for (shape_at a m).value) k o x (λ j. w (ValueWord m e j)) (low_bytes b y) i.word (omega arith)
        (let z = length-low b y in let f = i.fits in omega arith) (let z = length-low b y in let f = i.within in omega arith) splices)
        ∙ ap (λ (f : ℕ → ℕ). take (shape_at a m).value (bytes_of_words (words_for (shape_at a m).value) f)) (sym words_here)))

    valued2 : Valued a (λ n d j. w2 (ValueWord n d j)) last2.made last2.value last2.held g.holder g.number
    valued2 = record {
      lies = λ n d at_d has. ⊎_elim
          (λ (h : (n ≡ m) × (d ≡ e)). subst (λ (z : ℕ). lying z d) (sym h.0) (subst (lying m) (sym h.1) lies_now))
          (λ (ne : n ≡ m → d ≢ e). put-other g.last.value v (g.number n d) _
          (λ q. let one = number_once a w g r m e n d i.element at_d lies_here.0 has q in ne one.0 one.1)
          ∙ (r.valued.lies n d at_d has ∙ ap (λ (f : ℕ → ℕ). record {
            bytes = take (shape_at a n).value (bytes_of_words (words_for (shape_at a n).value) f);
            span = element_span n (shape_at a n)
                d;
          }) (sym (words_else n d ne))))
          (here_or m n e d);
      older = r.valued.older;
      held_in = r.valued.held_in;
    }
      where
        lying : ℕ → ℕ → Type 0
        lying n d = last2.value (g.number n d) ≡ record {
          bytes = take (shape_at a n).value
              (bytes_of_words (words_for (shape_at a n).value) (λ j. w2 (ValueWord n d j)));
          span = element_span n (shape_at a n) d;
        }

        lies_now : lying m e
        lies_now = put-same g.last.value v v _ refl ∙ (λ j. record { bytes = bytes_now j; span = span_is j })

    -- an element that a CPU fills isn't this one
    filled2 : Filled a (λ n d j. w (KeyWord n d j)) (λ n d j. w2 (ValueWord n d j)) g.lanes.fresh
    filled2 c inc = go (g.lanes.fresh c) (λ f has. has) (r.filled c inc)
      where
        apart : (f : Fresh) → 1 ≤ times_fresh f.map f.element (g.lanes.fresh c) → f.map ≡ m → f.element ≢ e
        apart f has t u =
            let at_f : HasElement a f.map f.element = subst (λ (n : ℕ). HasElement a n f.element) (sym t) (subst (HasElement a m) (sym u) i.element) in
            let q = r.owned.fresh_is c f.map f.element inc at_f in
            let is_f = filling_most c (g.holder f.map f.element) (omega arith) in
            subst Carries ((λ j. g.holder (sym t j) (sym u j)) ∙ is_f) lies_here.0

        go : (fs : List Fresh) → ((f : Fresh) → 1 ≤ times_fresh f.map f.element fs → 1 ≤ times_fresh f.map f.element (g.lanes.fresh c))
            → Each (λ (f : Fresh). StartsWith f.key (λ j. w (KeyWord f.map f.element j)) × StartsWith f.value (λ j. w (ValueWord f.map f.element j))) fs
            → Each (λ (f : Fresh). StartsWith f.key (λ j. w (KeyWord f.map f.element j)) × StartsWith f.value (λ j. w2 (ValueWord f.map f.element j))) fs
        go [] all p = tt
        go (f ∷ fs) all p = (
          (p.0.0, λ j lt. ap (λ (h : ℕ → ℕ). h j) (words_else f.map f.element (apart f (all f here))) ∙ p.0.1 j lt),
          go fs (λ d has. all d (omega arith)) p.1,
        )
          where
            here : 1 ≤ times_fresh f.map f.element (f ∷ fs)
            here = let z : one_if ((f.map == f.map) && (f.element == f.element)) ≡ 1 = rw (eq-eqb f.map f.map refl, eq-eqb f.element f.element refl) refl in
                omega arith

    abbrev g2 : Event → Ghost
    g2 ev = record g {
      log = g.log ++ entry l.cpu ev ∷ [];
      last = last2;
      lanes = record g.lanes
          { seen = put g.lanes.seen l.cpu (g.log ++ entry l.cpu ev ∷ []) };
    }

    write_rule : (ev : Event) → turns_of (ev ∷ []) ≡ 0 → HasCause a.version (begun_in g.log g.lanes.fresh)
        (record { shape = a.shape; before = g.log; store = g.last; cpu = l.cpu }) ev → Allowed g.last l.cpu ev last2 → Rule a w2 (g2 ev)
    write_rule ev quiet cause may = record {
      shaped = r.shaped;
      fixed = fixed_later a r.shaped (λ b k. w (FixedWord b k)) g.last.value v _
          (subst (λ h. fixed_count h ≤ v) (shape_is a w g r l is inside)
          (held_later g.last (sound a w g r) l.cpu v (ap (g.last.held l.cpu) lies_here.1 ∙ held.1))) r.fixed;
      deep = r.deep;
      logged = logged_event a g.lanes.seen g.log g.last last2 l.cpu ev r.logged inside may;
      keyed = r.keyed;
      worn = worn_more a g.depths (λ n t. w (Stamp n t)) g.eras g.log (entry l.cpu ev) r.worn;
      runs = quiet_after a (λ c. w (RunCount c)) g.log l.cpu ev r.runs quiet;
      batched = r.batched;
      owned = r.owned;
      linked = r.linked;
      filled = filled2;
      segments = r.segments;
      locking = r.locking;
      reading = r.reading;
      held = r.held;
      valued = valued2;
      shown = shown_more a g.log l.cpu ev g.last last2 g.lanes.fresh g.lanes.tally g.holder g.taker quiet r.logged.legal may cause
          (had_write g.last v (value_address a m e k o) b y) r.shown;
    }

    pub write_next : (ev : Event) → turns_of (ev ∷ []) ≡ 0 → HasCause a.version (begun_in g.log g.lanes.fresh)
        (record { shape = a.shape; before = g.log; store = g.last; cpu = l.cpu }) ev → Allowed g.last l.cpu ev last2 → Next a w2 g l.cpu
        (AddsEvent a l ev)
    write_next ev quiet cause may = record {
      ghost = g2 ev;
      rule = write_rule ev quiet cause may;
      others = λ d ne. rw (ne_eqb d l.cpu ne) refl;
      longer = (entry l.cpu ev ∷ [], refl);
      tally = refl;
      says = subst (AddsEvent a l ev) (sym after) (record { seen = saw a w g r l is inside ev last2 may (write_rule ev quiet cause may).logged; after = refl });
    }
      where
        after : lane (g2 ev).lanes l.cpu ≡ record l { seen = g.log ++ entry l.cpu ev ∷ [] }
        after = rw (eq-eqb l.cpu l.cpu refl) (ap (λ (z : Known). record z { seen = g.log ++ entry l.cpu ev ∷ [] }) is)

  -- so each step on it may be made
  abbrev pub lies : LiesIn a l (ValueWord m e k) (value_address a m e k o) o b w g
  lies = record { number = v; runs = running_is a w g r l is inside i.runs; reaches = reaches; found = found_is }

  pub may_leave : MayLeave a l (ValueWord m e k) (value_address a m e k o) o b w g
  may_leave = record {
    lies = lies;
    writable = held_writable g.last (sound a w g r) l.cpu v (ap (g.last.held l.cpu) lies_here.1 ∙ held.1);
    next = λ x y splices ev quiet cause may. write_next x y splices ev quiet cause may;
  }

-- ---- the kinds
module _ (a : About) (l : Known) (m e k o : ℕ) (sz : Size) (i : TouchesHeldValue a l m e k o (bytes_in sz)) where
  pub value_load : Steps a l (ValueWord m e k) (λ n. n) (λ ws n l'. AddsEvent a l (Load (value_address a m e k o) sz (number_in_word n o (bytes_in sz))) l')
  value_load = word_load a l (ValueWord m e k) (value_address a m e k o) o sz (λ w g r is inside. lies a l m e k o (bytes_in sz) i w g r is inside)

  all : (w : Place → ℕ) (g : Ghost) → Rule a w g → lane g.lanes l.cpu ≡ l → l.cpu < a.shape.cpus → MayLeave a l (ValueWord m e k)
      (value_address a m e k o) o (bytes_in sz) w g
  all w g r is inside = may_leave a l m e k o (bytes_in sz) i w g r is inside

  -- a store of a whole word
  pub value_store : (x y : ℕ) → ((n : ℕ) → low_bytes 8 x ≡ with_part (low_bytes 8 n) o (low_bytes (bytes_in sz) y))
      → Steps a l (ValueWord m e k) (λ _. x) (λ ws n l'. AddsEvent a l (Store (value_address a m e k o) sz y) l')
  value_store x y splices = word_store a l (ValueWord m e k) (value_address a m e k o) o sz all x y splices

  -- a compare-exchange of the whole word, by which some of its bytes are stored
  pub value_store_part : (old x y : ℕ) → low_bytes 8 x ≡ with_part (low_bytes 8 old) o (low_bytes (bytes_in sz) y)
      → Steps a l (ValueWord m e k) (λ n. either (n == old) x n)
      (λ ws n l'. (n ≡ old → AddsEvent a l (Store (value_address a m e k o) sz y) l') × (n ≢ old → l' ≡ l))
  value_store_part old x y splices = word_store_part a l (ValueWord m e k) (value_address a m e k o) o sz all old x y splices

  -- the same for an atomic operation
  pub value_atomic_part : (op : Change) (operand expected old x : ℕ)
      → low_bytes 8 x ≡ with_part (low_bytes 8 old) o (low_bytes (bytes_in sz)
      (number_after op (bytes_in sz) (number_in_word old o (bytes_in sz)) operand expected))
      → Steps a l (ValueWord m e k) (λ n. either (n == old) x n)
      (λ ws n l'. (n ≡ old → AddsEvent a l (Atomic (value_address a m e k o) sz op operand expected
      (number_in_word old o (bytes_in sz))) l') × (n ≢ old → l' ≡ l))
  value_atomic_part op operand expected old x splices = word_atomic_part a l (ValueWord m e k) (value_address a m e k o) o sz all op operand
      expected old x splices

  -- a fetch operation or a swap on a whole word
  pub value_fetch : (op : Change) (operand expected : ℕ) (f : ℕ → ℕ)
      → ((n : ℕ) → n < 18446744073709551616 → low_bytes 8 (f n) ≡ with_part (low_bytes 8 n) o
      (low_bytes (bytes_in sz) (number_after op (bytes_in sz) (number_in_word n o (bytes_in sz)) operand expected)))
      → Steps a l (ValueWord m e k) f (λ ws n l'. AddsEvent a l (Atomic (value_address a m e k o) sz op operand expected (number_in_word n o (bytes_in sz))) l')
  value_fetch op operand expected f splices = word_fetch a l (ValueWord m e k) (value_address a m e k o) o sz all op operand expected f splices
