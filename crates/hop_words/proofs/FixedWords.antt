-- Words of fixed values: what lies in one, and each step that changes some bytes of one.
use Rattle.std.proofs.Common.{◌≡◌, ◌≢◌, ℕ, ◌+◌, ◌-◌, ◌*◌, ◌<◌, ◌≤◌, true≢false, ◌&&◌, List, [], ◌∷◌, ◌++◌, ◌==◌, if◌then◌else◌, take, refl}
use Rattle.std.proofs.Common.{ap, sym, subst, ◌∙◌, arith, eq-eqb, ne_eqb, ⊎_elim, inr, false}
use prog.Atomic.{either}
use Rattle.std.proofs.lemmas.Bool.{cases_eq}
use Rattle.bpf_shared.specs.declared.events.Event.{Event}
use Rattle.bpf_shared.specs.declared.events.Event.TheVariants.{Load, Store, Atomic}
use Rattle.bpf_shared.specs.declared.events.Size.{Size}
use Rattle.bpf_shared.specs.declared.events.Size.TheVariants.{Byte, Half, Word, Double}
use Rattle.bpf_shared.specs.declared.shapes.ArrayShape.{ArrayShape}
use Rattle.bpf_base.specs.declared.atomic.Change.{Change}
use Rattle.bpf_shared.specs.Shape.{fixed_span, Covers}
use Rattle.bpf_shared.specs.Store.{Plain, Value, put, array_of, copy_of, index_of, fixed_number, IsFixed, IsFrozen}
use Rattle.bpf_base.specs.Bytes.{little_endian, low_bytes, part, with_part}
use Rattle.bpf_base.specs.Atomic.{number_after}
use Rattle.bpf_shared.specs.Access.{bytes_in}
use Rattle.bpf_shared.specs.Events.{Allowed, Reaches, number_in, after_write}
use Rattle.bpf_shared.specs.History.{entry}
use Rattle.bpf_shared.specs.Own.{turns_of}
use Rattle.bpf_shared.proofs.Puts.{put-same, put-other}
use Rattle.bpf_base.proofs.Numbers.{length-low_bytes}
use Rattle.hop_layout.specs.declared.place.Place.{Place}
use Rattle.hop_layout.specs.declared.place.Place.TheVariants.{RunCount, Stamp, ValueWord, FixedWord}
use Rattle.hop_layout.specs.declared.about.About.{About}
use Rattle.hop_layout.specs.Layout.{put_at, words_for}
use Rattle.hop_layout.specs.Words.{bytes_of_words}
use Rattle.hop_layout.proofs.WordBytes.{value_put, value_part}
use Rattle.hop_layout.proofs.Spelled.{spelled_same}
use Rattle.hop_words.specs.declared.known.Known.{Known}
use Rattle.hop_words.specs.Ghost.{lane, Ghost, array_at, HasFixed, fixed_word}
use Rattle.hop_words.specs.Rule.{begun_in, Rule, Valued, ShowsFixed}
use Rattle.hop_words.specs.Shortage.{HasCause}
use Rattle.hop_words.specs.Private.Step.{Next, Steps}
use Rattle.hop_words.specs.Kinds.{TouchesFixedValue, ChangesFixedValue, fixed_address, number_in_word, AddsEvent}
use Rattle.hop_words.proofs.FixedPlaces.{word_at, array_back, copy_back, index_back, as_fixed, word_once, frozen_back, element_else}
use Rattle.hop_words.proofs.Histories.{logged_event}
use Rattle.hop_words.proofs.Locks.{put_else}
use Rattle.hop_words.proofs.Shortages.{had_write, shown_more}
use Rattle.hop_words.proofs.Stays.{saw, running_is, shape_is, quiet_after, worn_more}
use Rattle.hop_words.proofs.Words.{LiesIn, MayLeave, word_load, word_store, word_store_part, word_atomic_part, word_fetch}

abbrev array_part : Place → ℕ
array_part (FixedWord b k) = b
array_part p = 0

abbrev word_part : Place → ℕ
word_part (FixedWord b k) = k
word_part p = 0

pub some_bytes : (z : Size) → 1 ≤ bytes_in z
some_bytes Byte = omega arith
some_bytes Half = omega arith
some_bytes Word = omega arith
some_bytes Double = omega arith

module _ (a : About) (l : Known) (b k o n : ℕ) (i : TouchesFixedValue a l b k o n) (some : 1 ≤ n) (w : Place → ℕ) (g : Ghost)
    (r : Rule a w g) (is : lane g.lanes l.cpu ≡ l) (inside : l.cpu < a.shape.cpus) where
  abbrev array : ArrayShape
  array = array_at a b

  abbrev c : ℕ
  c = i.within.copy

  abbrev d : ℕ
  d = i.within.index

  has : HasFixed a b c d
  has = record { array = i.array; copy = i.within.has_copy; index = i.within.has_index }

  -- the value that the bytes are of, and which of its words they lie in
  abbrev v : ℕ
  v = fixed_number b c d

  abbrev base : ℕ
  base = fixed_word array c d

  abbrev row : ℕ
  row = k - base

  later : base ≤ k
  later = let z = word_at array c d in let f = i.within.from in let t = i.fits in omega arith

  row_is : base + row ≡ k
  row_is = let z = later in omega arith

  inner : 8 * row + o + n ≤ array.value
  inner = let z = word_at array c d in let f = later in let t = i.within.to in omega arith

  row_low : row < words_for array.value
  row_low = let z = inner in omega arith

  value_is : g.last.value v ≡ record {
    bytes = take array.value (bytes_of_words (words_for array.value) (λ j. w (FixedWord b (base + j))));
    span = fixed_span b array c d;
  }
  value_is = r.fixed b c d has

  span_is : (g.last.value v).span ≡ fixed_span b array c d
  span_is = ap (λ (y : Value). y.span) value_is

  pub reaches : Reaches g.last l.cpu v (fixed_address b k o) n
  reaches = record {
    holds = inr (subst (λ h. IsFixed h v) (sym (shape_is a w g r l is inside)) (as_fixed a r.shaped b c d has));
    covers = subst (λ s. Covers s (fixed_address b k o) n) (sym span_is) (let f = i.within.from in let t = i.within.to in (omega arith, omega arith));
  }

  offset_is : fixed_address b k o - (g.last.value v).span.at ≡ 8 * row + o
  offset_is = ap (λ s. fixed_address b k o - s.at) span_is ∙ (let z = word_at array c d in let f = later in omega arith)

  pub found_is : number_in_word (w (FixedWord b k)) o n ≡ number_in g.last v (fixed_address b k o) n
  found_is = sym (ap (λ (m : ℕ). little_endian (part (g.last.value v).bytes m n)) offset_is
      ∙ (ap (λ (y : Value). little_endian (part y.bytes (8 * row + o) n)) value_is
      ∙ (ap little_endian (value_part array.value (words_for array.value) row o n (λ j. w (FixedWord b (base + j))) row_low i.fits inner)
      ∙ ap (λ (m : ℕ). little_endian (part (low_bytes 8 (w (FixedWord b m))) o n)) row_is)))

  abbrev pub fixed_lies : LiesIn a l (FixedWord b k) (fixed_address b k o) o n w g
  fixed_lies = record { number = v; runs = running_is a w g r l is inside i.runs; reaches = reaches; found = found_is }

  -- ---- a word some bytes of which become others
  module _ (x y : ℕ) (splices : low_bytes 8 x ≡ with_part (low_bytes 8 (w (FixedWord b k))) o (low_bytes n y)) where
    abbrev w2 : Place → ℕ
    w2 = put_at w (FixedWord b k) x

    abbrev last2 : Plain
    last2 = after_write g.last v (fixed_address b k o) n y

    tests : (j : ℕ) → ((b == b) && (base + j == k)) ≡ (j == row)
    tests j = ⊎_elim
        (λ (e : j ≡ row). let z = row_is in rw (eq-eqb b b refl, eq-eqb (base + j) k (omega arith), eq-eqb j row e) refl)
        (λ (ne : j ≢ row). rw (eq-eqb b b refl, ne_eqb (base + j) k (λ q. ne (omega arith)), ne_eqb j row ne) refl)
        (cases_eq j row)

    words_here : (let f : ℕ → ℕ = λ j. w2 (FixedWord b (base + j)) in f ≡ put (λ j. w (FixedWord b (base + j))) row x)
    words_here = λ t j. if tests j t then x else w (FixedWord b (base + j))

    words_else : (e m q : ℕ) (h : HasFixed a e m q) → fixed_number e m q ≢ v → (j : ℕ) → j < words_for (array_at a e).value
        → w2 (FixedWord e (fixed_word (array_at a e) m q + j)) ≡ w (FixedWord e (fixed_word (array_at a e) m q + j))
    words_else e m q h ne j low = put_else w (FixedWord b k) (FixedWord e (fixed_word (array_at a e) m q + j)) x
        (λ same. ne (word_once a r.shaped e m q b c d j row h has low row_low (ap array_part same) (ap word_part same ∙ sym row_is)))

    bytes_now : with_part (g.last.value v).bytes (fixed_address b k o - (g.last.value v).span.at) (low_bytes n y) ≡ take array.value
        (bytes_of_words (words_for array.value) (λ j. w2 (FixedWord b (base + j))))
    bytes_now =
        let len = length-low_bytes n y in
        ap (λ (m : ℕ). with_part (g.last.value v).bytes m (low_bytes n y)) offset_is
        ∙ (ap (λ (z : Value). with_part z.bytes (8 * row + o) (low_bytes n y)) value_is
        ∙ (sym (value_put array.value (words_for array.value) row o x (λ j. w (FixedWord b (base + j))) (low_bytes n y) row_low
        (omega arith) (let f = i.fits in omega arith) (let f = inner in omega arith)
        (splices ∙ ap (λ (m : ℕ). with_part (low_bytes 8 (w (FixedWord b m))) o (low_bytes n y)) (sym row_is)))
        ∙ ap (λ (f : ℕ → ℕ). take array.value (bytes_of_words (words_for array.value) f)) (sym words_here)))

    abbrev Lying : ℕ → ℕ → ℕ → Type 0
    Lying e m q = last2.value (fixed_number e m q) ≡ record {
      bytes = take (array_at a e).value
          (bytes_of_words (words_for (array_at a e).value) (λ j. w2 (FixedWord e (fixed_word (array_at a e) m q + j))));
      span = fixed_span e
          (array_at a e) m q;
    }

    lies_now : Lying b c d
    lies_now = put-same g.last.value v v _ refl ∙ (λ t. record { bytes = bytes_now t; span = span_is t })

    fixed2 : ShowsFixed a (λ e m. w2 (FixedWord e m)) last2.value
    fixed2 e m q h = ⊎_elim
        (λ (same : fixed_number e m q ≡ v).
        let in_array : e ≡ b = sym (array_back a r.shaped e m q h) ∙ (ap array_of same ∙ array_back a r.shaped b c d has) in
        let in_copy : m ≡ c = sym (copy_back a r.shaped e m q h) ∙ (ap copy_of same ∙ copy_back a r.shaped b c d has) in
        let in_index : q ≡ d = sym (index_back a r.shaped e m q h) ∙ (ap index_of same ∙ index_back a r.shaped b c d has) in
        subst (λ (z : ℕ). Lying z m q) (sym in_array) (subst (λ (z : ℕ). Lying b z q) (sym in_copy) (subst (λ (z : ℕ). Lying b c z) (sym in_index) lies_now)))
        (λ (ne : fixed_number e m q ≢ v). put-other g.last.value v (fixed_number e m q) _ ne
        ∙ (r.fixed e m q h ∙ ap (λ (bs : List ℕ). record { bytes = take (array_at a e).value bs; span = fixed_span e (array_at a e) m q })
        (sym (spelled_same (words_for (array_at a e).value) (λ j. w2 (FixedWord e (fixed_word (array_at a e) m q + j)))
        (λ j. w (FixedWord e (fixed_word (array_at a e) m q + j))) (words_else e m q h ne)))))
        (cases_eq (fixed_number e m q) v)

    valued2 : Valued a (λ m e j. w2 (ValueWord m e j)) last2.made last2.value last2.held g.holder g.number
    valued2 = record {
      lies = λ m e at_e holds. put-other g.last.value v (g.number m e) _ (element_else a w g r m e b c d at_e holds has) ∙ r.valued.lies m e at_e holds;
      older = r.valued.older;
      held_in = r.valued.held_in;
    }

    abbrev g2 : Event → Ghost
    g2 ev = record g {
      log = g.log ++ entry l.cpu ev ∷ [];
      last = last2;
      lanes = record g.lanes
          { seen = put g.lanes.seen l.cpu (g.log ++ entry l.cpu ev ∷ []) };
    }

    write_rule : (ev : Event) → turns_of (ev ∷ []) ≡ 0 → HasCause a.version (begun_in g.log g.lanes.fresh)
        (record { shape = a.shape; before = g.log; store = g.last; cpu = l.cpu }) ev → Allowed g.last l.cpu ev last2 → Rule a w2 (g2 ev)
    write_rule ev quiet cause may = record {
      shaped = r.shaped;
      deep = r.deep;
      logged = logged_event a g.lanes.seen g.log g.last last2 l.cpu ev r.logged inside may;
      keyed = r.keyed;
      worn = worn_more a g.depths (λ m t. w (Stamp m t)) g.eras g.log (entry l.cpu ev) r.worn;
      runs = quiet_after a (λ e. w (RunCount e)) g.log l.cpu ev r.runs quiet;
      batched = r.batched;
      owned = r.owned;
      linked = r.linked;
      filled = r.filled;
      segments = r.segments;
      locking = r.locking;
      reading = r.reading;
      held = r.held;
      valued = valued2;
      fixed = fixed2;
      shown = shown_more a g.log l.cpu ev g.last last2 g.lanes.fresh g.lanes.tally g.holder g.taker quiet r.logged.legal may cause
          (had_write g.last v (fixed_address b k o) n y) r.shown;
    }

    write_next : (ev : Event) → turns_of (ev ∷ []) ≡ 0 → HasCause a.version (begun_in g.log g.lanes.fresh)
        (record { shape = a.shape; before = g.log; store = g.last; cpu = l.cpu }) ev → Allowed g.last l.cpu ev last2 → Next a w2 g l.cpu
        (AddsEvent a l ev)
    write_next ev quiet cause may = record {
      ghost = g2 ev;
      rule = write_rule ev quiet cause may;
      others = λ e ne. rw (ne_eqb e l.cpu ne) refl;
      longer = (entry l.cpu ev ∷ [], refl);
      tally = refl;
      says = subst (AddsEvent a l ev) (sym after) (record { seen = saw a w g r l is inside ev last2 may (write_rule ev quiet cause may).logged; after = refl });
    }
      where
        after : lane (g2 ev).lanes l.cpu ≡ record l { seen = g.log ++ entry l.cpu ev ∷ [] }
        after = rw (eq-eqb l.cpu l.cpu refl) (ap (λ (z : Known). record z { seen = g.log ++ entry l.cpu ev ∷ [] }) is)

  pub fixed_may_leave : array.frozen ≡ false → MayLeave a l (FixedWord b k) (fixed_address b k o) o n w g
  fixed_may_leave free = record {
    lies = fixed_lies;
    writable = λ f. true≢false (sym (frozen_back a r.shaped b c d has (subst (λ h. IsFrozen h v) (shape_is a w g r l is inside) f)) ∙ free);
    next = λ x y splices ev quiet cause may. write_next x y splices ev quiet cause may;
  }

-- ---- the kinds
pub fixed_load : (a : About) (l : Known) (b k o : ℕ) (sz : Size) → TouchesFixedValue a l b k o (bytes_in sz) → Steps a l (FixedWord b k)
    (λ n. n) (λ ws n l'. AddsEvent a l (Load (fixed_address b k o) sz (number_in_word n o (bytes_in sz))) l')
fixed_load a l b k o sz i = word_load a l (FixedWord b k) (fixed_address b k o) o sz
    (λ w g r is inside. fixed_lies a l b k o (bytes_in sz) i (some_bytes sz) w g r is inside)

module _ (a : About) (l : Known) (b k o : ℕ) (sz : Size) (i : ChangesFixedValue a l b k o (bytes_in sz)) where
  all : (w : Place → ℕ) (g : Ghost) → Rule a w g → lane g.lanes l.cpu ≡ l → l.cpu < a.shape.cpus → MayLeave a l (FixedWord b k)
      (fixed_address b k o) o (bytes_in sz) w g
  all w g r is inside = fixed_may_leave a l b k o (bytes_in sz) i.touches (some_bytes sz) w g r is inside i.writable

  -- a store of a whole word
  pub fixed_store : (x y : ℕ) → ((n : ℕ) → low_bytes 8 x ≡ with_part (low_bytes 8 n) o (low_bytes (bytes_in sz) y))
      → Steps a l (FixedWord b k) (λ _. x) (λ ws n l'. AddsEvent a l (Store (fixed_address b k o) sz y) l')
  fixed_store x y splices = word_store a l (FixedWord b k) (fixed_address b k o) o sz all x y splices

  -- a compare-exchange of the whole word, by which some of its bytes are stored
  pub fixed_store_part : (old x y : ℕ) → low_bytes 8 x ≡ with_part (low_bytes 8 old) o (low_bytes (bytes_in sz) y)
      → Steps a l (FixedWord b k) (λ n. either (n == old) x n) (λ ws n l'. (n ≡ old → AddsEvent a l (Store (fixed_address b k o) sz y) l') × (n ≢ old → l' ≡ l))
  fixed_store_part old x y splices = word_store_part a l (FixedWord b k) (fixed_address b k o) o sz all old x y splices

  -- the same for an atomic operation
  pub fixed_atomic_part : (op : Change) (operand expected old x : ℕ)
      → low_bytes 8 x ≡ with_part (low_bytes 8 old) o (low_bytes (bytes_in sz)
      (number_after op (bytes_in sz) (number_in_word old o (bytes_in sz)) operand expected))
      → Steps a l (FixedWord b k) (λ n. either (n == old) x n) (λ ws n l'.
      (n ≡ old → AddsEvent a l (Atomic (fixed_address b k o) sz op operand expected (number_in_word old o (bytes_in sz))) l') ×
      (n ≢ old → l' ≡ l))
  fixed_atomic_part op operand expected old x splices = word_atomic_part a l (FixedWord b k) (fixed_address b k o) o sz all op operand expected old x splices

  -- a fetch operation or a swap on a whole word
  pub fixed_fetch : (op : Change) (operand expected : ℕ) (f : ℕ → ℕ)
      → ((n : ℕ) → n < 18446744073709551616 → low_bytes 8 (f n) ≡ with_part (low_bytes 8 n) o
      (low_bytes (bytes_in sz) (number_after op (bytes_in sz) (number_in_word n o (bytes_in sz)) operand expected)))
      → Steps a l (FixedWord b k) f (λ ws n l'. AddsEvent a l (Atomic (fixed_address b k o) sz op operand expected (number_in_word n o (bytes_in sz))) l')
  fixed_fetch op operand expected f splices = word_fetch a l (FixedWord b k) (fixed_address b k o) o sz all op operand expected f splices
