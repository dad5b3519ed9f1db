-- Accesses to values of a `HashStore`.
use Rattle.std.proofs.Common.{◌≡◌, ◌≢◌, ℕ, zero, suc, ◌+◌, ◌-◌, ◌/◌, ◌%◌, ◌<◌, ◌≤◌, Bool, true, false, true≢false, ◌&&◌, ◌||◌, ◌==◌, List}
use Rattle.std.proofs.Common.{length, slice_index_or, inl, inr, ◌⊎◌, refl, ap, sym, ◌∙◌, subst, arith}
use Rattle.std.proofs.lemmas.Bool.Decides.{nat_tests}
use Rattle.bpf_base.specs.Bytes.{little_endian, low_bytes, part, with_part}
use Rattle.bpf_base.specs.Atomic.{number_after}
use Rattle.bpf_base.proofs.Numbers.{length-low_bytes}
use Rattle.std.specs.List.{count_by}
use Rattle.bpf_shared.specs.declared.events.Span.{Span}
use Rattle.bpf_shared.specs.declared.events.Size.{Size}
use Rattle.bpf_shared.specs.declared.events.Size.TheVariants.{Byte, Half, Word, Double}
use Rattle.bpf_base.specs.declared.atomic.Change.{Change}
use Rattle.bpf_shared.specs.declared.events.Event.TheVariants.{Load, Store, Atomic}
use Rattle.bpf_shared.specs.Access.{bytes_in}
use Rattle.bpf_shared.specs.Shape.{elements, element_span, element_stride, IsIn, Covers}
use Rattle.bpf_shared.specs.Store.{Plain, Value, put, Finds}
use Rattle.bpf_shared.specs.Events.{Reaches, MayWrite, number_in, after_write}
use Rattle.bpf_shared.specs.Sound.{IsSoundStore}
use Rattle.bpf_shared.specs.Passage.{same_span, IsHeldPlace}
use Rattle.bpf_hash.specs.Private.Runs.{is_run}
use Rattle.bpf_hash.specs.Private.Rows.{Rows, bytes_of, key_of, IsLinked, run_looked_up, run_left, stored_row}
use Rattle.bpf_hash.specs.Private.Contents.{Contents, runs_of, rows, element_count, span_at, shapes_of, has_cpu, is_running, holds, keeps}
use Rattle.bpf_hash.specs.Private.Contents.{held_spans, any_below, IsUsed, StandsFor, IsStore, with_table, Makes}
use Rattle.bpf_hash.specs.Private.Changes.{IsAtValue}
use Rattle.bpf_shared.proofs.Puts.{equal_or_not, put-same, put-other}
use Rattle.bpf_shared.proofs.Soundness.{held_writable}
use Rattle.bpf_hash.proofs.Passages.{calls}
use Rattle.bpf_hash.proofs.Blocks.{block-within, block-beside}
use Rattle.bpf_hash.proofs.Changing.{rows-here, rows-else, rows_cases, shapes-with, shape-with, tells-with, held-same, count-with}
use Rattle.bpf_shared.proofs.Places.{reached}
use Rattle.bpf_hash.proofs.Places.{sized_map, one_at, one_number}

any_some : (n : ℕ) (f : ℕ → Bool) → any_below n f ≡ true → (i : ℕ) × (i < n) × (f i ≡ true)
any_some zero f e = absurd (true≢false (sym e))
any_some (suc n) f e = go (λ k. any_some n f k) (f n) refl
  where
    go : (any_below n f ≡ true → (i : ℕ) × (i < n) × (f i ≡ true)) → (b : Bool) → f n ≡ b → (i : ℕ) × (i < suc n) × (f i ≡ true)
    go below true h = (n, omega arith, h)
    go below false h = let r = below (sym (ap (λ (b : Bool). b || any_below n f) h) ∙ e) in (r.0, (let l = r.1 in omega arith), r.2)

both : (a b : Bool) → (a && b) ≡ true → (a ≡ true) × (b ≡ true)
both true b h = (refl, h)
both false b h = absurd (true≢false (sym h))

same_spans : (q p : Span) → same_span q p ≡ true → q ≡ p
same_spans q p h =
    let t = both (q.at == p.at) (q.size == p.size) h in
    let x : q.at ≡ p.at = (let k = t.0 in grind (arith, nat_tests)) in
    let y : q.size ≡ p.size = (let k = t.1 in grind (arith, nat_tests)) in
    λ i. record { at = x i; size = y i }

-- the element whose span is held
pub held_element : (p : Contents) (c : ℕ) (q : Span) → held_spans p c q ≡ true → (m : ℕ) × (i : ℕ) × (i < element_count p m) ×
    (holds p c m i ≡ true) × (q ≡ span_at p m i)
held_element p c q e =
    let a = any_some (length p.tables) (λ m. any_below (element_count p m) (λ i. holds p c m i && same_span q (span_at p m i))) e in
    let b = any_some (element_count p a.0) (λ i. holds p c a.0 i && same_span q (span_at p a.0 i)) a.2 in
    let t = both (holds p c a.0 b.0) (same_span q (span_at p a.0 b.0)) b.2 in
    (a.0, b.0, b.1, t.0, same_spans q (span_at p a.0 b.0) t.1)

some_bytes : (size : Size) → 0 < bytes_in size
some_bytes Byte = omega arith
some_bytes Half = omega arith
some_bytes Word = omega arith
some_bytes Double = omega arith

pub is_at_value : (p : Contents) (c a : ℕ) (size : Size) → IsHeldPlace (held_spans p c) a (bytes_in size) → IsAtValue p a
is_at_value p c a size place =
    let e = held_element p c place.span place.holds in
    let cov : Covers (span_at p e.0 e.1) a (bytes_in size) = subst (λ (q : Span). Covers q a (bytes_in size)) e.4 place.covers in
    let some = some_bytes size in
    let from = cov.0 in let to = cov.1 in
    (e.0, e.1, sized_map p e.0 e.1 e.2, e.2, (from, omega arith))

-- where the code looks for an address
pub reach_facts : (p : Contents) (is : IsStore p) (a : ℕ) (v : IsAtValue p a) (t : Rows) (w : ℕ) → t ≡ rows p
    ((a - 0x10_0000_0000) / 0x1000_0000) → w ≡ element_stride t.shape
    → ((a - 0x10_0000_0000) % 0x1000_0000 / w < element_count p ((a - 0x10_0000_0000) / 0x1000_0000))
    × (a ≡ (span_at p ((a - 0x10_0000_0000) / 0x1000_0000) ((a - 0x10_0000_0000) % 0x1000_0000 / w)).at + (a - 0x10_0000_0000) % 0x1000_0000 % w)
    × ((a - 0x10_0000_0000) % 0x1000_0000 % w < (span_at p ((a - 0x10_0000_0000) / 0x1000_0000) ((a - 0x10_0000_0000) % 0x1000_0000 / w)).size)
reach_facts p is a v t w row wide =
    let x : ℕ = (a - 0x10_0000_0000) % 0x1000_0000 in
    let r = reached v.0 v.1 a (rows p v.0).shape (is.tables v.0 v.2).0.shape v.3 v.4 in
    let same : w ≡ element_stride (rows p v.0).shape = wide ∙ (ap (λ (y : Rows). element_stride y.shape) row ∙ ap
    (λ (n : ℕ). element_stride (rows p n).shape) r.0) in
    let element : x / w ≡ v.1 = ap (λ (k : ℕ). x / k) same ∙ r.1 in
    let offset : x % w ≡ a - (span_at p v.0 v.1).at = ap (λ (k : ℕ). x % k) same ∙ r.2 in
    let P : ℕ → ℕ → ℕ → Type 0 = λ m e o. (e < element_count p m) × (a ≡ (span_at p m e).at + o) × (o < (span_at p m e).size) in
    let from = v.4.0 in let to = v.4.1 in
    let base : P v.0 v.1 (a - (span_at p v.0 v.1).at) = (v.3, omega arith, omega arith) in
    subst (λ (m : ℕ). P m (x / w) (x % w)) (sym r.0) (subst (λ (e : ℕ). P v.0 e (x % w)) (sym element) (subst (λ (o : ℕ). P v.0 v.1 o) (sym offset) base))

-- the held element is the one that the code found
module _ (p : Contents) (is : IsStore p) (c a : ℕ) (size : Size) (place : IsHeldPlace (held_spans p c) a (bytes_in size)) (m i o : ℕ)
    (l : i < element_count p m) (at : a ≡ (span_at p m i).at + o) (inside : o < (span_at p m i).size) where
  found_in : IsIn a (span_at p m i)
  found_in = (omega arith, omega arith)

  it : ((held_element p c place.span place.holds).0 ≡ m) × ((held_element p c place.span place.holds).1 ≡ i)
  it =
      let e = held_element p c place.span place.holds in
      let cov : Covers (span_at p e.0 e.1) a (bytes_in size) = subst (λ (q : Span). Covers q a (bytes_in size)) e.4 place.covers in
      let some = some_bytes size in
      let from = cov.0 in let to = cov.1 in
      one_at p is e.0 m e.1 i a e.2 l (from, omega arith) found_in

  pub is_held : holds p c m i ≡ true
  is_held = let e = held_element p c place.span place.holds in ap (λ (x : ℕ). holds p c x i) (sym it.0) ∙ (ap (holds p c e.0) (sym it.1) ∙ e.3)

  pub covers : Covers (span_at p m i) a (bytes_in size)
  covers =
      let e = held_element p c place.span place.holds in
      let cov : Covers (span_at p e.0 e.1) a (bytes_in size) = subst (λ (q : Span). Covers q a (bytes_in size)) e.4 place.covers in
      subst (λ (x : ℕ). Covers (span_at p x i) a (bytes_in size)) it.0 (subst (λ (x : ℕ). Covers (span_at p e.0 x) a (bytes_in size)) it.1 cov)

  pub fits : o + bytes_in size ≤ (rows p m).shape.value
  fits = let k = covers.1 in omega arith

  mi : m < length p.tables
  mi = sized_map p m i l

  module _ (s : Plain) (so : IsSoundStore s) (h : StandsFor p s) where
    value-is : s.value (h.number m i) ≡ record { bytes = bytes_of (rows p m) i; span = span_at p m i }
    value-is = h.values m i l (inr (c, inr is_held))

    pub reaches : Reaches s c (h.number m i) a (bytes_in size)
    reaches = record {
      holds = inl (h.held_back c m i l is_held);
      covers = subst (λ (x : Value). Covers x.span a (bytes_in size)) (sym value-is) covers;
    }

    pub may_write : MayWrite s c (h.number m i) a (bytes_in size)
    may_write = record { reaches = reaches; writable = held_writable s so c (h.number m i) (h.held_back c m i l is_held) }

    pub number-is : number_in s (h.number m i) a (bytes_in size) ≡ little_endian (part (bytes_of (rows p m) i) o (bytes_in size))
    number-is =
        ap (λ (x : Value). little_endian (part x.bytes (a - x.span.at) (bytes_in size))) value-is
        ∙ ap (λ (k : ℕ). little_endian (part (bytes_of (rows p m) i) k (bytes_in size))) (let k : a - (span_at p m i).at ≡ o = omega arith in k)

  pub load_calls : is_running p c ≡ true → Makes p p c (Load a size (little_endian (part (bytes_of (rows p m) i) o (bytes_in size))))
  load_calls going = calls p p c (Load a size (little_endian (part (bytes_of (rows p m) i) o (bytes_in size)))) (λ s so h. (
    s,
    (h.running c ∙ going, (h.number m i, reaches s so h, sym (number-is s so h), refl)),
    tt,
    h,
  ))

  module _ (word : ℕ) where
    abbrev stored : Rows
    stored = stored_row i o (low_bytes (bytes_in size) word) (rows p m)

    low : length (low_bytes (bytes_in size) word) ≡ bytes_in size
    low = length-low_bytes (bytes_in size) word

    bytes-here : bytes_of stored i ≡ with_part (bytes_of (rows p m) i) o (low_bytes (bytes_in size) word)
    bytes-here = block-within (rows p m).values (low_bytes (bytes_in size) word) i (element_count p m) (rows p m).shape.value o
        (is.tables m mi).0.values l (omega (arith, fits, low))

    bytes-beside : (j : ℕ) → j < element_count p m → j ≢ i → bytes_of stored j ≡ bytes_of (rows p m) j
    bytes-beside j k ne = block-beside (rows p m).values (low_bytes (bytes_in size) word) i j (element_count p m) (rows p m).shape.value o
        (is.tables m mi).0.values l k (omega (arith, fits, low)) ne

    pub store_shapes : shapes_of (with_table p m stored) ≡ shapes_of p
    store_shapes = shapes-with p m stored mi refl

    holds-same : (d n j : ℕ) → holds (with_table p m stored) d n j ≡ holds p d n j
    holds-same d n j = ap (is_run (runs_of p d)) (tells-with p m stored mi run_looked_up (λ x y. refl) n j d)

    keeps-same : (d n j : ℕ) → keeps (with_table p m stored) d n j ≡ keeps p d n j
    keeps-same d n j = ap (is_run (runs_of p d)) (tells-with p m stored mi run_left (λ x y. refl) n j d)

    pub store_held : held_spans (with_table p m stored) ≡ held_spans p
    store_held = held-same p (with_table p m stored) (count-with p m stored mi) (shape-with p m stored mi refl) holds-same

    marks-same : (n : ℕ) → (rows (with_table p m stored) n).linked ≡ (rows p n).linked
    marks-same n = elim (rows_cases p m stored mi n) [ inl e ↦ ap (λ (t : Rows). t.linked) e.1 ∙ ap (λ (x : ℕ). (rows p x).linked) (sym e.0) | inr e ↦ ap (λ (t : Rows). t.linked) e.1 ]

    key-same : (n j : ℕ) → key_of (rows (with_table p m stored) n) j ≡ key_of (rows p n) j
    key-same n j = elim (rows_cases p m stored mi n) [ inl e ↦ ap (λ (t : Rows). key_of t j) e.1 ∙ ap (λ (x : ℕ). key_of (rows p x) j) (sym e.0) | inr e ↦ ap (λ (t : Rows). key_of t j) e.1 ]

    size-same : (n : ℕ) → element_count (with_table p m stored) n ≡ element_count p n
    size-same n = ap elements (shape-with p m stored mi refl n)

    linked-was : (n j : ℕ) → IsLinked (rows (with_table p m stored) n) j → IsLinked (rows p n) j
    linked-was n j k = subst (λ (ms : List Bool). slice_index_or ms j false ≡ true) (marks-same n) k

    linked-still : (n j : ℕ) → IsLinked (rows p n) j → IsLinked (rows (with_table p m stored) n) j
    linked-still n j k = subst (λ (ms : List Bool). slice_index_or ms j false ≡ true) (sym (marks-same n)) k

    used-was : (n j : ℕ) → IsUsed (with_table p m stored) n j → IsUsed p n j
    used-was n j (inl k) = inl (linked-was n j k)
    used-was n j (inr k) = inr (k.0, elim k.1 [ inl e ↦ inl (sym (keeps-same k.0 n j) ∙ e) | inr e ↦ inr (sym (holds-same k.0 n j) ∙ e) ])

    within : (n j : ℕ) → j < element_count (with_table p m stored) n → j < element_count p n
    within n j k = subst (λ (x : ℕ). j < x) (size-same n) k

    back : (n j : ℕ) → j < element_count p n → j < element_count (with_table p m stored) n
    back n j k = subst (λ (x : ℕ). j < x) (sym (size-same n)) k

    module _ (s : Plain) (so : IsSoundStore s) (h : StandsFor p s) where
      abbrev value-new : Value
      value-new = record (s.value (h.number m i)) {
        bytes = with_part (s.value (h.number m i)).bytes (a - (s.value (h.number m i)).span.at)
            (low_bytes (bytes_in size) word);
      }

      new-is : value-new ≡ record { bytes = bytes_of stored i; span = span_at p m i }
      new-is =
          ap (λ (x : Value). let y : Value = record x { bytes = with_part x.bytes (a - x.span.at) (low_bytes (bytes_in size) word) } in y) (value-is s so h)
          ∙ (ap (λ (k : ℕ). let y : Value = record { bytes = with_part (bytes_of (rows p m) i) k (low_bytes (bytes_in size) word); span = span_at p m i } in y)
          (let k : a - (span_at p m i).at ≡ o = omega arith in k)
          ∙ ap (λ (b : List ℕ). let y : Value = record { bytes = b; span = span_at p m i } in y) (sym bytes-here))

      values-after : (n j : ℕ) → j < element_count p n → IsUsed p n j → (n ≡ m) ⊎ (n ≢ m)
          → put s.value (h.number m i) value-new (h.number n j) ≡ record
          { bytes = bytes_of (rows (with_table p m stored) n) j; span = span_at (with_table p m stored) n j }
      values-after n j k u (inl e) = elim (equal_or_not j i) [
        | inl f ↦
            let here : h.number n j ≡ h.number m i = ap (λ (x : ℕ). h.number x j) e ∙ ap (h.number m) f in
            put-same s.value (h.number m i) (h.number n j) value-new here
            ∙ (new-is
            ∙ (ap (λ (x : ℕ). let y : Value = record { bytes = bytes_of stored x; span = span_at p m x } in y) (sym f)
            ∙ (ap (λ (t : Rows). let y : Value = record { bytes = bytes_of t j; span = element_span m t.shape j } in y) (sym (rows-here p m stored mi))
            ∙ ap (λ (x : ℕ). let y : Value = record { bytes = bytes_of (rows (with_table p m stored) x) j; span = span_at (with_table p m stored) x j } in y)
            (sym e))))
        | inr f ↦
            let apart : h.number n j ≢ h.number m i = λ q. f ((one_number p is s so h n m j i k l u (inr (c, inr is_held)) q).1) in
            let k' : j < element_count p m = subst (λ (x : ℕ). j < element_count p x) e k in
            put-other s.value (h.number m i) (h.number n j) value-new apart
            ∙ (h.values n j k u
            ∙ (ap (λ (x : ℕ). let y : Value = record { bytes = bytes_of (rows p x) j; span = span_at p x j } in y) e
            ∙ (ap (λ (b : List ℕ). let y : Value = record { bytes = b; span = span_at p m j } in y) (sym (bytes-beside j k' f))
            ∙ (ap (λ (t : Rows). let y : Value = record { bytes = bytes_of t j; span = element_span m t.shape j } in y) (sym (rows-here p m stored mi))
            ∙ ap (λ (x : ℕ). let y : Value = record { bytes = bytes_of (rows (with_table p m stored) x) j; span = span_at (with_table p m stored) x j } in y)
            (sym e)))))
      ]
      values-after n j k u (inr ne) =
          let apart : h.number n j ≢ h.number m i = λ q. ne ((one_number p is s so h n m j i k l u (inr (c, inr is_held)) q).0) in
          put-other s.value (h.number m i) (h.number n j) value-new apart
          ∙ (h.values n j k u
          ∙ ap (λ (t : Rows). let y : Value = record { bytes = bytes_of t j; span = element_span n t.shape j } in y) (sym (rows-else p m stored mi n ne)))

      stored_stands : StandsFor (with_table p m stored) (after_write s (h.number m i) a (bytes_in size) word)
      stored_stands = record {
        cpus = h.cpus;
        maps = h.maps ∙ sym store_shapes;
        running = h.running;
        number = h.number;
        leads = λ n j k. subst (λ (key : List ℕ). Finds s n key (h.number n j)) (sym (key-same n j)) (h.leads n j (linked-was n j k));
        found = λ n key v e. (let f = h.found n key v e in (f.0, linked-still n f.0 f.1, key-same n f.0 ∙ f.2, f.3));
        counts = λ n. h.counts n ∙ ap (count_by (λ b. b)) (sym (marks-same n));
        values = λ n j k u. values-after n j (within n j k) (used-was n j u) (equal_or_not n m);
        held = λ d v e. (let f = h.held d v e in (f.0, f.1, back f.0 f.1 f.2, holds-same d f.0 f.1 ∙ f.3, f.4));
        held_back = λ d n j k e. h.held_back d n j (within n j k) (sym (holds-same d n j) ∙ e);
        kept = λ d v e. (let f = h.kept d v e in (f.0, f.1, back f.0 f.1 f.2, keeps-same d f.0 f.1 ∙ f.3, f.4));
        kept_back = λ d n j k e. h.kept_back d n j (within n j k) (sym (keeps-same d n j) ∙ e);
      }

  pub store_calls : (word : ℕ) → is_running p c ≡ true → Makes p
      (with_table p m (stored_row i o (low_bytes (bytes_in size) word) (rows p m))) c (Store a size word)
  store_calls word going = calls p (with_table p m (stored_row i o (low_bytes (bytes_in size) word) (rows p m))) c (Store a size word) (λ s so h. (
    after_write s (h.number m i) a (bytes_in size) word,
    (h.running c ∙ going, (h.number m i, may_write s so h, refl)),
    tt,
    stored_stands word s so h,
  ))

  pub atomic_calls : (op : Change) (operand expected found word : ℕ) → found ≡ little_endian
      (part (bytes_of (rows p m) i) o (bytes_in size)) → word ≡ number_after op (bytes_in size) found operand expected → is_running p c ≡ true
      → Makes p (with_table p m (stored_row i o (low_bytes (bytes_in size) word) (rows p m))) c (Atomic a size op operand expected found)
  atomic_calls op operand expected found word is_found is_word going = calls p
      (with_table p m (stored_row i o (low_bytes (bytes_in size) word) (rows p m))) c (Atomic a size op operand expected found) (λ s so h. (
        after_write s (h.number m i) a (bytes_in size) word,
        (h.running c ∙ going, (h.number m i, may_write s so h, is_found ∙ sym (number-is s so h), ap (after_write s (h.number m i) a (bytes_in size)) is_word)),
        tt,
        stored_stands word s so h,
      ))
