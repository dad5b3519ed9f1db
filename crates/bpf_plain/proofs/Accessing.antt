-- Accesses to fixed values.
use Rattle.std.proofs.Common.{◌≡◌, ◌≢◌, ℕ, ◌+◌, ◌-◌, ◌*◌, ◌<◌, ◌≤◌, true, false, true≢false, List, [], length, get_or, inl, inr, ◌⊎◌, refl}
use Rattle.std.proofs.Common.{ap, sym, subst, ◌∙◌, arith}
use Rattle.std.proofs.lemmas.Bool.{cases_lt}
use Rattle.std.proofs.lemmas.List.{get_or-set_same, get_or-set_other, length-set}
use Rattle.bpf_base.specs.Bytes.{little_endian, low_bytes, part, with_part}
use Rattle.bpf_base.specs.Atomic.{number_after}
use Rattle.bpf_base.specs.declared.atomic.Change.{Change}
use Rattle.bpf_base.proofs.Numbers.{length-low_bytes}
use Rattle.bpf_base.proofs.Parts.{length-with_part}
use Rattle.bpf_shared.specs.declared.events.Span.{Span}
use Rattle.bpf_shared.specs.declared.events.Event.{Event}
use Rattle.bpf_shared.specs.declared.events.Size.{Size}
use Rattle.bpf_shared.specs.declared.events.Event.TheVariants.{Load, Store, Atomic}
use Rattle.bpf_shared.specs.declared.shapes.ArrayShape.{ArrayShape}
use Rattle.bpf_shared.specs.Access.{bytes_in}
use Rattle.bpf_shared.specs.Shape.{Shape, IsArray, IsApart, IsWithin, Covers, copies, copy_stride, contents_of, fixed_span}
use Rattle.bpf_shared.specs.Store.{Plain, Value, IsFixed, IsFrozen, array_of, copy_of, index_of, fixed_value}
use Rattle.bpf_shared.specs.Events.{Allowed, Reaches, MayWrite, number_in, after_write}
use Rattle.bpf_shared.specs.Sound.{IsSoundStore}
use Rattle.bpf_shared.specs.Passage.{IsFixedPlace}
use Rattle.bpf_shared.proofs.Puts.{equal_or_not, put-same, put-other}
use Rattle.bpf_shared.proofs.Soundness.{allowed_sound}
use Rattle.bpf_shared.proofs.Fixed.{fixed_apart, fixed_below, fixed_is, place_array, place_copy, place_frozen, place_index, place_is, place_number, place_span}
use Rattle.bpf_hash.proofs.Beside.{stands_beside}
use Rattle.bpf_hash.proofs.Blocks.{get_or-before, get_or-behind, part-beside, part-within}
use Rattle.bpf_plain.specs.Private.Contents.{Contents, bytes_of, fixed_bytes, offset_in, value_in, is_running, StandsFor, Makes, IsAsMade}
use Rattle.bpf_plain.specs.Private.Contents.{IsStore, first_at, with_array}
use Rattle.bpf_plain.specs.Private.Places.{array_at, offset_at}
use Rattle.bpf_plain.proofs.Lifting.{same_fixed}
use Rattle.bpf_plain.proofs.Places.{part-part, value_inside, array-is, offset-is, within, inside, array_there}

-- an event that is allowed, after which the store is shown
pub makes : (old new : Contents) (c : ℕ) (e : Event) → ((s : Plain) → IsSoundStore s → StandsFor old s → (t : Plain) × Allowed s c e t × StandsFor new t)
    → ((s t : Plain) → Rattle.bpf_shared.specs.Choice.Chosen s e t) → Makes old new c e
makes old new c e step chosen s so h = let r = step s so h in (r.0, (r.0, (r.1, chosen s r.0), refl), allowed_sound s r.0 c e so r.1, r.2)

-- two runs of addresses with none in common
apart_runs : (x m o n base : ℕ) → 0 < m → 0 < n → ((a : ℕ) → base + x ≤ a → a < base + x + m → base + o ≤ a → a < base + o + n → ⊥) → (x + m ≤ o) ⊎ (o + n ≤ x)
apart_runs x m o n base some more none = elim (cases_lt o (x + m)) [
  | inr behind ↦ inl behind
  | inl l ↦ elim (cases_lt x (o + n)) [
    | inr before ↦ inr before
    | inl k ↦ elim (cases_lt x o) [
      | inl up ↦ absurd (none (base + o) (omega arith) (omega arith) (omega arith) (omega arith))
      | inr down ↦ absurd (none (base + x) (omega arith) (omega arith) (omega arith) (omega arith))
    ]
  ]
]

module _ (p : Contents) (is : IsStore p) (c a n : ℕ) (some : 0 < n) (place : IsFixedPlace p.shape a n) where
  abbrev v : ℕ
  v = place_number p.shape is.shape a n place

  abbrev span : Span
  span = fixed_span place.number place.array place.copy place.index

  there : IsFixed p.shape v
  there = place_is p.shape is.shape a n place

  module _ (s : Plain) (so : IsSoundStore s) (h : StandsFor p s) where
    pub in_s : IsFixed s.shape v
    in_s = same_fixed p.shape s.shape (sym h.shape) v there

    pub span-is : (s.value v).span ≡ span
    span-is = so.fixed.spans v in_s ∙ (ap (λ (k : Shape). (fixed_value k v).span) h.shape ∙ place_span p.shape is.shape a n place)

    pub reaches : Reaches s c v a n
    reaches = record { holds = inr in_s; covers = subst (λ (q : Span). Covers q a n) (sym span-is) place.covers }

    pub may_write : place.array.frozen ≡ false → MayWrite s c v a n
    may_write thawed = record {
      reaches = reaches;
      writable = λ f. true≢false (sym (place_frozen p.shape is.shape a n place (subst (λ (k : Shape). IsFrozen k v) h.shape f)) ∙ thawed);
    }

    pub bytes-are : (s.value v).bytes ≡ value_in (bytes_of p place.number) place.array place.copy place.index
    bytes-are =
        h.fixed v (place_is p.shape is.shape a n place)
        ∙ (ap (λ (b : ℕ). value_in (bytes_of p b) place.array (copy_of v) (index_of v)) (place_array p.shape is.shape a n place)
        ∙ (ap (λ (k : ℕ). value_in (bytes_of p place.number) place.array k (index_of v)) (place_copy p.shape is.shape a n place)
        ∙ ap (λ (i : ℕ). value_in (bytes_of p place.number) place.array place.copy i) (place_index p.shape is.shape a n place)))

    pub number-is : number_in s v a n ≡ little_endian (part (bytes_of p (array_at a)) (offset_at a) n)
    number-is =
        let B = bytes_of p place.number in
        let at = offset_in place.array place.copy place.index in
        ap (λ (bs : List ℕ). little_endian (part bs (a - (s.value v).span.at) n)) bytes-are
        ∙ (ap (λ (q : Span). little_endian (part (part B at place.array.value) (a - q.at) n)) span-is
        ∙ (ap little_endian (part-part B at place.array.value (a - span.at) n (within p is a n some place))
        ∙ (ap (λ (o : ℕ). little_endian (part B o n)) (sym (offset-is p is a n some place))
        ∙ ap (λ (b : ℕ). little_endian (part (bytes_of p b) (offset_at a) n)) (sym (array-is p is a n some place)))))

  -- ---- writes
  module _ (low : List ℕ) (long : length low ≡ n) where
    abbrev bytes-new : List ℕ
    bytes-new = with_part (bytes_of p (array_at a)) (offset_at a) low

    abbrev after : Contents
    after = with_array p (array_at a) bytes-new

    fits : offset_at a + length low ≤ length (bytes_of p (array_at a))
    fits = let i = inside p is a n some place in omega arith

    here : bytes_of after (array_at a) ≡ bytes-new
    here = get_or-set_same p.arrays (array_at a) bytes-new [] (array_there p is a n some place)

    else : (b : ℕ) → b ≢ array_at a → bytes_of after b ≡ bytes_of p b
    else b ne = get_or-set_other p.arrays (array_at a) b bytes-new [] ne

    size-new : (b : ℕ) → length (bytes_of after b) ≡ length (bytes_of p b)
    size-new b = elim (equal_or_not b (array_at a)) [
      | inl e ↦ ap (λ (x : ℕ). length (bytes_of after x)) e ∙ (ap (λ (bs : List ℕ). length bs) here ∙
          (length-with_part (bytes_of p (array_at a)) (offset_at a) low fits ∙ ap (λ (x : ℕ). length (bytes_of p x)) (sym e)))
      | inr ne ↦ ap (λ (bs : List ℕ). length bs) (else b ne)
    ]

    is_here : (b : ℕ) (g : ArrayShape) → IsArray p.shape.arrays b g → b ≡ array_at a → g ≡ place.array
    is_here b g at e =
        let there : b ≡ place.number = e ∙ array-is p is a n some place in
        Rattle.bpf_shared.proofs.Fixed.same_array p.shape.arrays place.number g place.array (subst (λ (x : ℕ). IsArray p.shape.arrays x g) there at) place.is

    -- what is in no value stays
    padded_here : (x : ℕ) → (IsWithin p.shape.cpus place.array x 1 → ⊥) → get_or bytes-new x 0 ≡ get_or (bytes_of p (array_at a)) x 0
    padded_here x none = elim (cases_lt x (offset_at a)) [
      | inl l ↦ get_or-before (bytes_of p (array_at a)) low (offset_at a) fits x l
      | inr l ↦ elim (cases_lt x (offset_at a + n)) [
        | inl m ↦ absurd (
            let offset = offset-is p is a n some place in
            let room = within p is a n some place in
            none (record {
              copy = place.copy;
              index = place.index;
              has_copy = place.has_copy;
              has_index = place.has_index;
              from = omega arith;
              to = omega arith;
            }))
        | inr m ↦ get_or-behind (bytes_of p (array_at a)) low (offset_at a) fits x (omega arith)
      ]
    ]

    pub is_store : place.array.frozen ≡ false → IsStore after
    is_store thawed = record {
      shape = is.shape;
      maps = is.maps;
      cpus = is.cpus;
      arrays = record {
        count = length-set p.arrays (array_at a) bytes-new ∙ is.arrays.count;
        each = λ b g at. record {
          size = size-new b ∙ (is.arrays.each b g at).size;
          frozen = λ frozen. elim (equal_or_not b (array_at a)) [
            | inl e ↦ absurd (true≢false (sym frozen ∙ (ap (λ (k : ArrayShape). k.frozen) (is_here b g at e) ∙ thawed)))
            | inr ne ↦ subst (IsAsMade p.shape.cpus g (contents_of p.shape b)) (sym (else b ne)) ((is.arrays.each b g at).frozen frozen)
          ];
          padded = λ x l none. (
              let size = size-new b in
              let was : get_or (bytes_of p b) x 0 ≡ first_at p.shape b g x = (is.arrays.each b g at).padded x (omega arith) none in
              elim (equal_or_not b (array_at a)) [
                | inl e ↦
                    ap (λ (y : ℕ). get_or (bytes_of after y) x 0) e
                    ∙ (ap (λ (bs : List ℕ). get_or bs x 0) here
                    ∙ (padded_here x (subst (λ (k : ArrayShape). IsWithin p.shape.cpus k x 1 → ⊥) (is_here b g at e) none) ∙
                    (ap (λ (y : ℕ). get_or (bytes_of p y) x 0) (sym e) ∙ was)))
                | inr ne ↦ ap (λ (bs : List ℕ). get_or bs x 0) (else b ne) ∙ was
              ]);
        };
      };
    }

    -- the value's bytes are written
    value_new : value_in (bytes_of after place.number) place.array place.copy place.index ≡ with_part
        (value_in (bytes_of p place.number) place.array place.copy place.index) (a - span.at) low
    value_new =
        let at = offset_in place.array place.copy place.index in
        let same = array-is p is a n some place in
        let fit = value_inside p.shape.cpus place.copy place.index place.array place.has_copy place.has_index in
        let size = (is.arrays.each place.number place.array place.is).size in
        let w = within p is a n some place in
        ap (λ (b : ℕ). value_in (bytes_of after b) place.array place.copy place.index) (sym same)
        ∙ (ap (λ (bs : List ℕ). value_in bs place.array place.copy place.index) here
        ∙ (ap (λ (b : ℕ). part (with_part (bytes_of p b) (offset_at a) low) at place.array.value) same
        ∙ (ap (λ (o : ℕ). part (with_part (bytes_of p place.number) o low) at place.array.value) (offset-is p is a n some place)
        ∙ part-within (bytes_of p place.number) low at place.array.value (a - span.at) (omega arith) (omega arith))))

    -- those of others aren't
    value_old : (w : ℕ) (f : IsFixed p.shape w) → w ≢ v → fixed_bytes after w f.array ≡ fixed_bytes p w f.array
    value_old w f ne = elim (equal_or_not (array_of w) (array_at a)) [
      | inr other ↦ ap (λ (bs : List ℕ). value_in bs f.array (copy_of w) (index_of w)) (else (array_of w) other)
      | inl e ↦
          let x = offset_in f.array (copy_of w) (index_of w) in
          let sized = (is.shape.arrays (array_of w) f.array f.is).0 in
          let wide = sized.value.0 in
          let number : array_of w ≡ place.number = e ∙ array-is p is a n some place in
          let base = 0x10_0000_0000 + 0x1000_0000 * (16 + place.number) in
          let span_w : (fixed_value p.shape w).span ≡ fixed_span (array_of w) f.array (copy_of w) (index_of w) = ap (λ (y : Value). y.span)
          (fixed_is p.shape w f) in
          let apart : IsApart (fixed_span (array_of w) f.array (copy_of w) (index_of w)) span =
          subst (λ (q : Span). IsApart q span) span_w
          (subst (IsApart (fixed_value p.shape w).span) (place_span p.shape is.shape a n place) (fixed_apart p.shape is.shape w v f there ne)) in
          let from = place.covers.0 in
          let to = place.covers.1 in
          let offset = offset-is p is a n some place in
          let beside : (x + f.array.value ≤ offset_at a) ⊎ (offset_at a + n ≤ x) =
          apart_runs x f.array.value (offset_at a) n base wide some (λ k l m i j. apart k (omega arith, omega arith) (omega arith, omega arith)) in
          let fit = value_inside p.shape.cpus (copy_of w) (index_of w) f.array f.copy f.index in
          let size = (is.arrays.each (array_of w) f.array f.is).size in
          let same : bytes_of p (array_of w) ≡ bytes_of p (array_at a) = ap (bytes_of p) e in
          let long_w : length (bytes_of p (array_at a)) ≡ copies p.shape.cpus f.array * copy_stride f.array = ap
          (λ (bs : List ℕ). length bs) (sym same) ∙ size in
          ap (λ (b : ℕ). value_in (bytes_of after b) f.array (copy_of w) (index_of w)) e
          ∙ (ap (λ (bs : List ℕ). value_in bs f.array (copy_of w) (index_of w)) here
          ∙ (part-beside (bytes_of p (array_at a)) low (offset_at a) x f.array.value fits (omega arith) (turned beside)
          ∙ ap (λ (bs : List ℕ). value_in bs f.array (copy_of w) (index_of w)) (sym same)))
    ]
      where
        turned : {x y : ℕ} → (x ≤ offset_at a) ⊎ (offset_at a + n ≤ y) → (x ≤ offset_at a) ⊎ (offset_at a + length low ≤ y)
        turned (inl l) = inl l
        turned (inr l) = inr (omega arith)

  module _ (word : ℕ) where
    abbrev low : List ℕ
    low = low_bytes n word

    long : length low ≡ n
    long = length-low_bytes n word

    abbrev stored : Contents
    stored = with_array p (array_at a) (with_part (bytes_of p (array_at a)) (offset_at a) low)

    pub stands : (s : Plain) → IsSoundStore s → StandsFor p s → StandsFor stored (after_write s v a n word)
    stands s so h = record {
      shape = h.shape;
      maps = stands_beside p.maps s so h.maps v _ (fixed_below s.shape v (in_s s so h));
      fixed = λ w f. elim (equal_or_not w v) [
        | inl e ↦
            ap (λ (y : Value). y.bytes) (put-same s.value v w _ e)
            ∙ (ap (λ (bs : List ℕ). with_part bs (a - (s.value v).span.at) low) (bytes-are s so h)
            ∙ (ap (λ (q : Span). with_part (value_in (bytes_of p place.number) place.array place.copy place.index) (a - q.at) low) (span-is s so h)
            ∙ (sym (value_new low long) ∙ sym (shown_at w f e))))
        | inr ne ↦ ap (λ (y : Value). y.bytes) (put-other s.value v w _ ne) ∙ (h.fixed w f ∙ sym (value_old low long w f ne))
      ];
    }
      where
        shown_at : (w : ℕ) (f : IsFixed p.shape w) → w ≡ v → fixed_bytes stored w f.array ≡ value_in (bytes_of stored place.number)
            place.array place.copy place.index
        shown_at w f e =
            let array : array_of w ≡ place.number = ap array_of e ∙ place_array p.shape is.shape a n place in
            let copy : copy_of w ≡ place.copy = ap copy_of e ∙ place_copy p.shape is.shape a n place in
            let index : index_of w ≡ place.index = ap index_of e ∙ place_index p.shape is.shape a n place in
            let same : f.array ≡ place.array = Rattle.bpf_shared.proofs.Fixed.same_array p.shape.arrays place.number f.array place.array
            (subst (λ (x : ℕ). IsArray p.shape.arrays x f.array) array f.is) place.is in
            ap (λ (b : ℕ). value_in (bytes_of stored b) f.array (copy_of w) (index_of w)) array
            ∙ (ap (λ (k : ℕ). value_in (bytes_of stored place.number) f.array k (index_of w)) copy
            ∙ (ap (λ (i : ℕ). value_in (bytes_of stored place.number) f.array place.copy i) index
            ∙ ap (λ (g : ArrayShape). value_in (bytes_of stored place.number) g place.copy place.index) same))

-- ---- events
module _ (p : Contents) (is : IsStore p) (c a : ℕ) (size : Size) (some : 0 < bytes_in size) (place : IsFixedPlace p.shape a (bytes_in size))
    (going : is_running p c ≡ true) where
  abbrev n : ℕ
  n = bytes_in size

  abbrev at : ℕ
  at = place_number p.shape is.shape a n place

  pub load_makes : Makes p p c (Load a size (little_endian (part (bytes_of p (array_at a)) (offset_at a) n)))
  load_makes = makes p p c (Load a size (little_endian (part (bytes_of p (array_at a)) (offset_at a) n)))
      (λ s so h. (s, (h.maps.running c ∙ going, (at, reaches p is c a n some place s so h, sym (number-is p is c a n some place s so h), refl)), h)) (λ s t. tt)

  pub store_makes : (word : ℕ) → place.array.frozen ≡ false → Makes p (stored p is c a n some place word) c (Store a size word)
  store_makes word thawed = makes p (stored p is c a n some place word) c (Store a size word)
      (λ s so h. (
        after_write s at a n word,
        (h.maps.running c ∙ going, (at, may_write p is c a n some place s so h thawed, refl)),
        stands p
            is c a n some place word s so h,
      )) (λ s t. tt)

  pub atomic_makes : (op : Change) (operand expected found word : ℕ) → place.array.frozen ≡ false → found ≡ little_endian
      (part (bytes_of p (array_at a)) (offset_at a) n) → word ≡ number_after op n found operand expected
      → Makes p (stored p is c a n some place word) c (Atomic a size op operand expected found)
  atomic_makes op operand expected found word thawed is_found is_word = makes p (stored p is c a n some place word) c (Atomic a size op operand expected found)
      (λ s so h. (
        after_write s at a n word,
        (
          h.maps.running c ∙ going,
          (
            at,
            may_write p is c a n some place s so h thawed,
            is_found ∙ sym
                (number-is p is c a n some place s so h),
            ap (after_write s at a n) is_word,
          ),
        ),
        stands p is c a n some place word s so h,
      )) (λ s t. tt)
