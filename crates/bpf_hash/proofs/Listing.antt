-- A listing of a map, and the byte at an address.
use Rattle.std.proofs.Common.{◌≡◌, ℕ, ◌+◌, ◌-◌, ◌*◌, ◌/◌, ◌%◌, ◌<◌, ◌≤◌, true, false, List, [], Option, Some, None, option_map, length}
use Rattle.std.proofs.Common.{slice_index, inl, inr, refl, ap, sym, ◌∙◌, subst, arith}
use Rattle.std.proofs.lemmas.Nat.{div-add-mod'}
use Rattle.std.specs.Option.{IfNone}
use Rattle.std.specs.Prelude.{IfSome}
use Rattle.std.specs.FinMap.{get}
use denote.Ref.{Bor}
use Rattle.bpf_hash.specs.declared.store.Reach.{Reach}
use Rattle.bpf_shared.specs.Shape.{IsIn, element_stride, elements}
use Rattle.bpf_shared.specs.Store.{Plain, Value, Finds}
use Rattle.bpf_shared.specs.Sound.{IsSoundStore}
use Rattle.bpf_hash.specs.Private.Rows.{Rows, no_rows, key_of, bytes_of, IsKeyAt, IsLinked, IsMissing, IsTakenRow}
use Rattle.bpf_hash.specs.Private.Contents.{Contents, rows, element_count, span_at, IsUsed, StandsFor, IsStore}
use Rattle.bpf_hash.specs.Private.Changes.{IsAtValue, IsReach}
use Rattle.bpf_shared.specs.Laws.{byte_at}
use Rattle.bpf_shared.specs.Listing.{Pair, IsElementByteAt}
use Rattle.bpf_hash.specs.Private.Pairs.{AreRowPairs}
use Rattle.bpf_hash.specs.Shows.{AreElementsLow, Lists, ShowsByte, ShowsKey, ShowsNoByte, ShowsNoKey, ShowsValue, LeadsTo}
use Rattle.bpf_shared.proofs.Places.{reached, reach_most}
use Rattle.bpf_hash.proofs.Places.{sized_map, linked_size, one_at, span-number, keeps_cpu}
use Rattle.bpf_hash.proofs.Accessing.{reach_facts}

module _ (p : Contents) (is : IsStore p) where
  pub lists : (m : ℕ) (pairs : List Pair) → AreRowPairs (rows p m) pairs → Lists p m pairs
  lists m pairs are s so h = record {
    sorted = are.sorted;
    each = λ k b.
        (let f = are.each k b in
        let i = f.0 in
        let value : s.value (h.number m i) ≡ record { bytes = bytes_of (rows p m) i; span = span_at p m i } = h.values m i
        (linked_size p is m i f.1) (inl f.1) in
        let leads : Finds s m (key_of (rows p m) i) (h.number m i) = h.leads m i f.1 in (
          h.number m i,
          subst (λ (x : Pair). Finds s m x.0 (h.number m i)) (sym f.2) leads,
          ap (λ (x : Pair). x.1) f.2 ∙ sym
              (ap (λ (x : Value). x.bytes) value),
        ));
    all = λ key v e.
        (let f = h.found m key v e in
        let a = are.all f.0 f.1 in
        (a.0, a.1, ap (λ (x : Pair). x.0) a.2 ∙ f.2));
  }

  -- the value of a key that a map has
  pub value_there : (m i : ℕ) (key bytes : List ℕ) → IsKeyAt (rows p m) key i → bytes ≡ bytes_of (rows p m) i → ShowsValue p m key (Some bytes)
  value_there m i key bytes at e s so h =
      let v = h.number m i in
      let leads : get (s.maps m) key ≡ Some v = subst (λ (k : List ℕ). Finds s m k v) at.is (h.leads m i at.linked) in
      let value : s.value v ≡ record { bytes = bytes_of (rows p m) i; span = span_at p m i } = h.values m i (linked_size p is m i at.linked) (inl at.linked) in
      ap (option_map (λ w. (s.value w).bytes)) leads ∙ ap (λ (x : Value). Some x.bytes) value ∙ ap (λ (b : List ℕ). Some b) (sym e)

  -- and of one that it doesn't have
  pub no_value_there : (m : ℕ) (key : List ℕ) → IsMissing (rows p m) key → ShowsValue p m key None
  no_value_there m key missing s so h = ap (option_map (λ w. (s.value w).bytes)) (nowhere (get (s.maps m) key) refl)
    where
      nowhere : (o : Option ℕ) → get (s.maps m) key ≡ o → get (s.maps m) key ≡ None
      nowhere None e = e
      nowhere (Some v) e = let f = h.found m key v e in absurd (missing f.0 f.1 f.2)

  -- what a look at the map's table finds
  pub value_found : (m : ℕ) (key : List ℕ) (t : Rows) (o : Option (Bor (List ℕ))) → t ≡ rows p m
      → IfSome o (λ value. (i : ℕ) × IsKeyAt t key i × (value.now ≡ bytes_of t i)) → IfNone o (IsMissing t key)
      → ShowsValue p m key (option_map (λ value. value.now) o)
  value_found m key t None row found absent = no_value_there m key (subst (λ (x : Rows). IsMissing x key) row absent)
  value_found m key t (Some value) row found absent =
      value_there m found.0 key value.now (subst (λ (x : Rows). IsKeyAt x key found.0) row found.1) (found.2 ∙ ap (λ (x : Rows). bytes_of x found.0) row)

  -- the byte at an address in an element
  abbrev byte_in : ℕ → ℕ → ℕ → ℕ
  byte_in m i a = slice_index (bytes_of (rows p m) i) (a - (span_at p m i).at)

  module _ (s : Plain) (so : IsSoundStore s) (h : StandsFor p s) where
    byte_of : (v m i a : ℕ) → i < element_count p m → IsUsed p m i → v ≡ h.number m i → byte_at s v a ≡ byte_in m i a
    byte_of v m i a l used e =
        ap (λ (z : ℕ). byte_at s z a) e ∙ ap (λ (x : Value). slice_index x.bytes (a - x.span.at)) (h.values m i l used)

    -- in which element the byte lies, and at which of its bytes
    stands_at : (a b : ℕ) → IsElementByteAt s a b → (m : ℕ) × (i : ℕ) × (i < element_count p m) × IsTakenRow p.runs (rows p m) i × IsIn a
        (span_at p m i) × (b ≡ byte_in m i a)
    stands_at a b (v, inl k, inside, e) =
        let f = h.found k.0 k.1.0 v k.1.1 in
        let l = linked_size p is k.0 f.0 f.1 in (
          k.0,
          f.0,
          l,
          inl f.1,
          subst (IsIn a) (ap (λ (z : ℕ). (s.value z).span) f.3 ∙ span-number p is s so h k.0 f.0 l (inl f.1)) inside,
          e
              ∙ byte_of v k.0 f.0 a l (inl f.1) f.3,
        )
    stands_at a b (v, inr k, inside, e) =
        let f = h.kept k.0 v k.1 in (
          f.0,
          f.1,
          f.2,
          inr (k.0, keeps_cpu p k.0 f.0 f.1 f.3, f.3),
          subst (IsIn a)
              (ap (λ (z : ℕ). (s.value z).span) f.4 ∙ span-number p is s so h f.0 f.1 f.2 (inr (k.0, inl f.3))) inside,
          e ∙ byte_of v f.0 f.1
              a f.2 (inr (k.0, inl f.3)) f.4,
        )

  -- in which element of its map the value of a key lies
  led_to : (s : Plain) → IsSoundStore s → (h : StandsFor p s) → (a : ℕ) (key : List ℕ) → LeadsTo s a key → (m : ℕ) × (i : ℕ) ×
      (i < element_count p m) × IsLinked (rows p m) i × IsIn a (span_at p m i)
  led_to s so h a key (m, v, finds, inside) =
      let f = h.found m key v finds in
      let l = linked_size p is m f.0 f.1 in
      (m, f.0, l, f.1, subst (IsIn a) (ap (λ (z : ℕ). (s.value z).span) f.3 ∙ span-number p is s so h m f.0 l (inl f.1)) inside)

  pub no_key_anywhere : (a : ℕ) → (IsAtValue p a → ⊥) → ShowsNoKey p a
  no_key_anywhere a no_value s so h key leads =
      let f = led_to s so h a key leads in
      no_value (f.0, f.1, sized_map p f.0 f.1 f.2, f.2, f.4)

  pub nothing_there : (a : ℕ) → (IsAtValue p a → ⊥) → ShowsNoByte p a
  nothing_there a no_value s so h b at =
      let f = stands_at s so h a b at in
      no_value (f.0, f.1, sized_map p f.0 f.1 f.2, f.2, f.4)

  -- each byte lies below the areas of arrays
  pub elements_low : (s : Plain) → IsSoundStore s → StandsFor p s → AreElementsLow s
  elements_low s so h a b at =
      let f = stands_at s so h a b at in
      let there = sized_map p f.0 f.1 f.2 in
      let shape = (is.tables f.0 there).0.shape in
      let most = reach_most (rows p f.0).shape f.1 shape f.2 in
      let few = is.maps in
      let size = shape.value.1 in
      let inside = f.4.1 in
      omega (arith, most, few, there, size, inside)

  module _ (a : ℕ) (r : Reach) (reach : IsReach p a r) where
    abbrev row : Rows
    row = rows p r.map

    is_in : IsIn a (span_at p r.map r.element)
    is_in = let at = reach.at in let inside = reach.inside in (omega arith, omega arith)

    pub free_there : (IsTakenRow p.runs row r.element → ⊥) → ShowsNoByte p a
    free_there free s so h b at =
        let f = stands_at s so h a b at in
        let same = one_at p is f.0 r.map f.1 r.element a f.2 reach.element f.4 is_in in
        free (subst (λ (m : ℕ). IsTakenRow p.runs (rows p m) r.element) same.0 (subst (IsTakenRow p.runs (rows p f.0)) same.1 f.3))

    pub key_there : (key : List ℕ) → IsLinked row r.element × (key ≡ key_of row r.element) → ShowsKey p a key
    key_there key (linked, e) s so h = (
      r.map,
      h.number r.map r.element,
      subst (λ (k : List ℕ). Finds s r.map k (h.number r.map r.element)) (sym e) (h.leads r.map r.element linked),
      subst (IsIn a) (sym (span-number p is s so h r.map r.element reach.element (inl linked))) is_in,
    )

    pub no_key_there : (IsLinked row r.element → ⊥) → ShowsNoKey p a
    no_key_there free s so h key leads =
        let f = led_to s so h a key leads in
        let same = one_at p is f.0 r.map f.1 r.element a f.2 reach.element f.4 is_in in
        free (subst (λ (m : ℕ). IsLinked (rows p m) r.element) same.0 (subst (IsLinked (rows p f.0)) same.1 f.3))

    far : r.offset ≡ a - (span_at p r.map r.element).at
    far = let at = reach.at in omega arith

    module _ (s : Plain) (so : IsSoundStore s) (h : StandsFor p s) (b : ℕ) (e : b ≡ slice_index (bytes_of row r.element) r.offset) where
      here : b ≡ byte_in r.map r.element a
      here = e ∙ ap (slice_index (bytes_of row r.element)) far

      there : IsTakenRow p.runs row r.element → IsElementByteAt s a b
      there (inl k) =
          let v = h.number r.map r.element in
          let value : s.value v ≡ record { bytes = bytes_of row r.element; span = span_at p r.map r.element } = h.values r.map r.element
          reach.element (inl k) in (
            v,
            inl (r.map, (_, h.leads r.map r.element k)),
            subst (IsIn a) (sym (ap (λ (x : Value). x.span) value)) is_in,
            here ∙ sym (ap (λ (x : Value). slice_index x.bytes (a - x.span.at)) value),
          )
      there (inr k) =
          let v = h.number r.map r.element in
          let value : s.value v ≡ record { bytes = bytes_of row r.element; span = span_at p r.map r.element } = h.values r.map r.element
          reach.element (inr (k.0, inl k.2)) in (
            v,
            inr (k.0, h.kept_back k.0 r.map r.element reach.element k.2),
            subst (IsIn a) (sym (ap (λ (x : Value). x.span) value)) is_in,
            here ∙ sym (ap (λ (x : Value). slice_index x.bytes (a - x.span.at)) value),
          )

      only : (other : ℕ) → IsElementByteAt s a other → other ≡ b
      only other at =
          let f = stands_at s so h a other at in
          let same = one_at p is f.0 r.map f.1 r.element a f.2 reach.element f.4 is_in in
          f.5 ∙ ap (λ (m : ℕ). byte_in m f.1 a) same.0 ∙ ap (λ (i : ℕ). byte_in r.map i a) same.1 ∙ sym here

    pub byte_there : IsTakenRow p.runs row r.element → (b : ℕ) → b ≡ slice_index (bytes_of row r.element) r.offset → ShowsByte p a b
    byte_there taken b e s so h = (there s so h b e taken, only s so h b e)

-- where an address lies, by its quotients and remainders
pub at_place : (a w : ℕ) → 0x10_0000_0000 ≤ a
    → a ≡ 0x10_0000_0000 + 0x1000_0000 * ((a - 0x10_0000_0000) / 0x1000_0000) + (a - 0x10_0000_0000) % 0x1000_0000 / w * w +
    (a - 0x10_0000_0000) % 0x1000_0000 % w
at_place a w l =
    let x : ℕ = (a - 0x10_0000_0000) % 0x1000_0000 in
    let whole : x / w * w + x % w ≡ x = div-add-mod' x w in
    let above : 0x1000_0000 * ((a - 0x10_0000_0000) / 0x1000_0000) + x ≡ a - 0x10_0000_0000 = omega arith in
    omega arith

-- of no map there are no pairs
pub no_pairs : (pairs : List Pair) → pairs ≡ [] → AreRowPairs no_rows pairs
no_pairs pairs e =
    let count : length pairs ≡ 0 = ap (λ (x : List Pair). length x) e in
    record {
      sorted = λ j k l m. absurd (omega arith);
      each = λ k l. absurd (omega arith);
      all = λ i linked. absurd (let none : false ≡ true = linked in cc);
    }

pub no_keys_of_none : (key : List ℕ) → IsMissing no_rows key
no_keys_of_none key i linked = absurd (let none : false ≡ true = linked in cc)

pub if_none : {X P Q : Type 0} (o : Option X) → IfNone o P → (P → Q) → IfNone o Q
if_none None p f = f p
if_none (Some x) p f = tt

-- what the code finds of an address in a value, in a map and within its elements
pub found_place : (p : Contents) (is : IsStore p) (a : ℕ) (v : IsAtValue p a) (t : Rows) → t ≡ rows p ((a - 0x10_0000_0000) / 0x1000_0000)
    → ((a - 0x10_0000_0000) % 0x1000_0000 / element_stride t.shape < elements t.shape)
    × ((a - 0x10_0000_0000) % 0x1000_0000 % element_stride t.shape < t.shape.value)
found_place p is a v t row =
    let f = reach_facts p is a v t (element_stride t.shape) row refl in
    let x : ℕ = (a - 0x10_0000_0000) % 0x1000_0000 in (
      subst (λ (r : Rows). x / element_stride t.shape < elements r.shape) (sym row) f.0,
      subst (λ (r : Rows). x % element_stride t.shape < r.shape.value) (sym row) f.2,
    )

pub found_map : (p : Contents) (is : IsStore p) (a : ℕ) → IsAtValue p a → (a - 0x10_0000_0000) / 0x1000_0000 < length p.tables
found_map p is a v = subst (λ (n : ℕ). n < length p.tables) (sym (reached v.0 v.1 a (rows p v.0).shape (is.tables v.0 v.2).0.shape v.3 v.4).0) v.2
