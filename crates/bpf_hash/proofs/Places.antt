-- Where values lie: an address is in one element at most, and what is in use is taken.
use Rattle.std.proofs.Common.{◌≡◌, ℕ, ◌<◌, true, false, length, inl, inr, ap, sym, ◌∙◌, subst, arith}
use Rattle.std.proofs.lemmas.Bool.{cases_lt}
use Rattle.std.proofs.lemmas.List.{get_or_past}
use Rattle.bpf_shared.specs.declared.shapes.MapShape.{MapShape}
use Rattle.bpf_hash.specs.declared.runs.Runs.{Runs}
use Rattle.bpf_shared.specs.Shape.{IsMapShape, IsIn, IsApart, elements, element_span, element_stride}
use Rattle.bpf_shared.specs.Store.{Plain, Value, IsLive}
use Rattle.bpf_shared.specs.Choice.{IsTaken, IsLowestFree}
use Rattle.bpf_shared.specs.Sound.{IsSoundStore}
use Rattle.bpf_hash.specs.Private.Runs.{no_runs, is_run}
use Rattle.bpf_hash.specs.Private.Rows.{Rows, no_rows, run_left, IsLinked, IsTakenRow, IsLowestFreeRow}
use Rattle.bpf_hash.specs.Private.Contents.{Contents, rows, element_count, span_at, holds, keeps, IsUsed, StandsFor, IsStore}
use Rattle.bpf_shared.proofs.Puts.{equal_or_not}
use Rattle.bpf_shared.proofs.Places.{stride_most, reach_most}
use Rattle.bpf_shared.proofs.Fixed.{element_apart}
use Rattle.bpf_hash.proofs.Blocks.{apart_blocks}
use Rattle.bpf_hash.proofs.Linking.{linked_inside}

pub one_map : (m n i j : ℕ) (g h : MapShape) (a : ℕ) → IsMapShape g → IsMapShape h → i < elements g → j < elements h → IsIn a
    (element_span m g i) → IsIn a (element_span n h j) → m ≡ n
one_map m n i j g h a sg sh li lj x y =
    let bm = reach_most g i sg li in
    let bn = reach_most h j sh lj in
    let vm = (stride_most g sg).1 in
    let vn = (stride_most h sh).1 in
    let wm = (stride_most g sg).0 in
    let wn = (stride_most h sh).0 in
    let x0 = x.0 in let x1 = x.1 in let y0 = y.0 in let y1 = y.1 in
    elim (equal_or_not m n) [
      | inl e ↦ e
      | inr ne ↦ elim (cases_lt m n) [
        | inl l ↦ absurd (omega arith)
        | inr l ↦ elim (cases_lt n m) [ inl k ↦ absurd (omega arith) | inr k ↦ omega arith ]
      ]
    ]

pub one_element : (m i j : ℕ) (g : MapShape) (a : ℕ) → IsMapShape g → IsIn a (element_span m g i) → IsIn a (element_span m g j) → i ≡ j
one_element m i j g a sg x y =
    let v = (stride_most g sg).1 in
    let x0 = x.0 in let x1 = x.1 in let y0 = y.0 in let y1 = y.1 in
    elim (equal_or_not i j) [
      | inl e ↦ e
      | inr ne ↦ elim (apart_blocks i j (element_stride g) ne) [ inl k ↦ absurd (omega arith) | inr k ↦ absurd (omega arith) ]
    ]

-- ---- elements of a store
pub linked_map : (p : Contents) (m i : ℕ) → IsLinked (rows p m) i → m < length p.tables
linked_map p m i l = elim (cases_lt m (length p.tables)) [
  | inl k ↦ k
  | inr k ↦ absurd (let none : false ≡ true = subst (λ (t : Rows). IsLinked t i) (get_or_past p.tables m no_rows k) l in cc)
]

pub sized_map : (p : Contents) (m i : ℕ) → i < element_count p m → m < length p.tables
sized_map p m i l = elim (cases_lt m (length p.tables)) [
  | inl k ↦ k
  | inr k ↦ absurd (let none : i < 0 = subst (λ (t : Rows). i < elements t.shape) (get_or_past p.tables m no_rows k) l in omega arith)
]

pub keeps_cpu : (p : Contents) (c m i : ℕ) → keeps p c m i ≡ true → c < length p.runs
keeps_cpu p c m i e = elim (cases_lt c (length p.runs)) [
  | inl k ↦ k
  | inr k ↦ absurd (let none : false ≡ true = sym (ap (λ (x : Runs). is_run x (run_left (rows p m) i c)) (get_or_past p.runs c no_runs k)) ∙ e in cc)
]

module _ (p : Contents) (is : IsStore p) where
  shape_is : (m i : ℕ) → i < element_count p m → IsMapShape (rows p m).shape
  shape_is m i l = (is.tables m (sized_map p m i l)).0.shape

  pub linked_size : (m i : ℕ) → IsLinked (rows p m) i → i < element_count p m
  linked_size m i l = linked_inside (rows p m) (is.tables m (linked_map p m i l)).0 i l

  pub one_at : (m n i j a : ℕ) → i < element_count p m → j < element_count p n → IsIn a (span_at p m i) → IsIn a (span_at p n j) → (m ≡ n) × (i ≡ j)
  one_at m n i j a li lj x y =
      let map : m ≡ n = one_map m n i j (rows p m).shape (rows p n).shape a (shape_is m i li) (shape_is n j lj) li lj x y in
      let here : IsIn a (span_at p m j) = subst (λ (k : ℕ). IsIn a (span_at p k j)) (sym map) y in
      (map, one_element m i j (rows p m).shape a (shape_is m i li) x here)

  pub first_in : (m i : ℕ) → i < element_count p m → IsIn (span_at p m i).at (span_at p m i)
  first_in m i l = let v = (shape_is m i l).value.0 in (omega arith, omega arith)

  pub one_span : (m n i j : ℕ) → i < element_count p m → j < element_count p n → span_at p m i ≡ span_at p n j → (m ≡ n) × (i ≡ j)
  one_span m n i j li lj e = one_at m n i j (span_at p m i).at li lj (first_in m i li) (subst (IsIn (span_at p m i).at) e (first_in m i li))

  module _ (s : Plain) (so : IsSoundStore s) (h : StandsFor p s) where
    pub span-number : (m i : ℕ) → i < element_count p m → IsUsed p m i → (s.value (h.number m i)).span ≡ span_at p m i
    span-number m i l u = ap (λ (x : Value). x.span) (h.values m i l u)

    pub one_number : (m n i j : ℕ) → i < element_count p m → j < element_count p n → IsUsed p m i → IsUsed p n j → h.number m i ≡ h.number n
        j → (m ≡ n) × (i ≡ j)
    one_number m n i j li lj u w e =
        one_span m n i j li lj (sym (span-number m i li u) ∙ (ap (λ (v : ℕ). (s.value v).span) e ∙ span-number n j lj w))

    -- what is held is in its map, or kept
    pub held_taken : (c m i : ℕ) → i < element_count p m → holds p c m i ≡ true → IsTakenRow p.runs (rows p m) i
    held_taken c m i l e = elim (so.held c (h.number m i) (h.held_back c m i l e)) [
      | inl k ↦
          let f = h.found k.0 k.1.0 (h.number m i) k.1.1 in
          let at = one_number m k.0 i f.0 l (linked_size k.0 f.0 f.1) (inr (c, inr e)) (inl f.1) f.3 in
          inl (subst (λ (x : ℕ). IsLinked (rows p x) i) (sym at.0) (subst (IsLinked (rows p k.0)) (sym at.1) f.1))
      | inr k ↦
          let f = h.kept c (h.number m i) k in
          let at = one_number m f.0 i f.1 l f.2 (inr (c, inr e)) (inr (c, inl f.3)) f.4 in
          let here : keeps p c m i ≡ true = ap (λ (x : ℕ). keeps p c x i) at.0 ∙ (ap (keeps p c f.0) at.1 ∙ f.3) in
          inr (c, keeps_cpu p c m i here, here)
    ]

    pub taken_up : (m i : ℕ) → i < element_count p m → IsTakenRow p.runs (rows p m) i → IsTaken s m (rows p m).shape i
    taken_up m i l (inl k) = (h.number m i, inl (_, h.leads m i k), span-number m i l (inl k))
    taken_up m i l (inr k) = (h.number m i, inr (k.0, h.kept_back k.0 m i l k.2), span-number m i l (inr (k.0, inl k.2)))

    pub taken_down : (m i : ℕ) → i < element_count p m → IsTaken s m (rows p m).shape i → IsTakenRow p.runs (rows p m) i
    taken_down m i l (v, inl k, e) =
        let f = h.found m k.0 v k.1 in
        let there = linked_size m f.0 f.1 in
        let at = one_span m m f.0 i there l (sym (span-number m f.0 there (inl f.1)) ∙ (ap (λ (x : ℕ). (s.value x).span) (sym f.3) ∙ e)) in
        inl (subst (IsLinked (rows p m)) at.1 f.1)
    taken_down m i l (v, inr k, e) =
        let f = h.kept k.0 v k.1 in
        let at = one_span f.0 m f.1 i f.2 l (sym (span-number f.0 f.1 f.2 (inr (k.0, inl f.3))) ∙ (ap (λ (x : ℕ). (s.value x).span) (sym f.4) ∙ e)) in
        let here : keeps p k.0 m i ≡ true = ap (λ (x : ℕ). keeps p k.0 x i) (sym at.0) ∙ (ap (keeps p k.0 f.0) (sym at.1) ∙ f.3) in
        inr (k.0, keeps_cpu p k.0 m i here, here)

    pub lowest_up : (m i : ℕ) → IsLowestFreeRow p.runs (rows p m) i → IsLowestFree s m (rows p m).shape i
    lowest_up m i f = record {
      inside = f.inside;
      free = λ t. f.free (taken_down m i f.inside t);
      lowest = λ j l. taken_up m j (let k = f.inside in omega arith) (f.lowest j l);
    }

    -- a free element's span overlaps no live value
    pub free_apart : (m i : ℕ) → i < element_count p m → (IsTakenRow p.runs (rows p m) i → ⊥) → (v : ℕ) → IsLive s v → IsApart (span_at p m i) (s.value v).span
    free_apart m i l free v (inl k) a x y =
        let f = h.found k.0 k.1.0 v k.1.1 in
        let there = linked_size k.0 f.0 f.1 in
        let at = one_at m k.0 i f.0 a l there x (subst (IsIn a) (ap (λ (z : ℕ). (s.value z).span) f.3 ∙ span-number k.0 f.0 there (inl f.1)) y) in
        free (inl (subst (λ (z : ℕ). IsLinked (rows p z) i) (sym at.0) (subst (IsLinked (rows p k.0)) (sym at.1) f.1)))
    free_apart m i l free v (inr (inl k)) a x y =
        let f = h.held k.0 v k.1 in
        let at = one_at m f.0 i f.1 a l f.2 x (subst (IsIn a) (ap (λ (z : ℕ). (s.value z).span) f.4 ∙ span-number f.0 f.1 f.2 (inr (k.0, inr f.3))) y) in
        free (held_taken k.0 m i l (ap (λ (z : ℕ). holds p k.0 z i) at.0 ∙ (ap (holds p k.0 f.0) at.1 ∙ f.3)))
    free_apart m i l free v (inr (inr f)) a x y =
        let few : m < 16 = (let there = sized_map p m i l in let maps = is.maps in omega arith) in
        element_apart s.shape so.fixed.shape m i v (rows p m).shape few (shape_is m i l) l f a x (subst (IsIn a) (so.fixed.spans v f) y)
