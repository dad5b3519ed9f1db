-- Stores of one shape that stand for one plain store are saved as the same bytes.
use Rattle.std.proofs.Common.{◌≡◌, ◌∙◌, ℕ, zero, suc, ◌+◌, ◌<◌, ◌⊎◌, Bool, true, false, ◌||◌, if◌then◌else◌, List, [], ◌∷◌, ◌++◌, inl, inr}
use Rattle.std.proofs.Common.{length, map, refl, sym, ap, subst, arith}
use Rattle.std.proofs.lemmas.List.{ext_get_or, get_or-map, length-map}
use Rattle.bpf_shared.specs.declared.events.Span.{Span}
use Rattle.bpf_shared.specs.declared.shapes.MapShape.{MapShape}
use Rattle.bpf_shared.specs.Shape.{IsMapShape, IsIn, elements, element_span}
use Rattle.bpf_shared.specs.Store.{Plain, Value}
use Rattle.bpf_hash.specs.Private.Runs.{no_runs, run_of}
use Rattle.bpf_hash.specs.Private.Rows.{shape_of, key_of, bytes_of, IsLinked}
use Rattle.bpf_hash.specs.Private.Contents.{Contents, rows, element_count, span_at, shapes_of, holds, keeps, any_below, IsUsed, StandsFor, IsStore}
use Rattle.bpf_hash.specs.Private.Saved.{bit, all_below, note_of, notes_of, is_linked, marks_of, is_noted, content_of, block_of, map_block}
use Rattle.bpf_hash.specs.Private.Saved.{is_in_run, saved, IsSavedAs}
use Rattle.bpf_hash.proofs.Alike.{shapes_alike}
use Rattle.bpf_hash.proofs.AnyBelow.{any_below_same}
use Rattle.bpf_hash.proofs.Linking.{linked_inside}
use Rattle.bpf_hash.proofs.Places.{one_map, one_element, linked_map, sized_map}

all_below_same : (n : ℕ) (f g : ℕ → List ℕ) → ((i : ℕ) → i < n → f i ≡ g i) → all_below f n ≡ all_below g n
all_below_same zero f g same = refl
all_below_same (suc n) f g same =
    ap (λ (xs : List ℕ). xs ++ f n) (all_below_same n f g (λ i less. same i (omega arith))) ∙ ap (λ (xs : List ℕ). all_below g n ++ xs) (same n (omega arith))

true_both : (a b : Bool) → (a ≡ true → b ≡ true) → (b ≡ true → a ≡ true) → a ≡ b
true_both true b f g = sym (f refl)
true_both false true f g = g refl
true_both false false f g = refl

chosen_same : (a : Bool) (xs ys : List ℕ) → (a ≡ true → xs ≡ ys) → (if a then xs else []) ≡ (if a then ys else [])
chosen_same true xs ys same = same refl
chosen_same false xs ys same = refl

any_true : (n : ℕ) (f : ℕ → Bool) → any_below n f ≡ true → (i : ℕ) × (i < n) × (f i ≡ true)
any_true zero f is = cc
any_true (suc n) f is = here n f (any_true n f) (f n) refl is
  where
    here : (n : ℕ) (f : ℕ → Bool) → (any_below n f ≡ true → (i : ℕ) × (i < n) × (f i ≡ true)) → (b : Bool) → f n ≡ b → (b || any_below n f)
        ≡ true → (i : ℕ) × (i < suc n) × (f i ≡ true)
    here n f more true e h = (n, omega arith, e)
    here n f more false e h = let r = more h in let less = r.1 in (r.0, omega arith, r.2)

or_true : (a b : Bool) → (a || b) ≡ true → (a ≡ true) ⊎ (b ≡ true)
or_true true b e = inl refl
or_true false b e = inr e

module _ (p q : Contents) (s : Plain) (is : IsStore p) (too : IsStore q) (shapes : shapes_of q ≡ shapes_of p) (shown : StandsFor p s)
    (other : StandsFor q s) where
  shape : (m : ℕ) → (rows q m).shape ≡ (rows p m).shape
  shape = shapes_alike p q shapes

  map_shape : (m i : ℕ) → i < element_count p m → IsMapShape (rows p m).shape
  map_shape m i less = (is.tables m (sized_map p m i less)).0.shape

  -- a place has one span
  one_span : (m i n j : ℕ) → i < element_count p m → j < element_count q n → span_at p m i ≡ span_at q n j → (n ≡ m) × (j ≡ i)
  one_span m i n j less inside same =
      let g = (rows p m).shape in
      let h = (rows q n).shape in
      let sg = map_shape m i less in
      let sh : IsMapShape h = (too.tables n (sized_map q n j inside)).0.shape in
      let a : ℕ = (element_span m g i).at in
      let some = sg.value.0 in
      let here : IsIn a (element_span m g i) = (omega arith, omega arith) in
      let there : IsIn a (element_span n h j) = subst (λ (x : Span). IsIn a x) same here in
      let maps : m ≡ n = one_map m n i j g h a sg sh less inside here there in
      let back : IsIn a (element_span m g j) = subst (λ (x : MapShape). IsIn a (element_span m x j)) (shape m)
      (subst (λ (k : ℕ). IsIn a (element_span k (rows q k).shape j)) (sym maps) there) in
      (sym maps, sym (one_element m i j g a sg here back))

  abbrev value_of : Contents → ℕ → ℕ → Value
  value_of x m i = record { bytes = bytes_of (rows x m) i; span = span_at x m i }

  -- values of one number are one
  one_value : (m i n j : ℕ) → i < element_count p m → j < element_count q n → IsUsed p m i → IsUsed q n j → shown.number m i ≡ other.number
      n j → value_of p m i ≡ value_of q n j
  one_value m i n j less inside used again e =
      sym (shown.values m i less used) ∙ (ap s.value e ∙ other.values n j inside again)

  one_place : (m i n j : ℕ) → i < element_count p m → j < element_count q n → IsUsed p m i → IsUsed q n j → shown.number m i ≡ other.number
      n j → (n ≡ m) × (j ≡ i)
  one_place m i n j less inside used again e = one_span m i n j less inside (ap (λ (v : Value). v.span) (one_value m i n j less inside used again e))

  count_same : (m : ℕ) → element_count q m ≡ element_count p m
  count_same m = ap elements (shape m)

  -- ---- what is in a map, with its key and its value
  pub linked_there : (m i : ℕ) → IsLinked (rows p m) i → IsLinked (rows q m) i × (key_of (rows q m) i ≡ key_of (rows p m) i) ×
      (bytes_of (rows q m) i ≡ bytes_of (rows p m) i)
  linked_there m i linked =
      let f = other.found m (key_of (rows p m) i) (shown.number m i) (shown.leads m i linked) in
      let less = linked_inside_of p is m i linked in
      let inside : f.0 < element_count q m = linked_inside_of q too m f.0 f.1 in
      let one = one_value m i m f.0 less inside (inl linked) (inl f.1) f.3 in
      let place = one_span m i m f.0 less inside (ap (λ (v : Value). v.span) one) in
      let P : ℕ → Type 0 = λ k. IsLinked (rows q m) k × (key_of (rows q m) k ≡ key_of (rows p m) i) × (bytes_of (rows q m) k ≡ bytes_of (rows p m) i) in
      subst P place.1 (f.1, f.2, sym (ap (λ (v : Value). v.bytes) one))
    where
      linked_inside_of : (x : Contents) → IsStore x → (m i : ℕ) → IsLinked (rows x m) i → i < element_count x m
      linked_inside_of x sound m i linked = linked_inside (rows x m) (sound.tables m (linked_map x m i linked)).0 i linked

  -- ---- what CPUs hold and keep
  pub held_there : (c m i : ℕ) → i < element_count p m → holds p c m i ≡ true → (holds q c m i ≡ true) × (bytes_of (rows q m) i ≡ bytes_of (rows p m) i)
  held_there c m i less holds_it =
      let h = other.held c (shown.number m i) (shown.held_back c m i less holds_it) in
      let one = one_value m i h.0 h.1 less h.2 (inr (c, inr holds_it)) (inr (c, inr h.3)) h.4 in
      let place = one_span m i h.0 h.1 less h.2 (ap (λ (v : Value). v.span) one) in
      let P : ℕ → ℕ → Type 0 = λ n k. (holds q c n k ≡ true) × (bytes_of (rows q n) k ≡ bytes_of (rows p m) i) in
      subst (P m) place.1 (subst (λ (n : ℕ). P n h.1) place.0 (h.3, sym (ap (λ (v : Value). v.bytes) one)))

  pub kept_there : (c m i : ℕ) → i < element_count p m → keeps p c m i ≡ true → (keeps q c m i ≡ true) × (bytes_of (rows q m) i ≡ bytes_of (rows p m) i)
  kept_there c m i less keeps_it =
      let h = other.kept c (shown.number m i) (shown.kept_back c m i less keeps_it) in
      let one = one_value m i h.0 h.1 less h.2 (inr (c, inl keeps_it)) (inr (c, inl h.3)) h.4 in
      let place = one_span m i h.0 h.1 less h.2 (ap (λ (v : Value). v.span) one) in
      let P : ℕ → ℕ → Type 0 = λ n k. (keeps q c n k ≡ true) × (bytes_of (rows q n) k ≡ bytes_of (rows p m) i) in
      subst (P m) place.1 (subst (λ (n : ℕ). P n h.1) place.0 (h.3, sym (ap (λ (v : Value). v.bytes) one)))

-- ---- both ways
module _ (p q : Contents) (s : Plain) (is : IsStore p) (too : IsStore q) (shapes : shapes_of q ≡ shapes_of p) (shown : StandsFor p s)
    (other : StandsFor q s) where
  back : shapes_of p ≡ shapes_of q
  back = sym shapes

  counts : (m : ℕ) → element_count q m ≡ element_count p m
  counts m = ap elements (shapes_alike p q shapes m)

  cpus : length q.runs ≡ length p.runs
  cpus = sym other.cpus ∙ shown.cpus

  linked_same : (m i : ℕ) → is_linked (rows p m) i ≡ is_linked (rows q m) i
  linked_same m i =
      true_both (is_linked (rows p m) i) (is_linked (rows q m) i) (λ e. (linked_there p q s is too shapes shown other m i e).0)
      (λ e. (linked_there q p s too is back other shown m i e).0)

  holds_same : (c m i : ℕ) → i < element_count p m → holds p c m i ≡ holds q c m i
  holds_same c m i less =
      let inside : i < element_count q m = subst (λ (n : ℕ). i < n) (sym (counts m)) less in
      true_both (holds p c m i) (holds q c m i) (λ e. (held_there p q s is too shapes shown other c m i less e).0)
      (λ e. (held_there q p s too is back other shown c m i inside e).0)

  keeps_same : (c m i : ℕ) → i < element_count p m → keeps p c m i ≡ keeps q c m i
  keeps_same c m i less =
      let inside : i < element_count q m = subst (λ (n : ℕ). i < n) (sym (counts m)) less in
      true_both (keeps p c m i) (keeps q c m i) (λ e. (kept_there p q s is too shapes shown other c m i less e).0)
      (λ e. (kept_there q p s too is back other shown c m i inside e).0)

  abbrev noted : Contents → ℕ → ℕ → ℕ → Bool
  noted x m i c = holds x c m i || keeps x c m i

  noted_same : (m i : ℕ) → i < element_count p m → is_noted p.runs (rows p m) i ≡ is_noted q.runs (rows q m) i
  noted_same m i less =
      ap (λ (n : ℕ). any_below n (noted p m i)) (sym cpus)
      ∙ any_below_same (length q.runs) (noted q m i) (noted p m i)
      (λ c l. ap (λ (b : Bool). b || keeps p c m i) (holds_same c m i less) ∙ ap (λ (b : Bool). holds q c m i || b) (keeps_same c m i less))

  notes_same : (m i : ℕ) → i < element_count p m → notes_of p.runs (rows p m) i ≡ notes_of q.runs (rows q m) i
  notes_same m i less =
      let f : Contents → ℕ → List ℕ = λ x c. note_of (rows x m) i c (run_of x.runs c) ∷ [] in
      ap (λ (n : ℕ). all_below (f p) n) (sym cpus)
      ∙ all_below_same (length q.runs) (f p) (f q) (λ c l.
      ap (λ (b : Bool). (bit 1 b + bit 2 (keeps p c m i)) ∷ []) (holds_same c m i less) ∙ ap
      (λ (b : Bool). (bit 1 (holds q c m i) + bit 2 b) ∷ []) (keeps_same c m i less))

  bytes_same : (m i : ℕ) → i < element_count p m → (is_linked (rows p m) i || is_noted p.runs (rows p m) i) ≡ true → bytes_of (rows p m) i ≡
      bytes_of (rows q m) i
  bytes_same m i less used = elim (or_true (is_linked (rows p m) i) (is_noted p.runs (rows p m) i) used) [
    | inl linked ↦ sym (linked_there p q s is too shapes shown other m i linked).2
    | inr some ↦
        let c = any_true (length p.runs) (noted p m i) some in
        elim (or_true (holds p c.0 m i) (keeps p c.0 m i) c.2) [
          | inl held ↦ sym (held_there p q s is too shapes shown other c.0 m i less held).1
          | inr kept ↦ sym (kept_there p q s is too shapes shown other c.0 m i less kept).1
        ]
  ]

  content_same : (m i : ℕ) → i < element_count p m → content_of p.runs (rows p m) i ≡ content_of q.runs (rows q m) i
  content_same m i less =
      let keys = chosen_same (is_linked (rows p m) i) (key_of (rows p m) i) (key_of (rows q m) i)
      (λ e. sym (linked_there p q s is too shapes shown other m i e).1) in
      let bytes = chosen_same (is_linked (rows p m) i || is_noted p.runs (rows p m) i) (bytes_of (rows p m) i) (bytes_of (rows q m) i) (bytes_same m i less) in
      let first : Bool → List ℕ = λ b. if b then key_of (rows q m) i else [] in
      let second : Bool → List ℕ = λ b. if b then bytes_of (rows q m) i else [] in
      ap (λ (xs : List ℕ). xs ++ (if is_linked (rows p m) i || is_noted p.runs (rows p m) i then bytes_of (rows p m) i else [])) keys
      ∙ (ap (λ (xs : List ℕ). first (is_linked (rows p m) i) ++ xs) bytes
      ∙ (ap (λ (b : Bool). first b ++ second (is_linked (rows p m) i || is_noted p.runs (rows p m) i)) (linked_same m i)
      ∙ (ap (λ (b : Bool). first (is_linked (rows q m) i) ++ second (b || is_noted p.runs (rows p m) i)) (linked_same m i)
      ∙ ap (λ (b : Bool). first (is_linked (rows q m) i) ++ second (is_linked (rows q m) i || b)) (noted_same m i less))))

  block_same : (m i : ℕ) → i < element_count p m → block_of p.runs (rows p m) i ≡ block_of q.runs (rows q m) i
  block_same m i less =
      ap (λ (b : Bool). (bit 1 b ∷ notes_of p.runs (rows p m) i) ++ content_of p.runs (rows p m) i) (linked_same m i)
      ∙ (ap (λ (ns : List ℕ). (bit 1 (is_linked (rows q m) i) ∷ ns) ++ content_of p.runs (rows p m) i) (notes_same m i less)
      ∙ ap (λ (xs : List ℕ). marks_of q.runs (rows q m) i ++ xs) (content_same m i less))

  map_same : (m : ℕ) → map_block p m ≡ map_block q m
  map_same m =
      all_below_same (element_count p m) (block_of p.runs (rows p m)) (block_of q.runs (rows q m)) (λ i less. block_same m i less)
      ∙ ap (λ (n : ℕ). all_below (block_of q.runs (rows q m)) n) (sym (counts m))

  runs_same : map is_in_run p.runs ≡ map is_in_run q.runs
  runs_same = ext_get_or 0 (map is_in_run p.runs) (map is_in_run q.runs)
      (length-map p.runs is_in_run ∙ (sym cpus ∙ sym (length-map q.runs is_in_run))) (λ c less.
      let inside : c < length p.runs = subst (λ (n : ℕ). c < n) (length-map p.runs is_in_run) less in
      let there : c < length q.runs = omega (arith, cpus) in
      get_or-map is_in_run p.runs c no_runs 0 inside
      ∙ (ap (λ (b : Bool). bit 1 b) (sym (shown.running c) ∙ other.running c) ∙ sym (get_or-map is_in_run q.runs c no_runs 0 there)))

  tables : length q.tables ≡ length p.tables
  tables = sym (length-map q.tables shape_of) ∙ (ap (λ (hs : List MapShape). length hs) shapes ∙ length-map p.tables shape_of)

  saved_same : saved p ≡ saved q
  saved_same =
      ap (λ (xs : List ℕ). xs ++ all_below (map_block p) (length p.tables)) runs_same
      ∙ (ap (λ (n : ℕ). map is_in_run q.runs ++ all_below (map_block p) n) (sym tables)
      ∙ ap (λ (xs : List ℕ). map is_in_run q.runs ++ xs) (all_below_same (length q.tables) (map_block p) (map_block q) (λ m less. map_same m)))

pub one_saving : (p q : Contents) (s : Plain) (bytes others : List ℕ) → shapes_of q ≡ shapes_of p → StandsFor p s → StandsFor q s →
    IsSavedAs p bytes → IsSavedAs q others → bytes ≡ others
one_saving p q s bytes others shapes shown other first second = first.1 ∙ (saved_same p q s first.0 second.0 shapes shown other ∙ sym second.1)
