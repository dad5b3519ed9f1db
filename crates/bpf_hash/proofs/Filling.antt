-- Elements are read one by one, and put into the chains of their homes.
use Rattle.std.proofs.Common.{◌≡◌, ◌≢◌, ◌∙◌, ℕ, suc, ◌+◌, ◌*◌, ◌<◌, ◌≤◌, true, false, Bool, List, [], ◌∷◌, ◌++◌, length, length-append}
use Rattle.std.proofs.Common.{take, drop, inl, inr, refl, sym, ap, subst, append_assoc, arith}
use Rattle.std.specs.Prelude.{slice_index_or}
use Rattle.std.specs.List.{count_by}
use Rattle.std.proofs.lemmas.Bool.{cases_lt}
use Rattle.std.proofs.lemmas.List.{take_more, take_all}
use Rattle.bpf_base.specs.Bytes.{part}
use Rattle.bpf_hash.specs.declared.runs.Runs.{Runs}
use Rattle.bpf_shared.specs.declared.shapes.MapShape.{MapShape}
use Rattle.bpf_shared.specs.Shape.{elements}
use Rattle.bpf_hash.specs.Private.Rows.{Rows, IsTable}
use Rattle.bpf_hash.specs.Private.Chains.{Links, IsChainedAt, GetsChained}
use Rattle.bpf_hash.specs.Private.Home.{home_of}
use Rattle.bpf_hash.specs.Private.Saved.{all_below, is_linked, block_of}
use Rattle.bpf_hash.specs.Private.Normal.{normal_key, normal_value, normal_held, normal_left, normal_rows, IsBlockAt, IsSavedRows, AreRead, IsFilled}
use Rattle.bpf_hash.specs.Private.Sized.{AreApart}
use Rattle.bpf_hash.proofs.Blocks.{below_or_same}
use Rattle.bpf_shared.proofs.Puts.{equal_or_not, true_or_false}
use Rattle.bpf_hash.specs.Private.Index.{IsIndexed}
use Rattle.bpf_hash.proofs.Linking.{linked_inside}
use Rattle.bpf_hash.proofs.Normal.{behind, normal_table}
use Rattle.bpf_hash.proofs.Reading.{drop_seam}

-- ---- the next element
module _ (shape : MapShape) (cpus : ℕ) (bytes : List ℕ) (runs : List Runs) (t : Rows) (more : List ℕ)
    (saved : IsSavedRows shape cpus bytes runs t more) (i at : ℕ) (inside : i < elements shape)
    (at_is : at ≡ length (all_below (block_of runs t) i)) where
  abbrev f : ℕ → List ℕ
  f = block_of runs t

  pub within : i < elements t.shape
  within = subst (λ (h : MapShape). i < elements h) (sym saved.shaped) inside

  abbrev tail : List ℕ
  tail = (behind f (elements t.shape) i within).0 ++ more

  whole : bytes ≡ all_below f i ++ (f i ++ tail)
  whole =
      let r = behind f (elements t.shape) i within in
      saved.begins
      ∙ (ap (λ (bs : List ℕ). bs ++ more) r.1
      ∙ (append_assoc (all_below f i) (f i ++ r.0) more ∙ ap (λ (bs : List ℕ). all_below f i ++ bs) (append_assoc (f i) r.0 more)))

  pub at_inside : at + length (f i) ≤ length bytes
  at_inside =
      let a = length-append (all_below f i) (f i ++ tail) in
      let b = length-append (f i) tail in
      let e = ap (λ (bs : List ℕ). length bs) whole in
      omega (arith, a, b, e, at_is)

  pub block_here : (rest : List ℕ) → rest ≡ drop at bytes → IsBlockAt shape cpus rest runs t i tail
  block_here rest e = record {
    table = saved.table;
    shaped = saved.shaped;
    noted = saved.noted;
    served = saved.served;
    inside = within;
    begins = e ∙ (ap (drop at) whole ∙ drop_seam (all_below f i) (f i ++ tail) at at_is);
  }

-- one more is read
pub none_read : (runs : List Runs) (t : Rows) → AreRead runs t 0 0 [] [] [] [] []
none_read runs t = record { at_is = refl; linked_is = refl; keys_are = refl; values_are = refl; held_is = refl; left_is = refl }

below_more : (f : ℕ → List ℕ) (i : ℕ) (old new : List ℕ) → old ≡ all_below f i → new ≡ old ++ f i → new ≡ all_below f (i + 1)
below_more f i old new a b = let e : suc i ≡ i + 1 = omega arith in b ∙ (ap (λ (bs : List ℕ). bs ++ f i) a ∙ ap (all_below f) e)

pub more_read : (runs : List Runs) (t : Rows) (i at n : ℕ) (linked linked' : List Bool)
    (keys keys' values values' held held' left left' : List ℕ) → IsTable t → i < elements t.shape → AreRead runs t i at linked keys values held left
    → (n ≡ length (block_of runs t i)) × (linked' ≡ linked ++ is_linked t i ∷ []) × (keys' ≡ keys ++ normal_key t i) ×
    (values' ≡ values ++ normal_value runs t i) × (held' ≡ held ++ normal_held runs t i) × (left' ≡ left ++ normal_left runs t i)
    → AreRead runs t (i + 1) (at + n) linked' keys' values' held' left'
more_read runs t i at n linked linked' keys keys' values values' held held' left left' is inside far (count, l, k, v, h, e) = record {
  at_is =
      (let sum = length-append (all_below (block_of runs t) i) (block_of runs t i) in
      let a = far.at_is in
      let more : suc i ≡ i + 1 = omega arith in
      let whole : at + n ≡ length (all_below (block_of runs t) i ++ block_of runs t i) = omega (arith, sum, a, count) in
      whole ∙ ap (λ (m : ℕ). length (all_below (block_of runs t) m)) more);
  linked_is = l ∙ (ap (λ (bs : List Bool). bs ++ is_linked t i ∷ []) far.linked_is ∙ sym (take_more t.linked i false (let size = is.linked in omega arith)));
  keys_are = below_more (normal_key t) i keys keys' far.keys_are k;
  values_are = below_more (normal_value runs t) i values values' far.values_are v;
  held_is = below_more (normal_held runs t) i held held' far.held_is h;
  left_is = below_more (normal_left runs t) i left left' far.left_is e;
}

-- ---- the index
module _ (homes size : ℕ) (linked : List Bool) (keys : List ℕ) where
  pub none_filled : (x : Links) → length x.heads ≡ homes → length x.nexts ≡ length linked → ((b i : ℕ) → IsChainedAt x b i → ⊥) → IsFilled
      homes size linked keys 0 x
  none_filled x heads nexts none = record { heads = heads; nexts = nexts; found = λ i l. absurd (omega arith); was = λ b i at. absurd (none b i at) }

  pub one_filled : (i : ℕ) (old new : Links) (here : Bool) (key : List ℕ) → here ≡ slice_index_or linked i false → key ≡ part keys
      (i * size) size → IsFilled homes size linked keys i old
      → (here ≡ true → GetsChained (home_of homes key) i old new) → (here ≡ false → new ≡ old) → IsFilled homes size linked keys (i + 1) new
  one_filled i old new here key here_is key_is far comes stays = elim (true_or_false here) [
    | inl is_here ↦
        let g = comes is_here in
        let home : home_of homes key ≡ home_of homes (part keys (i * size) size) = ap (home_of homes) key_is in record {
          heads = g.many.homes ∙ far.heads;
          nexts = g.many.elements ∙ far.nexts;
          found = λ j l is. elim (equal_or_not j i) [
            | inl e ↦ subst (λ (k : ℕ). IsChainedAt new (home_of homes (part keys (k * size) size)) k) (sym e)
                (subst (λ (b : ℕ). IsChainedAt new b i) home g.here)
            | inr ne ↦ g.still (home_of homes (part keys (j * size) size)) j
                (far.found j (elim (cases_lt j i) [ inl k ↦ k | inr past ↦ absurd (ne (omega arith)) ]) is)
          ];
          was = λ b j at. elim (g.was b j at) [
            | inl same ↦ (
              let e : j ≡ i = same.1 in omega arith,
              ap (λ (k : ℕ). slice_index_or linked k false) same.1 ∙
                  (sym here_is ∙ is_here),
              same.0 ∙ (home ∙ ap (λ (k : ℕ). home_of homes (part keys (k * size) size)) (sym same.1)),
            )
            | inr before ↦ (let w = far.was b j before in (let l = w.0 in omega arith, w.1, w.2))
          ];
        }
    | inr not_here ↦ subst (IsFilled homes size linked keys (i + 1)) (sym (stays not_here)) (record {
      heads = far.heads;
      nexts = far.nexts;
      found = λ j l is. elim (equal_or_not j i) [
        | inl e ↦ let never : false ≡ true = sym not_here ∙ (here_is ∙ (ap (λ (k : ℕ). slice_index_or linked k false) (sym e) ∙ is)) in cc
        | inr ne ↦ far.found j (elim (cases_lt j i) [ inl k ↦ k | inr past ↦ absurd (ne (omega arith)) ]) is
      ];
      was = λ b j at. (let w = far.was b j at in (let l = w.0 in omega arith, w.1, w.2));
    })
  ]

-- ---- keys that aren't there yet
module _ (homes size : ℕ) (linked : List Bool) (keys : List ℕ) (i : ℕ) (old : Links) (here : Bool) (key : List ℕ)
    (here_is : here ≡ slice_index_or linked i false) (key_is : key ≡ part keys (i * size) size) (far : IsFilled homes size linked keys i old) where
  pub one_apart : AreApart size linked keys i → (here ≡ true → (j : ℕ) → IsChainedAt old (home_of homes key) j → part keys (j * size) size ≢
      key) → AreApart size linked keys (i + 1)
  one_apart apart alone j k below low is too e = elim (equal_or_not j i) [
    | inl same ↦ elim (equal_or_not k i) [
      | inl also ↦ same ∙ sym also
      | inr ne ↦ absurd (clash k (below_or_same k i low ne) too (sym e ∙ (ap (λ (n : ℕ). part keys (n * size) size) same ∙ sym key_is))
          (subst (λ (n : ℕ). slice_index_or linked n false ≡ true) same is))
    ]
    | inr other ↦ elim (equal_or_not k i) [
      | inl also ↦ absurd (clash j (below_or_same j i below other) is (e ∙ (ap (λ (n : ℕ). part keys (n * size) size) also ∙ sym key_is))
          (subst (λ (n : ℕ). slice_index_or linked n false ≡ true) also too))
      | inr ne ↦ apart j k (below_or_same j i below other) (below_or_same k i low ne) is too e
    ]
  ]
    where
      clash : (n : ℕ) → n < i → slice_index_or linked n false ≡ true → part keys (n * size) size ≡ key → slice_index_or linked i false ≡ true → ⊥
      clash n l marked same linked_here = alone (here_is ∙ linked_here) n
          (subst (λ (b : ℕ). IsChainedAt old b n) (ap (home_of homes) same) (far.found n l marked)) same

  pub not_apart : i < length linked → (j : ℕ) (b : ℕ) → IsChainedAt old b j → part keys (j * size) size ≡ key → here ≡ true → AreApart size
      linked keys (length linked) → ⊥
  not_apart inside j b at same is apart =
      let w = far.was b j at in
      let less = w.0 in
      let e : j ≡ i = apart j i (omega arith) inside w.1 (sym here_is ∙ is) (same ∙ key_is) in
      absurd (omega arith)

-- keys of a table's elements are distinct
pub table_apart : (t : Rows) → IsTable t → AreApart t.shape.key t.linked t.keys (length t.linked)
table_apart t is i j l m a b e = is.distinct i j a b e

-- ---- all elements are read
module _ (shape : MapShape) (cpus : ℕ) (bytes : List ℕ) (runs : List Runs) (t : Rows) (more : List ℕ) (saved : IsSavedRows shape cpus bytes runs t more)
    (at : ℕ) (linked : List Bool) (keys values held left : List ℕ) (far : AreRead runs t (elements shape) at linked keys values held left) where
  abbrev pub read_rows : Rows
  read_rows = record { shape = shape; cpus = cpus; linked = linked; keys = keys; values = values; looked_up = held; left = left }

  pub rows_are : ◌≡◌ {A = Rows} read_rows (normal_rows runs t)
  rows_are =
      let sh : shape ≡ t.shape = sym saved.shaped in
      let cp : cpus ≡ t.cpus = sym saved.noted in
      let li : linked ≡ t.linked = far.linked_is ∙ (ap (λ (h : MapShape). take (elements h) t.linked) sh ∙ take_all (elements t.shape)
      t.linked (let size = saved.table.linked in omega arith)) in
      let ks : keys ≡ all_below (normal_key t) (elements t.shape) = far.keys_are ∙ ap (λ (h : MapShape). all_below (normal_key t) (elements h)) sh in
      let vs : values ≡ all_below (normal_value runs t) (elements t.shape) = far.values_are ∙ ap
      (λ (h : MapShape). all_below (normal_value runs t) (elements h)) sh in
      let hs : held ≡ all_below (normal_held runs t) (elements t.shape) = far.held_is ∙ ap (λ (h : MapShape). all_below (normal_held runs t) (elements h)) sh in
      let ls : left ≡ all_below (normal_left runs t) (elements t.shape) = far.left_is ∙ ap (λ (h : MapShape). all_below (normal_left runs t) (elements h)) sh in
      λ j. record { shape = sh j; cpus = cp j; linked = li j; keys = ks j; values = vs j; looked_up = hs j; left = ls j }

  pub rows_table : IsTable read_rows
  rows_table = subst IsTable (sym rows_are) (normal_table runs t saved.table (saved.served ∙ sym saved.noted) (λ i is. linked_inside t saved.table i is))

  -- so they are few enough, and their keys distinct
  pub index_there : (count_by (λ b. b) linked ≤ shape.max → AreApart shape.key linked keys (length linked) → ⊥) → ⊥
  index_there none = none rows_table.count (table_apart read_rows rows_table)

-- the index finds what is in the map
pub filled_indexed : (t : Rows) (x : Links) → IsTable t → IsFilled t.shape.max t.shape.key t.linked t.keys (length t.linked) x → IsIndexed t x
filled_indexed t x is far = record {
  homes = far.heads;
  elements = far.nexts ∙ is.linked;
  found = λ i linked. far.found i (let l = linked_inside t is i linked in let size = is.linked in omega arith) linked;
  linked = λ b i at. (let w = far.was b i at in (w.1, w.2));
}
