-- Contents that look alike stand for the same plain stores.
use Rattle.std.proofs.Common.{◌≡◌, ◌∙◌, ℕ, zero, suc, ◌<◌, true, false, Bool, List, [], ◌∷◌, inl, inr, refl, sym, ap, subst}
use Rattle.std.specs.Prelude.{map, slice_index_or}
use Rattle.std.specs.List.{count_by}
use Rattle.bpf_shared.specs.declared.events.Span.{Span}
use Rattle.bpf_shared.specs.declared.shapes.MapShape.{MapShape}
use Rattle.bpf_shared.specs.Shape.{elements, element_span}
use Rattle.bpf_shared.specs.Store.{Plain, Value, Finds}
use Rattle.bpf_hash.specs.Private.Rows.{Rows, no_rows, shape_of, key_of, bytes_of, IsLinked}
use Rattle.bpf_hash.specs.Private.Contents.{Contents, rows, element_count, span_at, shapes_of, IsUsed, StandsFor}
use Rattle.bpf_hash.specs.Alike.{LookAlike, AlikeStandAlike}

-- the shape of a map
pub shape_or : (ts : List Rows) (m : ℕ) → slice_index_or (map shape_of ts) m no_rows.shape ≡ (slice_index_or ts m no_rows).shape
shape_or [] m = refl
shape_or (t ∷ ts) zero = refl
shape_or (t ∷ ts) (suc m) = shape_or ts m

pub shapes_alike : (p q : Contents) → shapes_of q ≡ shapes_of p → (m : ℕ) → (rows q m).shape ≡ (rows p m).shape
shapes_alike p q same m = sym (shape_or q.tables m) ∙ (ap (λ (hs : List MapShape). slice_index_or hs m no_rows.shape) same ∙ shape_or p.tables m)

module _ (p q : Contents) (s : Plain) (alike : LookAlike p q) (shown : StandsFor p s) where
  shape : (m : ℕ) → (rows q m).shape ≡ (rows p m).shape
  shape = shapes_alike p q alike.maps

  inside : (m i : ℕ) → i < element_count q m → i < element_count p m
  inside m i less = subst (λ (h : MapShape). i < elements h) (shape m) less

  linked : (m i : ℕ) → IsLinked (rows q m) i → IsLinked (rows p m) i
  linked m i is = subst (λ (bs : List Bool). slice_index_or bs i false ≡ true) (alike.linked m) is

  linked_back : (m i : ℕ) → IsLinked (rows p m) i → IsLinked (rows q m) i
  linked_back m i is = subst (λ (bs : List Bool). slice_index_or bs i false ≡ true) (sym (alike.linked m)) is

  used : (m i : ℕ) → i < element_count p m → IsUsed q m i → IsUsed p m i
  used m i less (inl is) = inl (linked m i is)
  used m i less (inr (c, inl kept)) = inr (c, inl (sym (alike.keeps c m i less) ∙ kept))
  used m i less (inr (c, inr held)) = inr (c, inr (sym (alike.holds c m i less) ∙ held))

  value : (m i : ℕ) → i < element_count q m → IsUsed q m i → s.value (shown.number m i) ≡ record { bytes = bytes_of (rows q m) i; span = span_at q m i }
  value m i less is =
      let here = inside m i less in
      let same = used m i here is in
      let bytes = alike.bytes m i here same in
      let span : span_at q m i ≡ span_at p m i = ap (λ (h : MapShape). element_span m h i) (shape m) in
      shown.values m i here same
      ∙ (ap (λ (bs : List ℕ). let x : Value = record { bytes = bs; span = span_at p m i } in x) (sym bytes)
      ∙ ap (λ (at : Span). let x : Value = record { bytes = bytes_of (rows q m) i; span = at } in x) (sym span))

  found : (m : ℕ) (key : List ℕ) (v : ℕ) → Finds s m key v → (i : ℕ) × IsLinked (rows q m) i × (key_of (rows q m) i ≡ key) × (v ≡ shown.number m i)
  found m key v finds = let f = shown.found m key v finds in (f.0, linked_back m f.0 f.1, alike.keys m f.0 f.1 ∙ f.2, f.3)

  stands : StandsFor q s
  stands = record {
    cpus = shown.cpus ∙ sym alike.cpus;
    maps = shown.maps ∙ sym alike.maps;
    running = λ c. shown.running c ∙ sym (alike.running c);
    number = shown.number;
    leads = λ m i is. let there = linked m i is in subst (λ (key : List ℕ). Finds s m key (shown.number m i)) (sym (alike.keys m i there))
        (shown.leads m i there);
    found = found;
    counts = λ m. shown.counts m ∙ ap (λ (bs : List Bool). count_by (λ b. b) bs) (sym (alike.linked m));
    values = value;
    held = λ c v is. (let h = shown.held c v is in (
      h.0,
      h.1,
      subst (λ (k : MapShape). h.1 < elements k) (sym (shape h.0)) h.2,
      alike.holds
          c h.0 h.1 h.2 ∙ h.3,
      h.4,
    ));
    held_back = λ c m i less is. (let here = inside m i less in shown.held_back c m i here (sym (alike.holds c m i here) ∙ is));
    kept = λ c v is. (let h = shown.kept c v is in (
      h.0,
      h.1,
      subst (λ (k : MapShape). h.1 < elements k) (sym (shape h.0)) h.2,
      alike.keeps
          c h.0 h.1 h.2 ∙ h.3,
      h.4,
    ));
    kept_back = λ c m i less is. (let here = inside m i less in shown.kept_back c m i here (sym (alike.keeps c m i here) ∙ is));
  }

pub alike_stand_alike : AlikeStandAlike
alike_stand_alike p q s alike shown = stands p q s alike shown
