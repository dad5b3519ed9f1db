-- Stores that look alike let the same CPUs reach the same values.
use Rattle.std.proofs.Common.{◌≡◌, ◌∙◌, ℕ, Bool, ◌&&◌, List, length, sym, ap}
use Rattle.std.proofs.lemmas.List.{length-map}
use Rattle.bpf_shared.specs.declared.events.Span.{Span}
use Rattle.bpf_shared.specs.declared.shapes.MapShape.{MapShape}
use Rattle.bpf_shared.specs.Shape.{elements, element_span}
use Rattle.bpf_shared.specs.Passage.{same_span}
use Rattle.bpf_hash.specs.Private.Rows.{shape_of}
use Rattle.bpf_hash.specs.Private.Contents.{Contents, rows, element_count, span_at, holds, held_spans, any_below}
use Rattle.bpf_hash.specs.Alike.{LookAlike}
use Rattle.bpf_hash.proofs.AnyBelow.{any_below_same}
use Rattle.bpf_hash.proofs.Alike.{shapes_alike}

module _ (p q : Contents) (alike : LookAlike p q) where
  shape : (m : ℕ) → (rows q m).shape ≡ (rows p m).shape
  shape = shapes_alike p q alike.maps

  count : length q.tables ≡ length p.tables
  count = sym (length-map q.tables shape_of) ∙ (ap (λ (hs : List MapShape). length hs) alike.maps ∙ length-map p.tables shape_of)

  span-same : (m i : ℕ) → span_at q m i ≡ span_at p m i
  span-same m i = ap (λ (h : MapShape). element_span m h i) (shape m)

  inner : (c : ℕ) (x : Span) (m : ℕ) → any_below (element_count q m) (λ i. holds q c m i && same_span x (span_at q m i)) ≡ any_below
      (element_count p m) (λ i. holds p c m i && same_span x (span_at p m i))
  inner c x m =
      ap (λ (n : ℕ). any_below n (λ i. holds q c m i && same_span x (span_at q m i))) (ap elements (shape m))
      ∙ any_below_same (element_count p m) (λ i. holds p c m i && same_span x (span_at p m i)) (λ i. holds q c m i && same_span x (span_at q m i))
      (λ i l. ap (λ (b : Bool). b && same_span x (span_at q m i)) (alike.holds c m i l) ∙ ap (λ (y : Span). holds p c m i && same_span x y) (span-same m i))

  pub held_alike : (c : ℕ) (x : Span) → held_spans q c x ≡ held_spans p c x
  held_alike c x =
      ap (λ (n : ℕ). any_below n (λ m. any_below (element_count q m) (λ i. holds q c m i && same_span x (span_at q m i)))) count
      ∙ any_below_same (length p.tables) (λ m. any_below (element_count p m) (λ i. holds p c m i && same_span x (span_at p m i)))
      (λ m. any_below (element_count q m) (λ i. holds q c m i && same_span x (span_at q m i))) (λ m l. inner c x m)
