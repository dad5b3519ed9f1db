-- From an address in a value to the word that its bytes lie in.
use Rattle.std.proofs.Common.{◌≡◌, ℕ, ◌+◌, ◌-◌, ◌*◌, ◌/◌, ◌%◌, ◌<◌, ◌≤◌, length, ap, sym, subst, ◌∙◌, arith}
use Rattle.std.proofs.Math.Nat.{mul_assoc}
use Rattle.bpf_shared.specs.declared.events.Size.{Size}
use Rattle.bpf_shared.specs.declared.events.Size.TheVariants.{Byte, Half, Word, Double}
use Rattle.bpf_shared.specs.declared.shapes.MapShape.{MapShape}
use Rattle.bpf_shared.specs.Access.{bytes_in}
use Rattle.bpf_shared.specs.Shape.{IsShape, IsMapShape, IsIn, element_span, element_stride}
use Rattle.bpf_shared.proofs.Places.{reached}
use Rattle.hop_layout.specs.declared.about.About.{About}
use Rattle.hop_words.specs.declared.known.Known.{Known}
use Rattle.hop_layout.specs.Layout.{words_for}
use Rattle.hop_words.specs.Ghost.{shape_at}
use Rattle.hop_words.specs.Kinds.{TouchesHeldValue}
use Rattle.hop_layout.proofs.Maps.{map_is}
use Rattle.hop_map.specs.Private.Accesses.{IsValuePlace, IsHeldAt}

-- an access of this size has at least one byte
some_bytes : (z : Size) → 1 ≤ bytes_in z
some_bytes Byte = omega arith
some_bytes Half = omega arith
some_bytes Word = omega arith
some_bytes Double = omega arith

-- an aligned access lies in one word
in_word : (z : Size) (k off : ℕ) → (8 * k + off) % bytes_in z ≡ 0 → off % 8 + bytes_in z ≤ 8
in_word Byte k off e = omega arith
in_word Half k off e = omega arith
in_word Word k off e = omega arith
in_word Double k off e = omega arith

module _ (a : About) (s : IsShape a.shape) (p : ℕ) (z : Size) (v : IsValuePlace a p (bytes_in z)) where
  abbrev g : MapShape
  g = shape_at a v.map

  abbrev first : ℕ
  first = (element_span v.map g v.element).at

  abbrev off : ℕ
  off = p - first

  shaped : IsMapShape g
  shaped = s.each v.map g (map_is a.shape v.map v.inside.0)

  here : IsIn p (element_span v.map g v.element)
  here = let n = some_bytes z in let c = v.covers in let c0 = c.0 in let c1 = c.1 in (omega arith, omega arith)

  reach : ((p - 0x10_0000_0000) / 0x1000_0000 ≡ v.map)
      × ((p - 0x10_0000_0000) % 0x1000_0000 / element_stride g ≡ v.element)
      × ((p - 0x10_0000_0000) % 0x1000_0000 % element_stride g ≡ off)
  reach = reached v.map v.element p g shaped v.inside.1 here

  pub map_there : (p - 0x10_0000_0000) / 0x1000_0000 < length a.shape.maps
  map_there = subst (λ (n : ℕ). n < length a.shape.maps) (sym reach.0) v.inside.0

  abbrev words : ℕ
  words = 0x10_0000_0000 / 8 + 0x1000_0000 / 8 * v.map + v.element * words_for g.value

  by_words : p ≡ 8 * words + off
  by_words =
      let c = v.covers.0 in
      let t : v.element * element_stride g ≡ v.element * words_for g.value * 8 = sym (mul_assoc v.element (words_for g.value) 8) in
      omega arith

  fits : off % 8 + bytes_in z ≤ 8
  fits = in_word z words off (ap (λ (n : ℕ). n % bytes_in z) (sym by_words) ∙ v.aligned)

touched : (a : About) (s : IsShape a.shape) (p : ℕ) (z : Size) (l : Known) (h : IsHeldAt a l p (bytes_in z))
    → TouchesHeldValue a l h.place.map h.place.element (off a s p z h.place / 8) (off a s p z h.place % 8) (bytes_in z)
touched a s p z l h = record {
  element = h.place.inside;
  word = (let c = h.place.covers.1 in let d = h.place.covers.0 in let n = some_bytes z in omega arith);
  fits = fits a s p z h.place;
  within = (let c = h.place.covers.1 in let d = h.place.covers.0 in omega arith);
  held = h.held;
  runs = h.runs;
}

-- what the code computes of the address
pub touches : (a : About) (s : IsShape a.shape) (p : ℕ) (z : Size) (f : MapShape) (stride : ℕ) → f ≡ shape_at a
    ((p - 0x10_0000_0000) / 0x1000_0000) → stride ≡ element_stride f
    → (l : Known) → IsHeldAt a l p (bytes_in z)
    → TouchesHeldValue a l ((p - 0x10_0000_0000) / 0x1000_0000) ((p - 0x10_0000_0000) % 0x1000_0000 / stride)
    ((p - 0x10_0000_0000) % 0x1000_0000 % stride / 8) ((p - 0x10_0000_0000) % 0x1000_0000 % stride % 8) (bytes_in z)
touches a s p z f stride shape is l h =
    let v = h.place in
    let r = reach a s p z v in
    let same : stride ≡ element_stride (g a s p z v) = is ∙ ap element_stride (shape ∙ ap (shape_at a) r.0) in
    let n : ℕ = (p - 0x10_0000_0000) % 0x1000_0000 in
    let t = touched a s p z l h in
    subst (λ (m : ℕ). TouchesHeldValue a l m (n / stride) (n % stride / 8) (n % stride % 8) (bytes_in z)) (sym r.0)
    (subst (λ (e : ℕ). TouchesHeldValue a l v.map e (n % stride / 8) (n % stride % 8) (bytes_in z)) (sym (ap (λ (k : ℕ). n / k) same ∙ r.1))
    (subst (λ (o : ℕ). TouchesHeldValue a l v.map v.element (o / 8) (o % 8) (bytes_in z)) (sym (ap (λ (k : ℕ). n % k) same ∙ r.2)) t))
