-- The bytes at a fixed place lie in one word of its array: for crates that make the steps on it.
use Rattle.std.proofs.Common.{◌≡◌, ℕ, ◌+◌, ◌-◌, ◌*◌, ◌/◌, ◌%◌, ◌<◌, ◌≤◌, true, false, length, ap, sym, subst, ◌∙◌, arith}
use Rattle.bpf_shared.specs.declared.events.Size.{Size}
use Rattle.bpf_shared.specs.declared.events.Size.TheVariants.{Byte, Half, Word, Double}
use Rattle.bpf_shared.specs.declared.shapes.ArrayShape.{ArrayShape}
use Rattle.bpf_shared.specs.Access.{bytes_in}
use Rattle.bpf_shared.specs.History.{events_of}
use Rattle.bpf_shared.specs.Own.{in_run}
use Rattle.bpf_shared.specs.Passage.{IsFixedPlace}
use Rattle.bpf_shared.specs.Shape.{IsShape, IsIn, IsWithin, fixed_span}
use Rattle.bpf_shared.proofs.Fixed.{IsReached, fixed_reached}
use Rattle.hop_layout.specs.declared.about.About.{About}
use Rattle.hop_layout.proofs.Maps.{array_of}
use Rattle.hop_words.specs.declared.known.Known.{Known}
use Rattle.hop_words.specs.Ghost.{array_at}
use Rattle.hop_words.specs.Kinds.{TouchesFixedValue, ChangesFixedValue, fixed_address}
use Rattle.hop_words.proofs.FixedWords.{some_bytes}

fits : (z : Size) (at : ℕ) → at % bytes_in z ≡ 0 → 0x10_0000_0000 ≤ at → (at - 0x10_0000_0000) % 0x1000_0000 % 8 + bytes_in z ≤ 8
fits Byte at e l = omega arith
fits Half at e l = omega arith
fits Word at e l = omega arith
fits Double at e l = omega arith

module _ (a : About) (shaped : IsShape a.shape) (z : Size) (at : ℕ) (p : IsFixedPlace a.shape at (bytes_in z)) where
  -- counted from the array's first value
  abbrev pub offset : ℕ
  offset = (at - 0x10_0000_0000) % 0x1000_0000

  inside : IsIn at (fixed_span p.number p.array p.copy p.index)
  inside = let c = p.covers in let s = some_bytes z in (c.0, (let l = c.1 in omega arith))

  reached : IsReached p.number p.copy p.index at p.array
  reached = fixed_reached a.shape.cpus p.number p.copy p.index at p.array shaped.cpus.1 (shaped.arrays p.number p.array p.is).0 p.has_copy p.has_index inside

  above : 0x10_0000_0000 ≤ at
  above = let i = inside.0 in omega arith

  -- the number of its array, as code counts it
  pub part_area : (at - 0x10_0000_0000) / 0x1000_0000 ≡ 16 + p.number
  part_area = reached.area

  pub part_array : (p.number < length a.shape.arrays) × (array_at a p.number ≡ p.array)
  part_array = array_of a.shape p.number p.array p.is

  pub part_fits : offset % 8 + bytes_in z ≤ 8
  part_fits = fits z at p.aligned above

  whole : 8 * (offset / 8) + offset % 8 ≡ offset
  whole = omega arith

  pub part_within : IsWithin a.shape.cpus (array_at a p.number) (8 * (offset / 8) + offset % 8) (bytes_in z)
  part_within =
      let w = reached.within in
      let l = p.covers.0 in
      let m = p.covers.1 in
      subst (λ (o : ℕ). IsWithin a.shape.cpus (array_at a p.number) o (bytes_in z)) (sym whole)
      (subst (λ (g : ArrayShape). IsWithin a.shape.cpus g offset (bytes_in z)) (sym part_array.1)
      (record { copy = p.copy; index = p.index; has_copy = p.has_copy; has_index = p.has_index; from = (omega arith); to = (omega arith) }))

  pub part_address : fixed_address p.number (offset / 8) (offset % 8) ≡ at
  part_address = let w = reached.within in let l = p.covers.0 in let h = whole in omega arith

  module _ (l : Known) (runs : in_run (events_of l.cpu l.seen) ≡ true) where
    pub part_touches : TouchesFixedValue a l p.number (offset / 8) (offset % 8) (bytes_in z)
    part_touches = record { array = part_array.0; within = part_within; fits = part_fits; runs = runs }

    pub part_changes : p.array.frozen ≡ false → ChangesFixedValue a l p.number (offset / 8) (offset % 8) (bytes_in z)
    part_changes free = record { touches = part_touches; writable = ap (λ (g : ArrayShape). g.frozen) part_array.1 ∙ free }
