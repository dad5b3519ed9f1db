use Rattle.std.proofs.Common.{◌≡◌, ℕ, ◌-◌, ◌/◌, ◌%◌, [], ◌∷◌, arith, sym, ap, ◌∙◌}
use Rattle.bpf_base.specs.Bytes.{low_bytes}
use Rattle.bpf_shared.specs.declared.shapes.ArrayShape.{ArrayShape}
use Rattle.bpf_shared.specs.Shape.{array_stride, copy_stride}
use Rattle.bpf_helpers.specs.Arrays.{array_start, offset_of}
use Rattle.bpf_plain.specs.PlainStore.{shape_of}
use Rattle.bpf_races.proofs.ArrayKeys.{sized}
use Rattle.bpf_races.proofs.next.index_at.Goals as goal

settle : (a : ℕ) → a - 0x10_0000_0000 - 0x1_0000_0000 ≡ a - array_start 0
settle a = omega arith

-- four bytes of a number, by dividing at once or step by step
four_low : (n : ℕ) → n % 256 ∷ n / 256 % 256 ∷ n / 65536 % 256 ∷ n / 16777216 % 256 ∷ [] ≡ low_bytes 4 n
four_low n =
    let two : n / 65536 ≡ n / 256 / 256 = omega arith in
    let three : n / 16777216 ≡ n / 256 / 256 / 256 = omega arith in
    ap (λ (x : ℕ). n % 256 ∷ n / 256 % 256 ∷ x % 256 ∷ n / 16777216 % 256 ∷ []) two
    ∙ ap (λ (x : ℕ). n % 256 ∷ n / 256 % 256 ∷ n / 256 / 256 % 256 ∷ x % 256 ∷ []) three

pub copy_stride-requires-clause-value : goal.copy_stride-requires-clause-value
copy_stride-requires-clause-value c = (sized (shape_of c.args.store.now) c.store_shape.result.now c.in-Some.array c.args.at
    c.arrays-arrays.ensures.in_range c.store_shape.ensures c.in-Some.ensures.found).0

pub copy_stride-requires-clause-max : goal.copy_stride-requires-clause-max
copy_stride-requires-clause-max c = (sized (shape_of c.args.store.now) c.store_shape.result.now c.in-Some.array c.args.at
    c.arrays-arrays.ensures.in_range c.store_shape.ensures c.in-Some.ensures.found).1

pub stride-requires : goal.stride-requires
stride-requires c = (sized (shape_of c.args.store.now) c.store_shape.result.now c.in-Some.array c.args.at c.arrays-arrays.ensures.in_range
    c.store_shape.ensures c.in-Some.ensures.found).0

pub returns-clause-some : goal.returns-clause-some
returns-clause-some c =
    let found = c.in-Some.ensures.found in
    let index : ArrayShape → ℕ = λ g. offset_of c.args.at % copy_stride g / array_stride g in
    let at = c.args.at in
    let here : (at - 0x10_0000_0000 - 0x1_0000_0000) % 0x1000_0000 ≡ offset_of at = ap (λ (n : ℕ). n % 0x1000_0000) (settle at) in
    let o = (at - 0x10_0000_0000 - 0x1_0000_0000) % 0x1000_0000 in
    let one : o % c.copy_stride.result / c.stride.result ≡ index c.in-Some.array =
    ap (λ (n : ℕ). n % c.copy_stride.result / c.stride.result) here
    ∙ (ap (λ (n : ℕ). offset_of at % n / c.stride.result) c.copy_stride.ensures ∙ ap
    (λ (n : ℕ). offset_of at % copy_stride c.in-Some.array / n) c.stride.ensures.stride) in
    let key : c.in_ok-copy_bytes.field-0.items ≡ low_bytes 4 (index c.in-Some.array) = c.in_ok-copy_bytes.ensures ∙
    (c.to_le_bytes.ensures ∙ (four_low (o % c.copy_stride.result / c.stride.result) ∙ ap (low_bytes 4) one)) in
    (found.0, key ∙ ap (λ (g : ArrayShape). low_bytes 4 (index g)) (sym found.1))
