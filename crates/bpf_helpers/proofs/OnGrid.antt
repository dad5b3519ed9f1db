-- Spans on the grid, and the addresses in them.
use Rattle.std.proofs.Common.{◌≡◌, ℕ, ◌+◌, ◌-◌, ◌*◌, ◌/◌, ◌%◌, ◌<◌, ◌≤◌, List, slice_index, sym, ap, ◌∙◌, arith}
use Rattle.std.proofs.lemmas.Nat.{div-add-mod', mod-mul-add}
use Rattle.bpf_shared.specs.declared.events.Span.{Span}
use Rattle.bpf_shared.specs.Shape.{IsIn}
use Rattle.bpf_helpers.specs.Private.Grid.{IsOffset, IsOnGrid, stride_of}

-- an address in a span is as far past its map's first value as the span, and so far in it
pub within : (sizes : List ℕ) (p : Span) (a : ℕ) (on : IsOnGrid sizes p) → IsIn a p → IsOffset a on.map (on.element * stride_of p.size + (a - p.at))
within sizes p a on inside =
    let from = inside.0 in
    let to = inside.1 in
    let place = on.start.at in
    let room = on.room in
    record { map = on.start.map; near = omega arith; at = omega arith }

pub one_offset : (a m n o r : ℕ) → IsOffset a m o → IsOffset a n r → (m ≡ n) × (o ≡ r)
one_offset a m n o r f g = (omega arith, omega arith)

pub element_is : (sizes : List ℕ) (p : Span) (a m o size stride past : ℕ) → IsOnGrid sizes p → IsIn a p → IsOffset a m o
    → size ≡ slice_index sizes m → stride ≡ stride_of size → past ≡ o % stride → record { at = a - past; size = size } ≡ p
element_is sizes p a m o size stride past on inside offset is long behind =
    let same = one_offset a m on.map o (on.element * stride_of p.size + (a - p.at)) offset (within sizes p a on inside) in
    let known : size ≡ p.size = is ∙ (ap (λ (k : ℕ). slice_index sizes k) same.0 ∙ on.size) in
    let wide : stride ≡ stride_of p.size = long ∙ ap stride_of known in
    let from = inside.0 in
    let to = inside.1 in
    let less : a - p.at < stride_of p.size = omega arith in
    let rest : past ≡ a - p.at =
    behind ∙ (ap (λ (k : ℕ). o % k) wide ∙ (ap (λ (k : ℕ). k % stride_of p.size) same.1 ∙ mod-mul-add on.element (stride_of p.size) (a - p.at) less)) in
    let start : a - past ≡ p.at = omega arith in
    ap (λ (x : ℕ). record { at = x; size = size }) start ∙ ap (λ (x : ℕ). record { at = p.at; size = x }) known

pub laid : (sizes : List ℕ) (p : Span) (m o : ℕ) → IsOffset p.at m o → slice_index sizes m ≡ p.size → 1 ≤ p.size → o % stride_of p.size ≡ 0
    → o + p.size ≤ 0x1000_0000 → IsOnGrid sizes p
laid sizes p m o offset known some whole room =
    let parts : o / stride_of p.size * stride_of p.size + o % stride_of p.size ≡ o = div-add-mod' o (stride_of p.size) in
    let e : o / stride_of p.size * stride_of p.size ≡ o = omega arith in
    let near = offset.near in
    let at = offset.at in
    record {
      map = m;
      element = o / stride_of p.size;
      start = record { map = offset.map; near = omega arith; at = omega arith };
      size = known;
      some = some;
      room = omega arith;
    }

pub whole : (sizes : List ℕ) (p : Span) (m o : ℕ) (on : IsOnGrid sizes p) → IsOffset p.at m o → (o % stride_of p.size ≡ 0) × (o + p.size ≤ 0x1000_0000)
whole sizes p m o on offset =
    let same = one_offset p.at m on.map o (on.element * stride_of p.size) offset on.start in
    let some = on.some in
    let room = on.room in
    let at : o ≡ on.element * stride_of p.size + 0 = let e = same.1 in omega arith in
    let wide : 0 < stride_of p.size = omega arith in
    (ap (λ (k : ℕ). k % stride_of p.size) at ∙ mod-mul-add on.element (stride_of p.size) 0 wide, let e = same.1 in omega arith)

-- what the tests of a span say
module _ (sizes : List ℕ) (p : Span) (m o size stride : ℕ) (offset : IsOffset p.at m o) (noted : size ≡ slice_index sizes m)
    (same : size ≡ p.size) (some : size ≡ 0 → ⊥) (long : stride ≡ stride_of size) where
  wide : stride ≡ stride_of p.size
  wide = long ∙ ap stride_of same

  pub passes : o % stride ≡ 0 → o + p.size ≤ 0x1000_0000 → IsOnGrid sizes p
  passes on room = laid sizes p m o offset (sym noted ∙ same) (omega arith) (ap (λ (k : ℕ). o % k) (sym wide) ∙ on) room

  pub passed : IsOnGrid sizes p → (o % stride ≡ 0) × (o + p.size ≤ 0x1000_0000)
  passed on = let is = whole sizes p m o on offset in (ap (λ (k : ℕ). o % k) wide ∙ is.0, is.1)
