-- Where the bytes of a key or a value lie, and what can be said of calls on arrays by it.
use Rattle.std.proofs.Common.{◌≡◌, ℕ, ◌+◌, true, false, Some, None, List, inl, inr, sym, ap, ◌∙◌, slice_get, slice_index, arith}
use Rattle.std.specs.Prelude.{is_some}
use Rattle.bpf_mem.specs.declared.memory.PrivateMemory.{PrivateMemory}
use Rattle.bpf_mem.specs.Memory.{bytes_at}
use Rattle.bpf_shared.specs.declared.events.Span.{Span}
use Rattle.bpf_shared.specs.declared.shapes.ArrayShape.{ArrayShape}
use Rattle.bpf_shared.specs.declared.shapes.MapShape.{MapShape}
use Rattle.bpf_shared.specs.Shape.{Shape}
use Rattle.bpf_helpers.specs.Calls.{IsArrayAt, IsMapAt, map_value}
use Rattle.bpf_helpers.specs.Reads.{IsOddKey, IsReadable}
use Rattle.bpf_helpers.specs.declared.reading.Source.{Source}
use Rattle.bpf_helpers.specs.declared.reading.Source.TheVariants.{Private, Shared}
use Rattle.bpf_helpers.specs.Private.Source.{IsOdd, IsSource}

module _ (h : Shape) (m : PrivateMemory) (held : List Span) (a : ℕ) where
  pub odd_key : (s : Source) → IsSource h m held a 4 s → IsOdd s a → IsOddKey h m held a
  odd_key (Private place) is odd = absurd odd
  odd_key Shared is odd = (is.0, is.1, odd)

  pub even_key : (s : Source) → IsSource h m held a 4 s → (IsOdd s a → ⊥) → IsOddKey h m held a → ⊥
  even_key (Private place) is even odd =
      let no : is_some (bytes_at m a 4) ≡ false = ap is_some odd.0 in absurd (let yes : is_some (bytes_at m a 4) ≡ true = is.2 in cc)
  even_key Shared is even odd = even odd.2

  pub source_readable : (n : ℕ) (s : Source) → IsSource h m held a n s → IsReadable h m held a n
  source_readable n (Private place) is = inl is.2
  source_readable n Shared is = inr is.1

-- R1 has one number
module _ (registers : List ℕ) (map : ℕ) (at : slice_index registers 1 ≡ map_value map) where
  pub no_map : (maps : List MapShape) → slice_get maps map ≡ None → (m : ℕ) (h : MapShape) → IsMapAt maps registers m h → ⊥
  no_map maps none m h is =
      let first = is.0 in
      let same : m ≡ map = omega arith in
      let both : None ≡ Some h = sym none ∙ (ap (slice_get maps) (sym same) ∙ is.1) in
      cc

  pub no_array : (arrays : List ArrayShape) (i : ℕ) → map ≡ 16 + i → slice_get arrays i ≡ None → (a : ℕ) (g : ArrayShape) → IsArrayAt arrays registers a g → ⊥
  no_array arrays i e none a g is =
      let first = is.0 in
      let same : a ≡ i = omega arith in
      let both : None ≡ Some g = sym none ∙ (ap (slice_get arrays) (sym same) ∙ is.1) in
      cc
