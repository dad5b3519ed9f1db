-- The oldest store that waits.
use Rattle.std.proofs.Common.{◌≡◌, suc, ◌<◌, Bool, true, false, List, [], ◌∷◌, length, refl, sym, ap, arith}
use Rattle.std.specs.Prelude.{remove, slice_index_or}
use Rattle.bpf_shared.specs.Shape.{Shape}
use Rattle.bpf_shared.specs.declared.events.Span.{Span}
use Rattle.bpf_buffering.specs.declared.waiting.Stored.{Stored}
use Rattle.bpf_buffering.specs.Waiting.{AreWritable}

pub oldest_first : (items : List Stored) (e : Stored) → 0 < length items → e ≡ slice_index_or items 0 e → items ≡ e ∷ remove items 0
oldest_first [] e some is = absurd (omega arith)
oldest_first (x ∷ xs) e some is = ap (λ (y : Stored). y ∷ xs) (sym is)

pub later_writable : (h : Shape) (held : Span → Bool) (items : List Stored) → AreWritable h held items → AreWritable h held (remove items 0)
later_writable h held [] all k d less = all k d less
later_writable h held (x ∷ xs) all k d less = all (suc k) d (omega arith)

-- who has a store that waits is in a run
pub in_a_run : (runs : Bool) (items : List Stored) → 0 < length items → (runs ≡ false → items ≡ []) → runs ≡ true
in_a_run true items some idle = refl
in_a_run false items some idle =
    let none : length items ≡ 0 = ap (length {A = Stored}) (idle refl) in absurd (omega (arith, none, some))
