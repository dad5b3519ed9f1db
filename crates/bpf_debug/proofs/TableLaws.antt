-- What is printed of one array, and of its indices.
use Rattle.std.proofs.Common.{◌≡◌, ◌∙◌, ◌+◌, ◌++◌, List, [], ℕ, suc, Option, Some, None, refl, ap, subst, arith}
use Rattle.bpf_shared.specs.declared.shapes.ArrayShape.{ArrayShape}
use Rattle.bpf_shared.specs.Store.{Plain}
use Rattle.bpf_jobs.specs.Printed.{Called, value_lines}
use Rattle.bpf_debug.specs.Read.{index_line, index_lines, values_text}

-- of no array's number nothing is
pub array_told : (s : Plain) (array : Called) (o : Option ArrayShape) (text : List ℕ) →
    ((g : ArrayShape) → o ≡ Some g → text ≡ value_lines s array g g.max) → (o ≡ None → text ≡ []) → text ≡ values_text s array o
array_told s array None text some none = none refl
array_told s array (Some g) text some none = some g refl

-- one index more
pub one_index_more : (text new : List ℕ) (i : ℕ) → text ≡ index_lines i → new ≡ text ++ index_line i → new ≡ index_lines (i + 1)
one_index_more text new i so_far more =
    let next : suc i ≡ i + 1 = omega arith in
    subst (λ (n : ℕ). new ≡ index_lines n) next (more ∙ ap (λ (t : List ℕ). t ++ index_line i) so_far)
