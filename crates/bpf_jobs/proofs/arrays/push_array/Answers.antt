use Rattle.std.proofs.Common.{◌≡◌, ℕ, ◌<◌, false, List, length, ◌++◌, ap, subst, ◌∙◌, sym}
use Rattle.std.specs.Prelude.{slice_index_or, string_bytes}
use Rattle.std.proofs.lemmas.Result.{on_ok_weaker}
use Rattle.bpf_shared.specs.declared.shapes.ArrayShape.{ArrayShape}
use Rattle.bpf_shared.specs.Shape.{Shape, IsArray}
use Rattle.bpf_jobs.specs.Printed.{called_by}
use Rattle.bpf_jobs.proofs.ArrayLines.{array_there, array_open}
use Rattle.bpf_jobs.proofs.arrays.push_array.Goals as goal

abbrev blank : ArrayShape
blank = record { value = 0; max = 0; per_cpu = false; frozen = false }

pub returns : goal.returns
returns c = on_ok_weaker c.push_values.result (λ more s sound shown.
    let h = c.store_shape.result.now in
    let array = called_by c.args.array in
    let a = array.number in
    let g = slice_index_or c.arrays.result.now a blank in
    let same : s.shape ≡ h = shown.shape ∙ sym c.store_shape.ensures in
    let within : a < length h.arrays = subst (λ (x : Shape). a < length x.arrays) (sym c.store_shape.ensures) c.requires in
    let there : IsArray s.shape.arrays a g = array_there s h c.arrays.result.now a blank same c.arrays.ensures.arrays within in
    more s sound shown g there
    ∙ ap (λ (lines : List ℕ). string_bytes c.args.text.now ++ lines) (sym (array_open s array g c.if-arrays-array.false there)))
    c.push_values.ensures
