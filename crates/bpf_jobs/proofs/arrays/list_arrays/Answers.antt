use Rattle.std.proofs.Common.{◌∙◌, ◌+◌, ℕ, List, [], String, Global, ap, length, map, sym}
use Rattle.std.specs.Prelude.{slice_index_or, string_bytes}
use Rattle.bpf_shared.specs.declared.shapes.MapShape.{MapShape}
use Rattle.bpf_shared.specs.Shape.{Shape}
use Rattle.bpf_names.specs.declared.names.Variable.{Variable}
use Rattle.bpf_names.specs.Names.{names_of, variable_of}
use Rattle.bpf_jobs.proofs.ArrayLines.{one_array_more}
use Rattle.bpf_jobs.proofs.arrays.list_arrays.Goals as goal

pub loop-number-preserved : goal.loop-number-preserved
loop-number-preserved c = λ s sound shown.
    let a = c.loop-number.number in
    let n = length c.maps-maps.result.now + a in
    let maps = ap (λ (ms : List MapShape). length ms) c.maps-maps.ensures.maps ∙ ap (λ (h : Shape). length h.maps) (c.store_shape.ensures ∙ sym shown.shape) in
    one_array_more s (names_of c.args.names.now) a n c.name_at.result.now (map variable_of c.deref-in-loop-number.result.now)
    (string_bytes c.loop-number.text) (string_bytes c.push_array.new.text)
    (c.name_at.ensures ∙ ap (λ (ns : List (String Global)). slice_index_or (map string_bytes ns) n []) c.deref.ensures.value)
    (ap (λ (vs : List Variable). map variable_of vs) c.deref-in-loop-number.ensures.value)
    (ap (λ (m : ℕ). m + a) maps) (c.loop-number.invariant s sound shown) (c.in_ok-push_array.ensures s sound shown)
