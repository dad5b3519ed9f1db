use Rattle.std.proofs.Common.{◌≡◌, ℕ, ◌<◌, false, List, length, ◌++◌, ap, subst, ◌∙◌, sym, arith}
use Rattle.std.specs.Prelude.{slice_index_or, string_bytes}
use Rattle.bpf_shared.specs.declared.shapes.ArrayShape.{ArrayShape}
use Rattle.bpf_shared.specs.Shape.{Shape, IsArray}
use Rattle.bpf_jobs.specs.Printed.{called_by, value_lines}
use Rattle.bpf_jobs.proofs.ArrayLines.{found_shape, one_index_more}
use Rattle.bpf_jobs.proofs.arrays.push_values.Goals as goal

abbrev blank : ArrayShape
blank = record { value = 0; max = 0; per_cpu = false; frozen = false }

pub loop-index-preserved : goal.loop-index-preserved
loop-index-preserved c = λ s sound shown g there.
    let h = c.store_shape.result.now in
    let array = called_by c.args.array in
    let a = array.number in
    let i = c.loop-index.index in
    let same : s.shape ≡ h = shown.shape ∙ sym c.store_shape.ensures in
    let found = found_shape s h c.arrays.result.now a g blank same c.arrays.ensures.arrays there in
    let less : i < g.max = subst (λ (x : ArrayShape). i < x.max) found c.loop-index-test.true in
    one_index_more s array g (string_bytes c.args.text.now) (string_bytes c.loop-index.text) (string_bytes c.push_index.new.text) i
    (c.loop-index.invariant s sound shown g there)
    (c.in_ok-push_index.ensures s sound shown g there less)

pub returns : goal.returns
returns c = λ s sound shown g there.
    let h = c.store_shape.result.now in
    let array = called_by c.args.array in
    let same : s.shape ≡ h = shown.shape ∙ sym c.store_shape.ensures in
    let found = found_shape s h c.arrays.result.now array.number g blank same c.arrays.ensures.arrays there in
    let last : c.loop-index.index ≡ (slice_index_or c.arrays.result.now array.number blank).max =
    (let most = c.loop-index.auto.index-end in let past = c.loop-index-test.false in omega arith) in
    let all : c.loop-index.index ≡ g.max = last ∙ ap (λ (x : ArrayShape). x.max) found in
    c.loop-index.invariant s sound shown g there ∙ ap (λ (n : ℕ). string_bytes c.args.text.now ++ value_lines s array g n) all
