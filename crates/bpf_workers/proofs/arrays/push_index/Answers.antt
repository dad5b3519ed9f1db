use Rattle.std.proofs.Common.{◌≡◌, ℕ, ◌<◌, false, ◌++◌, ap, subst, ◌∙◌, arith}
use Rattle.std.specs.Prelude.{string_bytes}
use Rattle.bpf_shared.specs.declared.shapes.ArrayShape.{ArrayShape}
use Rattle.bpf_shared.specs.Shape.{copies}
use Rattle.bpf_shared.specs.Store.{fixed_number}
use Rattle.bpf_jobs.specs.Printed.{called_by, index_lines, value_line}
use Rattle.bpf_jobs.proofs.ArrayLines.{found_shape, found_copies, one_copy_more}
use Rattle.bpf_workers.proofs.arrays.push_index.Goals as goal

abbrev blank : ArrayShape
blank = record { value = 0; max = 0; per_cpu = false; frozen = false }

pub loop-copy-preserved : goal.loop-copy-preserved
loop-copy-preserved c = λ last known same g there inside.
    let h = c.args.left.shape.now in
    let array = called_by c.args.array in
    let a = array.number in
    let k = c.loop-copy.copy in
    let text = string_bytes c.loop-copy.text in
    let found = found_shape last h c.arrays.result.now a g blank same c.arrays.ensures.arrays there in
    let count = found_copies last h c.arrays.result.now a g blank same c.arrays.ensures.arrays there c.copies-copy-end.result c.cpus.result
    c.cpus.ensures.cpus c.copies-copy-end.ensures in
    let less : k < copies last.shape.cpus g = subst (λ (n : ℕ). k < n) count c.loop-copy-test.true in
    one_copy_more last array g (string_bytes c.args.text.now) text (string_bytes c.push_place.new.text) c.args.index k
    (c.loop-copy.invariant last known same g there inside)
    (c.in_ok-push_place.ensures last known g there less inside ∙ ap
    (λ (x : ArrayShape). text ++ value_line array x.per_cpu c.args.index k (last.value (fixed_number a k c.args.index)).bytes) found)

pub returns : goal.returns
returns c = λ last known same g there inside.
    let h = c.args.left.shape.now in
    let count = found_copies last h c.arrays.result.now c.args.array.number g blank same c.arrays.ensures.arrays there
    c.copies-copy-end.result c.cpus.result c.cpus.ensures.cpus c.copies-copy-end.ensures in
    let all : c.loop-copy.copy ≡ c.copies-copy-end.result = (let most = c.loop-copy.auto.copy-end in omega arith) in
    c.loop-copy.invariant last known same g there inside
    ∙ ap (λ (n : ℕ). string_bytes c.args.text.now ++ index_lines last (called_by c.args.array) g c.args.index n) (all ∙ count)
