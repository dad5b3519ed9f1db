use Rattle.std.proofs.Common.{◌≡◌, ℕ, ◌<◌, false, List, ◌++◌, ap, subst, ◌∙◌, sym, arith}
use Rattle.std.specs.Prelude.{slice_index_or, string_bytes}
use Rattle.bpf_shared.specs.declared.shapes.ArrayShape.{ArrayShape}
use Rattle.bpf_shared.specs.Shape.{IsArray}
use Rattle.bpf_jobs.specs.Printed.{called_by, value_lines}
use Rattle.bpf_jobs.proofs.ArrayLines.{found_shape, array_there, array_open, one_index_more}
use Rattle.bpf_workers.proofs.arrays.push_array.Goals as goal

abbrev blank : ArrayShape
blank = record { value = 0; max = 0; per_cpu = false; frozen = false }

pub loop-index-preserved : goal.loop-index-preserved
loop-index-preserved c = λ last known same g there.
    let h = c.args.left.shape.now in
    let array = called_by c.args.array in
    let a = array.number in
    let i = c.loop-index.index in
    let found = found_shape last h c.arrays.result.now a g blank same c.arrays.ensures.arrays there in
    let less : i < g.max = subst (λ (x : ArrayShape). i < x.max) found c.loop-index-test.true in
    one_index_more last array g (string_bytes c.args.text.now) (string_bytes c.loop-index.text) (string_bytes c.push_index.new.text) i
    (c.loop-index.invariant last known same g there)
    (c.in_ok-push_index.ensures last known same g there less)

pub returns : goal.returns
returns c = λ last known same.
    let h = c.args.left.shape.now in
    let array = called_by c.args.array in
    let a = array.number in
    let g = slice_index_or c.arrays.result.now a blank in
    let there : IsArray last.shape.arrays a g = array_there last h c.arrays.result.now a blank same c.arrays.ensures.arrays c.requires in
    let all : c.loop-index.index ≡ g.max = (let most = c.loop-index.auto.index-end in let past = c.loop-index-test.false in omega arith) in
    c.loop-index.invariant last known same g there
    ∙ (ap (λ (n : ℕ). string_bytes c.args.text.now ++ value_lines last array g n) all
    ∙ ap (λ (lines : List ℕ). string_bytes c.args.text.now ++ lines) (sym (array_open last array g c.if-shape.false there)))
