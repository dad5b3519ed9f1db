use Rattle.std.proofs.Common.{◌∙◌, ◌++◌, ℕ, List, ap, subst, sym}
use Rattle.std.specs.Prelude.{string_bytes}
use Rattle.std.proofs.lemmas.Bool.{ltb-true}
use Rattle.std.proofs.lemmas.Result.{on_ok_weaker}
use Rattle.bpf_shared.specs.Shape.{IsShape}
use Rattle.bpf_names.specs.Names.{variable_of}
use Rattle.bpf_jobs.proofs.ArrayLines.{array_found, has_first}
use Rattle.bpf_jobs.proofs.VariableLines.{no_line, variable_open}
use Rattle.bpf_workers.proofs.variables.push_number.Goals as goal

pub returns-then-array : goal.returns-then-array
returns-then-array c = λ last known same.
    let v = variable_of c.args.variable.now in
    let there = array_found last c.args.left.shape.now c.arrays.result.now c.from.result v.array c.in-Some.array.now same
    c.arrays.ensures.arrays c.from.ensures (ltb-true _ _ (sym c.in-Some.ensures.lookup.0)) c.in-Some.ensures.lookup.1 in
    no_line last v c.in-Some.array.now (string_bytes c.args.text.now) c.if-array.true there

pub returns : goal.returns
returns c = on_ok_weaker c.push_first.result (λ more last known same.
    let v = variable_of c.args.variable.now in
    let g = c.in-Some.array.now in
    let old = string_bytes c.args.text.now in
    let there = array_found last c.args.left.shape.now c.arrays.result.now c.from.result v.array g same
    c.arrays.ensures.arrays c.from.ensures (ltb-true _ _ (sym c.in-Some.ensures.lookup.0)) c.in-Some.ensures.lookup.1 in
    let has = has_first last (subst IsShape (sym same) c.arrays.ensures.in_range) v.array g there in
    more last known g there has.0 has.1 ∙ ap (λ (t : List ℕ). old ++ t) (sym (variable_open last v g c.if-array.false there)))
    c.push_first.ensures
