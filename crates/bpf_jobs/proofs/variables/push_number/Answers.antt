use Rattle.std.proofs.Common.{◌≡◌, ℕ, List, Some, None, sym, ◌∙◌}
use Rattle.std.specs.Prelude.{string_bytes}
use Rattle.std.proofs.lemmas.Bool.{ltb-true}
use Rattle.std.proofs.lemmas.Result.{on_ok_weaker}
use Rattle.bpf_shared.specs.Store.{fixed_number}
use Rattle.bpf_names.specs.Names.{variable_of}
use Rattle.bpf_jobs.proofs.ArrayLines.{array_found, first_value}
use Rattle.bpf_jobs.proofs.VariableLines.{no_line, number_line}
use Rattle.bpf_jobs.proofs.variables.push_number.Goals as goal

pub returns-then-array : goal.returns-then-array
returns-then-array c = λ s sound shown.
    let v = variable_of c.args.variable.now in
    let there = array_found s c.store_shape-shape.result.now c.arrays.result.now c.from.result v.array c.in-Some.array.now
    (shown.shape ∙ sym c.store_shape-shape.ensures)
    c.arrays.ensures.arrays c.from.ensures (ltb-true _ _ (sym c.in-Some.ensures.lookup.0)) c.in-Some.ensures.lookup.1 in
    no_line s v c.in-Some.array.now (string_bytes c.args.text.now) c.if-array.true there

pub returns-in-Some-fixed : goal.returns-in-Some-fixed
returns-in-Some-fixed c = on_ok_weaker c.push_variable.result (λ more s sound shown.
    let v = variable_of c.args.variable.now in
    let value = c.in-Some-fixed.value.now in
    let there = array_found s c.store_shape-shape.result.now c.arrays.result.now c.from.result v.array c.in-Some.array.now
    (shown.shape ∙ sym c.store_shape-shape.ensures)
    c.arrays.ensures.arrays c.from.ensures (ltb-true _ _ (sym c.in-Some.ensures.lookup.0)) c.in-Some.ensures.lookup.1 in
    let found = first_value s sound.fixed.shape c.from-2.result v.array c.in-Some.array.now c.from-2.ensures there (Some value)
    (c.in-Some-fixed.ensures s sound shown) in
    number_line s v c.in-Some.array.now value (string_bytes c.args.text.now) (string_bytes c.push_variable.new.text) c.if-array.false there found more)
    c.push_variable.ensures

pub returns-in-None : goal.returns-in-None
returns-in-None c = λ s sound shown.
    let v = variable_of c.args.variable.now in
    let there = array_found s c.store_shape-shape.result.now c.arrays.result.now c.from.result v.array c.in-Some.array.now
    (shown.shape ∙ sym c.store_shape-shape.ensures)
    c.arrays.ensures.arrays c.from.ensures (ltb-true _ _ (sym c.in-Some.ensures.lookup.0)) c.in-Some.ensures.lookup.1 in
    let found = first_value s sound.fixed.shape c.from-2.result v.array c.in-Some.array.now c.from-2.ensures there None (c.in-None.ensures s sound shown) in
    absurd (nothing (s.value (fixed_number v.array 0 0)).bytes found)
  where
    nothing : (bytes : List ℕ) → None ≡ Some bytes → ⊥
    nothing bytes e = cc
