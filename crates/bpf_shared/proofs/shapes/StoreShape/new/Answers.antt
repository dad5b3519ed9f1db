use Rattle.std.proofs.Common.{◌≡◌, List, [], length, Some, None, slice_get, refl, sym, ap, ◌∙◌, rules, arith}
use Rattle.bpf_shared.specs.declared.shapes.ArrayShape.{ArrayShape}
use Rattle.bpf_shared.proofs.Refusing.{none_refused, all_passed}
use Rattle.bpf_shared.proofs.shapes.StoreShape.new.Goals as goal

pub returns-in-Some-clause-accepted : goal.returns-in-Some-clause-accepted
returns-in-Some-clause-accepted c = (
  λ e. absurd (cc),
  λ is. absurd (none_refused c.deref-map-items.result.now c.loop-number.number _ c.in-Some.refusal c.loop-number-test.true
      (rw c.deref-map-items.ensures.value is.each) c.in-Some.ensures),
)

pub invariant_of-result : goal.invariant_of-result
invariant_of-result c = record {
  cpus = (search rules, search rules);
  array_count = (let e = ap (λ (gs : List ArrayShape). length gs) c.new-arrays.ensures.items in omega arith);
  arrays = λ a g is. absurd (let none : None ≡ Some g = ap (λ (gs : List ArrayShape). slice_get gs a) (sym c.new-arrays.ensures.items) ∙ is in cc);
  count = search rules;
  each = all_passed c.args.maps.items c.deref-map-items.result.now c.loop-number.number c.deref-map-items.ensures.value
      c.loop-number-test.false c.loop-number.invariant;
}

pub returns-clause-accepted : goal.returns-clause-accepted
returns-clause-accepted c = (
  λ e. record {
    cpus = (search rules, search rules);
    array_count = (let e : length {A = ArrayShape} [] ≡ 0 = refl in omega arith);
    arrays =
        λ a g is. absurd (let none : None ≡ Some g = is in cc);
    count = search rules;
    each = all_passed c.args.maps.items
        c.deref-map-items.result.now c.loop-number.number c.deref-map-items.ensures.value c.loop-number-test.false c.loop-number.invariant;
  },
  λ is. refl,
)
