use Rattle.std.proofs.Common.{◌≤◌, ℕ, List, Some, None, length, refl, ap, rules}
use Rattle.std.specs.Prelude.{Vec}
use Rattle.std.specs.declared.alloc.Global.{Global}
use Rattle.bpf_shared.specs.Contents.{bytes_of_all}
use Rattle.bpf_shared.specs.Shape.{Shape}
use Rattle.bpf_shared.proofs.Refusing.{arrays_shape, arrays_refused, same_tests}
use Rattle.bpf_shared.proofs.shapes.StoreShape.with_arrays.Goals as goal

pub returns-in-Some-clause-accepted : goal.returns-in-Some-clause-accepted
returns-in-Some-clause-accepted c = (
  λ e. absurd (cc),
  λ is. absurd (arrays_refused (record {
    cpus = c.args.self.cpus;
    maps = c.args.self.maps;
    arrays = c.args.arrays.items;
    contents =
        bytes_of_all c.args.contents.items;
  }) c.in-Some.refusal is
      (same_tests (Some c.in-Some.refusal) c.self.inside.cpus c.args.self.cpus (bytes_of_all c.deref-2.result.now)
      (bytes_of_all c.args.contents.items) c.deref.result.now c.args.arrays.items
      (ap (λ (s : Shape). s.cpus) c.self.view_is) (ap (λ (vs : List (Vec ℕ Global)). bytes_of_all vs) c.deref-2.ensures.value)
      c.deref.ensures.value c.in-Some.ensures)),
)

pub invariant_of-result : goal.invariant_of-result
invariant_of-result c =
    let few : length c.args.arrays.items ≤ 16 = search rules in
    arrays_shape c.self.inside.cpus c.self.inside.maps.items c.args.arrays.items (bytes_of_all c.args.contents.items)
    (record {
      cpus = c.self.inside.cpus;
      maps = c.self.inside.maps.items;
      arrays = c.self.inside.arrays.items;
      contents = bytes_of_all
          c.self.inside.contents.items;
    }) refl refl c.self.invariant few
    (same_tests None c.self.inside.cpus c.self.inside.cpus (bytes_of_all c.deref-2.result.now) (bytes_of_all c.args.contents.items)
    c.deref.result.now c.args.arrays.items
    refl (ap (λ (vs : List (Vec ℕ Global)). bytes_of_all vs) c.deref-2.ensures.value) c.deref.ensures.value c.in_default.ensures)

pub returns-clause-accepted : goal.returns-clause-accepted
returns-clause-accepted c = (
  λ e. (
      let few : length c.args.arrays.items ≤ 16 = search rules in
      arrays_shape c.args.self.cpus c.args.self.maps c.args.arrays.items (bytes_of_all c.args.contents.items)
      (record {
        cpus = c.self.inside.cpus;
        maps = c.self.inside.maps.items;
        arrays = c.self.inside.arrays.items;
        contents = bytes_of_all
            c.self.inside.contents.items;
      })
      (ap (λ (s : Shape). s.cpus) c.self.view_is) (ap (λ (s : Shape). s.maps) c.self.view_is) c.self.invariant few
      (same_tests None c.self.inside.cpus c.args.self.cpus (bytes_of_all c.deref-2.result.now) (bytes_of_all c.args.contents.items)
      c.deref.result.now c.args.arrays.items
      (ap (λ (s : Shape). s.cpus) c.self.view_is) (ap (λ (vs : List (Vec ℕ Global)). bytes_of_all vs) c.deref-2.ensures.value)
      c.deref.ensures.value c.in_default.ensures)
      ),
  λ is. refl,
)
