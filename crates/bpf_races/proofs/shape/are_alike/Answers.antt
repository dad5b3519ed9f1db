use Rattle.std.proofs.Common.{◌≡◌, ℕ, ◌<◌, [], length, get_or, inl, inr, refl, sym, ap, subst, ◌∙◌, arith}
use Rattle.std.specs.Prelude.{Vec}
use Rattle.std.specs.declared.alloc.Global.{Global}
use Rattle.std.proofs.lemmas.Bool.{cases_lt}
use Rattle.std.proofs.lemmas.List.{ext_get_or}
use Rattle.bpf_shared.specs.Contents.{bytes_of_all}
use Rattle.bpf_plain.proofs.Vectors.{bytes_at, count_all}
use Rattle.bpf_races.proofs.shape.are_alike.Goals as goal

pub loop-array-preserved : goal.loop-array-preserved
loop-array-preserved c = λ i less. elim (cases_lt i c.loop-array.array) [
  | inl below ↦ c.loop-array.invariant i below
  | inr past ↦
      let same : i ≡ c.loop-array.array = omega arith in
      let one = c.args.one.now in
      let two = c.args.two.now in
      let k = c.loop-array.array in
      let inside : k < length one = c.loop-array-test.true in
      let here : get_or (bytes_of_all one) k [] ≡ c.deref.result.now = bytes_at one k c.index-one-array.result inside ∙
      (ap (λ (v : Vec ℕ Global). v.items) (sym c.index-one-array.is) ∙ sym c.deref.ensures.value) in
      let there : get_or (bytes_of_all two) k [] ≡ c.deref-in-loop-array.result.now = bytes_at two k c.index-two-array.result
      (let count = c.if-one-two.false in omega arith) ∙ (ap (λ (v : Vec ℕ Global). v.items) (sym c.index-two-array.is) ∙ sym
      c.deref-in-loop-array.ensures.value) in
      let alike : c.deref.result.now ≡ c.deref-in-loop-array.result.now = c.if-not-are_bytes.ensures refl in
      subst (λ (n : ℕ). get_or (bytes_of_all one) n [] ≡ get_or (bytes_of_all two) n []) (sym same) (here ∙ (alike ∙ sym there))
]

pub returns : goal.returns
returns c = λ is.
    let count : length c.args.one.now ≡ length c.args.two.now = c.if-one-two.false in
    ext_get_or [] (bytes_of_all c.args.one.now) (bytes_of_all c.args.two.now)
    (count_all c.args.one.now ∙ (count ∙ sym (count_all c.args.two.now)))
    (λ i less. c.loop-array.invariant i (let n = count_all c.args.one.now in let end = c.loop-array-test.false in omega arith))
