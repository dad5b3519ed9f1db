use Rattle.std.proofs.Common.{◌≡◌, ℕ, inl, inr, length, subst, ap, arith}
use Rattle.std.proofs.lemmas.Bool.{cases_lt, false≢true}
use Rattle.std.proofs.lemmas.Option.{slice_get_within}
use Rattle.bpf_shared.specs.declared.shapes.ArrayShape.{ArrayShape}
use Rattle.bpf_buffer_expand.specs.State.{IsOpenIn}
use Rattle.bpf_buffer_expand.proofs.Looking.{not_true}
use Rattle.bpf_buffer_expand.proofs.fits.is_open.Goals as goal

pub loop-number-preserved : goal.loop-number-preserved
loop-number-preserved c = λ k less is. elim (cases_lt k c.loop-number.number) [
  | inl before ↦ c.loop-number.invariant k before is
  | inr here ↦
      let same : k ≡ c.loop-number.number = omega (arith, here, less) in
      not_true c.is_open_in.result c.if-is_open_in.false
      (c.is_open_in.ensures.1 (subst (λ (i : ℕ). IsOpenIn c.args.shape.now c.args.at c.args.count i) same is))
]

pub returns : goal.returns
returns c = (
  λ no. absurd (false≢true no),
  λ is. absurd (
      let inside = slice_get_within c.args.shape.now.arrays is.0 is.1.0 is.1.1 in
      let many = ap (length {A = ArrayShape}) c.arrays-number-end.ensures.arrays in
      c.loop-number.invariant is.0 (omega (arith, inside, many, c.loop-number-test.false)) is.1),
)
