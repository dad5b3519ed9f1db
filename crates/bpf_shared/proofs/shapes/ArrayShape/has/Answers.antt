use Rattle.std.proofs.Common.{◌≡◌, ◌+◌, ◌/◌, ◌%◌, ◌<◌, ◌≤◌, ℕ, arith, subst, sym, ap, ◌∙◌}
use Rattle.std.proofs.lemmas.Bool.Decides.{nat_tests}
use Rattle.bpf_shared.specs.Shape.{array_stride, copies, copy_stride}
use Rattle.bpf_shared.proofs.Fixed.{within_tested, tested_within}
use Rattle.bpf_shared.proofs.shapes.ArrayShape.has.Goals as goal

pub returns-then-copy-copies : goal.returns-then-copy-copies
returns-then-copy-copies c = (
  λ e. absurd (cc),
  λ w. absurd (
      let t = (within_tested c.args.cpus c.args.self.now c.args.offset c.args.count c.requires.some w).copy in
      let same : c.args.offset / c.copy_stride-copy_stride.result ≡ c.args.offset / copy_stride c.args.self.now = ap
      (λ (x : ℕ). c.args.offset / x) c.copy_stride-copy_stride.ensures in
      let many = c.copies.ensures in
      let none = c.if-copy-copies.true in
      omega arith
      ),
)

pub returns-then-index-self : goal.returns-then-index-self
returns-then-index-self c = (
  λ e. absurd (cc),
  λ w. absurd (
      let t = (within_tested c.args.cpus c.args.self.now c.args.offset c.args.count c.requires.some w).index in
      let same : c.args.offset % c.copy_stride-copy_stride.result / c.stride-stride.result ≡ c.args.offset % copy_stride c.args.self.now /
      array_stride c.args.self.now = ap (λ (x : ℕ). c.args.offset % x / c.stride-stride.result) c.copy_stride-copy_stride.ensures ∙
      ap (λ (x : ℕ). c.args.offset % copy_stride c.args.self.now / x) c.stride-stride.ensures.stride in
      let none = c.if-index-self.true in
      omega arith
      ),
)

pub returns : goal.returns
returns c =
    let o = c.args.offset in
    let g = c.args.self.now in
    let block : o / c.copy_stride-copy_stride.result ≡ o / copy_stride g = ap (λ (x : ℕ). o / x) c.copy_stride-copy_stride.ensures in
    let row : o % c.copy_stride-copy_stride.result / c.stride-stride.result ≡ o % copy_stride g / array_stride g = ap
    (λ (x : ℕ). o % x / c.stride-stride.result) c.copy_stride-copy_stride.ensures ∙ ap (λ (x : ℕ). o % copy_stride g / x)
    c.stride-stride.ensures.stride in
    let rest : o % c.copy_stride-copy_stride.result % c.stride-stride.result ≡ o % copy_stride g % array_stride g = ap
    (λ (x : ℕ). o % x % c.stride-stride.result) c.copy_stride-copy_stride.ensures ∙ ap (λ (x : ℕ). o % copy_stride g % x)
    c.stride-stride.ensures.stride in (
      λ e. tested_within c.args.cpus g o c.args.count c.requires.some (record {
        copy = subst (λ (x : ℕ). x < copies c.args.cpus g) block
            (subst (λ (x : ℕ). o / c.copy_stride-copy_stride.result < x) c.copies.ensures c.if-copy-copies.false);
        index = subst (λ (x : ℕ). x < g.max) row c.if-index-self.false;
        rest = subst (λ (x : ℕ). x + c.args.count ≤ g.value) rest (grind (arith, nat_tests));
      }),
      λ w. (
          let t = (within_tested c.args.cpus g o c.args.count c.requires.some w).rest in
          let fits : o % c.copy_stride-copy_stride.result % c.stride-stride.result + c.args.count ≤ g.value = subst
          (λ (x : ℕ). x + c.args.count ≤ g.value) (sym rest) t in
          grind (arith, nat_tests)
          ),
    )
