use Rattle.std.proofs.Common.{◌≡◌, ℕ, ◌<◌, length, ap, sym, subst, arith}
use Rattle.bpf_shared.specs.Shape.{IsShape}
use Rattle.hop_layout.specs.declared.about.About.{About}
use Rattle.hop_layout.specs.Layout.{mem}
use Rattle.hop_words.specs.Private.Made.{IsFilled}
use Rattle.hop_words.proofs.FirstWords.{whole}
use Rattle.hop_words.proofs.making.put_arrays.Goals as goal

pub returns-clause-made : goal.returns-clause-made
returns-clause-made c =
    let a = c.args.index.now in
    let w = mem a.shape c.arrays.words.items in
    let shaped = subst (λ (x : About). IsShape x.shape) c.about.ensures c.arrays-shape-items.ensures.in_range in
    let n : c.arrays.array ≡ length a.shape.arrays =
    (let f = c.arrays-test.false in let g = c.arrays.auto.array-end in let z = ap length c.arrays-shape-items.ensures.arrays in
    let v = ap (λ (x : About). length x.shape.arrays) c.about.ensures in omega arith)
    in
    whole a w shaped (λ b l. c.arrays.invariant.2 b (subst (λ (k : ℕ). b < k) (sym n) l)) (subst (λ (k : ℕ). IsFilled a w k 0) n c.arrays.invariant.1)
