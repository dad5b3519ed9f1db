use Rattle.std.proofs.Common.{◌≡◌, ℕ, List, slice_index, ap, ◌∙◌, arith}
use Rattle.bpf_hash.specs.Private.Chains.{Links}
use Rattle.bpf_hash.proofs.Making.{all_zero}
use Rattle.bpf_hash.proofs.Chaining.{nothing_linked, empty_links}
use Rattle.bpf_hash.proofs.index.Index.new.Goals as goal

pub invariant_of-result : goal.invariant_of-result
invariant_of-result c =
    let x : Links = record { heads = c.in_ok-vec.field-0.items; nexts = c.in_ok-vec-2.field-0.items } in
    let ends : (b : ℕ) → slice_index x.heads b ≡ 0 = λ b. ap (λ (l : List ℕ). slice_index l b)
    (c.in_ok-vec.ensures.items_if_clones_equal (λ y e. e)) ∙ all_zero c.args.homes b in
    empty_links x ends (omega (arith, c.requires, c.in_ok-vec-2.ensures.len, c.in_ok-vec-2.field-0.ok.0))

pub returns-clause-none : goal.returns-clause-none
returns-clause-none c =
    let x : Links = record { heads = c.in_ok-vec.field-0.items; nexts = c.in_ok-vec-2.field-0.items } in
    nothing_linked x (λ b. ap (λ (l : List ℕ). slice_index l b) (c.in_ok-vec.ensures.items_if_clones_equal (λ y e. e)) ∙ all_zero c.args.homes b)
