use Rattle.std.proofs.Common.{◌≡◌, ℕ, ◌+◌, ◌<◌, length, set, slice_index, sym, subst}
use Rattle.std.proofs.lemmas.List.{get_or_read}
use Rattle.bpf_hash.specs.Private.Chains.{Links, IsChainedAt, IsLinks, GetsChained}
use Rattle.bpf_hash.proofs.Chaining.{comes, comes_links}
use Rattle.bpf_hash.proofs.index.Index.insert.Goals as goal

pub invariant_of-self : goal.invariant_of-self
invariant_of-self c =
    let x : Links = record { heads = c.self.inside.heads.items; nexts = c.self.inside.nexts.items } in
    let same : x ≡ c.args.self.now = c.self.view_is in
    let at = subst (λ (y : Links). c.args.home < length y.heads) (sym same) c.requires.home in
    let read : c.index.result.now ≡ slice_index x.heads c.args.home = get_or_read x.heads c.args.home c.index.result.now at c.index.ensures 0 in
    subst (λ (n : ℕ). IsLinks (record { heads = set x.heads c.args.home (c.args.element + 1); nexts = set x.nexts c.args.element n })) (sym read)
    (comes_links x c.self.invariant c.args.home c.args.element at
    (subst (λ (y : Links). c.args.element < length y.nexts) (sym same) c.requires.element)
    (subst (λ (y : Links). (b : ℕ) → IsChainedAt y b c.args.element → ⊥) (sym same) c.requires.new))

pub returns : goal.returns
returns c =
    let x : Links = record { heads = c.self.inside.heads.items; nexts = c.self.inside.nexts.items } in
    let same : x ≡ c.args.self.now = c.self.view_is in
    let at = subst (λ (y : Links). c.args.home < length y.heads) (sym same) c.requires.home in
    let inside = subst (λ (y : Links). c.args.element < length y.nexts) (sym same) c.requires.element in
    let new = subst (λ (y : Links). (b : ℕ) → IsChainedAt y b c.args.element → ⊥) (sym same) c.requires.new in
    let read : c.index.result.now ≡ slice_index x.heads c.args.home = get_or_read x.heads c.args.home c.index.result.now at c.index.ensures 0 in
    let links : ℕ → Links = λ n. record { heads = set x.heads c.args.home (c.args.element + 1); nexts = set x.nexts c.args.element n } in
    subst (λ (y : Links). GetsChained c.args.home c.args.element y (links c.index.result.now)) same
    (subst (λ (n : ℕ). GetsChained c.args.home c.args.element x (links n)) (sym read) (comes x c.self.invariant c.args.home c.args.element at inside new))
