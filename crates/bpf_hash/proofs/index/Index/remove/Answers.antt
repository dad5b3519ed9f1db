use Rattle.std.proofs.Common.{◌≡◌, ℕ, ◌+◌, ◌<◌, length, set, get_or, slice_index, sym, subst, ◌∙◌, arith}
use Rattle.std.proofs.lemmas.List.{get_or_read}
use Rattle.bpf_hash.specs.Private.Chains.{Links, IsChainedAt, IsLinks, GetsUnchained}
use Rattle.bpf_hash.proofs.Chaining.{head_goes, head_goes_links, link_goes, link_goes_links}
use Rattle.bpf_hash.proofs.index.Index.remove.Goals as goal

-- the element e of the home b goes
module _ (x seen : Links) (same : x ≡ seen) (is : IsLinks x) (b e : ℕ) (chained : IsChainedAt seen b e) where
  at : IsChainedAt x b e
  at = subst (λ (y : Links). IsChainedAt y b e) (sym same) chained

  inside : e < length x.nexts
  inside = is.inside b e at

  small : e + 1 < 0x1_0000_0000
  small = omega (arith, inside, is.fits)

  -- where n is the link after it
  module _ (n : ℕ) (behind : n ≡ get_or x.nexts e n) where
    next : n ≡ slice_index x.nexts e
    next = get_or_read x.nexts e n inside behind 0

    abbrev Goes : Links → Type 0
    Goes y = IsLinks y × GetsUnchained e seen y

    -- it is the first of its chain
    first_goes : (k : ℕ) → b < length seen.heads → k ≡ get_or x.heads b k → k ≡ e + 1 → Goes (record { heads = set x.heads b n; nexts = x.nexts })
    first_goes k home read is_first =
        let bi : b < length x.heads = subst (λ (y : Links). b < length y.heads) (sym same) home in
        let first : slice_index x.heads b ≡ e + 1 = sym (get_or_read x.heads b k bi read 0) ∙ is_first in
        subst (λ (l : ℕ). Goes (record { heads = set x.heads b l; nexts = x.nexts })) (sym next) (
          head_goes_links x is b e bi at first,
          subst (λ (y : Links). GetsUnchained e y
              (record { heads = set x.heads b (slice_index x.nexts e); nexts = x.nexts })) same (head_goes x is b e bi at first),
        )

    -- it is after another one, p
    later_goes : (p : ℕ) → IsChainedAt seen b p → slice_index seen.nexts p ≡ e + 1 → Goes (record { heads = x.heads; nexts = set x.nexts p n })
    later_goes p chained_before leads_on =
        let before : IsChainedAt x b p = subst (λ (y : Links). IsChainedAt y b p) (sym same) chained_before in
        let leads : slice_index x.nexts p ≡ e + 1 = subst (λ (y : Links). slice_index y.nexts p ≡ e + 1) (sym same) leads_on in
        subst (λ (l : ℕ). Goes (record { heads = x.heads; nexts = set x.nexts p l })) (sym next) (
          link_goes_links x is b p e at before leads,
          subst (λ (y : Links). GetsUnchained e y
              (record { heads = x.heads; nexts = set x.nexts p (slice_index x.nexts e) })) same (link_goes x is b p e at before leads),
        )

pub index-next-requires : goal.index-next-requires
index-next-requires c = omega (
  arith,
  inside _ c.args.self.now c.self.view_is c.self.invariant c.args.home c.args.element
      c.requires.element,
  c.self.inside.nexts.ok.0,
)

pub overflow_cast-element : goal.overflow_cast-element
overflow_cast-element c = omega (arith, small _ c.args.self.now c.self.view_is c.self.invariant c.args.home c.args.element c.requires.element)

pub overflow_add-element : goal.overflow_add-element
overflow_add-element c = omega (arith, small _ c.args.self.now c.self.view_is c.self.invariant c.args.home c.args.element c.requires.element)

pub invariant_of-self : goal.invariant_of-self
invariant_of-self c =
    (first_goes _ c.args.self.now c.self.view_is c.self.invariant c.args.home c.args.element c.requires.element c.index-next.result.now
    c.index-next.ensures c.index.result.now c.requires.home c.index.ensures c.if-index-element.true).0

pub returns-then-index-element : goal.returns-then-index-element
returns-then-index-element c =
    (first_goes _ c.args.self.now c.self.view_is c.self.invariant c.args.home c.args.element c.requires.element c.index-next.result.now
    c.index-next.ensures c.index.result.now c.requires.home c.index.ensures c.if-index-element.true).1

pub invariant_of-self-else-index-element : goal.invariant_of-self-else-index-element
invariant_of-self-else-index-element c =
    (later_goes _ c.args.self.now c.self.view_is c.self.invariant c.args.home c.args.element c.requires.element c.index-next.result.now
    c.index-next.ensures c.before-before.result c.before-before.ensures.at c.before-before.ensures.leads).0

pub returns-else-index-element : goal.returns-else-index-element
returns-else-index-element c =
    (later_goes _ c.args.self.now c.self.view_is c.self.invariant c.args.home c.args.element c.requires.element c.index-next.result.now
    c.index-next.ensures c.before-before.result c.before-before.ensures.at c.before-before.ensures.leads).1
