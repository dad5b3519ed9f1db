use Rattle.std.proofs.Common.{◌≡◌, ◌≢◌, ℕ, ◌+◌, ◌-◌, ◌<◌, ◌≤◌, List, length, get_or, slice_index, sym, subst, ◌∙◌, arith}
use Rattle.bpf_hash.specs.Private.Chains.{Has, IsChain, Links, IsChainedAt, IsLinks}
use Rattle.bpf_hash.proofs.Chaining.{first_step, chain_end, later_still}
use Rattle.bpf_hash.proofs.Walking.{head_read, element_inside, next_read, later, walk_cases, walk_at, walk_inside, walk_read, walk_rest, walk_smaller}
use Rattle.bpf_hash.proofs.index.Index.before.Goals as goal

-- the first element p of the home b, which isn't e, and what follows it
module _ (parts x : Links) (view : parts ≡ x) (ok : IsLinks parts) (b e : ℕ) (chained : IsChainedAt x b e) (home : b < length x.heads)
    (behind : slice_index x.heads b ≢ e + 1) (link : ℕ) (head : link ≡ get_or parts.heads b link) where
  is : IsLinks x
  is = subst IsLinks view ok

  small : e + 1 < 0x1_0000_0000
  small = omega (arith, is.inside b e chained, is.fits)

  read : link ≡ slice_index x.heads b
  read = head_read parts x view ok b link home head

  abbrev Follows : ℕ → Type 0
  Follows p = IsChainedAt x b p × ((rest : List ℕ) × IsChain x.nexts (slice_index x.nexts p) rest × (length rest ≤ length x.nexts) ×
      ((i : ℕ) → Has rest i → IsChainedAt x b i) × Has rest e)

  leads : link ≢ 0
  leads z = (first_step x is b e chained behind).0 (sym read ∙ z)

  first : Follows (link - 1)
  first = let step = first_step x is b e chained behind in subst (λ (n : ℕ). Follows (n - 1)) (sym read) (step.1, step.2)

  first_inside : link - 1 < length parts.nexts
  first_inside = element_inside parts x view ok b (link - 1) first.0

  first_read : (next : ℕ) → next ≡ get_or parts.nexts (link - 1) next → next ≡ slice_index x.nexts (link - 1)
  first_read next got = next_read parts x view ok b (link - 1) first.0 next got

-- a walk doesn't end before the element that is further on
goes_on : (nexts : List ℕ) (link : ℕ) (rest : List ℕ) → IsChain nexts link rest → (e : ℕ) → Has rest e → link ≢ 0
goes_on nexts link rest chain e has z = chain_end nexts link rest z chain e has

pub overflow_cast-link : goal.overflow_cast-link
overflow_cast-link c = omega (
  arith,
  small _ c.args.self.now c.self.view_is c.self.invariant c.args.home c.args.element c.requires.element
      c.requires.home c.requires.behind c.index.result.now c.index.ensures,
)

pub overflow_add-link : goal.overflow_add-link
overflow_add-link c = omega (
  arith,
  small _ c.args.self.now c.self.view_is c.self.invariant c.args.home c.args.element c.requires.element
      c.requires.home c.requires.behind c.index.result.now c.index.ensures,
)

pub overflow_sub-before : goal.overflow_sub-before
overflow_sub-before c = omega (
  arith,
  leads _ c.args.self.now c.self.view_is c.self.invariant c.args.home c.args.element c.requires.element
      c.requires.home c.requires.behind c.index.result.now c.index.ensures,
)

pub index-next-requires : goal.index-next-requires
index-next-requires c = omega (
  arith,
  first_inside _ c.args.self.now c.self.view_is c.self.invariant c.args.home c.args.element
      c.requires.element c.requires.home c.requires.behind c.index.result.now c.index.ensures,
  c.self.inside.nexts.ok.0,
)

pub loop-next-init : goal.loop-next-init
loop-next-init c =
    let first = first _ c.args.self.now c.self.view_is c.self.invariant c.args.home c.args.element c.requires.element c.requires.home
    c.requires.behind c.index.result.now c.index.ensures in
    let next = first_read _ c.args.self.now c.self.view_is c.self.invariant c.args.home c.args.element c.requires.element c.requires.home
    c.requires.behind c.index.result.now c.index.ensures c.index-next.result.now c.index-next.ensures in
    (first.1.0, subst (λ (n : ℕ). IsChain c.args.self.now.nexts n first.1.0) (sym next) first.1.1, first.1.2, first.1.3, first.1.4, first.0, next)

pub overflow_sub-before-in-loop-next : goal.overflow_sub-before-in-loop-next
overflow_sub-before-in-loop-next c = omega (
  arith,
  goes_on c.args.self.now.nexts c.loop-next.next c.loop-next.invariant.0
      c.loop-next.invariant.1 c.args.element c.loop-next.invariant.4,
)

pub index-next-requires-in-loop-next : goal.index-next-requires-in-loop-next
index-next-requires-in-loop-next c = omega (
  arith,
  walk_inside _ c.args.self.now c.self.view_is c.self.invariant c.args.home
      c.loop-next.next c.loop-next.invariant.0 c.loop-next.invariant.1 c.loop-next.invariant.2 c.loop-next.invariant.3
      (goes_on c.args.self.now.nexts c.loop-next.next c.loop-next.invariant.0 c.loop-next.invariant.1 c.args.element c.loop-next.invariant.4),
  c.self.inside.nexts.ok.0,
)

pub loop-next-smaller : goal.loop-next-smaller
loop-next-smaller c = walk_smaller _ c.args.self.now c.self.view_is c.self.invariant c.args.home c.loop-next.next c.loop-next.invariant.0
    c.loop-next.invariant.1 c.loop-next.invariant.2 c.loop-next.invariant.3
    (goes_on c.args.self.now.nexts c.loop-next.next c.loop-next.invariant.0 c.loop-next.invariant.1 c.args.element c.loop-next.invariant.4)
    c.index-next-in-loop-next.result.now c.index-next-in-loop-next.ensures

pub loop-next-preserved : goal.loop-next-preserved
loop-next-preserved c =
    let some = goes_on c.args.self.now.nexts c.loop-next.next c.loop-next.invariant.0 c.loop-next.invariant.1 c.args.element c.loop-next.invariant.4 in
    let rest = walk_rest _ c.args.self.now c.self.view_is c.self.invariant c.args.home c.loop-next.next c.loop-next.invariant.0
    c.loop-next.invariant.1 c.loop-next.invariant.2 c.loop-next.invariant.3 some c.index-next-in-loop-next.result.now
    c.index-next-in-loop-next.ensures in
    let further = walk_cases _ c.args.self.now c.self.view_is c.self.invariant c.args.home c.loop-next.next c.loop-next.invariant.0
    c.loop-next.invariant.1 c.loop-next.invariant.2 c.loop-next.invariant.3 some c.args.element c.loop-next.invariant.4 in (
      later _ c.args.self.now c.self.view_is c.self.invariant c.args.home c.loop-next.next c.loop-next.invariant.0 c.loop-next.invariant.1
          c.loop-next.invariant.2 c.loop-next.invariant.3 some,
      rest.0,
      rest.1,
      rest.2,
      later_still c.loop-next.next c.args.element _ some c.loop-next-test.true further,
      walk_at _ c.args.self.now c.self.view_is c.self.invariant c.args.home c.loop-next.next c.loop-next.invariant.0 c.loop-next.invariant.1
          c.loop-next.invariant.2 c.loop-next.invariant.3 some,
      walk_read _ c.args.self.now c.self.view_is c.self.invariant c.args.home c.loop-next.next c.loop-next.invariant.0
          c.loop-next.invariant.1 c.loop-next.invariant.2 c.loop-next.invariant.3 some c.index-next-in-loop-next.result.now
          c.index-next-in-loop-next.ensures,
    )
