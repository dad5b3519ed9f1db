use Rattle.std.proofs.Common.{◌≡◌, ℕ, ◌-◌, ◌*◌, true, false, length, inl, inr, sym, ap, subst, ◌∙◌, arith}
use Rattle.bpf_base.specs.Bytes.{part}
use Rattle.bpf_hash.specs.Private.Chains.{IsChain, Links, IsLinks}
use Rattle.bpf_hash.proofs.Blocks.{block_fits}
use Rattle.bpf_hash.proofs.Chaining.{at_chain, chain_end, chain_most}
use Rattle.bpf_hash.proofs.Walking.{head_read, later, walk_cases, walk_at, walk_inside, walk_rest, walk_smaller}
use Rattle.bpf_hash.proofs.index.Index.find.Goals as goal

pub loop-link-init : goal.loop-link-init
loop-link-init c =
    let x = c.args.self.now in
    let b = c.args.home in
    let is : IsLinks x = subst IsLinks c.self.view_is c.self.invariant in
    let own = is.chain b in
    let read = head_read _ c.args.self.now c.self.view_is c.self.invariant c.args.home c.index-link.result.now c.requires.home c.index-link.ensures in (
      own.0,
      subst (λ (n : ℕ). IsChain x.nexts n own.0) (sym read) own.1,
      chain_most x is b own.0 own.1,
      λ i h. (own.0, own.1, h),
      λ i a k.
          at_chain x b i own.0 own.1 a,
    )

pub is_key_of-requires : goal.is_key_of-requires
is_key_of-requires c =
    let inside = walk_inside _ c.args.self.now c.self.view_is c.self.invariant c.args.home c.loop-link.link c.loop-link.invariant.0
    c.loop-link.invariant.1 c.loop-link.invariant.2 c.loop-link.invariant.3 c.loop-link-test.true in
    let same : length c.self.inside.nexts.items ≡ length c.args.self.now.nexts = ap (λ (y : Links). length y.nexts) c.self.view_is in
    omega (arith, block_fits (c.loop-link.link - 1) (length c.args.self.now.nexts) c.args.size (omega (arith, inside, same)), c.requires.keys)

pub returns-then-is_key_of-clause-found : goal.returns-then-is_key_of-clause-found
returns-then-is_key_of-clause-found c = (
  walk_at _ c.args.self.now c.self.view_is c.self.invariant c.args.home c.loop-link.link
      c.loop-link.invariant.0 c.loop-link.invariant.1 c.loop-link.invariant.2 c.loop-link.invariant.3 c.loop-link-test.true,
  c.is_key_of.ensures.0 c.if-is_key_of.true,
)

pub index-link-requires-in-loop-link : goal.index-link-requires-in-loop-link
index-link-requires-in-loop-link c = omega (
  arith,
  walk_inside _ c.args.self.now c.self.view_is c.self.invariant c.args.home
      c.loop-link.link c.loop-link.invariant.0 c.loop-link.invariant.1 c.loop-link.invariant.2 c.loop-link.invariant.3 c.loop-link-test.true,
  c.self.inside.nexts.ok.0,
)

pub loop-link-smaller : goal.loop-link-smaller
loop-link-smaller c = walk_smaller _ c.args.self.now c.self.view_is c.self.invariant c.args.home c.loop-link.link c.loop-link.invariant.0
    c.loop-link.invariant.1 c.loop-link.invariant.2 c.loop-link.invariant.3 c.loop-link-test.true c.index-link-in-loop-link.result.now
    c.index-link-in-loop-link.ensures

pub loop-link-preserved : goal.loop-link-preserved
loop-link-preserved c =
    let rest = walk_rest _ c.args.self.now c.self.view_is c.self.invariant c.args.home c.loop-link.link c.loop-link.invariant.0
    c.loop-link.invariant.1 c.loop-link.invariant.2 c.loop-link.invariant.3 c.loop-link-test.true
    c.index-link-in-loop-link.result.now c.index-link-in-loop-link.ensures in (
      later _ c.args.self.now c.self.view_is c.self.invariant c.args.home c.loop-link.link c.loop-link.invariant.0 c.loop-link.invariant.1
          c.loop-link.invariant.2 c.loop-link.invariant.3 c.loop-link-test.true,
      rest.0,
      rest.1,
      rest.2,
      λ i a k. elim (walk_cases _ c.args.self.now c.self.view_is c.self.invariant c.args.home c.loop-link.link c.loop-link.invariant.0 c.loop-link.invariant.1 c.loop-link.invariant.2 c.loop-link.invariant.3 c.loop-link-test.true i (c.loop-link.invariant.4 i a k)) [
        | inl s ↦ absurd (let f : false ≡ true = sym c.if-is_key_of.false ∙ c.is_key_of.ensures.1 (ap (λ (n : ℕ). part c.args.keys.now (n * c.args.size) c.args.size) (sym s) ∙ k) in
            cc)
        | inr h ↦ h
      ],
    )

pub returns-clause-absent : goal.returns-clause-absent
returns-clause-absent c i a k =
    let inv = c.loop-link.invariant in
    chain_end c.args.self.now.nexts c.loop-link.link inv.0 c.loop-link-test.false inv.1 i (inv.4 i a k)
