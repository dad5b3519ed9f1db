use Rattle.std.proofs.Common.{◌∙◌, Bool, refl, subst, arith}
use Rattle.bpf_reorderings.specs.Private.Searching.{IsExpanded}
use Rattle.bpf_reorderings.proofs.Growing.{none_expanded, next_expanded, closed}
use Rattle.bpf_reorderings.proofs.explorer.Explorer.explore.Goals as goal

pub loop-next-init : goal.loop-next-init
loop-next-init g c = (refl, none_expanded c.args.self.now.patient c.args.self.now.kept)

pub loop-next-preserved : goal.loop-next-preserved
loop-next-preserved g c = (
  c.expand.ensures.patient ∙ c.loop-next.invariant.0,
  next_expanded c.args.self.now.patient c.args.self.now.kept c.loop-next.self.kept c.expand.new.self.kept c.loop-next.next
      c.loop-next.invariant.1 (omega arith) c.expand.ensures.extends
      (subst (λ (b : Bool). IsExpanded b c.expand.new.self.kept c.loop-next.next) c.loop-next.invariant.0 c.in-Ok.ensures.expanded),
)

pub returns-clause-whole : goal.returns-clause-whole
returns-clause-whole g c all =
    closed c.args.self.now.patient c.args.self.now.kept c.loop-next.self.kept c.loop-next.next (omega arith) c.loop-next.invariant.1
