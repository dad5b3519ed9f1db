use Rattle.std.proofs.Common.{map, take}
use Rattle.bpf_expand.specs.Parts.{AreParts}
use Rattle.bpf_expand.proofs.parts.into_parts.Given as goal

abbrev pub invariant-loop-state : goal.invariant-loop-state
invariant-loop-state l = AreParts l.count (map (λ v. v.items) (take l.state-index l.states)) (map (λ v. v.items) l.parts.items)
