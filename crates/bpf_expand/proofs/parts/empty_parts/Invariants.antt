use Rattle.std.proofs.Common.{◌≡◌, [], List, ℕ, map, replicate}
use Rattle.bpf_expand.proofs.parts.empty_parts.Given as goal

abbrev pub invariant-loop-part : goal.invariant-loop-part
invariant-loop-part l = map (λ v. v.items) l.parts.items ≡ replicate {A = List ℕ} l._part []
