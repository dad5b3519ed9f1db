use Rattle.std.proofs.Common.{◌≡◌, map, take}
use Rattle.bpf_expand.specs.Parts.{put_all}
use Rattle.bpf_expand.proofs.states.States.put_all.Given as goal

abbrev pub invariant-loop-state : goal.invariant-loop-state
invariant-loop-state l = l.self ≡ put_all l.fn.self (map (λ v. v.items) (take l.state-index l.states))
