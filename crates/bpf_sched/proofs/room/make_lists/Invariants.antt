use Rattle.std.proofs.Common.{◌≡◌, map, take}
use Rattle.bpf_sched.proofs.room.make_lists.Given as goal

abbrev pub invariant-loop-shape : goal.invariant-loop-shape
invariant-loop-shape l = map (λ list. list.shape) l.lists.items ≡ take l.shape-index l.maps
