use Rattle.std.proofs.Common.{ℕ, ◌<◌, map}
use Rattle.bpf_shared.specs.declared.shapes.MapShape.{MapShape}
use Rattle.bpf_shared.specs.Shape.{IsMap}
use Rattle.bpf_pairs.specs.Pairs.{pair_of, pairs_in}
use Rattle.bpf_cpu.specs.Task.{waiting}
use Rattle.bpf_threads.specs.Threads.{IsRoomy}
use Rattle.bpf_threads.proofs.threads.are_roomy.Given as goal

abbrev pub invariant-loop-place : goal.invariant-loop-place
invariant-loop-place l = (m : ℕ) (h : MapShape) → m < l.place → IsMap l.maps m h → IsRoomy l.programs (map waiting l.jobs) l.cpus m h
    (pairs_in m (map pair_of l.pairs))
