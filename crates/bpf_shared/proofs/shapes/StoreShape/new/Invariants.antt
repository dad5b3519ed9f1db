use Rattle.std.proofs.Common.{◌≡◌, drop}
use Rattle.bpf_shared.specs.First.{first_of}
use Rattle.bpf_shared.specs.Refusals.{maps_tests}
use Rattle.bpf_shared.proofs.shapes.StoreShape.new.Given as goal

-- no map so far was refused
abbrev pub invariant-loop-number : goal.invariant-loop-number
invariant-loop-number l = first_of (maps_tests 0 l.map-items) ≡ first_of (maps_tests l.number (drop l.number l.map-items))
