use Rattle.std.proofs.Common.{◌≡◌, drop}
use Rattle.bpf_shared.specs.Contents.{bytes_of_all}
use Rattle.bpf_shared.specs.First.{first_of}
use Rattle.bpf_shared.specs.Refusals.{each_array_tests}
use Rattle.bpf_shared.proofs.shapes.arrays_refusal.Given as goal

-- no array so far was refused
abbrev pub invariant-loop-number : goal.invariant-loop-number
invariant-loop-number l =
    first_of (each_array_tests l.cpus (bytes_of_all l.contents) 0 l.arrays) ≡ first_of
    (each_array_tests l.cpus (bytes_of_all l.contents) l.number (drop l.number l.arrays))
