use Rattle.std.proofs.Common.{◌≡◌, drop}
use Rattle.bpf_jobs.specs.Printed.{called_by, is_set_outside}
use Rattle.bpf_jobs.proofs.arrays.is_set_outside.Given as goal

abbrev pub invariant-loop-at : goal.invariant-loop-at
invariant-loop-at l = is_set_outside (called_by l.array) 0 l.bytes ≡ is_set_outside (called_by l.array) l.at (drop l.at l.bytes)
