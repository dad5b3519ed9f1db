use Rattle.std.proofs.Common.{◌≡◌, map, take}
use Rattle.bpf_hash.specs.Private.Normal.{run_read}
use Rattle.bpf_hash.proofs.store.restoring.read_runs.Given as goal

abbrev pub invariant-loop-cpu : goal.invariant-loop-cpu
invariant-loop-cpu l = l.runs.items ≡ map run_read (take l.cpu l.bytes)
