use Rattle.std.proofs.Common.{◌≡◌, ◌++◌, map, take}
use Rattle.bpf_hash.specs.Private.Saved.{is_in_run}
use Rattle.bpf_hash.proofs.store.HashStore.push_runs.Given as goal

abbrev pub invariant-loop-run : goal.invariant-loop-run
invariant-loop-run l = l.out.items ≡ l.fn.out.items ++ map is_in_run (take l.run-index l.self.runs)
