use Rattle.hop_bench.specs.Trial.{IsNewPort}
use Rattle.hop_bench.proofs.growing.put_all.Given as goal

abbrev pub invariant-runs : goal.invariant-runs
invariant-runs g l = IsNewPort l.fn.table l.port
