use Rattle.hop_bench.specs.Trial.{IsNewPort}
use Rattle.hop_bench.proofs.growing.wait_for_key.Given as goal

abbrev pub invariant-looks : goal.invariant-looks
invariant-looks g l = IsNewPort l.fn.table l.port
