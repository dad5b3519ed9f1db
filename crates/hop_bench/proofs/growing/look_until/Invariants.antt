use Rattle.hop_bench.specs.Trial.{IsNewPort}
use Rattle.hop_bench.proofs.growing.look_until.Given as goal

abbrev pub invariant-all : goal.invariant-all
invariant-all g l = IsNewPort l.fn.table l.port

abbrev pub invariant-looks : goal.invariant-looks
invariant-looks g l = IsNewPort l.fn.table l.port
