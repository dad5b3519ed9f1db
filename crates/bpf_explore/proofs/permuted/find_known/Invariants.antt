use Rattle.std.proofs.Common.{◌≡◌}
use Rattle.bpf_explore.proofs.permuted.find_known.Given as goal

abbrev pub invariant-loop-step : goal.invariant-loop-step
invariant-loop-step l = record {
  peers : l.twins.peers ≡ l.fn.twins.peers;
  tables : l.twins.tables ≡ l.fn.twins.tables;
}
