use Rattle.std.proofs.Common.{◌≡◌}
use Rattle.bpf_equal.specs.Private.Twins.{AreSettled, IsOrder}
use Rattle.bpf_equal.proofs.twins.Twins.are_alike.Given as goal

abbrev pub invariant-loop-place : goal.invariant-loop-place
invariant-loop-place l = record {
  peers : l.self.peers ≡ l.fn.self.peers;
  tables : l.self.tables ≡ l.fn.self.tables;
  order : IsOrder l.fn.self.peers.items l.parts l.numbers l.self.order.items;
  settled : AreSettled l.fn.self.tables.items l.fn.self.peers.items l.parts l.self.order.items l.others l.place;
}
