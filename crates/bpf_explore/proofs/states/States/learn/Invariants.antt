use Rattle.std.proofs.Common.{◌≡◌, ◌≤◌, length}
use Rattle.bpf_explore.specs.Private.States.{HoldsStates}
use Rattle.bpf_explore.proofs.states.States.learn.Given as goal

-- nothing but hashes comes, each under the number of its job
abbrev pub invariant-loop-number : goal.invariant-loop-number
invariant-loop-number l = record {
  tuples : l.self-inside.tuples ≡ l.fn.self.tuples;
  tables : l.self-inside.tables.items ≡ l.fn.self.tables;
  holds : HoldsStates l.self-inside.tuples l.self-inside.hashes.items l.self-inside.slots.items;
  learned : l.number ≤ length l.self-inside.hashes.items;
}
