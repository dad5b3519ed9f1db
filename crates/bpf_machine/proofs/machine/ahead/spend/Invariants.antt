use Rattle.std.proofs.Common.{◌≡◌, ◌<◌, ◌≤◌, ℕ}
use Rattle.bpf_machine.specs.Private.Headways.{headway_at, spent}
use Rattle.bpf_machine.proofs.machine.ahead.spend.Given as goal

abbrev pub invariant-loop-cpu : goal.invariant-loop-cpu
invariant-loop-cpu l = record {
  below : (c : ℕ) → c < l.cpu → headway_at l.headways c ≡ spent l.least (headway_at l.initial.headways c);
  above : (c : ℕ) → l.cpu ≤ c → headway_at l.headways c ≡ headway_at l.initial.headways c;
}
