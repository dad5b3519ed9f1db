use Rattle.std.proofs.Common.{◌≡◌, List, ℕ, length, map, take}
use Rattle.bpf_expand.specs.Parts.{AreOrigins, ArePaired, LeadsTo}
use Rattle.bpf_expand.specs.State.{Host}
use Rattle.bpf_expand.proofs.origin.origin_parts.Given as goal

abbrev pub invariant-loop-number : goal.invariant-loop-number
invariant-loop-number l = record {
  count : length l.parts.items ≡ l.count;
  origins : (h : Host) (read : List (List ℕ)) → ArePaired (LeadsTo h read) l.origins (map (λ v. v.items) l.states)
      → AreOrigins h read l.count (map (λ v. v.items) (take l.number l.states)) (map (λ v. v.items) l.parts.items);
}
