use Rattle.std.proofs.Common.{◌≡◌, ◌+◌, ◌++◌, ◌≤◌, ℕ, List, length, map}
use Rattle.bpf_expand.specs.Parts.{AreShort, records_of}
use Rattle.bpf_expand.proofs.records.states_in.Given as goal

-- the states so far, what is left, and that each of them took a byte at least
abbrev pub invariant-loop-turn : goal.invariant-loop-turn
invariant-loop-turn l = record {
  so_far : l.bytes ≡ records_of (map (λ v. v.items) l.states.items) ++ l.rest;
  left : (states : List (List ℕ)) → AreShort states → l.bytes ≡ records_of states → (more : List (List ℕ)) × AreShort more × (l.rest ≡ records_of more);
  shorter : length l.rest + l._turn ≤ length l.bytes;
}
