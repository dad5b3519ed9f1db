use Rattle.std.proofs.Common.{◌≡◌, List, ℕ, map, take}
use Rattle.std.specs.Prelude.{All}
use Rattle.bpf_expand.specs.Parts.{LeadsTo, put_all}
use Rattle.bpf_expand.specs.Private.Traced.{AreLater, origin_of}
use Rattle.bpf_expand.specs.State.{Host}
use Rattle.bpf_expand.proofs.calls.put_found.Given as goal

abbrev pub invariant-loop-successor : goal.invariant-loop-successor
invariant-loop-successor l = record {
  known : l.known ≡ put_all l.fn.known (map (λ s. s.bytes.items) (take l.successor-index l.found));
  traced : (h : Host) (read : List (List ℕ)) (first : ℕ) → All (λ s. LeadsTo h read (origin_of l.number s) s.bytes.items) l.found
      → AreLater (LeadsTo h read) first l.fn.origins.items l.fn.known → AreLater (LeadsTo h read) first l.origins.items l.known;
}
