use Rattle.std.proofs.Common.{◌≡◌, List, ℕ, map}
use Rattle.bpf_names.specs.Names.{names_of}
use Rattle.bpf_expand.specs.Parts.{AreFound, put_all}
use Rattle.bpf_expand.specs.Private.Traced.{AreTraced}
use Rattle.bpf_expand.proofs.calls.expand_all.Given as goal

abbrev pub invariant-loop-number : goal.invariant-loop-number
invariant-loop-number l = record {
  host : l.expander.host ≡ l.fn.expander.host;
  found : (led ends : List (List ℕ)) × AreFound l.expander.host (names_of l.names) (map (λ v. v.items) l.read) l.number led ends
      × (l.found.known ≡ put_all l.fn.found.known led) × (l.found.ends ≡ put_all l.fn.found.ends ends);
  traced : (first : ℕ) → AreTraced l.expander.host (names_of l.names) (map (λ v. v.items) l.read) first l.fn.found
      → AreTraced l.expander.host (names_of l.names) (map (λ v. v.items) l.read) first l.found;
}
