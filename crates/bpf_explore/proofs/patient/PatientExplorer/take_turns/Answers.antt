use Rattle.std.proofs.Common.{◌≡◌, ◌∙◌, ◌++◌, ℕ, List, Vec, Global, length, map, sym, ap, subst}
use Rattle.bpf_equal.specs.declared.peers.Peer.{Peer}
use Rattle.bpf_explore.specs.declared.turns.Arrival.{Arrival}
use Rattle.bpf_explore.specs.declared.turns.Turns.{Turns}
use Rattle.bpf_explore.specs.Album.{PatientState}
use Rattle.bpf_explore.specs.Search.{rows_of}
use Rattle.bpf_explore.specs.Private.Edges.{AreEdges, AreTurns, edges_of, turn_of}
use Rattle.bpf_explore.proofs.EdgeLaws.{no_edges}
use Rattle.bpf_explore.proofs.RowLaws.{are_turns}
use Rattle.bpf_explore.proofs.patient.PatientExplorer.take_turns.Goals as goal

pub invariant_of-self : goal.invariant_of-self
invariant_of-self c =
    let m = c.self.inside in (
      (
        c.self.invariant.0.0,
        subst (λ (xs : List Arrival). AreEdges m.twins.peers.items m.album.kept (edges_of m.album.cpus xs))
            (sym (ap (λ (v : Vec Arrival Global). v.items) c.replace-arrivals.ensures.after ∙ c.new.ensures.items))
            (no_edges m.twins.peers.items m.album.kept),
        c.self.invariant.0.2,
      ),
      c.self.invariant.1,
      c.self.invariant.2,
    )

pub returns-clause-turns : goal.returns-clause-turns
returns-clause-turns c made =
    let m = c.self.inside in
    let kept = m.album.kept in
    let turns : Turns = record { cpus = c.cpus-cpus.result; peers = c.extend_from_slice.new.self; arrivals = c.replace-arrivals.result } in
    let width : turns.cpus ≡ m.album.cpus = c.cpus-cpus.ensures.cpus in
    let items : turns.arrivals.items ≡ m.arrivals.items = ap (λ (v : Vec Arrival Global). v.items) c.replace-arrivals.ensures.value in
    let edges : edges_of turns.cpus turns.arrivals.items ≡ edges_of m.album.cpus m.arrivals.items = ap
    (λ (n : ℕ). edges_of n turns.arrivals.items) width ∙ ap (edges_of m.album.cpus) items in
    let here = subst (λ (a : PatientState). a.made ≡ rows_of a.cpus (length a.kept)) (sym c.self.view_is) made in
    let there : map turn_of (edges_of turns.cpus turns.arrivals.items) ≡ rows_of turns.cpus (length kept) = ap (map turn_of) edges ∙
    (here ∙ ap (λ (n : ℕ). rows_of n (length kept)) (sym width)) in
    let peers : turns.peers.items ≡ m.twins.peers.items = c.in_ok-extend_from_slice.ensures.items ∙ ap (λ (ps : List Peer). ps ++ c.peers.result.now)
    c.new-peers.ensures.items ∙ c.peers.ensures in
    subst (λ (a : PatientState). AreTurns a.kept turns) c.self.view_is
    (are_turns kept turns (subst (λ (ps : List Peer). AreEdges ps kept (edges_of turns.cpus turns.arrivals.items)) (sym peers)
    (subst (AreEdges m.twins.peers.items kept) (sym edges) c.self.invariant.0.1)) there c.cpus-cpus.ensures.idle)
