use Rattle.std.proofs.Common.{Vec, Global, ◌<◌, ◌≡◌, ◌∷◌, [], List, ℕ, length, map, sym, ap, subst, refl, ◌∙◌}
use Rattle.bpf_live.specs.Live.{Table}
use Rattle.bpf_alike.specs.Worlds.{AreLiveTables, table_at}
use Rattle.bpf_equal.specs.declared.peers.Peer.{Peer}
use Rattle.bpf_explore.specs.declared.turns.Arrival.{Arrival}
use Rattle.bpf_explore.specs.declared.turns.Edge.{Edge}
use Rattle.bpf_explore.specs.Album.{PatientState}
use Rattle.bpf_explore.specs.Private.Edges.{AreEdges, edges_of, turn_of}
use Rattle.bpf_explore.specs.Private.Peers.{FitPeers}
use Rattle.bpf_explore.proofs.EdgeLaws.{no_edges}
use Rattle.bpf_explore.proofs.patient.PatientExplorer.find_equal.Goals as goal

none_made : (edges : List Edge) → map turn_of edges ≡ [] → edges ≡ []
none_made [] none = refl
none_made (e ∷ edges) none = let no : turn_of e ∷ map turn_of edges ≡ [] = none in cc

pub invariant_of-self : goal.invariant_of-self
invariant_of-self c =
    let m = c.self.inside in
    let twins = c.new.result in
    let none = none_made (edges_of m.album.cpus m.arrivals.items) (ap (λ (a : PatientState). a.made) c.self.view_is ∙ c.requires.none) in (
      (
        c.self.invariant.0.0,
        subst (AreEdges twins.peers.items m.album.kept) (sym none) (no_edges twins.peers.items m.album.kept),
        c.self.invariant.0.2,
      ),
      c.self.invariant.1,
      record {
        fit = subst (λ (ps : Vec Peer Global). FitPeers m.album.stock m.album.kept ps.items) (sym c.new.ensures.peers) c.in_ok-peers.ensures;
        right = subst (λ (ts : Vec Table Global). AreLiveTables m.album.stock.programs (table_at ts.items)) (sym c.new.ensures.tables) c.in_ok-tables.ensures;
      },
    )
