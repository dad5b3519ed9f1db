use Rattle.std.proofs.Common.{◌≡◌, ◌∙◌, ◌++◌, true, [], ◌∷◌, List, Vec, Global, length, sym, ap, subst, arith}
use Rattle.bpf_live.specs.Live.{Table}
use Rattle.bpf_alike.specs.Worlds.{AreLiveTables, table_at}
use Rattle.bpf_equal.specs.declared.peers.Peer.{Peer}
use Rattle.bpf_explore.specs.declared.explorer.Origin.{Origin}
use Rattle.bpf_explore.specs.declared.scouts.Scout.{Scout}
use Rattle.bpf_explore.specs.declared.turns.Arrival.{Arrival}
use Rattle.bpf_explore.specs.Private.Edges.{AreEdges, edges_of}
use Rattle.bpf_explore.specs.Private.Peers.{FitPeers}
use Rattle.bpf_explore.specs.Private.Trail.{no_origin}
use Rattle.bpf_explore.specs.Scouts.{AreScouts}
use Rattle.bpf_explore.proofs.EdgeLaws.{no_edges}
use Rattle.bpf_explore.proofs.PermutedLaws.{no_peers}
use Rattle.bpf_explore.proofs.ScoutLaws.{no_scouts}
use Rattle.bpf_explore.proofs.RefilledLaws.{first_whole}
use Rattle.bpf_explore.proofs.patient.PatientExplorer.new.Goals as goal

pub invariant_of-result : goal.invariant_of-result
invariant_of-result c =
    let album = c.in_ok-album.album in
    let one : length album.kept ≡ 1 = c.in_ok-album.ensures.one in
    let origins : c.push.new.self.items ≡ no_origin ∷ [] = c.in_ok-push.ensures.items ∙ ap (λ (os : List Origin). os ++ no_origin ∷ [])
    c.new-origins.ensures.items in
    let none : c.new-5.result.peers.items ≡ [] = ap (λ (v : Vec Peer Global). v.items) c.new-5.ensures.peers ∙ c.new-4.ensures.items in (
      (
        record {
          count = ap (λ (os : List Origin). length os) origins ∙ sym one;
          each = λ i some inside. absurd (omega arith);
        },
        subst (λ (xs : List Arrival). AreEdges c.new-5.result.peers.items album.kept (edges_of album.cpus xs)) (sym c.new-2.ensures.items)
            (no_edges c.new-5.result.peers.items album.kept),
        first_whole album.kept one,
      ),
      subst (λ (ss : List Scout). AreScouts true album.kept album.stock ss) (sym c.new-3.ensures) (no_scouts true album.kept album.stock),
      record {
        fit = subst (FitPeers album.stock album.kept) (sym none) (no_peers album.stock album.kept);
        right = subst (λ (ts : Vec Table Global). AreLiveTables album.stock.programs (table_at ts.items)) (sym c.new-5.ensures.tables)
            c.in_ok-tables.ensures;
      },
    )
