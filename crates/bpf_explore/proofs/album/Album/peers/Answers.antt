use Rattle.std.proofs.Common.{◌≡◌, ◌∙◌, List, sym, ap, subst, drop}
use Rattle.bpf_loader.specs.Loaded.{Loaded}
use Rattle.bpf_cpu.specs.Task.{Task}
use Rattle.bpf_machine.specs.Parts.{chosen}
use Rattle.bpf_equal.specs.Groups.{AreEquallyFresh, AreJobsOf, ArePeers}
use Rattle.bpf_explore.specs.Album.{AlbumState}
use Rattle.bpf_explore.specs.Tuples.{tuple_at}
use Rattle.bpf_explore.specs.Private.Peers.{FitPeers}
use Rattle.bpf_explore.proofs.AlbumLaws.{shelf_of, kept_jobs}
use Rattle.bpf_explore.proofs.album.Album.peers.Goals as goal

pub returns : goal.returns
returns c =
    let m = c.self.inside in
    let shelf = shelf_of m.machine.programs m.stores m.parts m.states.tuples in
    let peers = c.in_ok-peers.peers.items in
    let numbers : c.behind_first-first.result.now ≡ drop 1 (tuple_at m.states.tuples 0) = c.behind_first-first.ensures ∙ ap (drop 1)
    (sym c.tuple.ensures.tuple.1) in
    let jobs : chosen c.jobs.result.now c.behind_first-first.result.now ≡ chosen m.parts (drop 1 (tuple_at m.states.tuples 0)) = ap
    (λ (ts : List Task). chosen ts c.behind_first-first.result.now) c.jobs.ensures ∙ ap (chosen m.parts) numbers in
    subst (λ (a : AlbumState). FitPeers a.stock a.kept peers) c.self.view_is (record {
      are = subst (λ (ps : List Loaded). ArePeers m.shape ps peers) c.programs-programs.ensures c.in_ok-peers.ensures.peers;
      first = λ j one first at there.
          subst (λ (ts : List Task). AreJobsOf peers ts × AreEquallyFresh peers ts) (jobs ∙ sym (kept_jobs shelf 0 first there))
          (c.in_ok-peers.ensures.jobs j one at);
    })
