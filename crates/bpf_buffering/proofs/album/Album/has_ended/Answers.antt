use Rattle.std.proofs.Common.{◌≡◌, ℕ, List, sym, ap, subst, ◌∙◌}
use Rattle.bpf_machine.specs.Parts.{chosen}
use Rattle.bpf_machine.specs.Rounds.{HaveEnded}
use Rattle.bpf_buffering.specs.Album.{AlbumState, HaveEndedAt}
use Rattle.bpf_buffering.specs.Private.Kept.{Numbers}
use Rattle.bpf_buffering.proofs.AlbumLaws.{open_at}
use Rattle.bpf_buffering.proofs.album.Album.has_ended.Goals as goal

pub returns-clause-works : goal.returns-clause-works
returns-clause-works c is all =
    let m = c.self.inside in
    let k = c.at.result.now in
    let jobs : c.deref.result.now ≡ k.jobs = c.deref.ensures.value ∙ ap (λ (n : Numbers). n.jobs) c.behind-self.view_is in
    let every = open_at m.machine m.pools m.states c.args.place k c.at.ensures
    (subst (λ (a : AlbumState). HaveEndedAt a.kept c.args.place) (sym c.self.view_is) all) in
    c.have_ended.ensures.works is (subst (λ (ns : List ℕ). HaveEnded (chosen m.pools.jobs ns)) (sym jobs) every)
