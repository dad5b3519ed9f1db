use Rattle.std.proofs.Common.{◌≤◌, ◌∙◌, ap, subst, arith}
use Rattle.bpf_explore.specs.Search.{IsIdleAt}
use Rattle.bpf_explore.specs.Private.Album.{AlbumState}
use Rattle.bpf_explore.proofs.AlbumLaws.{shelf_of, idle_beyond}
use Rattle.bpf_explore.proofs.album.Album.cpus.Goals as goal

pub returns-clause-cpus : goal.returns-clause-cpus
returns-clause-cpus c = c.cpus.ensures.cpus ∙ ap (λ (a : AlbumState). a.cpus) c.self.view_is

pub returns-clause-idle : goal.returns-clause-idle
returns-clause-idle c i k above =
    let m = c.self.inside in
    let shelf = shelf_of m.machine.programs m.stores m.parts m.states.tuples in
    let count = c.cpus.ensures.cpus in
    let beyond : m.shape.cpus ≤ k = omega arith in
    subst (λ (a : AlbumState). IsIdleAt a.kept i k) c.self.view_is (idle_beyond m.shape shelf c.self.invariant.0 i k beyond)
