use Rattle.std.proofs.Common.{◌≡◌, List, [], ◌∷◌, ◌++◌, ap, subst, sym, ◌∙◌}
use Rattle.bpf_live.specs.Live.{Table}
use Rattle.bpf_alike.specs.Worlds.{AreLiveTables, table_at}
use Rattle.bpf_buffering.specs.Album.{AlbumState}
use Rattle.bpf_buffering.specs.Private.Kept.{Numbers, IsAlbum}
use Rattle.bpf_buffering.proofs.AlbumLaws.{for_err, states, states_still, album_still, one_more, album_more}
use Rattle.bpf_buffering.proofs.album.Album.keep_new.Goals as goal

pub invariant_of-self : goal.invariant_of-self
invariant_of-self c =
    let m = c.self.inside in
    (album_still m.machine m.pools c.number.new.self m.states m.store c.number.ensures.adds c.self.invariant.0, c.self.invariant.1)

pub returns-in_err-one-clause-err : goal.returns-in_err-one-clause-err
returns-in_err-one-clause-err c =
    let m = c.self.inside in
    for_err c.from_residual.result (states m.machine c.number.new.self m.states ≡ c.args.self.now.kept)
    (states_still m.machine m.machine.machine.store m.pools c.number.new.self m.states c.number.ensures.adds c.self.invariant.0.fits
    ∙ ap (λ (a : AlbumState). a.kept) c.self.view_is)

pub invariant_of-self-in_err-add : goal.invariant_of-self-in_err-add
invariant_of-self-in_err-add c =
    let m = c.self.inside in (
      subst (λ (ks : List Numbers). IsAlbum m.machine c.number.new.self ks m.store) (sym c.in_err-add.ensures.err)
          (album_still m.machine m.pools c.number.new.self m.states m.store c.number.ensures.adds c.self.invariant.0),
      subst (λ (ts : List Table). AreLiveTables m.machine.machine.programs (table_at ts)) (sym (c.add.ensures.same)) c.self.invariant.1,
    )

pub returns-in_err-add-clause-err : goal.returns-in_err-add-clause-err
returns-in_err-add-clause-err c =
    let m = c.self.inside in
    for_err c.from_residual-in_err-add.result (states m.machine c.number.new.self c.add.new.states ≡ c.args.self.now.kept)
    (ap (states m.machine c.number.new.self) c.in_err-add.ensures.err
    ∙ states_still m.machine m.machine.machine.store m.pools c.number.new.self m.states c.number.ensures.adds c.self.invariant.0.fits
    ∙ ap (λ (a : AlbumState). a.kept) c.self.view_is)

pub invariant_of-self-2 : goal.invariant_of-self-2
invariant_of-self-2 c =
    let m = c.self.inside in (
      subst (λ (ks : List Numbers). IsAlbum m.machine c.number.new.self ks m.store) (sym c.in_ok-add.ensures.adds)
          (album_more m.machine m.pools c.number.new.self m.states m.store c.in_ok-one.one c.number.ensures.adds c.self.invariant.0
          c.in_ok-one.ensures.pooled),
      subst (λ (ts : List Table). AreLiveTables m.machine.machine.programs (table_at ts)) (sym (c.add.ensures.same)) c.self.invariant.1,
    )

pub returns-clause-adds : goal.returns-clause-adds
returns-clause-adds c =
    let m = c.self.inside in
    ap (states m.machine c.number.new.self) c.in_ok-add.ensures.adds
    ∙ one_more m.machine m.pools c.number.new.self m.states m.store c.in_ok-one.one c.number.ensures.adds c.self.invariant.0 c.in_ok-one.ensures.pooled
    ∙ ap (λ (a : AlbumState). a.kept ++ a.machine ∷ []) c.self.view_is
