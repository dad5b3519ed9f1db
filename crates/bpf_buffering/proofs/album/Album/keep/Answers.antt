use Rattle.std.proofs.Common.{◌≡◌, List, [], ◌∷◌, ◌++◌, inl, inr, length, ap, subst, sym, ◌∙◌}
use Rattle.std.specs.Prelude.{slice_get}
use Rattle.std.proofs.lemmas.List.{length-map}
use Rattle.bpf_buffering.specs.Search.{BufferedState}
use Rattle.bpf_live.specs.Live.{Table}
use Rattle.bpf_alike.specs.Worlds.{AreLiveTables, table_at}
use Rattle.bpf_buffering.specs.Album.{AlbumState}
use Rattle.bpf_buffering.specs.Alike.{IsKeptAlikeAtX86}
use Rattle.bpf_buffering.specs.Private.Kept.{Numbers, IsAlbum, kept_state}
use Rattle.bpf_buffering.proofs.AlbumLaws.{for_err, states, states_still, album_still, one_more, album_more}
use Rattle.bpf_buffering.proofs.ClassLaws.{found_at, inside_states, kept_alike, kept_itself}
use Rattle.bpf_buffering.proofs.Pooling.{newest}
use Rattle.bpf_buffering.proofs.album.Album.keep.Goals as goal

pub invariant_of-self : goal.invariant_of-self
invariant_of-self c =
    let m = c.self.inside in
    (album_still m.machine m.pools c.number.new.self m.states m.store c.number.ensures.adds c.self.invariant.0, c.self.invariant.1)

pub returns-in_err-one-clause-err : goal.returns-in_err-one-clause-err
returns-in_err-one-clause-err c =
    let m = c.self.inside in
    for_err c.from_residual.result (states m.machine c.number.new.self m.states ≡ c.args.self.now.kept)
    (states_still m.machine m.machine.machine.store m.pools c.number.new.self m.states c.number.ensures.adds c.self.invariant.0.fits
    ∙ ap (λ (a : AlbumState). a.kept) c.self.view_is)

pub invariant_of-self-in_err-add : goal.invariant_of-self-in_err-add
invariant_of-self-in_err-add c =
    let m = c.self.inside in (
      subst (λ (ks : List Numbers). IsAlbum m.machine c.number.new.self ks m.store) (sym c.in_err-add.ensures.err)
          (album_still m.machine m.pools c.number.new.self m.states m.store c.number.ensures.adds c.self.invariant.0),
      subst (λ (ts : List Table). AreLiveTables m.machine.machine.programs (table_at ts)) (sym (c.add.ensures.same ∙ c.find.ensures.same)) c.self.invariant.1,
    )

pub returns-in_err-add-clause-err : goal.returns-in_err-add-clause-err
returns-in_err-add-clause-err c =
    let m = c.self.inside in
    for_err c.from_residual-in_err-add.result (states m.machine c.number.new.self c.add.new.states ≡ c.args.self.now.kept)
    (ap (states m.machine c.number.new.self) c.in_err-add.ensures.err
    ∙ states_still m.machine m.machine.machine.store m.pools c.number.new.self m.states c.number.ensures.adds c.self.invariant.0.fits
    ∙ ap (λ (a : AlbumState). a.kept) c.self.view_is)

pub invariant_of-self-2 : goal.invariant_of-self-2
invariant_of-self-2 c =
    let m = c.self.inside in (
      subst (λ (ks : List Numbers). IsAlbum m.machine c.number.new.self ks m.store) (sym c.in_ok-add.ensures.adds)
          (album_more m.machine m.pools c.number.new.self m.states m.store c.in_ok-one.one c.number.ensures.adds c.self.invariant.0
          c.in_ok-one.ensures.pooled),
      subst (λ (ts : List Table). AreLiveTables m.machine.machine.programs (table_at ts)) (sym (c.add.ensures.same ∙ c.find.ensures.same)) c.self.invariant.1,
    )

pub returns-clause-adds : goal.returns-clause-adds
returns-clause-adds c =
    let m = c.self.inside in
    inr (ap (states m.machine c.number.new.self) c.in_ok-add.ensures.adds
    ∙ one_more m.machine m.pools c.number.new.self m.states m.store c.in_ok-one.one c.number.ensures.adds c.self.invariant.0 c.in_ok-one.ensures.pooled
    ∙ ap (λ (a : AlbumState). a.kept ++ a.machine ∷ []) c.self.view_is)

pub invariant_of-self-in-Some : goal.invariant_of-self-in-Some
invariant_of-self-in-Some c =
    let m = c.self.inside in (
      album_still m.machine m.pools c.number.new.self m.states m.store c.number.ensures.adds c.self.invariant.0,
      subst (λ (ts : List Table). AreLiveTables m.machine.machine.programs (table_at ts)) (sym c.find.ensures.same) c.self.invariant.1,
    )

pub returns-in-Some-clause-inside : goal.returns-in-Some-clause-inside
returns-in-Some-clause-inside c =
    let m = c.self.inside in
    let like = found_at m.classes c.number.new.self.jobs m.states c.in_ok-one.one c.in_ok-found.found c.in-Some.place c.in-Some.is c.in_ok-found.ensures.like in
    inside_states m.machine c.number.new.self m.states c.in-Some.place like.0 like.1

pub invariant_of-self-in_err-found : goal.invariant_of-self-in_err-found
invariant_of-self-in_err-found c =
    let m = c.self.inside in (
      album_still m.machine m.pools c.number.new.self m.states m.store c.number.ensures.adds c.self.invariant.0,
      subst (λ (ts : List Table). AreLiveTables m.machine.machine.programs (table_at ts)) (sym c.find.ensures.same) c.self.invariant.1,
    )

pub returns-in_err-found-clause-err : goal.returns-in_err-found-clause-err
returns-in_err-found-clause-err c =
    let m = c.self.inside in
    for_err c.from_residual-in_err-found.result (states m.machine c.number.new.self m.states ≡ c.args.self.now.kept)
    (states_still m.machine m.machine.machine.store m.pools c.number.new.self m.states c.number.ensures.adds c.self.invariant.0.fits
    ∙ ap (λ (a : AlbumState). a.kept) c.self.view_is)

pub returns-in-Some-clause-adds : goal.returns-in-Some-clause-adds
returns-in-Some-clause-adds c =
    let m = c.self.inside in
    inl (states_still m.machine m.machine.machine.store m.pools c.number.new.self m.states c.number.ensures.adds c.self.invariant.0.fits
    ∙ ap (λ (a : AlbumState). a.kept) c.self.view_is)

pub returns-in-Some-clause-alike : goal.returns-in-Some-clause-alike
returns-in-Some-clause-alike c =
    let m = c.self.inside in
    let place = c.in-Some.place in
    subst (λ (a : AlbumState). IsKeptAlikeAtX86 (states m.machine c.number.new.self m.states) place a.machine) c.self.view_is
    (kept_alike m.classes c.number.new.self m.machine m.states c.in_ok-one.one place c.self.invariant.1 c.in_ok-one.ensures.pooled
    (found_at m.classes c.number.new.self.jobs m.states c.in_ok-one.one c.in_ok-found.found place c.in-Some.is c.in_ok-found.ensures.like))

pub returns-clause-alike : goal.returns-clause-alike
returns-clause-alike c =
    let m = c.self.inside in
    let place = c.len-place.result in
    let old = states m.machine m.pools m.states in
    let now = states m.machine c.number.new.self c.add.new.states in
    let more : now ≡ old ++ m.machine ∷ [] =
    ap (states m.machine c.number.new.self) c.in_ok-add.ensures.adds
    ∙ one_more m.machine m.pools c.number.new.self m.states m.store c.in_ok-one.one c.number.ensures.adds c.self.invariant.0 c.in_ok-one.ensures.pooled in
    let count : length old ≡ place = length-map m.states (kept_state m.pools m.machine.machine.programs) ∙ sym c.len-place.ensures in
    let there = ap (λ (l : List BufferedState). slice_get l place) more ∙ (ap (slice_get (old ++ m.machine ∷ [])) (sym count) ∙ newest old m.machine) in
    subst (λ (a : AlbumState). IsKeptAlikeAtX86 now place a.machine) c.self.view_is (kept_itself m.machine now place there)
