use Rattle.std.proofs.Common.{subst}
use Rattle.bpf_explore.specs.Private.Album.{ShowsFirst}
use Rattle.bpf_explore.proofs.AlbumLaws.{first_kept}
use Rattle.bpf_explore.proofs.album.Album.new.Goals as goal

pub returns-clause-one : goal.returns-clause-one
returns-clause-one c = (first_kept c.in_ok-album.album.kept c.keep.new.self.kept c.in_ok-album.album.machine c.in_ok-keep.field-0
    c.in_ok-album.ensures.empty c.keep.ensures.adds c.in_ok-keep.ensures.within).0

pub returns-clause-first : goal.returns-clause-first
returns-clause-first c =
    subst (ShowsFirst c.keep.new.self.kept) c.in_ok-album.ensures.machine
    (first_kept c.in_ok-album.album.kept c.keep.new.self.kept c.in_ok-album.album.machine c.in_ok-keep.field-0 c.in_ok-album.ensures.empty
    c.keep.ensures.adds c.in_ok-keep.ensures.within).1
