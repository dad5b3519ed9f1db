use Rattle.std.proofs.Common.{Result, Bool, List, subst}
use Rattle.std.specs.Prelude.{OnOk}
use Rattle.bpf_machine.specs.Schedule.{unrolled}
use Rattle.bpf_explore.specs.Album.{AlbumState}
use Rattle.bpf_explore.specs.Private.Replays.{IsReplayed}
use Rattle.bpf_explore.proofs.spread.Spread.replay.Goals as goal

pub returns-clause-replayed : goal.returns-clause-replayed
returns-clause-replayed g c =
    subst (λ (a : AlbumState). OnOk c.replay_in.result (IsReplayed a.kept (unrolled c.args.by.now) c.replay_in.new.album.machine)) c.self.view_is
    c.replay_in.ensures.replayed
