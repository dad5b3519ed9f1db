use Rattle.bpf_buffer_debug.proofs.SessionLaws.{can_begin}
use Rattle.bpf_buffer_debug.proofs.session.Session.new.Goals as goal

pub invariant_of-result : goal.invariant_of-result
invariant_of-result c =
    can_begin c.in_ok-album.album c.args.machine c.args.seen c.in_ok-album.ensures.machine c.in_ok-album.ensures.kept c.requires
