use Rattle.bpf_replies.proofs.BufferReplies.{opened}
use Rattle.bpf_replies.proofs.buffer_script.open_buffer_session.Goals as goal

pub returns : goal.returns
returns c =
    let made = c.in_ok-session.ensures in
    opened c.in_ok-session.session c.args.file made.machine made.first made.names made.breaks made.watch made.course made.kept
