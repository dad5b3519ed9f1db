use Rattle.std.specs.Prelude.{string_bytes}
use Rattle.bpf_buffer_debug.proofs.SessionLaws.{told_help}
use Rattle.bpf_buffer_debug.proofs.session.Session.help.Goals as goal

pub returns-clause-answered : goal.returns-clause-answered
returns-clause-answered c =
    told_help c.args.self.now (string_bytes c.in_ok-text.text) c.in_ok-text.ensures
