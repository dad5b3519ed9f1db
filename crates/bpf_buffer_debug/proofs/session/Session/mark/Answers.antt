use Rattle.std.specs.Prelude.{string_bytes}
use Rattle.bpf_debug.specs.Command.{Mark}
use Rattle.bpf_debug.proofs.SessionLaws.{told_mark}
use Rattle.bpf_buffer_debug.proofs.SessionLaws.{alike, plain_state}
use Rattle.bpf_buffer_debug.proofs.session.Session.mark.Goals as goal

pub returns-clause-answered : goal.returns-clause-answered
returns-clause-answered c =
    let s = c.args.self.now in
    let last = string_bytes c.put_mark.new.out in
    alike s (Mark c.args.number) last tt
    (told_mark (plain_state s) c.args.number (string_bytes c.in_ok-out.out) last c.in_ok-out.ensures.empty c.put_mark.ensures)
