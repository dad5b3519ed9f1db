use Rattle.std.proofs.Common.{[], Some, refl, subst}
use Rattle.std.specs.Prelude.{string_bytes}
use Rattle.bpf_buffering.specs.Search.{BufferedState}
use Rattle.bpf_debug.specs.Answer.{IsWhere}
use Rattle.bpf_debug.specs.Command.{Where}
use Rattle.bpf_debug.proofs.SessionLaws.{told_where}
use Rattle.bpf_buffer_debug.proofs.SessionLaws.{alike, plain_state}
use Rattle.bpf_buffer_debug.proofs.session.Session.standing_at.Goals as goal

pub returns-clause-answered : goal.returns-clause-answered
returns-clause-answered c =
    let s = c.args.self.now in
    let last = string_bytes c.in_ok-text.text in
    let here = subst (λ (b : BufferedState). IsWhere b.machine.jobs c.args.cpu last) c.machine.ensures c.in_ok-text.ensures in
    alike s (Where (Some c.args.cpu)) last tt (told_where (plain_state s) c.args.cpu [] last c.requires refl (last, here, refl))
