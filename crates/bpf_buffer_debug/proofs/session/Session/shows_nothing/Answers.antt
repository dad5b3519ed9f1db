use Rattle.std.proofs.Common.{subst}
use Rattle.std.specs.Prelude.{string_bytes}
use Rattle.bpf_buffering.specs.Search.{BufferedState}
use Rattle.bpf_debug.specs.Answer.{IsOff}
use Rattle.bpf_buffer_debug.proofs.SessionLaws.{told_off}
use Rattle.bpf_buffer_debug.proofs.session.Session.shows_nothing.Goals as goal

pub returns-clause-answered : goal.returns-clause-answered
returns-clause-answered c =
    let last = string_bytes c.in_ok-text.text in
    told_off c.args.self.now c.args.cpu last c.requires.served
    (subst (λ (m : BufferedState). IsOff m.machine.jobs c.args.cpu last) c.machine.ensures c.in_ok-text.ensures)
