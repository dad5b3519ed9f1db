use Rattle.std.proofs.Common.{◌≡◌, length, subst}
use Rattle.bpf_buffering.specs.Search.{BufferedState}
use Rattle.bpf_jobs.specs.Printed.{any_stopped}
use Rattle.bpf_buffer_debug.specs.Session.{SessionState}
use Rattle.bpf_run.proofs.BufferTalked.{converses}
use Rattle.bpf_run.proofs.buffer_debugging.converse.Goals as goal

pub returns-clause-talks : goal.returns-clause-talks
returns-clause-talks g c =
    let old = c.args.terminal.now in
    let new = c.talk-talked.new.terminal in
    let stopped = c.has_any_stopped-stopped.result in
    let M : BufferedState → Type 0 = λ m. stopped ≡ any_stopped (length m.machine.jobs) m.machine.jobs in
    let S : SessionState → Type 0 = λ s. M s.machine in
    let tells = subst S c.session.ensures (subst M c.machine.ensures c.has_any_stopped-stopped.ensures) in
    λ x shown. converses (g.D.Terminal.passes old new) c.args.echo c.args.strict c.new-answering.result c.talk-talked.new.session c.args.session
    (g.D.Terminal.is_unread new) (g.D.Terminal.has_failed new) stopped c.talk-talked.result c.come_to.result.0
    c.new-answering.ensures tells c.come_to.ensures.status c.talk-talked.ensures x shown
