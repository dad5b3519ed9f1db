use Rattle.std.proofs.Common.{◌≡◌, ◌++◌, length, subst}
use Rattle.std.specs.Prelude.{string_bytes}
use Rattle.bpf_buffering.specs.Search.{BufferedState}
use Rattle.bpf_debug.specs.Command.{Jobs}
use Rattle.bpf_debug.specs.Told.{told_jobs}
use Rattle.bpf_debug.proofs.SessionLaws.{told_of_jobs}
use Rattle.bpf_buffer_debug.proofs.SessionLaws.{alike, plain_state}
use Rattle.bpf_buffer_debug.proofs.session.Session.jobs.Goals as goal

pub returns-clause-answered : goal.returns-clause-answered
returns-clause-answered c =
    let s = c.args.self.now in
    let room = string_bytes c.in_ok-out.out in
    let last = string_bytes c.put_jobs.new.out in
    let M : BufferedState → Type 0 = λ b. last ≡ room ++ told_jobs (length b.machine.jobs) b.machine.jobs in
    alike s Jobs last tt (told_of_jobs (plain_state s) room last c.in_ok-out.ensures.empty (subst M c.machine-2.ensures c.put_jobs.ensures))
