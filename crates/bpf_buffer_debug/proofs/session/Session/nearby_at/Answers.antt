use Rattle.std.proofs.Common.{Some, subst}
use Rattle.std.specs.Prelude.{string_bytes}
use Rattle.bpf_buffering.specs.Search.{BufferedState}
use Rattle.bpf_debug.specs.Command.{Nearby}
use Rattle.bpf_debug.specs.Nearby.{IsNearbyText}
use Rattle.bpf_debug.proofs.SessionLaws.{told_nearby}
use Rattle.bpf_buffer_debug.proofs.SessionLaws.{alike, plain_state}
use Rattle.bpf_buffer_debug.proofs.session.Session.nearby_at.Goals as goal

pub returns-clause-answered : goal.returns-clause-answered
returns-clause-answered c =
    let s = c.args.self.now in
    let last = string_bytes c.in_ok-text.text in
    let N : BufferedState → Type 0 = λ b. IsNearbyText b.machine.programs b.machine.jobs c.args.cpu last in
    alike s (Nearby (Some c.args.cpu)) last tt
    (told_nearby (plain_state s) c.args.cpu last c.requires (subst N c.machine.ensures c.in_ok-text.ensures))
