use Rattle.std.proofs.Common.{◌≡◌, length, sym, subst, ◌∙◌}
use Rattle.bpf_debug.specs.Session.{SessionState, are_cpus}
use Rattle.bpf_debug.proofs.ScheduleLaws.{same_cpus}
use Rattle.bpf_debug.proofs.session.Session.has_cpus.Goals as goal

pub returns : goal.returns
returns c =
    let H : SessionState → Type 0 = λ s. c.are_cpus.result ≡ are_cpus (length s.machine.store.maps.runs) c.args.runs.now in
    subst H c.self.view_is (c.are_cpus.ensures ∙ sym (same_cpus c.args.runs.now (length c.self.inside.machine.store.maps.runs) c.cpus.result c.cpus.ensures))
