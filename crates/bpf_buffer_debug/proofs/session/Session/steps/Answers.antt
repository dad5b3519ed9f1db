use Rattle.std.proofs.Common.{◌≡◌, ◌∙◌, length, sym, subst}
use Rattle.bpf_buffering.specs.Search.{BufferedState}
use Rattle.bpf_buffer_debug.specs.Session.{are_cpus}
use Rattle.bpf_buffer_debug.proofs.ScheduleLaws.{same_cpus, turns_named}
use Rattle.bpf_buffer_debug.proofs.session.Session.steps.Goals as goal

pub returns-else-are_cpus-clause-refused : goal.returns-else-are_cpus-clause-refused
returns-else-are_cpus-clause-refused c =
    let runs = c.args.runs.now in
    let P : BufferedState → Type 0 = λ m. are_cpus (length m.machine.store.maps.runs) runs ≡ are_cpus c.cpus.result runs in
    let same = subst P c.machine.ensures
    (same_cpus runs (length c.machine.result.now.machine.store.maps.runs) c.cpus.result c.cpus.ensures.cpus) in
    turns_named (length c.args.self.now.machine.machine.store.maps.runs) runs ∙ same ∙ sym c.are_cpus.ensures ∙ c.if-are_cpus.false
