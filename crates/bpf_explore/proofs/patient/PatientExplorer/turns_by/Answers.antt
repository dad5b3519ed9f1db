use Rattle.std.proofs.Common.{sym, subst}
use Rattle.bpf_machine.specs.Machine.{Shows}
use Rattle.bpf_explore.specs.Album.{PatientState}
use Rattle.bpf_explore.proofs.PatientStill.{patient_same}
use Rattle.bpf_explore.proofs.patient.PatientExplorer.turns_by.Goals as goal

pub returns-clause-runs : goal.returns-clause-runs
returns-clause-runs c w shows = c.turns_by.ensures.runs w (subst (λ (a : PatientState). Shows a.machine w) (sym c.self.view_is) shows)

pub invariant_of-self : goal.invariant_of-self
invariant_of-self c =
    let m = c.self.inside in
    let now = c.turns_by.new.self in
    patient_same m.origins.items m.arrivals.items m.scouts.scouts.items m.twins.peers.items m.twins.tables.items m.album.kept now.kept m.album.stock
    now.stock m.album.cpus now.cpus c.turns_by.ensures.same c.turns_by.ensures.stock c.turns_by.ensures.cpus c.self.invariant
