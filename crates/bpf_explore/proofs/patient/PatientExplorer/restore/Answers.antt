use Rattle.std.proofs.Common.{◌≡◌}
use Rattle.bpf_explore.proofs.PatientStill.{patient_same}
use Rattle.bpf_explore.proofs.patient.PatientExplorer.restore.Goals as goal

pub invariant_of-self : goal.invariant_of-self
invariant_of-self c =
    let m = c.self.inside in
    let now = c.restore.new.self in
    patient_same m.origins.items m.arrivals.items m.scouts.scouts.items m.twins.peers.items m.twins.tables.items m.album.kept now.kept m.album.stock
    now.stock m.album.cpus now.cpus c.restore.ensures.same c.restore.ensures.stock c.restore.ensures.cpus c.self.invariant
