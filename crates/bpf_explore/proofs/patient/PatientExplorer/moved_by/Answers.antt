use Rattle.std.proofs.Common.{◌<◌, length, sym, subst, arith}
use Rattle.bpf_explore.specs.Album.{PatientState}
use Rattle.bpf_explore.proofs.PatientStill.{patient_as, patient_still}
use Rattle.bpf_explore.proofs.patient.PatientExplorer.moved_by.Goals as goal

pub invariant_of-self : goal.invariant_of-self
invariant_of-self c =
    let m = c.self.inside in
    let now = c.look.new.album in
    let there = subst (λ (a : PatientState). c.args.edge.from < length a.kept) (sym c.self.view_is) c.requires.from in
    let still = patient_still m.origins.items m.arrivals.items m.scouts.scouts.items m.twins.peers.items m.twins.tables.items m.album.kept now.kept
    m.album.stock now.stock m.album.cpus now.cpus c.look.ensures.kept c.look.ensures.more c.look.ensures.cpus (omega (arith, there)) c.self.invariant in
    still

pub is_elsewhere-requires-clause-tables : goal.is_elsewhere-requires-clause-tables
is_elsewhere-requires-clause-tables c =
    let m = c.self.inside in
    let now = c.look.new.album in
    let there = subst (λ (a : PatientState). c.args.edge.from < length a.kept) (sym c.self.view_is) c.requires.from in
    let still = patient_still m.origins.items m.arrivals.items m.scouts.scouts.items m.twins.peers.items m.twins.tables.items m.album.kept now.kept
    m.album.stock now.stock m.album.cpus now.cpus c.look.ensures.kept c.look.ensures.more c.look.ensures.cpus (omega (arith, there)) c.self.invariant in
    still.2.right

pub invariant_of-self-in_err-is_elsewhere : goal.invariant_of-self-in_err-is_elsewhere
invariant_of-self-in_err-is_elsewhere c =
    let m = c.self.inside in
    let now = c.look.new.album in
    let there = subst (λ (a : PatientState). c.args.edge.from < length a.kept) (sym c.self.view_is) c.requires.from in
    let still = patient_still m.origins.items m.arrivals.items m.scouts.scouts.items m.twins.peers.items m.twins.tables.items m.album.kept now.kept
    m.album.stock now.stock m.album.cpus now.cpus c.look.ensures.kept c.look.ensures.more c.look.ensures.cpus (omega (arith, there)) c.self.invariant in
    let t = c.is_elsewhere.new.twins in
    patient_as now.kept now.stock now.cpus m.origins.items m.scouts.scouts.items m.arrivals.items m.twins.peers t.peers m.twins.tables t.tables
    c.is_elsewhere.ensures.peers c.is_elsewhere.ensures.tables still

pub invariant_of-self-then-branch : goal.invariant_of-self-then-branch
invariant_of-self-then-branch c =
    let m = c.self.inside in
    let now = c.look.new.album in
    let there = subst (λ (a : PatientState). c.args.edge.from < length a.kept) (sym c.self.view_is) c.requires.from in
    let still = patient_still m.origins.items m.arrivals.items m.scouts.scouts.items m.twins.peers.items m.twins.tables.items m.album.kept now.kept
    m.album.stock now.stock m.album.cpus now.cpus c.look.ensures.kept c.look.ensures.more c.look.ensures.cpus (omega (arith, there)) c.self.invariant in
    let t = c.is_elsewhere.new.twins in
    patient_as now.kept now.stock now.cpus m.origins.items m.scouts.scouts.items m.arrivals.items m.twins.peers t.peers m.twins.tables t.tables
    c.is_elsewhere.ensures.peers c.is_elsewhere.ensures.tables still

pub invariant_of-self-2 : goal.invariant_of-self-2
invariant_of-self-2 c =
    let m = c.self.inside in
    let now = c.look.new.album in
    let there = subst (λ (a : PatientState). c.args.edge.from < length a.kept) (sym c.self.view_is) c.requires.from in
    let still = patient_still m.origins.items m.arrivals.items m.scouts.scouts.items m.twins.peers.items m.twins.tables.items m.album.kept now.kept
    m.album.stock now.stock m.album.cpus now.cpus c.look.ensures.kept c.look.ensures.more c.look.ensures.cpus (omega (arith, there)) c.self.invariant in
    let t = c.is_elsewhere.new.twins in
    patient_as now.kept now.stock now.cpus m.origins.items m.scouts.scouts.items m.arrivals.items m.twins.peers t.peers m.twins.tables t.tables
    c.is_elsewhere.ensures.peers c.is_elsewhere.ensures.tables still
