use Rattle.std.proofs.Common.{subst}
use Rattle.std.specs.Prelude.{OnOk}
use Rattle.bpf_machine.specs.Schedule.{unrolled}
use Rattle.bpf_explore.specs.Album.{PatientState}
use Rattle.bpf_explore.specs.Private.Replays.{IsReplayed}
use Rattle.bpf_explore.proofs.PatientStill.{patient_same}
use Rattle.bpf_explore.proofs.patient.PatientExplorer.replay.Goals as goal

pub invariant_of-self : goal.invariant_of-self
invariant_of-self c =
    let m = c.self.inside in
    let now = c.replay_in.new.album in
    patient_same m.origins.items m.arrivals.items m.scouts.scouts.items m.twins.peers.items m.twins.tables.items m.album.kept now.kept m.album.stock
    now.stock m.album.cpus now.cpus c.replay_in.ensures.same c.replay_in.ensures.stock c.replay_in.ensures.cpus c.self.invariant

pub returns-clause-replayed : goal.returns-clause-replayed
returns-clause-replayed c =
    subst (λ (a : PatientState). OnOk c.replay_in.result (IsReplayed a.kept (unrolled c.args.by.now) c.replay_in.new.album.machine)) c.self.view_is
    c.replay_in.ensures.replayed
