use Rattle.std.proofs.Common.{length, refl, sym, ap, subst, arith}
use Rattle.std.specs.Prelude.{slice_set}
use Rattle.std.proofs.lemmas.Option.{slice_get_read}
use Rattle.bpf_cpu.specs.Task.{InHand}
use Rattle.bpf_machine.specs.Parts.{IsSameHost}
use Rattle.bpf_machine.specs.Patient.{Refills}
use Rattle.bpf_machine.specs.Work.{HasInHand}
use Rattle.bpf_buffering.specs.Search.{BufferedState}
use Rattle.bpf_buffering.specs.Buffering.{state_of}
use Rattle.bpf_buffering.proofs.Placing.{job_within}
use Rattle.bpf_buffering.proofs.Filling.{board_filled, refills_now, same_host_filled}
use Rattle.bpf_buffering.proofs.buffering.Buffering.refill_job.Goals as goal

pub index_mut-requires : goal.index_mut-requires
index_mut-requires c =
    let m = c.self.inside in
    let has = subst (λ (s : BufferedState). HasInHand s.machine.jobs c.args.cpu c.args.job) (sym c.self.view_is) c.requires in
    omega (
      arith,
      job_within m.here m.programs.items m.jobs.items m.buffers.items c.self.invariant c.args.cpu c.args.job has.0
          (InHand has.1 has.2) has.3,
      m.jobs.ok.0,
    )

pub invariant_of-self : goal.invariant_of-self
invariant_of-self c =
    let m = c.self.inside in
    let has = subst (λ (s : BufferedState). HasInHand s.machine.jobs c.args.cpu c.args.job) (sym c.self.view_is) c.requires in
    let e = c.index_mut.result.now in
    let listed = slice_get_read m.jobs.items (length m.jobs.items) c.args.job e refl
    (job_within m.here m.programs.items m.jobs.items m.buffers.items c.self.invariant c.args.cpu c.args.job has.0
    (InHand has.1 has.2) has.3) c.index_mut.ensures.value in
    board_filled m.here m.programs.items m.jobs.items m.buffers.items c.self.invariant c.args.cpu c.args.job has.0 has.1 has.2 has.3 e listed
    c.refill.new.self c.refill.ensures.same c.refill.ensures.stage

pub returns-clause-refills : goal.returns-clause-refills
returns-clause-refills c =
    let m = c.self.inside in
    let has = subst (λ (s : BufferedState). HasInHand s.machine.jobs c.args.cpu c.args.job) (sym c.self.view_is) c.requires in
    let e = c.index_mut.result.now in
    let listed = slice_get_read m.jobs.items (length m.jobs.items) c.args.job e refl
    (job_within m.here m.programs.items m.jobs.items m.buffers.items c.self.invariant c.args.cpu c.args.job has.0
    (InHand has.1 has.2) has.3) c.index_mut.ensures.value in
    let new : BufferedState = state_of m.here m.programs.items (slice_set m.jobs.items c.args.job c.refill.new.self) m.buffers.items in
    subst (λ (s : BufferedState). Refills s.machine c.args.cpu c.args.job new.machine) c.self.view_is
    (refills_now m.here m.programs.items m.jobs.items m.buffers.items c.self.invariant c.args.cpu c.args.job has.0 has.1 has.2 has.3 e listed
    c.refill.new.self c.refill.ensures.same c.refill.ensures.stage)

pub returns-clause-buffers : goal.returns-clause-buffers
returns-clause-buffers c = ap (λ (s : BufferedState). s.buffers) c.self.view_is

pub returns-clause-host : goal.returns-clause-host
returns-clause-host c =
    let m = c.self.inside in
    let has = subst (λ (s : BufferedState). HasInHand s.machine.jobs c.args.cpu c.args.job) (sym c.self.view_is) c.requires in
    let e = c.index_mut.result.now in
    let listed = slice_get_read m.jobs.items (length m.jobs.items) c.args.job e refl
    (job_within m.here m.programs.items m.jobs.items m.buffers.items c.self.invariant c.args.cpu c.args.job has.0
    (InHand has.1 has.2) has.3) c.index_mut.ensures.value in
    let new : BufferedState = state_of m.here m.programs.items (slice_set m.jobs.items c.args.job c.refill.new.self) m.buffers.items in
    subst (λ (s : BufferedState). IsSameHost s.machine new.machine) c.self.view_is
    (same_host_filled m.here m.programs.items m.jobs.items m.buffers.items c.self.invariant c.args.cpu c.args.job has.0 has.1 has.2 has.3 e listed
    c.refill.new.self c.refill.ensures.same c.refill.ensures.stage)
