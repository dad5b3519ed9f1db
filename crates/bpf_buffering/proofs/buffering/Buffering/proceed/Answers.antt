use Rattle.std.proofs.Common.{length, refl, sym, ap, subst, ◌∙◌, arith}
use Rattle.std.specs.Prelude.{slice_set}
use Rattle.std.proofs.lemmas.List.{length-set}
use Rattle.std.proofs.lemmas.Option.{slice_get_read}
use Rattle.bpf_cpu.specs.Task.{InHand}
use Rattle.bpf_machine.specs.Parts.{IsSameHost}
use Rattle.bpf_machine.specs.Work.{HasInHand}
use Rattle.bpf_buffering.specs.Search.{BufferedState}
use Rattle.bpf_buffering.specs.Waiting.{WaitingContents}
use Rattle.bpf_buffering.specs.Buffering.{state_of, Proceeds}
use Rattle.bpf_buffering.proofs.Keeping.{host_through}
use Rattle.bpf_buffering.proofs.Placing.{cpu_within, job_within, program_within, can_take, cpu_is, can_put_back, board_now}
use Rattle.bpf_buffering.proofs.Placing.{only_one, can_go_on, still_fits, still_idle}
use Rattle.bpf_buffering.proofs.Proceeding.{proceeds_now}
use Rattle.bpf_buffering.proofs.buffering.Buffering.proceed.Goals as goal

pub index_mut-requires : goal.index_mut-requires
index_mut-requires c =
    let m = c.self.inside in
    let has = subst (λ (s : BufferedState). HasInHand s.machine.jobs c.args.cpu c.args.job) (sym c.self.view_is) c.requires in
    omega (
      arith,
      cpu_within m.here m.programs.items m.jobs.items m.buffers.items c.self.invariant c.args.cpu c.args.job has.0
          (InHand has.1 has.2) has.3,
      m.buffers.ok.0,
    )

pub exchange-requires : goal.exchange-requires
exchange-requires c =
    let m = c.self.inside in
    let has = subst (λ (s : BufferedState). HasInHand s.machine.jobs c.args.cpu c.args.job) (sym c.self.view_is) c.requires in
    can_take m.here m.programs.items m.jobs.items m.buffers.items c.self.invariant c.args.cpu c.args.job has.0 (InHand has.1 has.2) has.3
    c.index_mut.result.now c.index_mut.ensures.value

pub index_mut-listed-requires : goal.index_mut-listed-requires
index_mut-listed-requires c =
    let m = c.self.inside in
    let has = subst (λ (s : BufferedState). HasInHand s.machine.jobs c.args.cpu c.args.job) (sym c.self.view_is) c.requires in
    omega (
      arith,
      job_within m.here m.programs.items m.jobs.items m.buffers.items c.self.invariant c.args.cpu c.args.job has.0
          (InHand has.1 has.2) has.3,
      m.jobs.ok.0,
    )

pub index-requires : goal.index-requires
index-requires c =
    let m = c.self.inside in
    let has = subst (λ (s : BufferedState). HasInHand s.machine.jobs c.args.cpu c.args.job) (sym c.self.view_is) c.requires in
    let e = c.index_mut-listed.result.now in
    let listed = slice_get_read m.jobs.items (length m.jobs.items) c.args.job e refl
    (job_within m.here m.programs.items m.jobs.items m.buffers.items c.self.invariant c.args.cpu c.args.job has.0
    (InHand has.1 has.2) has.3) c.index_mut-listed.ensures.value in
    omega (
      arith,
      program_within m.here m.programs.items m.jobs.items m.buffers.items c.self.invariant c.args.cpu c.args.job has.0
          (InHand has.1 has.2) has.3 e listed,
      m.programs.ok.0,
    )

pub go_on-end-requires : goal.go_on-end-requires
go_on-end-requires c =
    let m = c.self.inside in
    let has = subst (λ (s : BufferedState). HasInHand s.machine.jobs c.args.cpu c.args.job) (sym c.self.view_is) c.requires in
    let e = c.index_mut-listed.result.now in
    let listed = slice_get_read m.jobs.items (length m.jobs.items) c.args.job e refl
    (job_within m.here m.programs.items m.jobs.items m.buffers.items c.self.invariant c.args.cpu c.args.job has.0
    (InHand has.1 has.2) has.3) c.index_mut-listed.ensures.value in
    let fetched = slice_get_read m.programs.items (length m.programs.items) e.program c.index.result.now refl
    (program_within m.here m.programs.items m.jobs.items m.buffers.items c.self.invariant c.args.cpu c.args.job has.0
    (InHand has.1 has.2) has.3 e listed) c.index.ensures in
    can_go_on m.here m.programs.items m.jobs.items m.buffers.items c.self.invariant c.args.cpu c.args.job has.0 has.1 has.2 has.3 e listed
    c.index.result.now fetched c.index_mut.result.now c.exchange.new.self c.exchange.ensures.serves

pub index_mut-requires-2 : goal.index_mut-requires-2
index_mut-requires-2 c =
    let m = c.self.inside in
    let has = subst (λ (s : BufferedState). HasInHand s.machine.jobs c.args.cpu c.args.job) (sym c.self.view_is) c.requires in
    let e = c.index_mut-listed.result.now in
    let listed = slice_get_read m.jobs.items (length m.jobs.items) c.args.job e refl
    (job_within m.here m.programs.items m.jobs.items m.buffers.items c.self.invariant c.args.cpu c.args.job has.0
    (InHand has.1 has.2) has.3) c.index_mut-listed.ensures.value in
    omega (
      arith,
      cpu_within m.here m.programs.items m.jobs.items m.buffers.items c.self.invariant c.args.cpu c.args.job has.0
          (InHand has.1 has.2) has.3,
      m.buffers.ok.0,
    )

pub exchange-requires-2 : goal.exchange-requires-2
exchange-requires-2 c =
    let m = c.self.inside in
    let has = subst (λ (s : BufferedState). HasInHand s.machine.jobs c.args.cpu c.args.job) (sym c.self.view_is) c.requires in
    let e = c.index_mut-listed.result.now in
    let listed = slice_get_read m.jobs.items (length m.jobs.items) c.args.job e refl
    (job_within m.here m.programs.items m.jobs.items m.buffers.items c.self.invariant c.args.cpu c.args.job has.0
    (InHand has.1 has.2) has.3) c.index_mut-listed.ensures.value in
    can_put_back m.here m.programs.items m.jobs.items m.buffers.items c.self.invariant c.args.cpu c.args.job has.0 (InHand has.1 has.2)
    has.3 e listed c.index_mut.result.now c.index_mut.ensures.value c.exchange.new.self c.exchange.ensures.serves c.exchange.new.waiting
    c.exchange.ensures.before c.go_on-end.new.here.store c.index_mut-2.result.now c.index_mut-2.ensures.value

pub invariant_of-self : goal.invariant_of-self
invariant_of-self c =
    let m = c.self.inside in
    let has = subst (λ (s : BufferedState). HasInHand s.machine.jobs c.args.cpu c.args.job) (sym c.self.view_is) c.requires in
    let e = c.index_mut-listed.result.now in
    let listed = slice_get_read m.jobs.items (length m.jobs.items) c.args.job e refl
    (job_within m.here m.programs.items m.jobs.items m.buffers.items c.self.invariant c.args.cpu c.args.job has.0
    (InHand has.1 has.2) has.3) c.index_mut-listed.ensures.value in
    let fetched = slice_get_read m.programs.items (length m.programs.items) e.program c.index.result.now refl
    (program_within m.here m.programs.items m.jobs.items m.buffers.items c.self.invariant c.args.cpu c.args.job has.0
    (InHand has.1 has.2) has.3 e listed) c.index.ensures in
    let cpu = (c.go_on-end.ensures.cpu ∙ cpu_is m.here m.programs.items m.jobs.items m.buffers.items c.self.invariant c.args.cpu c.args.job
    has.0 (InHand has.1 has.2) has.3 e listed c.index_mut.result.now c.index_mut.ensures.value c.exchange.new.self
    c.exchange.ensures.serves c.exchange.new.waiting c.exchange.ensures.before) in
    board_now m.here m.programs.items m.jobs.items m.buffers.items c.self.invariant c.args.cpu c.args.job has.0 (InHand has.1 has.2) has.3 e
    listed c.index_mut.result.now c.index_mut.ensures.value c.exchange.new.self c.exchange.ensures.serves c.exchange.new.waiting
    c.exchange.ensures.before c.go_on-end.new.here c.go_on-end.ensures.cpu c.go_on-end.ensures.others c.go_on-end.new.self
    c.go_on-end.ensures.same c.index_mut-2.result.now c.index_mut-2.ensures.value c.exchange-2.new.self c.exchange-2.ensures.serves
    c.exchange-2.new.waiting c.exchange-2.ensures.before c.exchange-2.ensures.can_wait
    (only_one m.here m.programs.items m.jobs.items m.buffers.items c.self.invariant c.args.cpu c.args.job has.0 has.1 has.2 has.3 e
    listed c.index.result.now fetched)
    (still_fits m.here m.programs.items m.jobs.items m.buffers.items c.self.invariant c.args.cpu c.args.job has.0 has.1 has.2 has.3 e listed
    c.index.result.now fetched c.go_on-end.new.here c.exchange-2.new.self c.index_mut-2.result.now.items cpu c.exchange-2.ensures.serves
    c.go_on-end.new.self c.go_on-end.ensures.same c.go_on-end.result (slice_set m.jobs.items c.args.job c.go_on-end.new.self)
    (slice_set (slice_set m.buffers.items c.args.cpu c.exchange.new.waiting) c.args.cpu c.exchange-2.new.waiting) c.go_on-end.ensures.fits)
    (still_idle m.here m.programs.items m.jobs.items m.buffers.items c.self.invariant c.args.cpu c.args.job has.0 has.1 has.2 has.3 e listed
    c.index.result.now fetched c.go_on-end.new.here c.exchange-2.new.self c.index_mut-2.result.now.items cpu c.exchange-2.ensures.serves
    c.go_on-end.new.self c.go_on-end.ensures.same c.go_on-end.result c.go_on-end.ensures.fits)

pub invariant_of-self-2 : goal.invariant_of-self-2
invariant_of-self-2 c =
    let m = c.self.inside in
    let has = subst (λ (s : BufferedState). HasInHand s.machine.jobs c.args.cpu c.args.job) (sym c.self.view_is) c.requires in
    let e = c.index_mut-listed.result.now in
    let listed = slice_get_read m.jobs.items (length m.jobs.items) c.args.job e refl
    (job_within m.here m.programs.items m.jobs.items m.buffers.items c.self.invariant c.args.cpu c.args.job has.0
    (InHand has.1 has.2) has.3) c.index_mut-listed.ensures.value in
    let fetched = slice_get_read m.programs.items (length m.programs.items) e.program c.index.result.now refl
    (program_within m.here m.programs.items m.jobs.items m.buffers.items c.self.invariant c.args.cpu c.args.job has.0
    (InHand has.1 has.2) has.3 e listed) c.index.ensures in
    let cpu = (c.go_on-end.ensures.cpu ∙ cpu_is m.here m.programs.items m.jobs.items m.buffers.items c.self.invariant c.args.cpu c.args.job
    has.0 (InHand has.1 has.2) has.3 e listed c.index_mut.result.now c.index_mut.ensures.value c.exchange.new.self
    c.exchange.ensures.serves c.exchange.new.waiting c.exchange.ensures.before) in
    board_now m.here m.programs.items m.jobs.items m.buffers.items c.self.invariant c.args.cpu c.args.job has.0 (InHand has.1 has.2) has.3 e
    listed c.index_mut.result.now c.index_mut.ensures.value c.exchange.new.self c.exchange.ensures.serves c.exchange.new.waiting
    c.exchange.ensures.before c.go_on-end.new.here c.go_on-end.ensures.cpu c.go_on-end.ensures.others c.go_on-end.new.self
    c.go_on-end.ensures.same c.index_mut-2.result.now c.index_mut-2.ensures.value c.exchange-2.new.self c.exchange-2.ensures.serves
    c.exchange-2.new.waiting c.exchange-2.ensures.before c.exchange-2.ensures.can_wait
    (only_one m.here m.programs.items m.jobs.items m.buffers.items c.self.invariant c.args.cpu c.args.job has.0 has.1 has.2 has.3 e
    listed c.index.result.now fetched)
    (still_fits m.here m.programs.items m.jobs.items m.buffers.items c.self.invariant c.args.cpu c.args.job has.0 has.1 has.2 has.3 e listed
    c.index.result.now fetched c.go_on-end.new.here c.exchange-2.new.self c.index_mut-2.result.now.items cpu c.exchange-2.ensures.serves
    c.go_on-end.new.self c.go_on-end.ensures.same c.go_on-end.result (slice_set m.jobs.items c.args.job c.go_on-end.new.self)
    (slice_set (slice_set m.buffers.items c.args.cpu c.exchange.new.waiting) c.args.cpu c.exchange-2.new.waiting) c.go_on-end.ensures.fits)
    (still_idle m.here m.programs.items m.jobs.items m.buffers.items c.self.invariant c.args.cpu c.args.job has.0 has.1 has.2 has.3 e listed
    c.index.result.now fetched c.go_on-end.new.here c.exchange-2.new.self c.index_mut-2.result.now.items cpu c.exchange-2.ensures.serves
    c.go_on-end.new.self c.go_on-end.ensures.same c.go_on-end.result c.go_on-end.ensures.fits)

pub returns-clause-proceeds : goal.returns-clause-proceeds
returns-clause-proceeds c =
    let m = c.self.inside in
    let has = subst (λ (s : BufferedState). HasInHand s.machine.jobs c.args.cpu c.args.job) (sym c.self.view_is) c.requires in
    let e = c.index_mut-listed.result.now in
    let listed = slice_get_read m.jobs.items (length m.jobs.items) c.args.job e refl
    (job_within m.here m.programs.items m.jobs.items m.buffers.items c.self.invariant c.args.cpu c.args.job has.0
    (InHand has.1 has.2) has.3) c.index_mut-listed.ensures.value in
    let fetched = slice_get_read m.programs.items (length m.programs.items) e.program c.index.result.now refl
    (program_within m.here m.programs.items m.jobs.items m.buffers.items c.self.invariant c.args.cpu c.args.job has.0
    (InHand has.1 has.2) has.3 e listed) c.index.ensures in
    let new : BufferedState = state_of c.exchange-2.new.self m.programs.items (slice_set m.jobs.items c.args.job c.go_on-end.new.self)
    (slice_set (slice_set m.buffers.items c.args.cpu c.exchange.new.waiting) c.args.cpu c.exchange-2.new.waiting) in (
      c.go_on-end.result,
      c.answer.ensures,
      subst (λ (s : BufferedState). Proceeds s c.args.cpu c.args.job c.go_on-end.result new) c.self.view_is
          (proceeds_now m.here m.programs.items m.jobs.items m.buffers.items c.self.invariant c.args.cpu c.args.job e listed
          c.index.result.now fetched c.index_mut.result.now c.index_mut.ensures.value c.exchange.new.self c.exchange.ensures.serves
          c.exchange.new.waiting c.exchange.ensures.before c.go_on-end.new.here c.go_on-end.ensures.cpu c.go_on-end.ensures.others
          c.go_on-end.new.self c.go_on-end.ensures.same c.index_mut-2.result.now c.index_mut-2.ensures.value c.exchange-2.new.self
          c.exchange-2.ensures.serves c.exchange-2.new.waiting c.exchange-2.ensures.before (sym c.is_lost.ensures ∙ c.if-is_lost.false)
          c.go_on-end.result c.go_on-end.ensures.goes),
    )

pub returns-clause-host : goal.returns-clause-host
returns-clause-host c =
    let m = c.self.inside in
    let z = c.exchange-2.new.self in
    let jobs = slice_set m.jobs.items c.args.job c.go_on-end.new.self in
    let others = c.go_on-end.ensures.others in
    subst (λ (s : BufferedState). IsSameHost s.machine (state_of z m.programs.items jobs m.buffers.items).machine) c.self.view_is
    (host_through m.here c.exchange.new.self c.go_on-end.new.here z m.programs.items m.jobs.items jobs m.buffers.items m.buffers.items
    (ap (λ (a : WaitingContents). a.store) c.exchange.ensures.serves) others.shape others.serves
    (ap (λ (a : WaitingContents). a.store) c.exchange-2.ensures.serves) (length-set m.jobs.items c.args.job c.go_on-end.new.self))

pub returns-then-is_lost-clause-host : goal.returns-then-is_lost-clause-host
returns-then-is_lost-clause-host c =
    let m = c.self.inside in
    let z = c.exchange-2.new.self in
    let jobs = slice_set m.jobs.items c.args.job c.go_on-end.new.self in
    let others = c.go_on-end.ensures.others in
    subst (λ (s : BufferedState). IsSameHost s.machine (state_of z m.programs.items jobs m.buffers.items).machine) c.self.view_is
    (host_through m.here c.exchange.new.self c.go_on-end.new.here z m.programs.items m.jobs.items jobs m.buffers.items m.buffers.items
    (ap (λ (a : WaitingContents). a.store) c.exchange.ensures.serves) others.shape others.serves
    (ap (λ (a : WaitingContents). a.store) c.exchange-2.ensures.serves) (length-set m.jobs.items c.args.job c.go_on-end.new.self))
