use Rattle.std.proofs.Common.{◌≡◌, ℕ, Bool, true, false, List, length, Some, None, refl, sym, ap, subst, ◌∙◌, arith}
use Rattle.std.specs.Prelude.{slice_get, slice_set}
use Rattle.std.proofs.lemmas.List.{length-set}
use Rattle.std.proofs.lemmas.Option.{slice_get_read}
use Rattle.bpf_cpu.specs.Task.{Stage, InHand, Waiting}
use Rattle.bpf_machine.specs.Hands.{IsFree}
use Rattle.bpf_machine.specs.Kept.{kept_stage}
use Rattle.bpf_machine.specs.Parts.{IsSameHost}
use Rattle.bpf_machine.specs.Work.{HasInHand}
use Rattle.bpf_buffering.specs.Search.{BufferedState}
use Rattle.bpf_buffering.specs.declared.jobs.Listed.{Listed}
use Rattle.bpf_buffering.specs.Waiting.{WaitingContents}
use Rattle.bpf_buffering.specs.Jobs.{IsLowest}
use Rattle.bpf_buffering.specs.Ahead.{RunsUnseen}
use Rattle.bpf_buffering.specs.Buffering.{state_of}
use Rattle.bpf_buffering.proofs.Keeping.{host_through}
use Rattle.bpf_buffering.proofs.Placing.{cpu_within, job_within, program_within, can_take, cpu_is, count_stays, can_put_back, board_now}
use Rattle.bpf_buffering.proofs.Placing.{only_one, can_go_on, still_fits, still_idle}
use Rattle.bpf_buffering.proofs.Running.{ahead_now}
use Rattle.bpf_buffering.proofs.buffering.Buffering.go_ahead.Goals as goal

pub index_mut-requires : goal.index_mut-requires
index_mut-requires c =
    let m = c.self.inside in
    let has = subst (λ (s : BufferedState). HasInHand s.machine.jobs c.args.cpu c.args.job) (sym c.self.view_is) c.requires in
    omega (
      arith,
      cpu_within m.here m.programs.items m.jobs.items m.buffers.items c.self.invariant c.args.cpu c.args.job has.0
          (InHand has.1 has.2) has.3,
      m.buffers.ok.0,
    )

pub exchange-requires : goal.exchange-requires
exchange-requires c =
    let m = c.self.inside in
    let has = subst (λ (s : BufferedState). HasInHand s.machine.jobs c.args.cpu c.args.job) (sym c.self.view_is) c.requires in
    can_take m.here m.programs.items m.jobs.items m.buffers.items c.self.invariant c.args.cpu c.args.job has.0 (InHand has.1 has.2) has.3
    c.index_mut.result.now c.index_mut.ensures.value

pub index_mut-listed-requires : goal.index_mut-listed-requires
index_mut-listed-requires c =
    let m = c.self.inside in
    let has = subst (λ (s : BufferedState). HasInHand s.machine.jobs c.args.cpu c.args.job) (sym c.self.view_is) c.requires in
    omega (
      arith,
      job_within m.here m.programs.items m.jobs.items m.buffers.items c.self.invariant c.args.cpu c.args.job has.0
          (InHand has.1 has.2) has.3,
      m.jobs.ok.0,
    )

pub index-requires : goal.index-requires
index-requires c =
    let m = c.self.inside in
    let has = subst (λ (s : BufferedState). HasInHand s.machine.jobs c.args.cpu c.args.job) (sym c.self.view_is) c.requires in
    let e = c.index_mut-listed.result.now in
    let listed = slice_get_read m.jobs.items (length m.jobs.items) c.args.job e refl
    (job_within m.here m.programs.items m.jobs.items m.buffers.items c.self.invariant c.args.cpu c.args.job has.0
    (InHand has.1 has.2) has.3) c.index_mut-listed.ensures.value in
    omega (
      arith,
      program_within m.here m.programs.items m.jobs.items m.buffers.items c.self.invariant c.args.cpu c.args.job has.0
          (InHand has.1 has.2) has.3 e listed,
      m.programs.ok.0,
    )

pub go_ahead-made-requires : goal.go_ahead-made-requires
go_ahead-made-requires c =
    let m = c.self.inside in
    let has = subst (λ (s : BufferedState). HasInHand s.machine.jobs c.args.cpu c.args.job) (sym c.self.view_is) c.requires in
    let e = c.index_mut-listed.result.now in
    let listed = slice_get_read m.jobs.items (length m.jobs.items) c.args.job e refl
    (job_within m.here m.programs.items m.jobs.items m.buffers.items c.self.invariant c.args.cpu c.args.job has.0
    (InHand has.1 has.2) has.3) c.index_mut-listed.ensures.value in
    let fetched = slice_get_read m.programs.items (length m.programs.items) e.program c.index.result.now refl
    (program_within m.here m.programs.items m.jobs.items m.buffers.items c.self.invariant c.args.cpu c.args.job has.0
    (InHand has.1 has.2) has.3 e listed) c.index.ensures in
    can_go_on m.here m.programs.items m.jobs.items m.buffers.items c.self.invariant c.args.cpu c.args.job has.0 has.1 has.2 has.3 e listed
    c.index.result.now fetched c.index_mut.result.now c.exchange.new.self c.exchange.ensures.serves

pub index_mut-requires-2 : goal.index_mut-requires-2
index_mut-requires-2 c =
    let m = c.self.inside in
    let has = subst (λ (s : BufferedState). HasInHand s.machine.jobs c.args.cpu c.args.job) (sym c.self.view_is) c.requires in
    let e = c.index_mut-listed.result.now in
    let listed = slice_get_read m.jobs.items (length m.jobs.items) c.args.job e refl
    (job_within m.here m.programs.items m.jobs.items m.buffers.items c.self.invariant c.args.cpu c.args.job has.0
    (InHand has.1 has.2) has.3) c.index_mut-listed.ensures.value in
    omega (
      arith,
      cpu_within m.here m.programs.items m.jobs.items m.buffers.items c.self.invariant c.args.cpu c.args.job has.0
          (InHand has.1 has.2) has.3,
      m.buffers.ok.0,
    )

pub exchange-requires-2 : goal.exchange-requires-2
exchange-requires-2 c =
    let m = c.self.inside in
    let has = subst (λ (s : BufferedState). HasInHand s.machine.jobs c.args.cpu c.args.job) (sym c.self.view_is) c.requires in
    let e = c.index_mut-listed.result.now in
    let listed = slice_get_read m.jobs.items (length m.jobs.items) c.args.job e refl
    (job_within m.here m.programs.items m.jobs.items m.buffers.items c.self.invariant c.args.cpu c.args.job has.0
    (InHand has.1 has.2) has.3) c.index_mut-listed.ensures.value in
    can_put_back m.here m.programs.items m.jobs.items m.buffers.items c.self.invariant c.args.cpu c.args.job has.0 (InHand has.1 has.2)
    has.3 e listed c.index_mut.result.now c.index_mut.ensures.value c.exchange.new.self c.exchange.ensures.serves c.exchange.new.waiting
    c.exchange.ensures.before c.go_ahead-made.new.here.store c.index_mut-2.result.now c.index_mut-2.ensures.value

pub invariant_of-self : goal.invariant_of-self
invariant_of-self c =
    let m = c.self.inside in
    let has = subst (λ (s : BufferedState). HasInHand s.machine.jobs c.args.cpu c.args.job) (sym c.self.view_is) c.requires in
    let e = c.index_mut-listed.result.now in
    let listed = slice_get_read m.jobs.items (length m.jobs.items) c.args.job e refl
    (job_within m.here m.programs.items m.jobs.items m.buffers.items c.self.invariant c.args.cpu c.args.job has.0
    (InHand has.1 has.2) has.3) c.index_mut-listed.ensures.value in
    let fetched = slice_get_read m.programs.items (length m.programs.items) e.program c.index.result.now refl
    (program_within m.here m.programs.items m.jobs.items m.buffers.items c.self.invariant c.args.cpu c.args.job has.0
    (InHand has.1 has.2) has.3 e listed) c.index.ensures in
    let cpu = (c.go_ahead-made.ensures.cpu ∙ cpu_is m.here m.programs.items m.jobs.items m.buffers.items c.self.invariant c.args.cpu c.args.job
    has.0 (InHand has.1 has.2) has.3 e listed c.index_mut.result.now c.index_mut.ensures.value c.exchange.new.self
    c.exchange.ensures.serves c.exchange.new.waiting c.exchange.ensures.before) in
    board_now m.here m.programs.items m.jobs.items m.buffers.items c.self.invariant c.args.cpu c.args.job has.0 (InHand has.1 has.2) has.3 e
    listed c.index_mut.result.now c.index_mut.ensures.value c.exchange.new.self c.exchange.ensures.serves c.exchange.new.waiting
    c.exchange.ensures.before c.go_ahead-made.new.here c.go_ahead-made.ensures.cpu c.go_ahead-made.ensures.others c.go_ahead-made.new.self
    c.go_ahead-made.ensures.same c.index_mut-2.result.now c.index_mut-2.ensures.value c.exchange-2.new.self c.exchange-2.ensures.serves
    c.exchange-2.new.waiting c.exchange-2.ensures.before c.exchange-2.ensures.can_wait
    (only_one m.here m.programs.items m.jobs.items m.buffers.items c.self.invariant c.args.cpu c.args.job has.0 has.1 has.2 has.3 e
    listed c.index.result.now fetched)
    (still_fits m.here m.programs.items m.jobs.items m.buffers.items c.self.invariant c.args.cpu c.args.job has.0 has.1 has.2 has.3 e listed
    c.index.result.now fetched c.go_ahead-made.new.here c.exchange-2.new.self c.index_mut-2.result.now.items cpu c.exchange-2.ensures.serves
    c.go_ahead-made.new.self c.go_ahead-made.ensures.same None (slice_set m.jobs.items c.args.job c.go_ahead-made.new.self)
    (slice_set (slice_set m.buffers.items c.args.cpu c.exchange.new.waiting) c.args.cpu c.exchange-2.new.waiting) c.go_ahead-made.ensures.fits)
    (still_idle m.here m.programs.items m.jobs.items m.buffers.items c.self.invariant c.args.cpu c.args.job has.0 has.1 has.2 has.3 e listed
    c.index.result.now fetched c.go_ahead-made.new.here c.exchange-2.new.self c.index_mut-2.result.now.items cpu c.exchange-2.ensures.serves
    c.go_ahead-made.new.self c.go_ahead-made.ensures.same None c.go_ahead-made.ensures.fits)

pub invariant_of-self-2 : goal.invariant_of-self-2
invariant_of-self-2 c =
    let m = c.self.inside in
    let has = subst (λ (s : BufferedState). HasInHand s.machine.jobs c.args.cpu c.args.job) (sym c.self.view_is) c.requires in
    let e = c.index_mut-listed.result.now in
    let listed = slice_get_read m.jobs.items (length m.jobs.items) c.args.job e refl
    (job_within m.here m.programs.items m.jobs.items m.buffers.items c.self.invariant c.args.cpu c.args.job has.0
    (InHand has.1 has.2) has.3) c.index_mut-listed.ensures.value in
    let fetched = slice_get_read m.programs.items (length m.programs.items) e.program c.index.result.now refl
    (program_within m.here m.programs.items m.jobs.items m.buffers.items c.self.invariant c.args.cpu c.args.job has.0
    (InHand has.1 has.2) has.3 e listed) c.index.ensures in
    let cpu = (c.go_ahead-made.ensures.cpu ∙ cpu_is m.here m.programs.items m.jobs.items m.buffers.items c.self.invariant c.args.cpu c.args.job
    has.0 (InHand has.1 has.2) has.3 e listed c.index_mut.result.now c.index_mut.ensures.value c.exchange.new.self
    c.exchange.ensures.serves c.exchange.new.waiting c.exchange.ensures.before) in
    board_now m.here m.programs.items m.jobs.items m.buffers.items c.self.invariant c.args.cpu c.args.job has.0 (InHand has.1 has.2) has.3 e
    listed c.index_mut.result.now c.index_mut.ensures.value c.exchange.new.self c.exchange.ensures.serves c.exchange.new.waiting
    c.exchange.ensures.before c.go_ahead-made.new.here c.go_ahead-made.ensures.cpu c.go_ahead-made.ensures.others c.go_ahead-made.new.self
    c.go_ahead-made.ensures.same c.index_mut-2.result.now c.index_mut-2.ensures.value c.exchange-2.new.self c.exchange-2.ensures.serves
    c.exchange-2.new.waiting c.exchange-2.ensures.before c.exchange-2.ensures.can_wait
    (only_one m.here m.programs.items m.jobs.items m.buffers.items c.self.invariant c.args.cpu c.args.job has.0 has.1 has.2 has.3 e
    listed c.index.result.now fetched)
    (still_fits m.here m.programs.items m.jobs.items m.buffers.items c.self.invariant c.args.cpu c.args.job has.0 has.1 has.2 has.3 e listed
    c.index.result.now fetched c.go_ahead-made.new.here c.exchange-2.new.self c.index_mut-2.result.now.items cpu c.exchange-2.ensures.serves
    c.go_ahead-made.new.self c.go_ahead-made.ensures.same None (slice_set m.jobs.items c.args.job c.go_ahead-made.new.self)
    (slice_set (slice_set m.buffers.items c.args.cpu c.exchange.new.waiting) c.args.cpu c.exchange-2.new.waiting) c.go_ahead-made.ensures.fits)
    (still_idle m.here m.programs.items m.jobs.items m.buffers.items c.self.invariant c.args.cpu c.args.job has.0 has.1 has.2 has.3 e listed
    c.index.result.now fetched c.go_ahead-made.new.here c.exchange-2.new.self c.index_mut-2.result.now.items cpu c.exchange-2.ensures.serves
    c.go_ahead-made.new.self c.go_ahead-made.ensures.same None c.go_ahead-made.ensures.fits)

pub returns-clause-unseen : goal.returns-clause-unseen
returns-clause-unseen c =
    let m = c.self.inside in
    let has = subst (λ (s : BufferedState). HasInHand s.machine.jobs c.args.cpu c.args.job) (sym c.self.view_is) c.requires in
    let e = c.index_mut-listed.result.now in
    let listed = slice_get_read m.jobs.items (length m.jobs.items) c.args.job e refl
    (job_within m.here m.programs.items m.jobs.items m.buffers.items c.self.invariant c.args.cpu c.args.job has.0
    (InHand has.1 has.2) has.3) c.index_mut-listed.ensures.value in
    let fetched = slice_get_read m.programs.items (length m.programs.items) e.program c.index.result.now refl
    (program_within m.here m.programs.items m.jobs.items m.buffers.items c.self.invariant c.args.cpu c.args.job has.0
    (InHand has.1 has.2) has.3 e listed) c.index.ensures in
    let new : BufferedState = state_of c.exchange-2.new.self m.programs.items (slice_set m.jobs.items c.args.job c.go_ahead-made.new.self)
    (slice_set (slice_set m.buffers.items c.args.cpu c.exchange.new.waiting) c.args.cpu c.exchange-2.new.waiting) in
    subst (λ (s : BufferedState). RunsUnseen s c.args.cpu c.go_ahead-made.result new) c.self.view_is
    (ahead_now m.here m.programs.items m.jobs.items m.buffers.items c.self.invariant c.args.cpu c.args.job e listed
    c.index.result.now fetched c.index_mut.result.now c.index_mut.ensures.value c.exchange.new.self c.exchange.ensures.serves
    c.exchange.new.waiting c.exchange.ensures.before c.go_ahead-made.new.here c.go_ahead-made.ensures.cpu c.go_ahead-made.ensures.others
    c.go_ahead-made.new.self c.go_ahead-made.ensures.same c.index_mut-2.result.now c.index_mut-2.ensures.value c.exchange-2.new.self
    c.exchange-2.ensures.serves c.exchange-2.new.waiting c.exchange-2.ensures.before has.0 has.1 has.2 has.3
    (sym c.is_lost.ensures ∙ c.if-is_lost.false) c.go_ahead-made.result c.go_ahead-made.ensures.ahead)

pub returns-clause-host : goal.returns-clause-host
returns-clause-host c =
    let m = c.self.inside in
    let z = c.exchange-2.new.self in
    let jobs = slice_set m.jobs.items c.args.job c.go_ahead-made.new.self in
    let others = c.go_ahead-made.ensures.others in
    subst (λ (s : BufferedState). IsSameHost s.machine (state_of z m.programs.items jobs m.buffers.items).machine) c.self.view_is
    (host_through m.here c.exchange.new.self c.go_ahead-made.new.here z m.programs.items m.jobs.items jobs m.buffers.items m.buffers.items
    (ap (λ (a : WaitingContents). a.store) c.exchange.ensures.serves) others.shape others.serves
    (ap (λ (a : WaitingContents). a.store) c.exchange-2.ensures.serves) (length-set m.jobs.items c.args.job c.go_ahead-made.new.self))

pub returns-then-is_lost-clause-host : goal.returns-then-is_lost-clause-host
returns-then-is_lost-clause-host c =
    let m = c.self.inside in
    let z = c.exchange-2.new.self in
    let jobs = slice_set m.jobs.items c.args.job c.go_ahead-made.new.self in
    let others = c.go_ahead-made.ensures.others in
    subst (λ (s : BufferedState). IsSameHost s.machine (state_of z m.programs.items jobs m.buffers.items).machine) c.self.view_is
    (host_through m.here c.exchange.new.self c.go_ahead-made.new.here z m.programs.items m.jobs.items jobs m.buffers.items m.buffers.items
    (ap (λ (a : WaitingContents). a.store) c.exchange.ensures.serves) others.shape others.serves
    (ap (λ (a : WaitingContents). a.store) c.exchange-2.ensures.serves) (length-set m.jobs.items c.args.job c.go_ahead-made.new.self))
