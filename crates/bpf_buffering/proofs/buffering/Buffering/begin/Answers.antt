use Rattle.std.proofs.Common.{length, refl, sym, ap, subst, ◌∙◌, arith}
use Rattle.std.specs.Prelude.{slice_set}
use Rattle.std.proofs.lemmas.List.{length-set}
use Rattle.std.proofs.lemmas.Option.{slice_get_read}
use Rattle.bpf_cpu.specs.Task.{Waiting}
use Rattle.bpf_machine.specs.Hands.{IsFree}
use Rattle.bpf_machine.specs.Parts.{IsSameHost}
use Rattle.bpf_buffering.specs.Search.{BufferedState}
use Rattle.bpf_plain.specs.PlainStore.{has_cpu, is_running}
use Rattle.bpf_buffering.specs.Waiting.{WaitingContents}
use Rattle.bpf_buffering.specs.Jobs.{IsLowest, waits}
use Rattle.bpf_buffering.specs.Buffering.{state_of, Begins}
use Rattle.bpf_buffering.proofs.Keeping.{host_through}
use Rattle.bpf_buffering.proofs.Placing.{cpu_within, served, job_within, program_within, stage_was, can_take, cpu_is}
use Rattle.bpf_buffering.proofs.Placing.{can_put_back, board_now}
use Rattle.bpf_buffering.proofs.Proceeding.{begin_leaves, begins_now, begun_fits, begun_not_idle}
use Rattle.bpf_buffering.proofs.Stepping.{serves_its}
use Rattle.bpf_buffering.proofs.buffering.Buffering.begin.Goals as goal

pub index_mut-requires : goal.index_mut-requires
index_mut-requires c =
    let m = c.self.inside in
    let low = subst (λ (s : BufferedState). IsLowest s.machine.jobs c.args.cpu c.args.job) (sym c.self.view_is) c.requires.lowest in
    let has = low.0 in
    omega (
      arith,
      cpu_within m.here m.programs.items m.jobs.items m.buffers.items c.self.invariant c.args.cpu c.args.job has.0
          (Waiting has.1) has.2,
      m.buffers.ok.0,
    )

pub exchange-requires : goal.exchange-requires
exchange-requires c =
    let m = c.self.inside in
    let low = subst (λ (s : BufferedState). IsLowest s.machine.jobs c.args.cpu c.args.job) (sym c.self.view_is) c.requires.lowest in
    let has = low.0 in
    can_take m.here m.programs.items m.jobs.items m.buffers.items c.self.invariant c.args.cpu c.args.job has.0 (Waiting has.1) has.2
    c.index_mut.result.now c.index_mut.ensures.value

pub index_mut-listed-requires : goal.index_mut-listed-requires
index_mut-listed-requires c =
    let m = c.self.inside in
    let low = subst (λ (s : BufferedState). IsLowest s.machine.jobs c.args.cpu c.args.job) (sym c.self.view_is) c.requires.lowest in
    let has = low.0 in
    omega (
      arith,
      job_within m.here m.programs.items m.jobs.items m.buffers.items c.self.invariant c.args.cpu c.args.job has.0
          (Waiting has.1) has.2,
      m.jobs.ok.0,
    )

pub index-requires : goal.index-requires
index-requires c =
    let m = c.self.inside in
    let low = subst (λ (s : BufferedState). IsLowest s.machine.jobs c.args.cpu c.args.job) (sym c.self.view_is) c.requires.lowest in
    let has = low.0 in
    let e = c.index_mut-listed.result.now in
    let listed = slice_get_read m.jobs.items (length m.jobs.items) c.args.job e refl
    (job_within m.here m.programs.items m.jobs.items m.buffers.items c.self.invariant c.args.cpu c.args.job has.0 (Waiting has.1)
    has.2) c.index_mut-listed.ensures.value in
    omega (
      arith,
      program_within m.here m.programs.items m.jobs.items m.buffers.items c.self.invariant c.args.cpu c.args.job has.0
          (Waiting has.1) has.2 e listed,
      m.programs.ok.0,
    )

pub begin-requires : goal.begin-requires
begin-requires c =
    let m = c.self.inside in
    let low = subst (λ (s : BufferedState). IsLowest s.machine.jobs c.args.cpu c.args.job) (sym c.self.view_is) c.requires.lowest in
    let has = low.0 in
    let e = c.index_mut-listed.result.now in
    let listed = slice_get_read m.jobs.items (length m.jobs.items) c.args.job e refl
    (job_within m.here m.programs.items m.jobs.items m.buffers.items c.self.invariant c.args.cpu c.args.job has.0 (Waiting has.1)
    has.2) c.index_mut-listed.ensures.value in
    ap waits (stage_was m.here m.programs.items m.jobs.items m.buffers.items c.self.invariant c.args.cpu c.args.job has.0 (Waiting has.1) has.2 e listed)

pub begin-requires-2-clause-serves : goal.begin-requires-2-clause-serves
begin-requires-2-clause-serves c =
    let m = c.self.inside in
    let low = subst (λ (s : BufferedState). IsLowest s.machine.jobs c.args.cpu c.args.job) (sym c.self.view_is) c.requires.lowest in
    let has = low.0 in
    let e = c.index_mut-listed.result.now in
    let listed = slice_get_read m.jobs.items (length m.jobs.items) c.args.job e refl
    (job_within m.here m.programs.items m.jobs.items m.buffers.items c.self.invariant c.args.cpu c.args.job has.0 (Waiting has.1)
    has.2) c.index_mut-listed.ensures.value in
    let cpu = cpu_is m.here m.programs.items m.jobs.items m.buffers.items c.self.invariant c.args.cpu c.args.job has.0 (Waiting has.1) has.2
    e listed c.index_mut.result.now c.index_mut.ensures.value c.exchange.new.self c.exchange.ensures.serves c.exchange.new.waiting
    c.exchange.ensures.before in
    serves_its c.exchange.new.self c.args.cpu (sym cpu) (ap (λ (x : WaitingContents). has_cpu x.store x.cpu) c.exchange.ensures.serves ∙
    served m.here m.programs.items m.jobs.items m.buffers.items c.self.invariant c.args.cpu c.args.job has.0 (Waiting has.1) has.2)

pub begin-requires-2-clause-idle : goal.begin-requires-2-clause-idle
begin-requires-2-clause-idle c =
    let m = c.self.inside in
    let low = subst (λ (s : BufferedState). IsLowest s.machine.jobs c.args.cpu c.args.job) (sym c.self.view_is) c.requires.lowest in
    let has = low.0 in
    let free = subst (λ (s : BufferedState). IsFree s.machine.jobs c.args.cpu) (sym c.self.view_is) c.requires.free in
    ap (λ (x : WaitingContents). is_running x.store c.args.cpu) c.exchange.ensures.serves ∙ c.self.invariant.stands.idle c.args.cpu free

pub index_mut-requires-2 : goal.index_mut-requires-2
index_mut-requires-2 c =
    let m = c.self.inside in
    let low = subst (λ (s : BufferedState). IsLowest s.machine.jobs c.args.cpu c.args.job) (sym c.self.view_is) c.requires.lowest in
    let has = low.0 in
    let e = c.index_mut-listed.result.now in
    let listed = slice_get_read m.jobs.items (length m.jobs.items) c.args.job e refl
    (job_within m.here m.programs.items m.jobs.items m.buffers.items c.self.invariant c.args.cpu c.args.job has.0 (Waiting has.1)
    has.2) c.index_mut-listed.ensures.value in
    omega (
      arith,
      cpu_within m.here m.programs.items m.jobs.items m.buffers.items c.self.invariant c.args.cpu c.args.job has.0
          (Waiting has.1) has.2,
      m.buffers.ok.0,
    )

pub exchange-requires-2 : goal.exchange-requires-2
exchange-requires-2 c =
    let m = c.self.inside in
    let low = subst (λ (s : BufferedState). IsLowest s.machine.jobs c.args.cpu c.args.job) (sym c.self.view_is) c.requires.lowest in
    let has = low.0 in
    let e = c.index_mut-listed.result.now in
    let listed = slice_get_read m.jobs.items (length m.jobs.items) c.args.job e refl
    (job_within m.here m.programs.items m.jobs.items m.buffers.items c.self.invariant c.args.cpu c.args.job has.0 (Waiting has.1)
    has.2) c.index_mut-listed.ensures.value in
    can_put_back m.here m.programs.items m.jobs.items m.buffers.items c.self.invariant c.args.cpu c.args.job has.0 (Waiting has.1) has.2 e
    listed c.index_mut.result.now c.index_mut.ensures.value c.exchange.new.self c.exchange.ensures.serves c.exchange.new.waiting
    c.exchange.ensures.before c.begin-2.new.self.store c.index_mut-2.result.now c.index_mut-2.ensures.value

pub invariant_of-self : goal.invariant_of-self
invariant_of-self c =
    let m = c.self.inside in
    let low = subst (λ (s : BufferedState). IsLowest s.machine.jobs c.args.cpu c.args.job) (sym c.self.view_is) c.requires.lowest in
    let has = low.0 in
    let e = c.index_mut-listed.result.now in
    let listed = slice_get_read m.jobs.items (length m.jobs.items) c.args.job e refl
    (job_within m.here m.programs.items m.jobs.items m.buffers.items c.self.invariant c.args.cpu c.args.job has.0 (Waiting has.1)
    has.2) c.index_mut-listed.ensures.value in
    let fetched = slice_get_read m.programs.items (length m.programs.items) e.program c.index.result.now refl
    (program_within m.here m.programs.items m.jobs.items m.buffers.items c.self.invariant c.args.cpu c.args.job has.0
    (Waiting has.1) has.2 e listed) c.index.ensures in
    let cpu = cpu_is m.here m.programs.items m.jobs.items m.buffers.items c.self.invariant c.args.cpu c.args.job has.0 (Waiting has.1) has.2
    e listed c.index_mut.result.now c.index_mut.ensures.value c.exchange.new.self c.exchange.ensures.serves c.exchange.new.waiting
    c.exchange.ensures.before in
    let others = begin_leaves c.exchange.new.self c.begin-2.new.self c.args.cpu cpu c.in-Ok.ensures.begun c.begin-2.ensures.same.0
    c.in-Ok.ensures.running c.in-Ok.ensures.held in
    let same = c.in-Ok.ensures.begun.passage.2.cpu in
    let free = subst (λ (s : BufferedState). IsFree s.machine.jobs c.args.cpu) (sym c.self.view_is) c.requires.free in
    board_now m.here m.programs.items m.jobs.items m.buffers.items c.self.invariant c.args.cpu c.args.job has.0 (Waiting has.1) has.2 e
    listed c.index_mut.result.now c.index_mut.ensures.value c.exchange.new.self c.exchange.ensures.serves c.exchange.new.waiting
    c.exchange.ensures.before c.begin-2.new.self same others c.begin.new.self c.begin.ensures.same c.index_mut-2.result.now
    c.index_mut-2.ensures.value c.exchange-2.new.self c.exchange-2.ensures.serves c.exchange-2.new.waiting c.exchange-2.ensures.before
    c.exchange-2.ensures.can_wait (λ i ne other. free i other.0 other.1 other.2 other.3)
    (begun_fits m.here m.programs.items m.jobs.items m.buffers.items c.self.invariant c.args.cpu c.args.job e listed c.index.result.now
    fetched c.index_mut.result.now c.index_mut.ensures.value c.exchange.new.self c.exchange.ensures.serves c.exchange.new.waiting
    c.exchange.ensures.before c.begin-2.new.self same others c.begin.new.self c.begin.ensures.same c.index_mut-2.result.now
    c.index_mut-2.ensures.value c.exchange-2.new.self c.exchange-2.ensures.serves c.exchange-2.new.waiting c.exchange-2.ensures.before
    has.0 has.1 has.2 c.begin.ensures.stage c.starts.ensures c.in-Ok.ensures.running
    (slice_set m.jobs.items c.args.job c.begin.new.self) (slice_set (slice_set m.buffers.items c.args.cpu c.exchange.new.waiting)
    c.args.cpu c.exchange-2.new.waiting))
    (begun_not_idle m.here m.programs.items m.jobs.items m.buffers.items c.self.invariant c.args.cpu c.args.job e listed c.index.result.now
    fetched c.index_mut.result.now c.index_mut.ensures.value c.exchange.new.self c.exchange.ensures.serves c.exchange.new.waiting
    c.exchange.ensures.before c.begin-2.new.self same others c.begin.new.self c.begin.ensures.same c.index_mut-2.result.now
    c.index_mut-2.ensures.value c.exchange-2.new.self c.exchange-2.ensures.serves c.exchange-2.new.waiting c.exchange-2.ensures.before
    has.0 has.1 has.2 c.begin.ensures.stage)

pub invariant_of-self-2 : goal.invariant_of-self-2
invariant_of-self-2 c =
    let m = c.self.inside in
    let low = subst (λ (s : BufferedState). IsLowest s.machine.jobs c.args.cpu c.args.job) (sym c.self.view_is) c.requires.lowest in
    let has = low.0 in
    let e = c.index_mut-listed.result.now in
    let listed = slice_get_read m.jobs.items (length m.jobs.items) c.args.job e refl
    (job_within m.here m.programs.items m.jobs.items m.buffers.items c.self.invariant c.args.cpu c.args.job has.0 (Waiting has.1)
    has.2) c.index_mut-listed.ensures.value in
    let fetched = slice_get_read m.programs.items (length m.programs.items) e.program c.index.result.now refl
    (program_within m.here m.programs.items m.jobs.items m.buffers.items c.self.invariant c.args.cpu c.args.job has.0
    (Waiting has.1) has.2 e listed) c.index.ensures in
    let cpu = cpu_is m.here m.programs.items m.jobs.items m.buffers.items c.self.invariant c.args.cpu c.args.job has.0 (Waiting has.1) has.2
    e listed c.index_mut.result.now c.index_mut.ensures.value c.exchange.new.self c.exchange.ensures.serves c.exchange.new.waiting
    c.exchange.ensures.before in
    let others = begin_leaves c.exchange.new.self c.begin-2.new.self c.args.cpu cpu c.in-Ok.ensures.begun c.begin-2.ensures.same.0
    c.in-Ok.ensures.running c.in-Ok.ensures.held in
    let same = c.in-Ok.ensures.begun.passage.2.cpu in
    let free = subst (λ (s : BufferedState). IsFree s.machine.jobs c.args.cpu) (sym c.self.view_is) c.requires.free in
    board_now m.here m.programs.items m.jobs.items m.buffers.items c.self.invariant c.args.cpu c.args.job has.0 (Waiting has.1) has.2 e
    listed c.index_mut.result.now c.index_mut.ensures.value c.exchange.new.self c.exchange.ensures.serves c.exchange.new.waiting
    c.exchange.ensures.before c.begin-2.new.self same others c.begin.new.self c.begin.ensures.same c.index_mut-2.result.now
    c.index_mut-2.ensures.value c.exchange-2.new.self c.exchange-2.ensures.serves c.exchange-2.new.waiting c.exchange-2.ensures.before
    c.exchange-2.ensures.can_wait (λ i ne other. free i other.0 other.1 other.2 other.3)
    (begun_fits m.here m.programs.items m.jobs.items m.buffers.items c.self.invariant c.args.cpu c.args.job e listed c.index.result.now
    fetched c.index_mut.result.now c.index_mut.ensures.value c.exchange.new.self c.exchange.ensures.serves c.exchange.new.waiting
    c.exchange.ensures.before c.begin-2.new.self same others c.begin.new.self c.begin.ensures.same c.index_mut-2.result.now
    c.index_mut-2.ensures.value c.exchange-2.new.self c.exchange-2.ensures.serves c.exchange-2.new.waiting c.exchange-2.ensures.before
    has.0 has.1 has.2 c.begin.ensures.stage c.starts.ensures c.in-Ok.ensures.running
    (slice_set m.jobs.items c.args.job c.begin.new.self) (slice_set (slice_set m.buffers.items c.args.cpu c.exchange.new.waiting)
    c.args.cpu c.exchange-2.new.waiting))
    (begun_not_idle m.here m.programs.items m.jobs.items m.buffers.items c.self.invariant c.args.cpu c.args.job e listed c.index.result.now
    fetched c.index_mut.result.now c.index_mut.ensures.value c.exchange.new.self c.exchange.ensures.serves c.exchange.new.waiting
    c.exchange.ensures.before c.begin-2.new.self same others c.begin.new.self c.begin.ensures.same c.index_mut-2.result.now
    c.index_mut-2.ensures.value c.exchange-2.new.self c.exchange-2.ensures.serves c.exchange-2.new.waiting c.exchange-2.ensures.before
    has.0 has.1 has.2 c.begin.ensures.stage)

pub returns-clause-begins : goal.returns-clause-begins
returns-clause-begins c =
    let m = c.self.inside in
    let low = subst (λ (s : BufferedState). IsLowest s.machine.jobs c.args.cpu c.args.job) (sym c.self.view_is) c.requires.lowest in
    let has = low.0 in
    let e = c.index_mut-listed.result.now in
    let listed = slice_get_read m.jobs.items (length m.jobs.items) c.args.job e refl
    (job_within m.here m.programs.items m.jobs.items m.buffers.items c.self.invariant c.args.cpu c.args.job has.0 (Waiting has.1)
    has.2) c.index_mut-listed.ensures.value in
    let fetched = slice_get_read m.programs.items (length m.programs.items) e.program c.index.result.now refl
    (program_within m.here m.programs.items m.jobs.items m.buffers.items c.self.invariant c.args.cpu c.args.job has.0
    (Waiting has.1) has.2 e listed) c.index.ensures in
    let cpu = cpu_is m.here m.programs.items m.jobs.items m.buffers.items c.self.invariant c.args.cpu c.args.job has.0 (Waiting has.1) has.2
    e listed c.index_mut.result.now c.index_mut.ensures.value c.exchange.new.self c.exchange.ensures.serves c.exchange.new.waiting
    c.exchange.ensures.before in
    let others = begin_leaves c.exchange.new.self c.begin-2.new.self c.args.cpu cpu c.in-Ok.ensures.begun c.begin-2.ensures.same.0
    c.in-Ok.ensures.running c.in-Ok.ensures.held in
    let same = c.in-Ok.ensures.begun.passage.2.cpu in
    let served = serves_its c.exchange.new.self c.args.cpu (sym cpu)
    (ap (λ (x : WaitingContents). has_cpu x.store x.cpu) c.exchange.ensures.serves ∙ served m.here m.programs.items m.jobs.items
    m.buffers.items c.self.invariant c.args.cpu c.args.job has.0 (Waiting has.1) has.2) in
    let new : BufferedState = state_of c.exchange-2.new.self m.programs.items (slice_set m.jobs.items c.args.job c.begin.new.self)
    (slice_set (slice_set m.buffers.items c.args.cpu c.exchange.new.waiting) c.args.cpu c.exchange-2.new.waiting) in
    subst (λ (s : BufferedState). Begins s c.args.cpu c.args.job new) c.self.view_is
    (begins_now m.here m.programs.items m.jobs.items m.buffers.items c.self.invariant c.args.cpu c.args.job e listed c.index.result.now
    fetched c.index_mut.result.now c.index_mut.ensures.value c.exchange.new.self c.exchange.ensures.serves c.exchange.new.waiting
    c.exchange.ensures.before c.begin-2.new.self same others c.begin.new.self c.begin.ensures.same c.index_mut-2.result.now
    c.index_mut-2.ensures.value c.exchange-2.new.self c.exchange-2.ensures.serves c.exchange-2.new.waiting c.exchange-2.ensures.before
    has.0 has.1 has.2 c.begin.ensures.stage (sym c.is_lost.ensures ∙ c.if-is_lost.false) served c.in-Ok.ensures.begun c.begin-2.ensures.same.1)

pub returns-clause-host : goal.returns-clause-host
returns-clause-host c =
    let m = c.self.inside in
    let z = c.exchange-2.new.self in
    let jobs = slice_set m.jobs.items c.args.job c.begin.new.self in
    subst (λ (s : BufferedState). IsSameHost s.machine (state_of z m.programs.items jobs m.buffers.items).machine) c.self.view_is
    (host_through m.here c.exchange.new.self c.begin-2.new.self z m.programs.items m.jobs.items jobs m.buffers.items m.buffers.items
    (ap (λ (a : WaitingContents). a.store) c.exchange.ensures.serves) c.begin-2.ensures.same.0 c.in-Ok.ensures.begun.passage.2.serves
    (ap (λ (a : WaitingContents). a.store) c.exchange-2.ensures.serves) (length-set m.jobs.items c.args.job c.begin.new.self))

pub returns-then-is_lost-clause-host : goal.returns-then-is_lost-clause-host
returns-then-is_lost-clause-host c =
    let m = c.self.inside in
    let z = c.exchange-2.new.self in
    let jobs = slice_set m.jobs.items c.args.job c.begin.new.self in
    subst (λ (s : BufferedState). IsSameHost s.machine (state_of z m.programs.items jobs m.buffers.items).machine) c.self.view_is
    (host_through m.here c.exchange.new.self c.begin-2.new.self z m.programs.items m.jobs.items jobs m.buffers.items m.buffers.items
    (ap (λ (a : WaitingContents). a.store) c.exchange.ensures.serves) c.begin-2.ensures.same.0 c.in-Ok.ensures.begun.passage.2.serves
    (ap (λ (a : WaitingContents). a.store) c.exchange-2.ensures.serves) (length-set m.jobs.items c.args.job c.begin.new.self))
