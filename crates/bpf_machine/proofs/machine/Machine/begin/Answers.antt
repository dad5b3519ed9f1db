use Rattle.std.proofs.Common.{ℕ, Bool, Some, length, refl, sym, ap, subst, ◌∙◌, arith}
use Rattle.std.specs.Prelude.{slice_set}
use Rattle.bpf_shared.specs.Shape.{Shape}
use Rattle.bpf_plain.specs.PlainStore.{shapes_of}
use Rattle.std.proofs.lemmas.List.{length-set}
use Rattle.bpf_shared.specs.declared.events.Event.TheVariants.{Begin}
use Rattle.bpf_machine.specs.declared.machine.lane.Hand.{Hand}
use Rattle.bpf_machine.specs.declared.machine.lane.Listed.{Listed}
use Rattle.bpf_machine.specs.Machine.{MachineState}
use Rattle.bpf_machine.specs.Private.Lanes.{tasks_of}
use Rattle.bpf_machine.specs.Private.KeyLists.{listings}
use Rattle.bpf_machine.proofs.KeyListLaws.{still_fit}
use Rattle.bpf_machine.specs.Work.{BeginsJob}
use Rattle.bpf_machine.specs.Parts.{IsSameHost}
use Rattle.bpf_machine.proofs.HostLaws.{same_count}
use Rattle.bpf_machine.proofs.OwnEvents.{call_leads}
use Rattle.bpf_machine.proofs.BeginLaws.{next_job, lane_within, job_within, listed, program_within, serves, idle, waiting, begun_tasks, begun_board}
use Rattle.bpf_machine.proofs.machine.Machine.begin.Goals as goal

pub index_mut-lane-requires : goal.index_mut-lane-requires
index_mut-lane-requires c =
    let m = c.self.inside in
    let next = next_job _ _ c.args.cpu c.args.job c.self.view_is c.requires in
    omega (arith, lane_within m.store m.programs.items m.jobs.items m.lanes.items c.self.invariant.0 c.args.cpu c.args.job next, m.lanes.ok.0)

pub index_mut-listed-requires : goal.index_mut-listed-requires
index_mut-listed-requires c =
    let m = c.self.inside in
    let next = next_job _ _ c.args.cpu c.args.job c.self.view_is c.requires in
    omega (arith, job_within m.store m.programs.items m.jobs.items m.lanes.items c.self.invariant.0 c.args.cpu c.args.job next, m.jobs.ok.0)

pub index-requires : goal.index-requires
index-requires c =
    let m = c.self.inside in
    let next = next_job _ _ c.args.cpu c.args.job c.self.view_is c.requires in
    omega (
      arith,
      program_within m.store m.programs.items m.jobs.items m.lanes.items c.self.invariant.0 c.args.cpu c.args.job next _
          c.index_mut-listed.ensures.value,
      m.programs.ok.0,
    )

pub unreachable-requires : goal.unreachable-requires
unreachable-requires c =
    let m = c.self.inside in
    let next = next_job _ _ c.args.cpu c.args.job c.self.view_is c.requires in
    let w = waiting m.store m.programs.items m.jobs.items m.lanes.items c.self.invariant.0 c.args.cpu c.args.job next _ c.index_mut-listed.ensures.value in
    c.in_default.not-Waiting w.0 (c.replace.ensures.value ∙ w.1)

pub overflow_add-job : goal.overflow_add-job
overflow_add-job c =
    let m = c.self.inside in
    let next = next_job _ _ c.args.cpu c.args.job c.self.view_is c.requires in
    omega (arith, job_within m.store m.programs.items m.jobs.items m.lanes.items c.self.invariant.0 c.args.cpu c.args.job next, m.jobs.ok.0)

pub first_job-lane-requires : goal.first_job-lane-requires
first_job-lane-requires c =
    let m = c.self.inside in
    let next = next_job _ _ c.args.cpu c.args.job c.self.view_is c.requires in
    let same = ap (length {A = Listed}) c.deref.ensures.value ∙ length-set m.jobs.items c.args.job _ in
    omega (arith, same, job_within m.store m.programs.items m.jobs.items m.lanes.items c.self.invariant.0 c.args.cpu c.args.job next)

pub begin-requires-clause-serves : goal.begin-requires-clause-serves
begin-requires-clause-serves c =
    let m = c.self.inside in
    let next = next_job _ _ c.args.cpu c.args.job c.self.view_is c.requires in
    serves m.store m.programs.items m.jobs.items m.lanes.items c.self.invariant.0 c.args.cpu c.args.job next

pub begin-requires-clause-idle : goal.begin-requires-clause-idle
begin-requires-clause-idle c =
    let m = c.self.inside in
    let next = next_job _ _ c.args.cpu c.args.job c.self.view_is c.requires in
    idle m.store m.programs.items m.jobs.items m.lanes.items c.self.invariant.0 c.args.cpu c.args.job next

pub invariant_of-self : goal.invariant_of-self
invariant_of-self c =
    let m = c.self.inside in
    let next = next_job _ _ c.args.cpu c.args.job c.self.view_is c.requires in
    let e = c.index_mut-listed.result.now in
    let e' : Listed = record { cpu = e.cpu; program = e.program; budget = e.budget; phase = c.replace.new.dest } in
    let entry = listed m.store m.programs.items m.jobs.items m.lanes.items c.self.invariant.0 c.args.cpu c.args.job next _ c.index_mut-listed.ensures.value in (
      begun_board m.store m.programs.items m.jobs.items m.lanes.items c.self.invariant.0 c.args.cpu c.args.job next _
          c.index_mut-listed.ensures.value _ c.index_mut-lane.ensures.value c.replace.new.dest c.replace.ensures.after
          c.in-Waiting.input (sym c.replace.ensures.value ∙ c.in-Waiting.is) c.new-start.result c.new-start.ensures _ c.deref.ensures.value
          c.first_job-lane.result c.first_job-lane.ensures
          c.begin.new.self c.in-Ok.ensures.same.1 c.in-Ok.ensures.running c.in-Ok.ensures.held _ c.index.ensures c.starts.ensures,
      still_fit (shapes_of m.store) (shapes_of c.begin.new.self) m.jobs.items c.args.job e e' m.keys m.lists.items
          (ap (λ (h : Shape). h.maps) c.in-Ok.ensures.same.0) entry refl c.self.invariant.1,
    )

pub returns-clause-begins : goal.returns-clause-begins
returns-clause-begins c =
    let m = c.self.inside in
    let next = next_job _ _ c.args.cpu c.args.job c.self.view_is c.requires in
    let e = c.index_mut-listed.result.now in
    let hand : Hand = record { job = c.args.job; cpu = c.new-start.result; left = e.budget } in
    let lanes = slice_set m.lanes.items c.args.cpu (record { hand = Some hand; rest = c.index_mut-lane.result.now.rest; next = c.first_job-lane.result }) in
    let jobs = slice_set m.jobs.items c.args.job (record { cpu = e.cpu; program = e.program; budget = e.budget; phase = c.replace.new.dest }) in
    let new : MachineState = record {
      store = c.begin.new.self;
      programs = m.programs.items;
      jobs = tasks_of lanes jobs;
      lists = listings
          m.keys m.lists.items;
    } in
    let B : MachineState → Type 0 = λ s. BeginsJob s c.args.cpu c.args.job new in
    subst B c.self.view_is (
      next.1.0,
      next.1.1,
      next.1.2,
      refl,
      begun_tasks m.store m.programs.items m.jobs.items m.lanes.items c.self.invariant.0 c.args.cpu c.args.job next _
          c.index_mut-listed.ensures.value _ c.index_mut-lane.ensures.value c.replace.new.dest c.replace.ensures.after
          c.in-Waiting.input (sym c.replace.ensures.value ∙ c.in-Waiting.is) c.new-start.result c.new-start.ensures _ c.deref.ensures.value
          c.first_job-lane.result c.first_job-lane.ensures,
      call_leads m.store c.begin.new.self c.args.cpu Begin (serves m.store m.programs.items m.jobs.items m.lanes.items c.self.invariant.0
          c.args.cpu c.args.job next) c.in-Ok.ensures.begun c.in-Ok.ensures.same.1,
      refl,
    )

pub returns-clause-same : goal.returns-clause-same
returns-clause-same c =
    let m = c.self.inside in
    let e = c.index_mut-listed.result.now in
    let hand : Hand = record { job = c.args.job; cpu = c.new-start.result; left = e.budget } in
    let lanes = slice_set m.lanes.items c.args.cpu (record { hand = Some hand; rest = c.index_mut-lane.result.now.rest; next = c.first_job-lane.result }) in
    let jobs = slice_set m.jobs.items c.args.job (record { cpu = e.cpu; program = e.program; budget = e.budget; phase = c.replace.new.dest }) in
    let new : MachineState = record {
      store = c.begin.new.self;
      programs = m.programs.items;
      jobs = tasks_of lanes jobs;
      lists = listings
          m.keys m.lists.items;
    } in
    let H : MachineState → Type 0 = λ s. IsSameHost s new in
    subst H c.self.view_is (record {
      programs = refl;
      jobs = same_count m.lanes.items lanes m.jobs.items c.args.job
          (record { cpu = e.cpu; program = e.program; budget = e.budget; phase = c.replace.new.dest });
      shape = (λ n. ap (λ (f : ℕ → Bool). f n) c.in-Ok.ensures.same.1, c.in-Ok.ensures.same.0);
      lists = λ none. none;
    })
