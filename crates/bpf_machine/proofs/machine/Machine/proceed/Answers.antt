use Rattle.std.proofs.Common.{◌≡◌, ℕ, Some, refl, sym, ap, subst, ◌∙◌, Bool, true, false, List, arith}
use Rattle.std.specs.Prelude.{slice_set}
use Rattle.bpf_shared.specs.Shape.{Shape}
use Rattle.bpf_shared.specs.Store.{put}
use Rattle.bpf_shared.specs.declared.events.Span.{Span}
use Rattle.bpf_plain.specs.PlainStore.{has_cpu, is_running, held_spans, shapes_of}
use Rattle.bpf_shared.specs.declared.events.Event.TheVariants.{End}
use Rattle.bpf_helpers.specs.Held.{AreHeld}
use Rattle.bpf_machine.specs.declared.machine.lane.Listed.{Listed}
use Rattle.bpf_machine.specs.declared.machine.lane.Phase.TheVariants.{Ended}
use Rattle.bpf_machine.specs.declared.machine.Turn.TheVariants.{Ran}
use Rattle.bpf_machine.specs.declared.machine.Turn.TheVariants as turn
use Rattle.bpf_machine.specs.Machine.{MachineState}
use Rattle.bpf_machine.specs.Private.Lanes.{tasks_of}
use Rattle.bpf_machine.specs.Private.KeyLists.{listings}
use Rattle.bpf_machine.proofs.KeyListLaws.{still_fit}
use Rattle.bpf_machine.specs.Work.{Proceeds}
use Rattle.bpf_machine.specs.Private.Turns.{StaysOrEnds}
use Rattle.bpf_cpu.specs.Task.{Task}
use Rattle.bpf_machine.specs.Parts.{IsSameHost}
use Rattle.bpf_machine.proofs.HostLaws.{same_count, same_host_still}
use Rattle.bpf_cpu.proofs.HeldLaws.{others_without}
use Rattle.bpf_machine.proofs.OwnEvents.{call_leads}
use Rattle.bpf_machine.proofs.ProceedLaws.{job_in_hand, lane_within, job_within, serves, running, never_empty, number, program_within}
use Rattle.bpf_machine.proofs.ProceedLaws.{listed, held_now, ready, kept_board, ended_board, ended_job, ended_free, proceeds_kept}
use Rattle.bpf_machine.proofs.ProceedLaws.{proceeds_ended, kept_stays, ended_stays}
use Rattle.bpf_machine.proofs.machine.Machine.proceed.Goals as goal

pub index_mut-lane-requires : goal.index_mut-lane-requires
index_mut-lane-requires c =
    let m = c.self.inside in
    let has = job_in_hand _ _ c.args.cpu c.args.job c.self.view_is c.requires in
    omega (arith, lane_within m.store m.programs.items m.jobs.items m.lanes.items c.self.invariant.0 c.args.cpu c.args.job has, m.lanes.ok.0)

pub unreachable-requires : goal.unreachable-requires
unreachable-requires c =
    let m = c.self.inside in
    let has = job_in_hand _ _ c.args.cpu c.args.job c.self.view_is c.requires in
    never_empty m.store m.programs.items m.jobs.items m.lanes.items c.self.invariant.0 c.args.cpu c.args.job has _
    c.index_mut-lane.ensures.value c.in_default.is

pub index_mut-listed-requires : goal.index_mut-listed-requires
index_mut-listed-requires c =
    let m = c.self.inside in
    let has = job_in_hand _ _ c.args.cpu c.args.job c.self.view_is c.requires in
    omega (arith, job_within m.store m.programs.items m.jobs.items m.lanes.items c.self.invariant.0 c.args.cpu c.args.job has, m.jobs.ok.0)

pub index-requires : goal.index-requires
index-requires c =
    let m = c.self.inside in
    let has = job_in_hand _ _ c.args.cpu c.args.job c.self.view_is c.requires in
    omega (
      arith,
      program_within m.store m.programs.items m.jobs.items m.lanes.items c.self.invariant.0 c.args.cpu c.args.job has _
          c.index_mut-lane.ensures.value _ c.in-Some.is _ c.index_mut-listed.ensures.value,
      m.programs.ok.0,
    )

pub advance-requires-clause-ready : goal.advance-requires-clause-ready
advance-requires-clause-ready c =
    let m = c.self.inside in
    let has = job_in_hand _ _ c.args.cpu c.args.job c.self.view_is c.requires in
    ready m.store m.programs.items m.jobs.items m.lanes.items c.self.invariant.0 c.args.cpu c.args.job has _ c.index_mut-lane.ensures.value
    _ c.in-Some.is _ c.index_mut-listed.ensures.value _ c.index.ensures

pub advance-requires-clause-serves : goal.advance-requires-clause-serves
advance-requires-clause-serves c =
    let m = c.self.inside in
    let has = job_in_hand _ _ c.args.cpu c.args.job c.self.view_is c.requires in
    ap (λ (n : ℕ). has_cpu m.store n) (number m.store m.programs.items m.jobs.items m.lanes.items c.self.invariant.0 c.args.cpu c.args.job
    has _ c.index_mut-lane.ensures.value _ c.in-Some.is) ∙ serves m.store m.programs.items m.jobs.items m.lanes.items c.self.invariant.0
    c.args.cpu c.args.job has

pub advance-requires-clause-in_run : goal.advance-requires-clause-in_run
advance-requires-clause-in_run c =
    let m = c.self.inside in
    let has = job_in_hand _ _ c.args.cpu c.args.job c.self.view_is c.requires in
    ap (λ (n : ℕ). is_running m.store n) (number m.store m.programs.items m.jobs.items m.lanes.items c.self.invariant.0 c.args.cpu
    c.args.job has _ c.index_mut-lane.ensures.value _ c.in-Some.is) ∙ running m.store m.programs.items m.jobs.items m.lanes.items
    c.self.invariant.0 c.args.cpu c.args.job has

pub advance-requires-clause-held : goal.advance-requires-clause-held
advance-requires-clause-held c =
    let m = c.self.inside in
    let has = job_in_hand _ _ c.args.cpu c.args.job c.self.view_is c.requires in
    let h = c.in-Some.hand in
    let P : ℕ → Type 0 = λ n. AreHeld (held_spans m.store n) h.cpu.held in
    subst P (sym (number m.store m.programs.items m.jobs.items m.lanes.items c.self.invariant.0 c.args.cpu c.args.job has _
    c.index_mut-lane.ensures.value _ c.in-Some.is)) (held_now m.store m.programs.items m.jobs.items m.lanes.items c.self.invariant.0
    c.args.cpu c.args.job has _ c.index_mut-lane.ensures.value _ c.in-Some.is _ c.index_mut-listed.ensures.value _ c.index.ensures)

pub invariant_of-self : goal.invariant_of-self
invariant_of-self c =
    let m = c.self.inside in
    let has = job_in_hand _ _ c.args.cpu c.args.job c.self.view_is c.requires in
    let e = c.index_mut-listed.result.now in (
      kept_board m.store m.programs.items m.jobs.items m.lanes.items c.self.invariant.0 c.args.cpu c.args.job has _
          c.index_mut-lane.ensures.value _ c.in-Some.is _ c.index_mut-listed.ensures.value _ c.index.ensures c.advance.new.self
          c.advance.ensures.same.0 c.advance.ensures.same.1 c.advance.ensures.ready c.advance.new.store c.advance.ensures.serves
          c.advance.ensures.keeps.runs
          (λ d ne. c.advance.ensures.keeps.others d (λ q. ne (q ∙ number m.store m.programs.items m.jobs.items m.lanes.items
          c.self.invariant.0 c.args.cpu c.args.job has _ c.index_mut-lane.ensures.value _ c.in-Some.is)))
          (let P : ℕ → Type 0 = λ n. AreHeld (held_spans c.advance.new.store n) c.advance.new.self.cpu.held in subst P
          (number m.store m.programs.items m.jobs.items m.lanes.items c.self.invariant.0 c.args.cpu c.args.job has _
          c.index_mut-lane.ensures.value _ c.in-Some.is) c.advance.ensures.held),
      still_fit (shapes_of m.store) (shapes_of c.advance.new.store) m.jobs.items c.args.job e e m.keys m.lists.items
          (ap (λ (h : Shape). h.maps) c.advance.ensures.keeps.shape) (listed m.store m.programs.items m.jobs.items m.lanes.items
          c.self.invariant.0 c.args.cpu c.args.job has _ c.index_mut-lane.ensures.value _ c.in-Some.is e c.index_mut-listed.ensures.value)
          refl c.self.invariant.1,
    )

pub end-requires-clause-serves : goal.end-requires-clause-serves
end-requires-clause-serves c =
    let m = c.self.inside in
    let has = job_in_hand _ _ c.args.cpu c.args.job c.self.view_is c.requires in
    ap (λ (f : _). f c.args.cpu) c.advance.ensures.serves ∙ serves m.store m.programs.items m.jobs.items m.lanes.items c.self.invariant.0
    c.args.cpu c.args.job has

pub end-requires-clause-in_run : goal.end-requires-clause-in_run
end-requires-clause-in_run c =
    let m = c.self.inside in
    let has = job_in_hand _ _ c.args.cpu c.args.job c.self.view_is c.requires in
    ap (λ (f : _). f c.args.cpu) c.advance.ensures.keeps.runs ∙ running m.store m.programs.items m.jobs.items m.lanes.items
    c.self.invariant.0 c.args.cpu c.args.job has

pub invariant_of-self-in-Some-advance : goal.invariant_of-self-in-Some-advance
invariant_of-self-in-Some-advance c =
    let m = c.self.inside in
    let has = job_in_hand _ _ c.args.cpu c.args.job c.self.view_is c.requires in
    let e = c.index_mut-listed.result.now in
    let end : Listed = record { cpu = e.cpu; program = e.program; budget = e.budget; phase = Ended c.in-Some-advance.outcome } in (
      ended_board m.store m.programs.items m.jobs.items m.lanes.items c.self.invariant.0 c.args.cpu c.args.job has _
          c.index_mut-lane.ensures.value _ c.in-Some.is _ c.index_mut-listed.ensures.value _ c.index.ensures c.in-Some-advance.outcome _
          c.put_down.ensures c.end.new.self (c.end.ensures.same.1 ∙ c.advance.ensures.serves)
          (c.end.ensures.running ∙ ap (λ (f : ℕ → Bool). put f c.args.cpu false) c.advance.ensures.keeps.runs)
          (λ d ne. ap (λ (f : ℕ → Span → Bool). f d) c.end.ensures.held ∙ others_without (held_spans c.advance.new.store) c.args.cpu d ne ∙
          c.advance.ensures.keeps.others d (λ q. ne (q ∙ number m.store m.programs.items m.jobs.items m.lanes.items c.self.invariant.0
          c.args.cpu c.args.job has _ c.index_mut-lane.ensures.value _ c.in-Some.is))),
      still_fit (shapes_of m.store) (shapes_of c.end.new.self) m.jobs.items c.args.job e end m.keys m.lists.items
          (ap (λ (h : Shape). h.maps) (c.end.ensures.same.0 ∙ c.advance.ensures.keeps.shape))
          (listed m.store m.programs.items m.jobs.items m.lanes.items c.self.invariant.0 c.args.cpu c.args.job has _
          c.index_mut-lane.ensures.value _ c.in-Some.is e c.index_mut-listed.ensures.value) refl c.self.invariant.1,
    )

pub returns-in-None-clause-proceeds : goal.returns-in-None-clause-proceeds
returns-in-None-clause-proceeds c =
    let m = c.self.inside in
    let l = c.index_mut-lane.result.now in
    let e = c.index_mut-listed.result.now in
    let lists = listings m.keys m.lists.items in
    let new : MachineState = record {
      store = c.advance.new.store;
      programs = m.programs.items;
      jobs = tasks_of
          (slice_set m.lanes.items c.args.cpu (record { hand = Some c.advance.new.self; rest = l.rest; next = l.next }))
          (slice_set m.jobs.items c.args.job e);
      lists = lists;
    } in
    let Q : MachineState → Type 0 = λ s. Proceeds s c.args.cpu c.args.job Ran new in
    subst Q c.self.view_is (λ task state left at w shows.
    proceeds_kept m.store m.programs.items m.jobs.items m.lanes.items c.self.invariant.0 c.args.cpu c.args.job (task, state, left, at) _
    c.index_mut-lane.ensures.value _ c.in-Some.is _ c.index_mut-listed.ensures.value _ c.index.ensures c.advance.new.self
    c.advance.ensures.same.0 c.advance.ensures.same.1 c.advance.ensures.ready lists c.advance.new.store c.in-None.ensures.advance w shows)

pub list_at_end-requires-clause-job : goal.list_at_end-requires-clause-job
list_at_end-requires-clause-job c =
    let m = c.self.inside in
    let has = job_in_hand _ _ c.args.cpu c.args.job c.self.view_is c.requires in
    ended_job m.store m.programs.items m.jobs.items m.lanes.items c.self.invariant.0 c.args.cpu c.args.job has _
    c.index_mut-lane.ensures.value _ c.in-Some.is _ c.index_mut-listed.ensures.value _ c.index.ensures c.in-Some-advance.outcome _
    c.put_down.ensures

pub list_at_end-requires-clause-free : goal.list_at_end-requires-clause-free
list_at_end-requires-clause-free c =
    let m = c.self.inside in
    let has = job_in_hand _ _ c.args.cpu c.args.job c.self.view_is c.requires in
    ended_free m.store m.programs.items m.jobs.items m.lanes.items c.self.invariant.0 c.args.cpu c.args.job has _
    c.index_mut-lane.ensures.value _ c.in-Some.is _ c.index_mut-listed.ensures.value _ c.index.ensures c.in-Some-advance.outcome _
    c.put_down.ensures

pub returns-in-Some-advance-clause-proceeds : goal.returns-in-Some-advance-clause-proceeds
returns-in-Some-advance-clause-proceeds c =
    let m = c.self.inside in
    let has = job_in_hand _ _ c.args.cpu c.args.job c.self.view_is c.requires in
    let served : has_cpu c.advance.new.store c.args.cpu ≡ true = ap (λ (f : ℕ → Bool). f c.args.cpu) c.advance.ensures.serves ∙ serves
    m.store m.programs.items m.jobs.items m.lanes.items c.self.invariant.0 c.args.cpu c.args.job has in
    let ends = call_leads c.advance.new.store c.end.new.self c.args.cpu End served c.end.ensures.ended c.end.ensures.same.1 in
    let lists = listings m.keys m.lists.items in
    let last = c.list_at_end.new.self in
    let Q : MachineState → Type 0 = λ s. Proceeds s c.args.cpu c.args.job (turn.Ended c.args.job c.in-Some-advance.outcome) last in
    subst Q c.self.view_is (λ task state left at w shows.
    proceeds_ended m.store m.programs.items m.jobs.items m.lanes.items c.self.invariant.0 c.args.cpu c.args.job (task, state, left, at) _
    c.index_mut-lane.ensures.value _ c.in-Some.is _ c.index_mut-listed.ensures.value _ c.index.ensures c.in-Some-advance.outcome _
    c.put_down.ensures lists c.advance.new.store c.end.new.self last c.advance.new.self.cpu c.advance.new.self.left
    c.in-Some-advance.ensures.advance ends c.list_at_end.ensures.lists w shows)

pub returns-in-None-clause-same : goal.returns-in-None-clause-same
returns-in-None-clause-same c =
    let m = c.self.inside in
    let l = c.index_mut-lane.result.now in
    let e = c.index_mut-listed.result.now in
    let lanes = slice_set m.lanes.items c.args.cpu (record { hand = Some c.advance.new.self; rest = l.rest; next = l.next }) in
    let new : MachineState = record {
      store = c.advance.new.store;
      programs = m.programs.items;
      jobs = tasks_of lanes
          (slice_set m.jobs.items c.args.job e);
      lists = listings m.keys m.lists.items;
    } in
    let H : MachineState → Type 0 = λ s. IsSameHost s new in
    subst H c.self.view_is (record {
      programs = refl;
      jobs = same_count m.lanes.items lanes m.jobs.items c.args.job e;
      shape = (λ n. ap (λ (f : ℕ → Bool). f n) c.advance.ensures.serves, c.advance.ensures.keeps.shape);
      lists = λ none. none;
    })

pub returns-in-Some-advance-clause-same : goal.returns-in-Some-advance-clause-same
returns-in-Some-advance-clause-same c =
    let m = c.self.inside in
    let e = c.index_mut-listed.result.now in
    let end : Listed = record { cpu = e.cpu; program = e.program; budget = e.budget; phase = Ended c.in-Some-advance.outcome } in
    let lanes = slice_set m.lanes.items c.args.cpu c.put_down.new.lane in
    let mid : MachineState = record {
      store = c.end.new.self;
      programs = m.programs.items;
      jobs = tasks_of lanes
          (slice_set m.jobs.items c.args.job end);
      lists = listings m.keys m.lists.items;
    } in
    let H : MachineState → Type 0 = λ s. IsSameHost s mid in
    same_host_still c.args.self.now mid c.list_at_end.new.self
    (subst H c.self.view_is (record {
      programs = refl;
      jobs = same_count m.lanes.items lanes m.jobs.items c.args.job end;
      shape = (λ n. ap (λ (f : ℕ → Bool). f n) (c.end.ensures.same.1 ∙ c.advance.ensures.serves), c.end.ensures.same.0 ∙ c.advance.ensures.keeps.shape);
      lists = λ none. none;
    }))
    c.list_at_end.ensures.same

pub returns-in-None-clause-stays : goal.returns-in-None-clause-stays
returns-in-None-clause-stays c =
    let m = c.self.inside in
    let has = job_in_hand _ _ c.args.cpu c.args.job c.self.view_is c.requires in
    let l = c.index_mut-lane.result.now in
    let e = c.index_mut-listed.result.now in
    let new : List Task = tasks_of (slice_set m.lanes.items c.args.cpu (record { hand = Some c.advance.new.self; rest = l.rest; next = l.next }))
    (slice_set m.jobs.items c.args.job e) in
    let S : MachineState → Type 0 = λ s. StaysOrEnds s.jobs c.args.cpu c.args.job new in
    subst S c.self.view_is
    (kept_stays m.store m.programs.items m.jobs.items m.lanes.items c.self.invariant.0 c.args.cpu c.args.job has _
    c.index_mut-lane.ensures.value _ c.in-Some.is _ c.index_mut-listed.ensures.value _ c.index.ensures c.advance.new.self
    c.advance.ensures.same.0 c.advance.ensures.same.1 c.advance.ensures.ready
    c.advance.ensures.job)

pub returns-in-Some-advance-clause-stays : goal.returns-in-Some-advance-clause-stays
returns-in-Some-advance-clause-stays c =
    let m = c.self.inside in
    let has = job_in_hand _ _ c.args.cpu c.args.job c.self.view_is c.requires in
    let last = c.list_at_end.new.self.jobs in
    let S : MachineState → Type 0 = λ s. StaysOrEnds s.jobs c.args.cpu c.args.job last in
    subst S c.self.view_is
    (ended_stays m.store m.programs.items m.jobs.items m.lanes.items c.self.invariant.0 c.args.cpu c.args.job has _
    c.index_mut-lane.ensures.value _ c.in-Some.is _ c.index_mut-listed.ensures.value _ c.index.ensures c.in-Some-advance.outcome _
    c.put_down.ensures last c.list_at_end.ensures.jobs)
