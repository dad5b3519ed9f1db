use Rattle.std.proofs.Common.{◌≡◌, ℕ, refl, sym, ap, subst, ◌∙◌, Bool, true, false, arith}
use Rattle.bpf_shared.specs.Shape.{Shape}
use Rattle.bpf_shared.specs.Store.{put}
use Rattle.bpf_shared.specs.declared.events.Span.{Span}
use Rattle.bpf_plain.specs.PlainStore.{has_cpu, is_running, held_spans, shapes_of}
use Rattle.bpf_machine.specs.declared.machine.lane.Listed.{Listed}
use Rattle.bpf_machine.specs.declared.machine.lane.Phase.TheVariants.{Ended}
use Rattle.bpf_machine.specs.Private.KeyLists.{listings}
use Rattle.bpf_machine.proofs.KeyListLaws.{still_fit}
use Rattle.bpf_shared.specs.declared.events.Event.TheVariants.{End}
use Rattle.bpf_helpers.specs.Held.{AreHeld}
use Rattle.bpf_cpu.proofs.HeldLaws.{others_without}
use Rattle.bpf_machine.proofs.OwnEvents.{call_leads}
use Rattle.bpf_machine.proofs.ProceedLaws.{job_in_hand, lane_within, job_within, serves, running, never_empty, number, program_within}
use Rattle.bpf_machine.proofs.ProceedLaws.{listed, held_now, ready, ended_board, ended_job, ended_free, finishes_ended, finishes_less}
use Rattle.bpf_machine.proofs.machine.Machine.finish.Goals as goal

pub index_mut-lane-requires : goal.index_mut-lane-requires
index_mut-lane-requires c =
    let m = c.self.inside in
    let has = job_in_hand _ _ c.args.cpu c.args.job c.self.view_is c.requires.has in
    omega (arith, lane_within m.store m.programs.items m.jobs.items m.lanes.items c.self.invariant.0 c.args.cpu c.args.job has, m.lanes.ok.0)

pub unreachable-requires : goal.unreachable-requires
unreachable-requires c =
    let m = c.self.inside in
    let has = job_in_hand _ _ c.args.cpu c.args.job c.self.view_is c.requires.has in
    never_empty m.store m.programs.items m.jobs.items m.lanes.items c.self.invariant.0 c.args.cpu c.args.job has _
    c.index_mut-lane.ensures.value c.in_default.is

pub index_mut-listed-requires : goal.index_mut-listed-requires
index_mut-listed-requires c =
    let m = c.self.inside in
    let has = job_in_hand _ _ c.args.cpu c.args.job c.self.view_is c.requires.has in
    omega (arith, job_within m.store m.programs.items m.jobs.items m.lanes.items c.self.invariant.0 c.args.cpu c.args.job has, m.jobs.ok.0)

pub index-requires : goal.index-requires
index-requires c =
    let m = c.self.inside in
    let has = job_in_hand _ _ c.args.cpu c.args.job c.self.view_is c.requires.has in
    omega (
      arith,
      program_within m.store m.programs.items m.jobs.items m.lanes.items c.self.invariant.0 c.args.cpu c.args.job has _
          c.index_mut-lane.ensures.value _ c.in-Some.is _ c.index_mut-listed.ensures.value,
      m.programs.ok.0,
    )

pub finish-outcome-requires-clause-ready : goal.finish-outcome-requires-clause-ready
finish-outcome-requires-clause-ready c =
    let m = c.self.inside in
    let has = job_in_hand _ _ c.args.cpu c.args.job c.self.view_is c.requires.has in
    ready m.store m.programs.items m.jobs.items m.lanes.items c.self.invariant.0 c.args.cpu c.args.job has _ c.index_mut-lane.ensures.value
    _ c.in-Some.is _ c.index_mut-listed.ensures.value _ c.index.ensures

pub finish-outcome-requires-clause-serves : goal.finish-outcome-requires-clause-serves
finish-outcome-requires-clause-serves c =
    let m = c.self.inside in
    let has = job_in_hand _ _ c.args.cpu c.args.job c.self.view_is c.requires.has in
    ap (λ (n : ℕ). has_cpu m.store n) (number m.store m.programs.items m.jobs.items m.lanes.items c.self.invariant.0 c.args.cpu c.args.job
    has _ c.index_mut-lane.ensures.value _ c.in-Some.is) ∙ serves m.store m.programs.items m.jobs.items m.lanes.items c.self.invariant.0
    c.args.cpu c.args.job has

pub finish-outcome-requires-clause-in_run : goal.finish-outcome-requires-clause-in_run
finish-outcome-requires-clause-in_run c =
    let m = c.self.inside in
    let has = job_in_hand _ _ c.args.cpu c.args.job c.self.view_is c.requires.has in
    ap (λ (n : ℕ). is_running m.store n) (number m.store m.programs.items m.jobs.items m.lanes.items c.self.invariant.0 c.args.cpu
    c.args.job has _ c.index_mut-lane.ensures.value _ c.in-Some.is) ∙ running m.store m.programs.items m.jobs.items m.lanes.items
    c.self.invariant.0 c.args.cpu c.args.job has

pub finish-outcome-requires-clause-held : goal.finish-outcome-requires-clause-held
finish-outcome-requires-clause-held c =
    let m = c.self.inside in
    let has = job_in_hand _ _ c.args.cpu c.args.job c.self.view_is c.requires.has in
    let h = c.in-Some.hand in
    let P : ℕ → Type 0 = λ n. AreHeld (held_spans m.store n) h.cpu.held in
    subst P (sym (number m.store m.programs.items m.jobs.items m.lanes.items c.self.invariant.0 c.args.cpu c.args.job has _
    c.index_mut-lane.ensures.value _ c.in-Some.is)) (held_now m.store m.programs.items m.jobs.items m.lanes.items c.self.invariant.0
    c.args.cpu c.args.job has _ c.index_mut-lane.ensures.value _ c.in-Some.is _ c.index_mut-listed.ensures.value _ c.index.ensures)

pub end-requires-clause-serves : goal.end-requires-clause-serves
end-requires-clause-serves c =
    let m = c.self.inside in
    let has = job_in_hand _ _ c.args.cpu c.args.job c.self.view_is c.requires.has in
    ap (λ (f : _). f c.args.cpu) c.finish-outcome.ensures.serves ∙ serves m.store m.programs.items m.jobs.items m.lanes.items
    c.self.invariant.0 c.args.cpu c.args.job has

pub end-requires-clause-in_run : goal.end-requires-clause-in_run
end-requires-clause-in_run c =
    let m = c.self.inside in
    let has = job_in_hand _ _ c.args.cpu c.args.job c.self.view_is c.requires.has in
    ap (λ (f : _). f c.args.cpu) c.finish-outcome.ensures.keeps.runs ∙ running m.store m.programs.items m.jobs.items m.lanes.items
    c.self.invariant.0 c.args.cpu c.args.job has

pub invariant_of-self : goal.invariant_of-self
invariant_of-self c =
    let m = c.self.inside in
    let has = job_in_hand _ _ c.args.cpu c.args.job c.self.view_is c.requires.has in
    let e = c.index_mut-listed.result.now in
    let end : Listed = record { cpu = e.cpu; program = e.program; budget = e.budget; phase = Ended c.finish-outcome.result } in (
      ended_board m.store m.programs.items m.jobs.items m.lanes.items c.self.invariant.0 c.args.cpu c.args.job has _
          c.index_mut-lane.ensures.value _ c.in-Some.is _ c.index_mut-listed.ensures.value _ c.index.ensures c.finish-outcome.result _
          c.put_down.ensures c.end.new.self (c.end.ensures.same.1 ∙ c.finish-outcome.ensures.serves)
          (c.end.ensures.running ∙ ap (λ (f : ℕ → Bool). put f c.args.cpu false) c.finish-outcome.ensures.keeps.runs)
          (λ d ne. ap (λ (f : ℕ → Span → Bool). f d) c.end.ensures.held ∙ others_without (held_spans c.finish-outcome.new.store) c.args.cpu
          d ne ∙ c.finish-outcome.ensures.keeps.others d (λ q. ne (q ∙ number m.store m.programs.items m.jobs.items m.lanes.items
          c.self.invariant.0 c.args.cpu c.args.job has _ c.index_mut-lane.ensures.value _ c.in-Some.is))),
      still_fit (shapes_of m.store) (shapes_of c.end.new.self) m.jobs.items c.args.job e end m.keys m.lists.items
          (ap (λ (h : Shape). h.maps) (c.end.ensures.same.0 ∙ c.finish-outcome.ensures.keeps.shape))
          (listed m.store m.programs.items m.jobs.items m.lanes.items c.self.invariant.0 c.args.cpu c.args.job has _
          c.index_mut-lane.ensures.value _ c.in-Some.is e c.index_mut-listed.ensures.value) refl c.self.invariant.1,
    )

pub list_at_end-requires-clause-job : goal.list_at_end-requires-clause-job
list_at_end-requires-clause-job c =
    let m = c.self.inside in
    let has = job_in_hand _ _ c.args.cpu c.args.job c.self.view_is c.requires.has in
    ended_job m.store m.programs.items m.jobs.items m.lanes.items c.self.invariant.0 c.args.cpu c.args.job has _
    c.index_mut-lane.ensures.value _ c.in-Some.is _ c.index_mut-listed.ensures.value _ c.index.ensures c.finish-outcome.result _
    c.put_down.ensures

pub list_at_end-requires-clause-free : goal.list_at_end-requires-clause-free
list_at_end-requires-clause-free c =
    let m = c.self.inside in
    let has = job_in_hand _ _ c.args.cpu c.args.job c.self.view_is c.requires.has in
    ended_free m.store m.programs.items m.jobs.items m.lanes.items c.self.invariant.0 c.args.cpu c.args.job has _
    c.index_mut-lane.ensures.value _ c.in-Some.is _ c.index_mut-listed.ensures.value _ c.index.ensures c.finish-outcome.result _
    c.put_down.ensures

pub returns-clause-finishes : goal.returns-clause-finishes
returns-clause-finishes c =
    let m = c.self.inside in
    let has = job_in_hand _ _ c.args.cpu c.args.job c.self.view_is c.requires.has in
    let served : has_cpu c.finish-outcome.new.store c.args.cpu ≡ true = ap (λ (f : ℕ → Bool). f c.args.cpu) c.finish-outcome.ensures.serves
    ∙ serves m.store m.programs.items m.jobs.items m.lanes.items c.self.invariant.0 c.args.cpu c.args.job has in
    let ends = call_leads c.finish-outcome.new.store c.end.new.self c.args.cpu End served c.end.ensures.ended c.end.ensures.same.1 in
    let lists = listings m.keys m.lists.items in
    finishes_ended m.store m.programs.items m.jobs.items m.lanes.items c.self.invariant.0 c.args.cpu c.args.job has _
    c.index_mut-lane.ensures.value _ c.in-Some.is _ c.index_mut-listed.ensures.value _ c.index.ensures c.finish-outcome.result _
    c.put_down.ensures lists c.args.self.now c.self.view_is c.finish-outcome.new.store c.end.new.self c.list_at_end.new.self
    c.finish-outcome.ensures.lasts ends c.list_at_end.ensures.lists c.requires.alone

pub returns-clause-falls : goal.returns-clause-falls
returns-clause-falls c = λ some.
    let m = c.self.inside in
    let has = job_in_hand _ _ c.args.cpu c.args.job c.self.view_is c.requires.has in
    let lists = listings m.keys m.lists.items in
    finishes_less m.store m.programs.items m.jobs.items m.lanes.items c.self.invariant.0 c.args.cpu c.args.job has _
    c.index_mut-lane.ensures.value _ c.in-Some.is _ c.index_mut-listed.ensures.value _ c.index.ensures c.finish-outcome.result _
    c.put_down.ensures lists c.args.self.now c.self.view_is c.list_at_end.new.self.jobs c.list_at_end.ensures.jobs
