use Rattle.std.proofs.Common.{◌≡◌, ◌∙◌, ◌+◌, ◌-◌, ℕ, sym, ap, subst, arith}
use Rattle.std.specs.Prelude.{max}
use Rattle.bpf_cpu.specs.Step.{IsReady}
use Rattle.bpf_machine.specs.declared.machine.lane.Hand.{Hand}
use Rattle.bpf_machine.specs.Private.KeyLists.{listings}
use Rattle.bpf_machine.proofs.ProceedLaws.{job_in_hand, lane_within, job_within, never_empty, is, program_there, ready, ahead_board, refills}
use Rattle.bpf_machine.proofs.machine.Machine.refill_job.Goals as goal

-- as many more as a budget has
all_more : (left budget : ℕ) → max left budget ≡ left + (max left budget - left)
all_more left budget = omega arith

pub index_mut-lane-requires : goal.index_mut-lane-requires
index_mut-lane-requires c =
    let m = c.self.inside in
    let has = job_in_hand _ _ c.args.cpu c.args.job c.self.view_is c.requires in
    omega (arith, lane_within m.store m.programs.items m.jobs.items m.lanes.items c.self.invariant.0 c.args.cpu c.args.job has, m.lanes.ok.0)

pub unreachable-requires : goal.unreachable-requires
unreachable-requires c =
    let m = c.self.inside in
    let has = job_in_hand _ _ c.args.cpu c.args.job c.self.view_is c.requires in
    never_empty m.store m.programs.items m.jobs.items m.lanes.items c.self.invariant.0 c.args.cpu c.args.job has _
    c.index_mut-lane.ensures.value c.in_default.is

pub index-listed-requires : goal.index-listed-requires
index-listed-requires c =
    let m = c.self.inside in
    let has = job_in_hand _ _ c.args.cpu c.args.job c.self.view_is c.requires in
    omega (arith, job_within m.store m.programs.items m.jobs.items m.lanes.items c.self.invariant.0 c.args.cpu c.args.job has, m.jobs.ok.0)

pub invariant_of-self : goal.invariant_of-self
invariant_of-self c =
    let m = c.self.inside in
    let has = job_in_hand _ _ c.args.cpu c.args.job c.self.view_is c.requires in
    let fits = ready m.store m.programs.items m.jobs.items m.lanes.items c.self.invariant.0 c.args.cpu c.args.job has _
    c.index_mut-lane.ensures.value _ c.in-Some.is _ c.index-listed.ensures _
    (program_there m.store m.programs.items m.jobs.items m.lanes.items c.self.invariant.0 c.args.cpu c.args.job has _
    c.index_mut-lane.ensures.value _ c.in-Some.is _ c.index-listed.ensures) in
    let still = subst (λ (x : Hand). IsReady (is m.store m.programs.items m.jobs.items m.lanes.items c.self.invariant.0 c.args.cpu
    c.args.job has _ c.index_mut-lane.ensures.value _ c.in-Some.is).program x.cpu) (sym c.refill.ensures) fits in (
      ahead_board m.store m.programs.items m.jobs.items m.lanes.items c.self.invariant.0 c.args.cpu c.args.job has _
          c.index_mut-lane.ensures.value _ c.in-Some.is _ c.index-listed.ensures _
          (program_there m.store m.programs.items m.jobs.items m.lanes.items c.self.invariant.0 c.args.cpu c.args.job has _
          c.index_mut-lane.ensures.value _ c.in-Some.is _ c.index-listed.ensures) c.refill.new.self
          (ap (λ (x : Hand). x.job) c.refill.ensures) (ap (λ (x : Hand). x.cpu.number) c.refill.ensures) still
          (ap (λ (x : Hand). x.cpu.held) c.refill.ensures),
      c.self.invariant.1,
    )

pub returns-clause-refills : goal.returns-clause-refills
returns-clause-refills c =
    let m = c.self.inside in
    let has = job_in_hand _ _ c.args.cpu c.args.job c.self.view_is c.requires in
    let fits = ready m.store m.programs.items m.jobs.items m.lanes.items c.self.invariant.0 c.args.cpu c.args.job has _
    c.index_mut-lane.ensures.value _ c.in-Some.is _ c.index-listed.ensures _
    (program_there m.store m.programs.items m.jobs.items m.lanes.items c.self.invariant.0 c.args.cpu c.args.job has _
    c.index_mut-lane.ensures.value _ c.in-Some.is _ c.index-listed.ensures) in
    let still = subst (λ (x : Hand). IsReady (is m.store m.programs.items m.jobs.items m.lanes.items c.self.invariant.0 c.args.cpu
    c.args.job has _ c.index_mut-lane.ensures.value _ c.in-Some.is).program x.cpu) (sym c.refill.ensures) fits in
    let left : ℕ = c.in-Some.hand.left in
    let budget : ℕ = c.index-listed.result.now.budget in
    let more : ℕ = max left budget - left in
    refills m.store m.programs.items m.jobs.items m.lanes.items c.self.invariant.0 c.args.cpu c.args.job has _
    c.index_mut-lane.ensures.value _ c.in-Some.is _ c.index-listed.ensures _
    (program_there m.store m.programs.items m.jobs.items m.lanes.items c.self.invariant.0 c.args.cpu c.args.job has _
    c.index_mut-lane.ensures.value _ c.in-Some.is _ c.index-listed.ensures) c.refill.new.self
    (ap (λ (x : Hand). x.job) c.refill.ensures) (ap (λ (x : Hand). x.cpu.number) c.refill.ensures) still (listings m.keys m.lists.items)
    c.args.self.now c.self.view_is more
    (ap (λ (x : Hand). x.cpu) c.refill.ensures) (ap (λ (x : Hand). x.left) c.refill.ensures ∙ all_more left budget) (sym (all_more left budget))
