use Rattle.std.proofs.Common.{◌-◌, inl, inr, refl, arith}
use Rattle.bpf_cpu.specs.declared.outcome.Progress.TheVariants.{Done, On}
use Rattle.bpf_machine.proofs.AdvanceLaws.{last_step, not_last_step}
use Rattle.bpf_buffering.proofs.jobs.advance.Goals as goal

pub returns-then-left-eq0-clause-advance : goal.returns-then-left-eq0-clause-advance
returns-then-left-eq0-clause-advance c = inl (omega arith, refl, refl, refl, omega arith)

pub returns-in-Done-clause-advance : goal.returns-in-Done-clause-advance
returns-in-Done-clause-advance c =
    let left = c.args.left.now in
    let s = c.in-Done.ensures.step in
    inr (left - 1, s.0, Done c.in-Done.outcome, omega arith, refl, s.1, s.2, refl)

pub returns-in-On-clause-advance : goal.returns-in-On-clause-advance
returns-in-On-clause-advance c =
    let left = c.args.left.now in
    let s = c.in-On.ensures.step in
    inr (left - 1, s.0, On, omega arith, refl, s.1, s.2, last_step (left - 1) c.step.new.self c.if-left-eq0-2.true)

pub returns-in-On-2-clause-advance : goal.returns-in-On-2-clause-advance
returns-in-On-2-clause-advance c =
    let left = c.args.left.now in
    let s = c.in-On.ensures.step in
    inr (left - 1, s.0, On, omega arith, refl, s.1, s.2, not_last_step (left - 1) c.step.new.self c.if-left-eq0-2.false)
