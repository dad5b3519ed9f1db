use Rattle.std.proofs.Common.{◌≡◌, ◌+◌, ◌-◌, ℕ, refl, ap, subst, arith}
use Rattle.bpf_plain.specs.PlainStore.{shape_of}
use Rattle.bpf_machine.specs.Kept.{kept_stage}
use Rattle.bpf_buffering.specs.Going.{StepsAhead}
use Rattle.bpf_buffering.proofs.Stepping.{kept_in_hand, hand_fits}
use Rattle.bpf_buffering.proofs.Unseen.{steps_count, can_go_on_still, leaves_others}
use Rattle.bpf_buffering.proofs.jobs.Listed.go_ahead.Goals as goal

pub unreachable-requires : goal.unreachable-requires
unreachable-requires c =
    let can = c.requires in
    c.in_default.not-InHand can.state can.left (kept_in_hand c.args.self.now.stage can.state can.left can.at)

pub go_ahead-requires : goal.go_ahead-requires
go_ahead-requires c =
    let fits = hand_fits c.args.program.now c.args.here.now c.args.self.now.stage c.in-InHand.state c.in-InHand.left c.requires c.in-InHand.is in
    record { ready = fits.ready; serves = fits.serves; in_run = fits.runs; held = fits.held }

pub returns-clause-ahead : goal.returns-clause-ahead
returns-clause-ahead c =
    let g = c.go_ahead.ensures.ahead in
    let h = shape_of c.args.here.now.store in
    let old = c.in-InHand.state in
    let left = c.in-InHand.left in
    let new = c.go_ahead.new.state in
    let rest = c.go_ahead.new.left in
    let count = steps_count h c.args.program.now g.0 old new left rest g.1 g.3 in
    let n : g.0 ≡ left - rest = omega (arith, count) in (
      old,
      left,
      g.1,
      new,
      rest,
      ap kept_stage c.in-InHand.is,
      refl,
      subst (λ (k : ℕ). StepsAhead h c.args.program.now k old left g.1 new rest) n g.3,
      g.4,
    )

pub returns-clause-fits : goal.returns-clause-fits
returns-clause-fits c =
    let fits = hand_fits c.args.program.now c.args.here.now c.args.self.now.stage c.in-InHand.state c.in-InHand.left c.requires c.in-InHand.is in
    can_go_on_still c.args.program.now c.args.here.now c.go_ahead.new.here c.in-InHand.state c.go_ahead.new.state c.in-InHand.left
    c.go_ahead.new.left fits c.go_ahead.ensures.ahead c.go_ahead.ensures.number c.go_ahead.ensures.keeps _ refl
    c.go_ahead.ensures.ready c.go_ahead.ensures.held

pub returns-clause-others : goal.returns-clause-others
returns-clause-others c =
    let fits = hand_fits c.args.program.now c.args.here.now c.args.self.now.stage c.in-InHand.state c.in-InHand.left c.requires c.in-InHand.is in
    leaves_others c.args.program.now c.args.here.now c.go_ahead.new.here c.in-InHand.state c.go_ahead.new.state c.in-InHand.left
    c.go_ahead.new.left fits c.go_ahead.ensures.ahead c.go_ahead.ensures.number c.go_ahead.ensures.keeps

pub returns-clause-cpu : goal.returns-clause-cpu
returns-clause-cpu c = c.go_ahead.ensures.ahead.2.cpu

pub overflow_sub-result : goal.overflow_sub-result
overflow_sub-result c =
    let g = c.go_ahead.ensures.ahead in
    let count = steps_count (shape_of c.args.here.now.store) c.args.program.now g.0 c.in-InHand.state c.go_ahead.new.state c.in-InHand.left
    c.go_ahead.new.left g.1 g.3 in
    omega (arith, count)
