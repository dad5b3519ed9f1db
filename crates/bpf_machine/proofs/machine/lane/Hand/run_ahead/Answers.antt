use Rattle.std.proofs.Common.{◌≡◌, ◌-◌, ℕ, suc, subst, arith}
use Rattle.bpf_machine.specs.Headways.{TakesQuietTurns}
use Rattle.bpf_machine.proofs.AdvanceLaws.{quiet_turns}
use Rattle.bpf_machine.proofs.machine.lane.Hand.run_ahead.Goals as goal

pub returns-clause-turns : goal.returns-clause-turns
returns-clause-turns c =
    let hand = c.args.self.now in
    let made = c.make_quiet_steps-made.result in
    let new = c.make_quiet_steps-made.new.self in
    let few = c.make_quiet_steps-made.ensures.few in
    let rest = hand.left - made - 1 in
    let some = c.if-self-eq0.false in
    let e : suc rest ≡ hand.left - made = omega arith in
    let P : ℕ → Type 0 = λ k. TakesQuietTurns c.args.program.now hand.cpu.number made hand.cpu hand.left new k in
    subst P e (quiet_turns c.args.program.now hand.cpu.number made hand.cpu hand.left new rest c.make_quiet_steps-made.ensures.steps (omega arith))
