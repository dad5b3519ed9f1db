use Rattle.std.proofs.Common.{◌≡◌, ◌∙◌, ◌⊎◌, ℕ, true, false, inl, inr, sym}
use Rattle.bpf_cpu.specs.declared.outcome.Outcome.{Outcome}
use Rattle.bpf_machine.specs.declared.machine.Turn.{Turn}
use Rattle.bpf_machine.specs.declared.machine.Turn.TheVariants as turn
use Rattle.bpf_x86.specs.Machine.{TurnOf}
use Rattle.bpf_flushes.proofs.Joining.{moved}
use Rattle.bpf_flushes.proofs.Turning.{idles, turns_fall}
use Rattle.bpf_flushes.proofs.moves.take_turn.Goals as goal

works : (answer : Turn) → (answer ≡ turn.Ran) ⊎ ((j : ℕ) × (end : Outcome) × (answer ≡ turn.Ended j end)) → answer ≡ turn.Idle → ⊥
works answer (inl ran) idle = let no : turn.Ran ≡ turn.Idle = sym ran ∙ idle in cc
works answer (inr (j, end, ended)) idle = let no : turn.Ended j end ≡ turn.Idle = sym ended ∙ idle in cc

pub returns-in-Idle-clause-makes : goal.returns-in-Idle-clause-makes
returns-in-Idle-clause-makes c = moved c.args.machine.now c.turn.new.self (TurnOf c.args.cpu) c.in_ok-turn.ensures.moves

pub returns-in-Idle-clause-idle : goal.returns-in-Idle-clause-idle
returns-in-Idle-clause-idle c = λ still. idles c.args.machine.now c.turn.new.self c.args.cpu c.in_ok-turn.field-0 c.in_ok-turn.ensures.turns c.in-Idle.is

pub returns-in-Ran : goal.returns-in-Ran
returns-in-Ran c = record {
  makes = moved c.args.machine.now c.turn.new.self (TurnOf c.args.cpu) c.in_ok-turn.ensures.moves;
  idle = λ no. (let none : true ≡ false = no in cc);
  falls = λ worked. turns_fall c.args.machine.now c.turn.new.self c.args.cpu c.in_ok-turn.field-0 c.in_ok-turn.ensures.turns
      (works c.in_ok-turn.field-0 c.in-Ran.is);
}
