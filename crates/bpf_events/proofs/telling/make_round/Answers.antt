use Rattle.std.proofs.Common.{◌≡◌, ℕ, map, subst, arith}
use Rattle.std.specs.Prelude.{string_bytes}
use Rattle.bpf_machine.specs.Rounds.{below}
use Rattle.bpf_events.specs.Private.Told.{AreTold, Turns}
use Rattle.bpf_events.proofs.Told.{IdleSo, idle_more, none_yet, one_cpu_more, round_ends, told_nothing, whole_round}
use Rattle.bpf_events.proofs.telling.make_round.Goals as goal

pub loop-cpu-init : goal.loop-cpu-init
loop-cpu-init c = record {
  told = told_nothing (map string_bytes c.args.names.now) c.args.machine.now (string_bytes c.args.text.now);
  shape = c.requires;
  idle = none_yet c.args.machine.now;
}

pub loop-cpu-preserved : goal.loop-cpu-preserved
loop-cpu-preserved c =
    let names = map string_bytes c.args.names.now in
    let text = string_bytes c.loop-cpu.text in
    let later = string_bytes c.make_turn.new.text in
    record {
      told = one_cpu_more c.loop-cpu.cpu c.in_ok-answer.answer names c.args.machine.now c.loop-cpu.machine c.make_turn.new.machine
          (string_bytes c.args.text.now) text later c.loop-cpu.invariant.told
          c.in_ok-answer.ensures.told;
      shape = c.in_ok-answer.ensures.shape;
      idle = idle_more c.loop-cpu.cpu c.in_ok-answer.answer c.loop-cpu.worked c.has_worked-worked.result names c.args.machine.now
          c.loop-cpu.machine c.make_turn.new.machine text later c.loop-cpu.invariant.idle
          c.has_worked-worked.ensures c.in_ok-answer.ensures.told c.in_ok-answer.ensures.idle;
    }

pub returns-clause-told : goal.returns-clause-told
returns-clause-told c =
    let all : c.loop-cpu.cpu ≡ c.cpus-cpu-end.result = omega arith in
    let names = map string_bytes c.args.names.now in
    let told = subst (λ (n : ℕ). AreTold (Turns (below n)) names c.args.machine.now (string_bytes c.args.text.now) c.loop-cpu.machine
    (string_bytes c.loop-cpu.text)) all c.loop-cpu.invariant.told in
    whole_round c.cpus-cpu-end.result names c.args.machine.now c.loop-cpu.machine (string_bytes c.args.text.now)
    (string_bytes c.loop-cpu.text) c.cpus-cpu-end.ensures told

pub returns-clause-ended : goal.returns-clause-ended
returns-clause-ended c =
    let all : c.loop-cpu.cpu ≡ c.cpus-cpu-end.result = omega arith in
    let so = subst (λ (n : ℕ). IdleSo c.args.machine.now n c.loop-cpu.worked c.loop-cpu.machine) all c.loop-cpu.invariant.idle in
    round_ends c.cpus-cpu-end.result c.loop-cpu.worked c.args.machine.now c.loop-cpu.machine c.stands.ensures c.cpus-cpu-end.ensures so
