use Rattle.std.proofs.Common.{◌≡◌, ℕ, subst, arith}
use Rattle.bpf_shared.specs.Contents.{bytes_of_all}
use Rattle.bpf_machine.specs.Rounds.{below}
use Rattle.bpf_packets.specs.Private.{AreKept, Turns}
use Rattle.bpf_packets.proofs.Kept.{IdleSo, idle_more, kept_nothing, none_yet, one_cpu_more, round_ends, whole_round}
use Rattle.bpf_packets.proofs.turning.make_round.Goals as goal

pub loop-cpu-init : goal.loop-cpu-init
loop-cpu-init c = record { kept = kept_nothing c.args.machine.now (bytes_of_all c.args.packets.now); idle = none_yet c.args.machine.now }

pub loop-cpu-preserved : goal.loop-cpu-preserved
loop-cpu-preserved c =
    let mid = bytes_of_all c.loop-cpu.packets in
    let later = bytes_of_all c.make_turn.new.packets in
    record {
      kept = one_cpu_more c.loop-cpu.cpu c.in_ok-answer.answer c.args.machine.now c.loop-cpu.machine c.make_turn.new.machine
          (bytes_of_all c.args.packets.now) mid later c.loop-cpu.invariant.kept
          c.in_ok-answer.ensures.kept;
      idle = idle_more c.loop-cpu.cpu c.in_ok-answer.answer c.loop-cpu.worked c.has_worked-worked.result c.args.machine.now c.loop-cpu.machine
          c.make_turn.new.machine mid later c.loop-cpu.invariant.idle
          c.has_worked-worked.ensures c.in_ok-answer.ensures.kept c.in_ok-answer.ensures.idle;
    }

pub returns-clause-kept : goal.returns-clause-kept
returns-clause-kept c =
    let all : c.loop-cpu.cpu ≡ c.cpus-cpu-end.result = omega arith in
    let given = bytes_of_all c.args.packets.now in
    let last = bytes_of_all c.loop-cpu.packets in
    let kept = subst (λ (n : ℕ). AreKept (Turns (below n)) c.args.machine.now given c.loop-cpu.machine last) all c.loop-cpu.invariant.kept in
    whole_round c.cpus-cpu-end.result c.args.machine.now c.loop-cpu.machine given last c.cpus-cpu-end.ensures kept

pub returns-clause-ended : goal.returns-clause-ended
returns-clause-ended c =
    let all : c.loop-cpu.cpu ≡ c.cpus-cpu-end.result = omega arith in
    let so = subst (λ (n : ℕ). IdleSo c.args.machine.now n c.loop-cpu.worked c.loop-cpu.machine) all c.loop-cpu.invariant.idle in
    round_ends c.cpus-cpu-end.result c.loop-cpu.worked c.args.machine.now c.loop-cpu.machine c.stands.ensures c.cpus-cpu-end.ensures so
