use Rattle.std.proofs.Common.{◌≡◌, ℕ, replicate, subst, arith}
use Rattle.bpf_machine.proofs.HostLaws.{same_host_still}
use Rattle.bpf_machine.proofs.LengthLaws.{Runs, one_more, rest_idle}
use Rattle.bpf_machine.proofs.machine.Machine.repeat.Goals as goal

pub loop-preserved : goal.loop-preserved
loop-preserved c = record {
  runs = one_more c.args.self.now c.loop.self c.turn.new.self c.args.cpu c.loop.counter c.turn.result c.loop.invariant.runs c.turn.ensures.turn;
  same = same_host_still _ _ _ c.loop.invariant.same c.turn.ensures.same;
}

pub returns-after-loop-clause-runs : goal.returns-after-loop-clause-runs
returns-after-loop-clause-runs c =
    let all : c.loop.counter ≡ c.args.turns = omega arith in
    subst (λ (n : ℕ). Runs c.args.self.now (replicate n c.args.cpu) c.loop.self) all c.loop.invariant.runs

pub returns-in-Idle-clause-runs : goal.returns-in-Idle-clause-runs
returns-in-Idle-clause-runs c =
    rest_idle c.args.self.now c.loop.self c.turn.new.self c.args.cpu c.loop.counter c.args.turns c.turn.result (omega arith)
    c.loop.invariant.runs c.turn.ensures.turn c.in-Idle.is (c.turn.ensures.idle c.in-Idle.is)
