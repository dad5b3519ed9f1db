use Rattle.std.proofs.Common.{◌≡◌, ℕ, subst, arith}
use Rattle.bpf_machine.proofs.HostLaws.{same_host, same_host_still}
use Rattle.bpf_debug.proofs.RecallLaws.{RecallsTurns, none_recalled, one_recalled}
use Rattle.bpf_debug.proofs.recall.recall_turns.Goals as goal

pub loop-init : goal.loop-init
loop-init c = record { made = none_recalled c.args.machine.now c.args.turns_of c.args.kind c.args.cpu c.args.recall; same = same_host c.args.machine.now }

pub loop-preserved : goal.loop-preserved
loop-preserved c = record {
  made = one_recalled c.args.machine.now c.loop.machine c.recall_turn-last.new.machine c.args.turns_of c.args.kind c.args.cpu c.loop.counter
      c.args.recall c.loop.last c.recall_turn-last.result
      c.loop.invariant.made c.recall_turn-last.ensures.made;
  same = same_host_still c.args.machine.now c.loop.machine c.recall_turn-last.new.machine c.loop.invariant.same c.recall_turn-last.ensures.same;
}

pub returns-clause-made : goal.returns-clause-made
returns-clause-made c =
    let last = c.loop-test.false in
    let end = c.loop.auto.counter-end in
    let same : c.loop.counter ≡ c.args.count = omega arith in
    let M : ℕ → Type 0 = λ n. RecallsTurns c.args.machine.now c.args.turns_of c.args.kind c.args.cpu c.args.recall c.loop.machine n c.loop.last in
    subst M same c.loop.invariant.made
