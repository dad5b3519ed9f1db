use Rattle.std.proofs.Common.{◌+◌, ◌≤◌, arith}
use Rattle.bpf_explore.proofs.CloseLaws.{can_still, ended_still, grown_on, longer, next_from}
use Rattle.bpf_explore.proofs.spread.Spread.keep_from.Goals as goal

pub keep_if_equal-requires : goal.keep_if_equal-requires
keep_if_equal-requires g c =
    let old = c.args.self.now in
    let now = c.loop-other.self in
    let grown = c.loop-other.invariant.grown in
    let more = longer old.kept now.kept grown.kept in
    let above : c.args.one + 1 ≤ c.loop-other.other = c.loop-other.auto.other in
    record {
      can = can_still old.kept now.kept grown.kept old.stock now.stock c.args.peers.now grown.stock c.requires.can;
      place = omega (arith, c.requires.place);
      ended = ended_still old.kept now.kept grown.kept c.args.place c.requires.place c.requires.ended;
      less = omega arith;
      within = omega arith;
    }

pub loop-other-preserved : goal.loop-other-preserved
loop-other-preserved g c =
    let old = c.args.self.now in
    let now = c.loop-other.self in
    let next = c.keep_if_equal.new.self in
    let grown = c.loop-other.invariant.grown in
    let more = longer old.kept now.kept grown.kept in
    record {
      kept = next_from c.args.peers.now now.kept next.kept c.args.place c.args.one c.loop-other.other (omega (arith, c.requires.place))
          (c.keep_if_equal.ensures.grown).kept c.loop-other.invariant.kept c.in_ok-keep_if_equal.ensures.kept;
      grown = grown_on old now next grown c.keep_if_equal.ensures.grown;
    }

pub returns-clause-kept : goal.returns-clause-kept
returns-clause-kept g c k one other less below group = c.loop-other.invariant.kept k one other less (omega arith) group

pub returns-in_err-keep_if_equal-clause-grown : goal.returns-in_err-keep_if_equal-clause-grown
returns-in_err-keep_if_equal-clause-grown g c = grown_on c.args.self.now c.loop-other.self c.keep_if_equal.new.self
    c.loop-other.invariant.grown c.keep_if_equal.ensures.grown
