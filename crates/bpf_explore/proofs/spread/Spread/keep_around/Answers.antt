use Rattle.std.proofs.Common.{arith}
use Rattle.bpf_explore.proofs.CloseLaws.{can_still, ended_still, grown_on, longer, next_around}
use Rattle.bpf_explore.proofs.spread.Spread.keep_around.Goals as goal

pub keep_from-requires : goal.keep_from-requires
keep_from-requires g c =
    let old = c.args.self.now in
    let now = c.loop-one.self in
    let grown = c.loop-one.invariant.grown in
    let more = longer old.kept now.kept grown.kept in
    record {
      can = can_still old.kept now.kept grown.kept old.stock now.stock c.args.peers.now grown.stock c.requires.can;
      place = omega (arith, c.requires.place);
      ended = ended_still old.kept now.kept grown.kept c.args.place c.requires.place c.requires.ended;
      one = omega arith;
    }

pub loop-one-preserved : goal.loop-one-preserved
loop-one-preserved g c =
    let old = c.args.self.now in
    let now = c.loop-one.self in
    let next = c.keep_from.new.self in
    let grown = c.loop-one.invariant.grown in
    let more = longer old.kept now.kept grown.kept in
    record {
      kept = next_around c.args.peers.now now.kept next.kept c.args.place c.loop-one.one (omega (arith, c.requires.place))
          (c.keep_from.ensures.grown).kept c.loop-one.invariant.kept c.in_ok-keep_from.ensures.kept;
      grown = grown_on old now next grown c.keep_from.ensures.grown;
    }

pub returns-clause-kept : goal.returns-clause-kept
returns-clause-kept g c j k one other below less group = c.loop-one.invariant.kept j k one other (omega arith) less group

pub returns-in_err-keep_from-clause-grown : goal.returns-in_err-keep_from-clause-grown
returns-in_err-keep_from-clause-grown g c = grown_on c.args.self.now c.loop-one.self c.keep_from.new.self c.loop-one.invariant.grown c.keep_from.ensures.grown
