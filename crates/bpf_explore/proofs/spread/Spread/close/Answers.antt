use Rattle.std.proofs.Common.{arith}
use Rattle.bpf_explore.proofs.CloseLaws.{all_closed, can_still, grown_on, next_closed}
use Rattle.bpf_explore.proofs.PeerLaws.{keeps_ends}
use Rattle.bpf_explore.proofs.spread.Spread.close.Goals as goal

pub close_at-requires-clause-can : goal.close_at-requires-clause-can
close_at-requires-clause-can g c =
    let old = c.args.self.now in
    let now = c.loop-next.self in
    let grown = c.loop-next.invariant.grown in
    can_still old.kept now.kept grown.kept old.stock now.stock c.args.peers.now grown.stock
    (record { fit = c.requires.fit; fresh = c.requires.first })

pub loop-next-preserved : goal.loop-next-preserved
loop-next-preserved g c =
    let old = c.args.self.now in
    let now = c.loop-next.self in
    let next = c.close_at.new.self in
    let grown = c.close_at.ensures.grown in
    record {
      closed = next_closed c.args.peers.now now.kept next.kept c.loop-next.next grown.kept (omega (arith, c.len.ensures)) c.loop-next.invariant.closed
          c.in-Ok.ensures.kept;
      grown = grown_on old now next c.loop-next.invariant.grown grown;
    }

pub returns-clause-whole : goal.returns-clause-whole
returns-clause-whole g c is =
    let old = c.args.self.now in
    let now = c.loop-next.self in
    let grown = c.loop-next.invariant.grown in
    let can = can_still old.kept now.kept grown.kept old.stock now.stock c.args.peers.now grown.stock
    (record { fit = c.requires.fit; fresh = c.requires.first }) in
    keeps_ends g.R.Runs.runs c.runs.ensures now.stock now.kept c.args.peers.now can c.of_kind.ensures c.leads.ensures
    (all_closed c.args.peers.now now.kept c.loop-next.next (omega (arith, c.len.ensures)) c.loop-next.invariant.closed)

pub returns-in_default-clause-budgets : goal.returns-in_default-clause-budgets
returns-in_default-clause-budgets g c all = c.close_at.ensures.grown.whole (c.loop-next.invariant.grown.whole all)
