use Rattle.std.proofs.Common.{◌+◌, ◌≤◌, arith}
use Rattle.bpf_explore.proofs.ExchangedLaws.{among_still, from_on, grows_not, grows_on}
use Rattle.bpf_explore.proofs.exchanged.add_from.Goals as goal

pub loop-other-init : goal.loop-other-init
loop-other-init c = record {
  listed = λ k less below. absurd (omega (arith, less, below));
  grows = grows_not c.args.peers.now c.args.hung.now.items;
}

pub add_if_equal-requires : goal.add_if_equal-requires
add_if_equal-requires c =
    let above : c.args.one + 1 ≤ c.loop-other.other = c.loop-other.auto.other in
    record {
      less = omega (arith, above);
      within = omega arith;
      among = among_still c.args.peers.now c.args.hung.now.items c.loop-other.hung.items c.loop-other.invariant.grows c.args.by.now c.requires.among;
    }

pub loop-other-preserved : goal.loop-other-preserved
loop-other-preserved c =
    let peers = c.args.peers.now in
    let mid = c.loop-other.hung.items in
    let new = c.add_if_equal.new.hung.items in
    let step = c.in_ok-add_if_equal.ensures in
    record {
      listed = from_on peers mid new c.args.by.now c.args.one c.loop-other.other step.grows c.loop-other.invariant.listed step.listed;
      grows = grows_on peers c.args.hung.now.items mid new c.loop-other.invariant.grows step.grows;
    }

pub returns-clause-listed : goal.returns-clause-listed
returns-clause-listed c k less below = c.loop-other.invariant.listed k less (omega (arith, below))
