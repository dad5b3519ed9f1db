use Rattle.std.proofs.Common.{arith}
use Rattle.bpf_explore.proofs.ExchangedLaws.{among_still, around_on, grows_not, grows_on}
use Rattle.bpf_explore.proofs.exchanged.add_around.Goals as goal

pub loop-one-init : goal.loop-one-init
loop-one-init c = record {
  listed = λ j k below less. absurd (omega (arith, below));
  grows = grows_not c.args.peers.now c.args.hung.now.items;
}

pub add_from-requires : goal.add_from-requires
add_from-requires c = record {
  one = omega arith;
  among = among_still c.args.peers.now c.args.hung.now.items c.loop-one.hung.items c.loop-one.invariant.grows c.args.by.now c.requires;
}

pub loop-one-preserved : goal.loop-one-preserved
loop-one-preserved c =
    let peers = c.args.peers.now in
    let mid = c.loop-one.hung.items in
    let new = c.add_from.new.hung.items in
    let step = c.in_ok-add_from.ensures in
    record {
      listed = around_on peers mid new c.args.by.now c.loop-one.one step.grows c.loop-one.invariant.listed step.listed;
      grows = grows_on peers c.args.hung.now.items mid new c.loop-one.invariant.grows step.grows;
    }

pub returns-clause-listed : goal.returns-clause-listed
returns-clause-listed c j k below less = c.loop-one.invariant.listed j k (omega (arith, below)) less
