use Rattle.std.proofs.Common.{◌≤◌, arith, rules}
use Rattle.bpf_races.specs.Touch.{AreAtOdds}
use Rattle.bpf_races.proofs.Clashing.{InRange, as_well, range_begins, range_goes_on}
use Rattle.bpf_races.proofs.clash.push_common.Goals as goal

pub loop-byte-init : goal.loop-byte-init
loop-byte-init c = (omega arith, range_begins c.args.sync.now c.max-low.result c.min-high.result c.args.bytes.now.items)

pub loop-byte-preserved : goal.loop-byte-preserved
loop-byte-preserved c = (
  (let from = c.loop-byte.invariant.0 in omega arith),
  range_goes_on c.args.sync.now c.max-low.result c.min-high.result c.loop-byte.byte c.args.bytes.now.items c.loop-byte.bytes.items
      c.push_byte.new.bytes.items c.loop-byte.invariant.0 c.loop-byte-test.true c.loop-byte.invariant.1 c.in_ok-push_byte.ensures,
)

pub returns : goal.returns
returns c =
    let first = c.args.first in
    let second = c.args.second in
    let low = c.max-low.result in
    let high = c.min-high.result in
    let low_first : first.at ≤ low = search rules in
    let low_second : second.at ≤ low = search rules in
    let high_first : high ≤ first.past = search rules in
    let high_second : high ≤ second.past = search rules in
    let past = c.loop-byte-test.false in
    as_well c.args.sync.now (InRange low high c.loop-byte.byte) (AreAtOdds first second) c.args.bytes.now.items c.loop-byte.bytes.items
    (λ b is. record {
      hits = ((let from = is.0 in omega arith), (let below = is.2 in omega arith));
      hits_too = ((let from = is.0 in omega arith), (let below = is.2 in omega arith));
      one_writes = c.requires.unordered.0;
      not_both = c.requires.unordered.1;
    })
    (λ b odds. (
      (let one = odds.hits.0 in let two = odds.hits_too.0 in search rules),
      (let one = odds.hits.1 in let two = odds.hits_too.1 in search rules),
      (let one = odds.hits.1 in let two = odds.hits_too.1 in search rules),
    ))
    c.loop-byte.invariant.1
