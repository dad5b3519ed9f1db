use Rattle.std.proofs.Common.{◌≡◌, ◌+◌, ◌-◌, ◌*◌, ◌^◌}
use Rattle.hop_layout.specs.Layout.{depth_from}
use Rattle.hop_layout.proofs.index.depth.Given as goal

abbrev pub invariant-loop-depth : goal.invariant-loop-depth
invariant-loop-depth l = depth_from 10 64 l.max ≡ l.depth + depth_from (10 - l.depth) (64 * 2 ^ l.depth) l.max
