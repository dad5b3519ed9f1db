use Rattle.std.proofs.Common.{◌<◌, arith}
use Rattle.hop_layout.proofs.Depths.{depth_on, low_power}
use Rattle.hop_layout.proofs.index.depth.Goals as goal

pub loop-depth-preserved : goal.loop-depth-preserved
loop-depth-preserved c =
    let i = c.loop-depth.invariant in
    let few : c.loop-depth.depth < 10 = omega arith in
    let p = low_power c.loop-depth.depth (omega arith) in
    let s = depth_on c.loop-depth.depth c.args.max few (omega arith) in
    omega arith
