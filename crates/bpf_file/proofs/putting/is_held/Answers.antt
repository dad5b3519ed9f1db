use Rattle.std.proofs.Common.{◌*◌}
use Rattle.bpf_file.proofs.Held.{narrow, wide}
use Rattle.bpf_file.proofs.putting.is_held.Goals as goal

pub returns-then-size-ge8 : goal.returns-then-size-ge8
returns-then-size-ge8 c = wide c.args.number c.args.size c.ranges.number.fits c.if-size-ge8.true

pub returns-else-size-ge8 : goal.returns-else-size-ge8
returns-else-size-ge8 c = narrow c.args.number (8 * c.args.size)
