use Rattle.std.proofs.Common.{arith}
use Rattle.hop_map.proofs.Keys.{are_bytes}
use Rattle.hop_map.proofs.updating.remember.Goals as goal

pub returns : goal.returns
returns c = are_bytes c.args.bytes.now (λ i. let f = c.type_inv.bytes i in omega arith)
