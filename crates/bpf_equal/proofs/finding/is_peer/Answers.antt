use Rattle.std.proofs.Common.{arith}
use Rattle.bpf_equal.proofs.finding.is_peer.Goals as goal

pub returns : goal.returns
returns c is = record {
  inside = omega (arith, c.if-peer-cpus.false, c.cpus.ensures.cpus);
  no_maps = c.has_no_maps.ensures c.if-not-has_no_maps.false;
  job = c.is_of.ensures c.if-not-is_of.false;
  told = c.is_told.ensures is;
}
