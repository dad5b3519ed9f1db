use Rattle.std.proofs.Common.{length}
use Rattle.bpf_check.proofs.parts.+has_joint.Given as goal

abbrev pub decreases-has_joint : goal.decreases-has_joint
decreases-has_joint l = length l.words.now
