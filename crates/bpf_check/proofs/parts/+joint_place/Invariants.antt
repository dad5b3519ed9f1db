use Rattle.std.proofs.Common.{length}
use Rattle.bpf_check.proofs.parts.+joint_place.Given as goal

abbrev pub decreases-joint_place : goal.decreases-joint_place
decreases-joint_place l = length l.words.now
