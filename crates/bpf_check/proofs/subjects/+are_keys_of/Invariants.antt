use Rattle.std.proofs.Common.{length}
use Rattle.bpf_check.proofs.subjects.+are_keys_of.Given as goal

abbrev pub decreases-are_keys_of : goal.decreases-are_keys_of
decreases-are_keys_of l = length l.words.now
