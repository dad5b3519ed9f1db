use Rattle.std.proofs.Common.{ℕ, ◌/◌, ◌^◌, ap}
use Rattle.bpf_helpers.specs.Private.Bins.{bin_of}
use Rattle.bpf_helpers.proofs.bins.bin_of.Goals as goal

pub returns-clause-bin : goal.returns-clause-bin
unfolding bin_of
returns-clause-bin c = ap (λ (n : ℕ). n / 2 ^ 55) c.spread.ensures
