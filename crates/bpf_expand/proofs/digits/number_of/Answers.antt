use Rattle.bpf_expand.proofs.DigitLemmas.{number_at}
use Rattle.bpf_expand.proofs.digits.number_of.Goals as goal

pub returns : goal.returns
returns c = number_at c.args.numbers.now c.args.byte c.requires c.ranges.byte.fits
