use Rattle.std.proofs.Common.{◌∙◌}
use Rattle.bpf_check.proofs.Held.{by_bits, field_there}
use Rattle.bpf_check.proofs.claim.Field.number.Goals as goal

pub returns-then-to-digits : goal.returns-then-to-digits
returns-then-to-digits c =
    by_bits _ _ c.low_first.ensures.value c.low_first.ensures.fits
    ∙ field_there c.args.self c.args.digits.now c.from-from.result c.bytes_in.result c.from-from.ensures c.bytes_in.ensures.value c.if-to-digits.true
