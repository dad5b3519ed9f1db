use Rattle.std.proofs.Common.{◌≡◌, drop}
use Rattle.std.specs.Str.Parse.{digits_value_after}
use Rattle.bpf_lines.proofs.numbers.number.Given as goal

abbrev pub invariant-loop-b : goal.invariant-loop-b
invariant-loop-b l = digits_value_after l.base l.n (drop l.b-index l.digits) ≡ digits_value_after l.base 0 l.digits
