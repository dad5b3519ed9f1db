use Rattle.bpf_check.proofs.PlainTests.{plain_tests}
use Rattle.bpf_check.proofs.laws.plain_tests_are_plain.Goals as goal

pub returns : goal.returns
returns c = plain_tests
