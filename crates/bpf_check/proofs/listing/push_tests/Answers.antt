use Rattle.std.proofs.Common.{refl, string_bytes}
use Rattle.bpf_check.proofs.TestLines.{one_test_more}
use Rattle.bpf_check.proofs.listing.push_tests.Goals as goal

pub loop-place-preserved : goal.loop-place-preserved
loop-place-preserved c =
    one_test_more c.args.file.name.now c.args.file.lines.now c.args.before c.args.file.findings.now c.loop-place.place
    c.args.expectations.now c.args.verdicts.now
    c.index-expectations-place.result _ (string_bytes c.args.text.now) (string_bytes c.loop-place.text) (string_bytes c.push_mark.new.text)
    (string_bytes c.push_test.new.text) c.loop-place-test.true c.requires.same c.index-expectations-place.is refl c.loop-place.invariant
    c.in_ok-push_mark.ensures c.in_ok-push_test.ensures
