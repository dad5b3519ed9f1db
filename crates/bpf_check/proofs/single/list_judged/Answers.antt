use Rattle.std.proofs.Common.{length, string_bytes}
use Rattle.bpf_check.specs.Listing.{plan_text}
use Rattle.bpf_check.proofs.SingleRuns.{one_judged_more}
use Rattle.bpf_check.proofs.single.list_judged.Goals as goal

pub loop-place-preserved : goal.loop-place-preserved
loop-place-preserved c =
    one_judged_more c.args.printed.now c.args.expectations.now c.loop-place.place c.index-expectations-place.result (plan_text (length c.args.expectations.now))
    (string_bytes c.loop-place.text) (string_bytes c.push_judged.new.text) c.loop-place-test.true c.index-expectations-place.is
    c.loop-place.invariant c.in_ok-push_judged.ensures
