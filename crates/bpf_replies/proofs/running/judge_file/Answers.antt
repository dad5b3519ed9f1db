use Rattle.std.specs.Prelude.{string_bytes}
use Rattle.bpf_replies.proofs.Judged.{after_left, judged}
use Rattle.bpf_replies.proofs.running.judge_file.Goals as goal

pub returns : goal.returns
returns c =
    let report = c.in_ok-report.report in
    let expected = c.in_ok-expected.expected.items in
    let tests = c.in_ok-judged.judged in
    let left = c.in_ok-left.left in
    let printed = string_bytes tests.text in (
      expected,
      c.in_ok-expected.ensures.found,
      left,
      c.in_ok-left.ensures.found,
      printed,
      after_left left printed c.as_str-2.result.now (string_bytes c.in_ok-text.text) c.in_ok-text.ensures c.as_str-2.ensures.value,
      judged c.args.by.now c.args.keys c.args.text.now (string_bytes report.text) c.as_str.result.now printed
          report.stopped tests.refuted expected c.deref.result.now
          c.in_ok-report.ensures.told c.deref.ensures.value c.as_str.ensures.value c.in_ok-judged.ensures.text c.in_ok-judged.ensures.refuted,
    )
