use Rattle.std.proofs.Common.{◌≡◌, length, arith}
use Rattle.bpf_mem.proofs.Fronts.{if_none}
use Rattle.bpf_helpers.proofs.SpanLemmas.{span_read, span_is, span_none}
use Rattle.bpf_helpers.proofs.held.saving.read_span.Goals as goal

pub returns-in_err-rest-clause-none : goal.returns-in_err-rest-clause-none
returns-in_err-rest-clause-none c = if_none c.from_residual.result (span_none c.args.bytes.now c.in_err-rest.ensures.none)

pub returns-clause-some : goal.returns-clause-some
returns-clause-some c =
    let size : length c.read_words.new.words ≡ 2 = omega (arith, c.read_words.auto.words) in
    span_read c.args.bytes.now c.read_words.new.words c.in_ok-rest.rest.now size c.in_ok-rest.ensures.some

pub returns-clause-wide : goal.returns-clause-wide
returns-clause-wide c =
    let size : length c.read_words.new.words ≡ 2 = omega (arith, c.read_words.auto.words) in
    span_is c.read_words.new.words size c.in_ok-rest.ensures.fit
