use Rattle.bpf_helpers.proofs.SpanLemmas.{spans_told}
use Rattle.bpf_helpers.proofs.laws.saved_tells_spans.Goals as goal

pub returns : goal.returns
returns c = spans_told
