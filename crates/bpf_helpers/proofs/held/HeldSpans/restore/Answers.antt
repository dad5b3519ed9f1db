use Rattle.std.proofs.Common.{◌≡◌, ◌++◌, ◌-◌, ◌∙◌, ap, sym, ℕ, length, take, drop, arith}
use Rattle.bpf_base.specs.Bytes.{low_bytes}
use Rattle.bpf_helpers.proofs.SpanLemmas.{both_some, counted, all_read}
use Rattle.bpf_helpers.proofs.held.HeldSpans.restore.Goals as goal

pub returns-clause-some : goal.returns-clause-some
returns-clause-some c =
    let bytes = c.args.bytes.now in
    let rest = take (length bytes - 2) (drop 2 bytes) in
    let read = counted bytes (omega arith) (λ i. let f = c.type_inv.bytes i in omega arith) in
    let begins : bytes ≡ low_bytes 2 c.from-count.result ++ rest = read ∙ ap (λ (n : ℕ). low_bytes 2 n ++ rest)
    (sym (c.from-count.ensures ∙ c.load_half.ensures)) in
    both_some _ _ _ c.read_spans.result c.read_spans.ensures.some c.read_spans.ensures.count
    (λ behind is size. all_read bytes rest behind.now c.from-count.result c.read_spans.new.self begins is size)
