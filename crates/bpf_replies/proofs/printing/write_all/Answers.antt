use Rattle.std.proofs.Common.{ℕ, ◌+◌, take, map}
use Rattle.std.specs.Io.KnownBytes.{Appends}
use Rattle.bpf_replies.specs.Answer.{all_of}
use Rattle.bpf_replies.proofs.WrittenAnswers.{for_err, next_text, texts_left, wrote_more, wrote_some}
use Rattle.bpf_replies.proofs.printing.write_all.Goals as goal

pub returns-in_err-write_whole-clause-begun : goal.returns-in_err-write_whole-clause-begun
returns-in_err-write_whole-clause-begun g c =
    let old = g.W.Sink.contents c.args.sink.now in
    let mid = g.W.Sink.contents c.loop-text.sink in
    let new = g.W.Sink.contents c.write_whole.new.sink in
    let texts = c.args.texts.now in
    let i = c.loop-text.text-index in
    let all = all_of (map (λ t. t.now) texts) in
    for_err c.from_residual.result ((k : ℕ) × Appends old new (take k all))
    (wrote_some old mid new all (texts_left texts i) _ (texts_left texts (i + 1)) c.loop-text.invariant.wrote
    (next_text texts i _ c.loop-text-test.true) c.in_err-write_whole.ensures.begun)

pub loop-text-preserved : goal.loop-text-preserved
loop-text-preserved g c =
    let old = g.W.Sink.contents c.args.sink.now in
    let mid = g.W.Sink.contents c.loop-text.sink in
    let new = g.W.Sink.contents c.write_whole.new.sink in
    let texts = c.args.texts.now in
    let i = c.loop-text.text-index in
    record {
      wrote = wrote_more old mid new (all_of (map (λ t. t.now) texts)) (texts_left texts i) _ (texts_left texts (i + 1)) c.loop-text.invariant.wrote
          (next_text texts i _ c.loop-text-test.true) c.in_ok-write_whole.ensures.written;
      works = c.in_ok-write_whole.ensures.told;
    }
