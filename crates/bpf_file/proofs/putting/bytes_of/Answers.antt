use Rattle.std.proofs.Common.{refl}
use Rattle.bpf_file.proofs.Puts.{word_read, word_refused}
use Rattle.bpf_file.proofs.putting.bytes_of.Goals as goal

pub returns-in-Err : goal.returns-in-Err
returns-in-Err c = (
  refl,
  word_refused c.args.size c.args.words.now c.loop-word.word-index _ c.loop-word-test.true c.loop-word.bytes.items c.in-Err.reason
      c.in-Err.ensures c.loop-word.invariant,
)

pub loop-word-preserved : goal.loop-word-preserved
loop-word-preserved c =
    word_read c.args.size c.args.words.now c.loop-word.word-index _ c.loop-word-test.true c.loop-word.bytes.items c.push_low.new.bytes.items
    c.bytes_in.result c.in-Ok.number
    c.in-Ok.ensures c.loop-word.invariant c.bytes_in.ensures.value c.in-Ok-push_low.ensures
