use Rattle.std.proofs.Common.{◌+◌, arith}
use Rattle.bpf_loader.proofs.WordLemmas.{counted_more, word_length-take}
use Rattle.bpf_loader.proofs.loading.word_count.Goals as goal

pub returns-then-words-gt-MAX_WORDS-clause-long : goal.returns-then-words-gt-MAX_WORDS-clause-long
returns-then-words-gt-MAX_WORDS-clause-long c =
    let here = counted_more _ _ _ _ _ c.loop-insn-test.true c.loop-insn.invariant.0 c.words.ensures in
    let part = word_length-take c.args.insns.now (c.loop-insn.insn-index + 1) in
    omega (arith, here, part)

pub loop-insn-preserved : goal.loop-insn-preserved
loop-insn-preserved c =
    (counted_more _ _ _ _ _ c.loop-insn-test.true c.loop-insn.invariant.0 c.words.ensures, omega arith)
