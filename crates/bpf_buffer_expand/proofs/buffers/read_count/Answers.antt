use Rattle.std.proofs.Common.{◌≡◌, [], ◌∷◌, length, refl, arith}
use Rattle.bpf_buffer_expand.proofs.Telling.{count_read, one_word}
use Rattle.bpf_buffer_expand.proofs.buffers.read_count.Goals as goal

pub returns-in-Some-clause-some : goal.returns-in-Some-clause-some
returns-in-Some-clause-some c =
    let size : length c.read_words.new.words ≡ 1 = omega (arith, c.read_words.auto.words) in
    count_read c.args.bytes.now c.read_words.new.words c.in-Some.rest.now size c.in-Some.ensures.some

pub returns-in-None-clause-none : goal.returns-in-None-clause-none
returns-in-None-clause-none c = λ n more is e. c.in-None.ensures.none (n ∷ []) more refl (one_word n is) e
