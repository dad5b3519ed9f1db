use Rattle.std.proofs.Common.{◌≡◌, [], ◌∷◌, length, refl, arith}
use Rattle.bpf_shared.specs.Access.{bytes_in}
use Rattle.bpf_buffer_expand.proofs.Telling.{no_size, size_is_word, stored_read, three_words}
use Rattle.bpf_buffer_expand.proofs.buffers.read_stored.Goals as goal

pub returns-in_default-clause-none : goal.returns-in_default-clause-none
returns-in_default-clause-none c = λ e more is same.
    c.in_default.ensures.none (e.at ∷ bytes_in e.size ∷ e.word ∷ []) more refl (three_words e.at (bytes_in e.size) e.word is.0 (size_is_word e.size) is.1) same

pub returns-in-Some-size_of_count-clause-some : goal.returns-in-Some-size_of_count-clause-some
returns-in-Some-size_of_count-clause-some c =
    let size : length c.read_words.new.words ≡ 3 = omega (arith, c.read_words.auto.words) in
    stored_read c.args.bytes.now c.read_words.new.words c.in-Some.rest.now c.in-Some-size_of_count.size size c.in-Some.ensures.some
    c.in-Some-size_of_count.ensures.some

pub returns-in-None-clause-none : goal.returns-in-None-clause-none
returns-in-None-clause-none c = λ e more is same.
    let size : length c.read_words.new.words ≡ 3 = omega (arith, c.read_words.auto.words) in
    no_size c.args.bytes.now c.read_words.new.words c.in-Some.rest.now size c.in-Some.ensures.fit c.in-Some.ensures.some c.in-None.ensures.none e
    more is same
