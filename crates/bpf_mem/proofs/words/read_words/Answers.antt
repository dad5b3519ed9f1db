use Rattle.std.proofs.Common.{◌<◌, length, arith}
use Rattle.std.proofs.lemmas.Bool.Decides.{nat_tests}
use Rattle.bpf_mem.specs.Saved.{IsWord}
use Rattle.bpf_mem.proofs.WordReading.{no_bytes, left_first, left_zero, left_word, left_short, left_no_zero, left_none, left_fit}
use Rattle.bpf_mem.proofs.words.read_words.Goals.{then-zeros-gt0, else-zeros-gt0+else-rest-lt9+else-word-eq0}
use Rattle.bpf_mem.proofs.words.read_words.Goals as goal

pub returns-then-is_empty-clause-none : goal.returns-then-is_empty-clause-none
returns-then-is_empty-clause-none c = no_bytes c.args.bytes.now (length c.args.words.now) (grind (arith, nat_tests))

pub loop-i-init : goal.loop-i-init
loop-i-init c = left_first c.args.bytes.now c.args.words.now (grind (arith, nat_tests))

pub loop-i-preserved : goal.loop-i-preserved
loop-i-preserved c =
    let inside : c.loop-i.i < length c.loop-i.words = omega arith in
    elim c.if-zeros-gt0.branch [
      | then-zeros-gt0 w ↦ rw (w.words-is, w.zeros-is, w.rest-is)
          (left_zero c.args.bytes.now c.loop-i.words c.loop-i.i c.loop-i.rest.now inside c.loop-i.zeros c.loop-i.invariant (omega arith))
      | else-zeros-gt0+else-rest-lt9+else-word-eq0 w ↦
          let x = w.first_word-word.result in
          let wide : IsWord x = omega (arith, w.first_word-word.type_inv) in
          rw (w.words-is, w.zeros-is, w.rest-is) (left_word c.args.bytes.now c.loop-i.words c.loop-i.i c.loop-i.rest.now inside
          c.loop-i.zeros c.loop-i.invariant (omega arith) (omega arith) x wide w.first_word-word.ensures (omega arith))
    ]

pub returns-then-rest-lt9-clause-none : goal.returns-then-rest-lt9-clause-none
returns-then-rest-lt9-clause-none c =
    left_short c.args.bytes.now c.loop-i.words c.loop-i.i c.loop-i.rest.now (omega arith) c.loop-i.zeros c.loop-i.invariant (omega arith)
    (length c.args.words.now) c.loop-i.auto.words (omega arith)

pub returns-then-word-eq0-clause-none : goal.returns-then-word-eq0-clause-none
returns-then-word-eq0-clause-none c =
    let x = c.first_word-word.result in
    let wide : IsWord x = omega (arith, c.first_word-word.type_inv) in
    left_no_zero c.args.bytes.now c.loop-i.words c.loop-i.i c.loop-i.rest.now (omega arith) c.loop-i.zeros c.loop-i.invariant (omega arith)
    (omega arith) x wide c.first_word-word.ensures (length c.args.words.now) c.loop-i.auto.words (omega arith)

pub returns-then-zeros-eq0-clause-some : goal.returns-then-zeros-eq0-clause-some
returns-then-zeros-eq0-clause-some c =
    left_none c.args.bytes.now c.loop-i.words c.loop-i.i c.loop-i.rest.now (omega arith) c.loop-i.zeros c.loop-i.invariant (omega arith)

pub returns-then-zeros-eq0-clause-fit : goal.returns-then-zeros-eq0-clause-fit
returns-then-zeros-eq0-clause-fit c =
    left_fit c.args.bytes.now c.loop-i.words c.loop-i.i c.loop-i.rest.now (omega arith) c.loop-i.zeros c.loop-i.invariant
