use Rattle.std.proofs.Common.{ap, sym, arith}
use Rattle.hop_map.specs.Private.LockedSegment.{seen_words}
use Rattle.hop_seg.proofs.Finding.{pair_there}
use Rattle.hop_map.proofs.Verdicts.{judge_sound, busy_answers, exists_answers, absent_answers}
use Rattle.hop_map.proofs.judging.judge.Goals as goal

pub returns-in-Some-clause-judges : goal.returns-in-Some-clause-judges
returns-in-Some-clause-judges c =
    let x = c.args.words.now in
    let key = c.args.request.now.key.now in
    let pair = c.in-Some.ensures.found (seen_words x) (ap seen_words (sym c.locate.ensures.rests))
    (judge_sound x key c.args.request.now.value.now c.args.request.now.flags c.requires.contents c.requires.wants) c.requires.home in
    let there = pair_there (seen_words x) key c.in-Some.field-0 pair in
    let less = c.if-lock-ge-WORN.false in
    let is = c.requires.stamp in (
      λ z. cc,
      λ z. cc,
      omega arith,
      exists_answers x key c.args.request.now.value.now c.args.request.now.flags c.requires.contents
          c.requires.wants c.if-flags-eq1.true there.0 there.1,
    )

pub returns-in-Some-2-clause-judges : goal.returns-in-Some-2-clause-judges
returns-in-Some-2-clause-judges c =
    let x = c.args.words.now in
    let key = c.args.request.now.key.now in
    let pair = c.in-Some.ensures.found (seen_words x) (ap seen_words (sym c.locate.ensures.rests))
    (judge_sound x key c.args.request.now.value.now c.args.request.now.flags c.requires.contents c.requires.wants) c.requires.home in
    let less = c.if-lock-ge-WORN.false in
    let is = c.requires.stamp in
    (omega arith, c.if-flags-eq1.false, pair)

pub returns-in-None-clause-judges : goal.returns-in-None-clause-judges
returns-in-None-clause-judges c =
    let x = c.args.words.now in
    let key = c.args.request.now.key.now in
    let gone = c.in-None.ensures.found (seen_words x) (ap seen_words (sym c.locate.ensures.rests))
    (judge_sound x key c.args.request.now.value.now c.args.request.now.flags c.requires.contents c.requires.wants) c.requires.home in
    let less = c.if-lock-ge-WORN.false in
    let is = c.requires.stamp in (
      λ z. cc,
      λ z. cc,
      omega arith,
      absent_answers x key c.args.request.now.value.now c.args.request.now.flags c.requires.contents
          c.requires.wants c.if-flags-eq2.true gone,
    )

pub returns-in-None-2-clause-judges : goal.returns-in-None-2-clause-judges
returns-in-None-2-clause-judges c =
    let x = c.args.words.now in
    let key = c.args.request.now.key.now in
    let gone = c.in-None.ensures.found (seen_words x) (ap seen_words (sym c.locate.ensures.rests))
    (judge_sound x key c.args.request.now.value.now c.args.request.now.flags c.requires.contents c.requires.wants) c.requires.home in
    let less = c.if-lock-ge-WORN.false in
    let is = c.requires.stamp in
    (omega arith, c.if-flags-eq2.false, gone)

pub returns-then-lock-ge-WORN-clause-judges : goal.returns-then-lock-ge-WORN-clause-judges
returns-then-lock-ge-WORN-clause-judges c =
    let last = c.if-lock-ge-WORN.true in
    let is = c.requires.stamp in (
      λ z. cc,
      λ z. cc,
      omega arith,
      busy_answers c.args.words.now c.args.request.now.key.now c.args.request.now.value.now c.args.request.now.flags c.requires.contents
          c.requires.wants (omega arith),
    )
