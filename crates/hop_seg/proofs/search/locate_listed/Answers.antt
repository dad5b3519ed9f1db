use Rattle.std.proofs.Common.{◌≢◌, ◌+◌, ℕ, Option, Some, None, refl, sym, subst, arith}
use Rattle.hop_seg.specs.Segment.{element_key}
use Rattle.hop_seg.proofs.Basics.{no_true, one_more, no_more}
use Rattle.hop_seg.proofs.Walking.{Counted, counted_begins, counted_on, counted_ends, walk_at, walk_ends, listed_known}
use Rattle.hop_seg.proofs.search.locate_listed.Goals as goal

pub loop-passed-init : goal.loop-passed-init
loop-passed-init g c = record {
  rests = c.head-at.ensures.rests;
  walk = λ w a s.
      let P : ℕ → Type 0 = λ e. element_key w e ≢ c.args.key.now in
      subst (λ (o : Option ℕ). Counted w P None o 0) (sym (c.head-at.ensures.value w a)) (counted_begins w s P);
  reads = let h = c.head-at.ensures.reads in omega arith;
}

pub returns-in_default-clause-found : goal.returns-in_default-clause-found
returns-in_default-clause-found g c = λ w a s.
    let P : ℕ → Type 0 = λ e. element_key w e ≢ c.args.key.now in
    let k = subst (λ (o : Option ℕ). Counted w P c.loop-passed.before o c.loop-passed._passed) c.in_default.is (c.loop-passed.invariant.walk w a s) in
    walk_ends w P c.loop-passed.before k.walk

pub returns-then-has_key-clause-found : goal.returns-then-has_key-clause-found
returns-then-has_key-clause-found g c = λ w a s.
    let P : ℕ → Type 0 = λ e. element_key w e ≢ c.args.key.now in
    let k = subst (λ (o : Option ℕ). Counted w P c.loop-passed.before o c.loop-passed._passed) c.in-Some.is
    (c.loop-passed.invariant.walk w (g.met.S.SegReads.agreed_before _ _ w c.has_key.ensures.rests a) s) in
    let here = walk_at w s P c.loop-passed.before c.in-Some.element k.walk in
    (here.link, (c.if-has_key.ensures.value w a (listed_known w s c.in-Some.element here.link.listed)).0 refl)

pub loop-passed-preserved : goal.loop-passed-preserved
loop-passed-preserved g c = record {
  rests = g.met.S.SegReads.rests_on _ _ _ c.loop-passed.invariant.rests (g.met.S.SegReads.rests_on _ _ _ c.has_key.ensures.rests c.next-at.ensures.rests);
  walk = λ w a s.
      let P : ℕ → Type 0 = λ e. element_key w e ≢ c.args.key.now in
      let e = c.in-Some.element in
      let keyed = g.met.S.SegReads.agreed_before _ _ w c.next-at.ensures.rests a in
      let k = subst (λ (o : Option ℕ). Counted w P c.loop-passed.before o c.loop-passed._passed) c.in-Some.is
      (c.loop-passed.invariant.walk w (g.met.S.SegReads.agreed_before _ _ w c.has_key.ensures.rests keyed) s) in
      let known = listed_known w s e (walk_at w s P c.loop-passed.before e k.walk).link.listed in
      let other : element_key w e ≢ c.args.key.now = λ same. no_true ((c.if-has_key.ensures.value w keyed known).1 same) in
      subst (λ (o : Option ℕ). Counted w P (Some e) o (c.loop-passed._passed + 1)) (sym (c.next-at.ensures.value w a known))
      (counted_on w s P c.loop-passed.before e c.loop-passed._passed k other);
  reads =
      let b = 1 + g.S.SegReads.key_words c.args.words.now in
      let same = g.met.S.SegReads.rests_alike _ _ c.loop-passed.invariant.rests in
      let r = c.loop-passed.invariant.reads in
      let h = c.has_key.ensures.reads in
      let n = c.next-at.ensures.reads in
      let more = one_more c.loop-passed._passed b in
      omega (arith, same.1);
}

pub returns-clause-found : goal.returns-clause-found
returns-clause-found g c = λ w a s.
    let P : ℕ → Type 0 = λ e. element_key w e ≢ c.args.key.now in
    let few = c.elements-elements.ensures.limit w (g.met.S.SegReads.agreed_before _ _ w c.loop-passed.invariant.rests a) in
    counted_ends w s P c.loop-passed.before c.loop-passed.at c.loop-passed._passed (omega (arith, few, c.loop-passed-test.false))
    (c.loop-passed.invariant.walk w a s)

pub returns-in_default-clause-reads : goal.returns-in_default-clause-reads
returns-in_default-clause-reads g c =
    let b = 1 + g.S.SegReads.key_words c.args.words.now in
    let few = no_more c.loop-passed._passed (g.S.SegReads.count c.args.words.now) b
    (let n = c.elements-elements.ensures.count in let t = c.loop-passed-test.true in omega arith) in
    let r = c.loop-passed.invariant.reads in
    omega arith

pub returns-then-has_key-clause-reads : goal.returns-then-has_key-clause-reads
returns-then-has_key-clause-reads g c =
    let b = 1 + g.S.SegReads.key_words c.args.words.now in
    let few = no_more (c.loop-passed._passed + 1) (g.S.SegReads.count c.args.words.now) b
    (let n = c.elements-elements.ensures.count in let t = c.loop-passed-test.true in omega arith) in
    let more = one_more c.loop-passed._passed b in
    let r = c.loop-passed.invariant.reads in
    let h = c.has_key.ensures.reads in
    let same = g.met.S.SegReads.rests_alike _ _ c.loop-passed.invariant.rests in
    omega (arith, same.1)

pub returns-clause-reads : goal.returns-clause-reads
returns-clause-reads g c =
    let b = 1 + g.S.SegReads.key_words c.args.words.now in
    let few = no_more c.loop-passed._passed (g.S.SegReads.count c.args.words.now) b
    (let n = c.elements-elements.ensures.count in let t = c.loop-passed-test.false in omega arith) in
    let r = c.loop-passed.invariant.reads in
    omega arith
