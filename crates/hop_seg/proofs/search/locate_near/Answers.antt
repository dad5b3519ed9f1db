use Rattle.std.proofs.Common.{◌≡◌, ℕ, ◌+◌, ◌≤◌, inl, inr, sym, ◌∙◌, subst, arith}
use Rattle.std.proofs.lemmas.Bool.{cases_eq, cases_lt}
use Rattle.std.specs.Int.{bit_at}
use Rattle.hop_seg.specs.Words.{without_bit}
use Rattle.hop_seg.specs.Spots.{NoneAt}
use Rattle.hop_seg.proofs.Basics.{cleared, one_more, no_more}
use Rattle.hop_seg.proofs.search.locate_near.Goals as goal

pub bits-smaller : goal.bits-smaller
bits-smaller g c =
    rw c.without_bit-left.ensures (cleared c.bits.left _ c.nearest-distance.ensures.in_range c.nearest-distance.ensures.set).0

pub bits-preserved : goal.bits-preserved
bits-preserved g c =
    let d = c.nearest-distance.result in
    let gone = cleared c.bits.left d c.nearest-distance.ensures.in_range c.nearest-distance.ensures.set in
    let cut : c.without_bit-left.result ≡ without_bit c.bits.left d = c.without_bit-left.ensures in
    let before = g.met.S.SegReads.agreed_before _ _ in
    record {
      rests = g.met.S.SegReads.rests_on _ _ _ c.bits.invariant.rests c.keyed_item.ensures.rests;
      left = λ w a j small set.
          elim (cases_eq j d) [
            | inl e ↦ absurd (let q : bit_at (without_bit c.bits.left d) d ≡ 1 = subst (λ (x : ℕ). bit_at (without_bit c.bits.left d) x ≡ 1) e (subst (λ (x : ℕ). bit_at x j ≡ 1) cut set) in
                omega (arith, gone.1, q))
            | inr ne ↦ c.bits.invariant.left w (before w c.keyed_item.ensures.rests a) j small
                (sym (gone.2 j small ne) ∙ subst (λ (x : ℕ). bit_at x j ≡ 1) cut set)
          ];
      passed = λ w a s b j e near.
          let old = before w c.keyed_item.ensures.rests a in
          let none : NoneAt w c.args.bucket c.args.key.now d = c.in_default.ensures.found w a s
          (c.bits.invariant.left w old d c.nearest-distance.ensures.in_range c.nearest-distance.ensures.set) in
          elim (cases_eq j d) [
            | inl q ↦ inr (subst (λ (x : ℕ). NoneAt w c.args.bucket c.args.key.now x) (sym q) none e near)
            | inr ne ↦ elim (c.bits.invariant.passed w old s b j e near) [
              | inl set ↦ inl (subst (λ (x : ℕ). bit_at x j ≡ 1) (sym cut) (gone.2 j near.near ne ∙ set))
              | inr other ↦ inr other
            ]
          ];
      reads =
          let r = c.bits.invariant.reads in
          let b = 1 + g.S.SegReads.key_words c.args.words.now in
          let past : r.0 ≤ d = elim (cases_lt d r.0) [
            | inl early ↦ absurd (let z = r.2 d early in let y = c.nearest-distance.ensures.set in omega arith)
            | inr late ↦ late
          ] in
          let few = no_more r.0 d b past in
          let more = one_more d b in
          let same = g.met.S.SegReads.rests_alike _ _ c.bits.invariant.rests in
          let k = c.keyed_item.ensures.reads in (
            d + 1,
            (let z = c.nearest-distance.ensures.in_range in omega arith),
            (λ j low. elim (cases_eq j d) [
              | inl e ↦ subst (λ (x : ℕ). bit_at x j ≡ 0) (sym cut) (subst (λ (x : ℕ). bit_at (without_bit c.bits.left d) x ≡ 0) (sym e) gone.1)
              | inr ne ↦ subst (λ (x : ℕ). bit_at x j ≡ 0) (sym cut)
                  (gone.2 j (let z = c.nearest-distance.ensures.in_range in omega arith) ne ∙ c.nearest-distance.ensures.first j (omega arith))
            ]),
            omega (arith, r.3, same.1),
          );
    }

pub bits-init : goal.bits-init
bits-init g c = record {
  rests = c.hop-left.ensures.rests;
  left = λ w a d small set. subst (λ (x : ℕ). bit_at x d ≡ 1) (c.hop-left.ensures.value w a) set;
  passed = λ w a s b d e near. inl (subst (λ (x : ℕ). bit_at x d ≡ 1) (sym (c.hop-left.ensures.value w a)) near.bit);
  reads = (0, omega arith, (λ d low. absurd (omega arith)), (let h = c.hop-left.ensures.reads in omega arith));
}

pub returns-in-Some-clause-reads : goal.returns-in-Some-clause-reads
returns-in-Some-clause-reads g c =
    let r = c.bits.invariant.reads in
    let d = c.nearest-distance.result in
    let b = 1 + g.S.SegReads.key_words c.args.words.now in
    let past : r.0 ≤ d = elim (cases_lt d r.0) [
      | inl early ↦ absurd (let z = r.2 d early in let y = c.nearest-distance.ensures.set in omega arith)
      | inr late ↦ late
    ] in
    let few = no_more r.0 d b past in
    let more = one_more d b in
    let most = no_more (d + 1) 32 b (let z = c.nearest-distance.ensures.in_range in omega arith) in
    let same = g.met.S.SegReads.rests_alike _ _ c.bits.invariant.rests in
    let k = c.keyed_item.ensures.reads in
    omega (arith, r.3, same.1)

pub returns-clause-reads : goal.returns-clause-reads
returns-clause-reads g c =
    let r = c.bits.invariant.reads in
    let b = 1 + g.S.SegReads.key_words c.args.words.now in
    let most = no_more r.0 32 b r.1 in
    omega (arith, r.3)
