use Rattle.std.proofs.Common.{◌≡◌, ℕ, ◌+◌, ◌*◌, ◌/◌, ◌%◌, ◌<◌, [], ◌∷◌, refl, ap, sym, subst, ◌∙◌, arith}
use Rattle.std.specs.Int.{bit_at, trailing_zeros, w64}
use Rattle.std.proofs.lemmas.Nat.{and_le_l}
use Rattle.hop_layout.specs.declared.place.Place.TheVariants.{FreeBits}
use Rattle.hop_words.specs.Sights.{look, bit_cleared}
use Rattle.hop_arena.proofs.Claiming.{first_look, looks_on, holds_on, look_on, all_taken, lowest, fewer, looks_runs}
use Rattle.hop_words.proofs.Sighted.{looks_leave, cleared_leaves}
use Rattle.hop_arena.proofs.arena.claim_in.Goals as goal

pub loop-bits-init : goal.loop-bits-init
loop-bits-init c = (
  c.see_bits-bits.ensures.table ∙ c.requires.table,
  (
    look (FreeBits c.args.map c.args.word) c.see_bits-bits.result ∷ [],
    (c.see_bits-bits.ensures.seen, (refl, tt)),
    first_look c.args.map
        c.args.word c.see_bits-bits.result,
  ),
)

pub returns-then-number-count-clause-claimed : goal.returns-then-number-count-clause-claimed
returns-then-number-count-clause-claimed c =
    let i = c.loop-bits.invariant.1 in
    let low = lowest c.loop-bits.bits (let t = c.loop-bits-test.true in omega arith) (let f = c.loop-bits.auto.bits-fits in omega arith) in (
      i.0,
      i.1,
      all_taken i.0 c.args.map c.args.word _ c.loop-bits.bits i.2
          (λ j few less. low.2 j (let t = c.if-number-count.true in let k = c.requires.count in omega arith)),
    )

pub returns-then-has_bit-clause-claimed : goal.returns-then-has_bit-clause-claimed
returns-then-has_bit-clause-claimed c =
    let i = c.loop-bits.invariant.1 in
    let e = 64 * c.args.word + trailing_zeros w64 c.loop-bits.bits in
    let s = bit_cleared c.args.map e c.claim_bit-found.result in (
      s ∷ i.0,
      holds_on c.args.lane.now.known c.loop-bits.lane.known c.claim_bit-found.new.self.known i.0 s c.args.map
          (64 * c.args.word + trailing_zeros w64 c.loop-bits.bits) i.1 (c.claim_bit-found.ensures.claimed.0 (c.if-has_bit.ensures.set refl)),
      refl,
      subst (λ (n : ℕ). 64 * c.args.word + trailing_zeros w64 c.loop-bits.bits < n) c.requires.count c.if-number-count.false,
      (cleared_leaves c.args.map e c.claim_bit-found.result, looks_leave i.0 i.1.1),
    )

pub loop-bits-smaller : goal.loop-bits-smaller
loop-bits-smaller c =
    let low = lowest c.loop-bits.bits (let t = c.loop-bits-test.true in omega arith) (let f = c.loop-bits.auto.bits-fits in omega arith) in
    fewer c.loop-bits.bits c.claim_bit-found.result (trailing_zeros w64 c.loop-bits.bits) low.1
    (let few = low.0 in let z : (64 * c.args.word + trailing_zeros w64 c.loop-bits.bits) % 64 ≡ trailing_zeros w64 c.loop-bits.bits = grind arith in
    ap (bit_at c.claim_bit-found.result) (sym z) ∙ c.if-has_bit.ensures.clear refl)
    (and_le_l c.loop-bits.bits c.claim_bit-found.result)

pub loop-bits-preserved : goal.loop-bits-preserved
loop-bits-preserved c =
    let i = c.loop-bits.invariant.1 in
    let low = lowest c.loop-bits.bits (let t = c.loop-bits-test.true in omega arith) (let f = c.loop-bits.auto.bits-fits in omega arith) in
    let few = low.0 in (
      c.claim_bit-found.ensures.table ∙ c.loop-bits.invariant.0,
      (
        look (FreeBits c.args.map ((64 * c.args.word + trailing_zeros w64 c.loop-bits.bits) / 64)) c.claim_bit-found.result ∷ i.0,
        looks_on c.args.lane.now.known c.loop-bits.lane.known c.claim_bit-found.new.self.known i.0
            (look (FreeBits c.args.map ((64 * c.args.word + trailing_zeros w64 c.loop-bits.bits) / 64)) c.claim_bit-found.result) refl i.1
            (c.claim_bit-found.ensures.claimed.1 (c.if-has_bit.ensures.clear refl)),
        look_on i.0 c.args.map c.args.word ((64 * c.args.word + trailing_zeros w64 c.loop-bits.bits) / 64) c.loop-bits.bits
            c.claim_bit-found.result (grind arith) i.2,
      ),
    )

pub claim_bit-found-requires-clause-runs : goal.claim_bit-found-requires-clause-runs
claim_bit-found-requires-clause-runs c = let i = c.loop-bits.invariant.1 in looks_runs c.args.lane.now.known c.loop-bits.lane.known i.0 i.1 c.requires.runs
