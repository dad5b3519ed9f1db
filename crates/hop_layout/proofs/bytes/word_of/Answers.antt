use Rattle.std.proofs.Common.{◌≡◌, ◌<◌, ◌*◌, ℕ, ◌+◌, ◌-◌, slice_index, ap, sym, subst, ◌∙◌, arith}
use Rattle.bpf_base.specs.Bytes.{little_endian, part}
use Rattle.hop_layout.proofs.Parts.{cap, cap_most, word_step, word_none, cap_on, cap_up}
use Rattle.hop_layout.proofs.bytes.word_of.Goals as goal
use Rattle.hop_layout.proofs.bytes.word_of.Goals.{then-at-bytes, else-at-bytes}

pub overflow_mul-number : goal.overflow_mul-number
overflow_mul-number c = let t = cap_most (c.bytes.passed - 1) 7 (let b = c.bytes-test.true in omega arith) in let i = c.bytes.invariant.1 in omega arith

pub overflow_add-number : goal.overflow_add-number
overflow_add-number c =
    let t = cap_most (c.bytes.passed - 1) 7 (let b = c.bytes-test.true in omega arith) in
    let i = c.bytes.invariant.1 in
    let b : slice_index c.args.bytes.now (8 * c.args.word + (8 - c.bytes.passed)) < 256 =
    (let f = c.type_inv.bytes (8 * c.args.word + (8 - c.bytes.passed)) in omega arith) in
    let e = c.from.ensures in
    omega arith

pub bytes-preserved : goal.bytes-preserved
bytes-preserved c = elim c.if-at-bytes.branch [
  | then-at-bytes w ↦
      let low = c.bytes.auto.passed in
      let high = c.bytes-test.true in
      let b : slice_index c.args.bytes.now (8 * c.args.word + (8 - c.bytes.passed)) < 256 =
      (let f = c.type_inv.bytes (8 * c.args.word + (8 - c.bytes.passed)) in omega arith) in
      let e = w.from.ensures in
      let now = word_step c.args.bytes.now (8 * c.args.word + (9 - (c.bytes.passed + 1))) (8 * c.args.word + (9 - c.bytes.passed))
      (c.bytes.passed - 1) (c.bytes.passed + 1 - 1) (omega arith) (omega arith) (let t = w.if-at-bytes.true in omega arith) in
      let same : slice_index c.args.bytes.now (8 * c.args.word + (9 - (c.bytes.passed + 1))) ≡ slice_index c.args.bytes.now
      (8 * c.args.word + (8 - c.bytes.passed)) = ap (slice_index c.args.bytes.now) (omega arith) in
      let was = c.bytes.invariant.0 in
      let is = w.number-is in (
        (omega arith),
        subst (λ (n : ℕ). n < cap (c.bytes.passed + 1 - 1)) (sym w.number-is)
            (cap_on (c.bytes.passed + 1 - 1) (c.bytes.passed - 1) c.bytes.number (omega arith) c.bytes.invariant.1 w.from.result (omega arith)),
      )
  | else-at-bytes w ↦
      let low = c.bytes.auto.passed in
      let now = word_none c.args.bytes.now (8 * c.args.word + (9 - (c.bytes.passed + 1))) (c.bytes.passed + 1 - 1)
      (let t = w.if-at-bytes.false in omega arith) in
      let then = word_none c.args.bytes.now (8 * c.args.word + (9 - c.bytes.passed)) (c.bytes.passed - 1) (let t = w.if-at-bytes.false in omega arith) in
      let was = c.bytes.invariant.0 in
      let is = w.number-is in (
        (omega arith),
        subst (λ (n : ℕ). n < cap (c.bytes.passed + 1 - 1)) (sym w.number-is)
            (cap_up (c.bytes.passed + 1 - 1) (c.bytes.passed - 1) c.bytes.number (omega arith) c.bytes.invariant.1),
      )
]

pub returns : goal.returns
returns c =
    let e : c.bytes.passed ≡ 9 = (let b = c.bytes-test.false in let d = c.bytes.auto.passed-end (omega arith) in omega arith) in
    let z : 8 * c.args.word + (9 - 9) ≡ 8 * c.args.word = omega arith in
    c.bytes.invariant.0 ∙ ((λ j. little_endian (part c.args.bytes.now (8 * c.args.word + (9 - e j)) (e j - 1))) ∙
    (λ j. little_endian (part c.args.bytes.now (z j) 8)))
