use Rattle.std.proofs.Common.{◌≡◌, ◌∙◌, ℕ, List, ◌++◌, length, length-drop, drop, sym, ap, subst, arith, slice_index}
use Rattle.bpf_plain.specs.Private.Contents.{IsPadded}
use Rattle.bpf_plain.specs.Private.Changes.{change}
use Rattle.bpf_plain.proofs.Stepping.{taken, passed, front_taken, front_passed, padded_taken, all_read}
use Rattle.bpf_plain.proofs.reading.read_changes.Goals as goal
use Rattle.bpf_plain.proofs.reading.read_changes.Goals.{in-Some, in_default}

pub loop-offset-preserved : goal.loop-offset-preserved
loop-offset-preserved c =
    let first : ℕ → ℕ = slice_index c.args.bytes.now in
    let o = c.loop-offset.offset in
    let at = c.loop-offset.at in
    let inv = c.loop-offset.invariant in
    let few = c.requires.few in
    let less = c.loop-offset-test.true in
    let same = c.loop-offset.auto.bytes in
    elim c.match-change_at.branch [
      | in-Some w ↦
          let byte = w.in-Some.byte in
          let new = w.put_within.new.bytes in
          let found : drop at c.args.saved.now ≡ change o byte ++ drop 5 (drop at c.args.saved.now) =
          sym c.past.ensures ∙ (w.in-Some.ensures.found ∙ ap (λ (bs : List ℕ). change o byte ++ drop 5 bs) c.past.ensures) in
          record {
            read = λ xs more size padded is.
                (let i = inv.read xs more size padded is in
                let t = taken first c.args.saved.now xs more o at (omega arith) (omega arith) i.1 byte found in
                let front = front_taken first c.args.saved.now xs more o at (omega arith) (omega arith) i.1 c.args.cpus c.args.array.now
                c.loop-offset.bytes new byte padded w.put_within.ensures.here w.put_within.ensures.others t i.0 in (
                  λ y l. ap (λ (bs : List ℕ). slice_index bs y) w.bytes-is ∙ front y l,
                  ap (λ (k : ℕ). drop k c.args.saved.now) w.at-is ∙ t.2,
                ));
            rest = λ y l. ap (λ (bs : List ℕ). slice_index bs y) w.bytes-is ∙
                (w.put_within.ensures.others y (λ e. (let z : y ≡ o = e in omega arith)) ∙ inv.rest y (omega arith));
            padded = subst (IsPadded c.args.cpus c.args.array.now first) (sym w.bytes-is)
                (padded_taken c.args.cpus c.args.array.now first c.loop-offset.bytes new o byte w.put_within.auto.bytes
                w.put_within.ensures.here w.put_within.ensures.others inv.padded);
            inside =
                (let room = w.in-Some.ensures.room in
                let long = ap (λ (bs : List ℕ). length bs) c.past.ensures in
                let count = length-drop at c.args.saved.now in
                let far = w.at-is in
                omega arith);
          }
      | in_default w ↦
          let none : (byte : ℕ) (rest : List ℕ) → drop at c.args.saved.now ≡ change o byte ++ rest → ⊥ = λ byte rest e.
          w.in_default.ensures.none byte rest (c.past.ensures ∙ e) in
          record {
            read = λ xs more size padded is.
                (let i = inv.read xs more size padded is in
                let p = passed first c.args.saved.now xs more o at (omega arith) (omega arith) i.1 none in
                let front = front_passed first c.args.saved.now xs more o at (omega arith) (omega arith) i.1 c.loop-offset.bytes
                (inv.rest o (omega arith)) p i.0 in (
                  λ y l. ap (λ (bs : List ℕ). slice_index bs y) w.bytes-is ∙ front y l,
                  ap (λ (k : ℕ). drop k c.args.saved.now) w.at-is ∙ p.1,
                ));
            rest = λ y l. ap (λ (bs : List ℕ). slice_index bs y) w.bytes-is ∙ inv.rest y (omega arith);
            padded = subst (IsPadded c.args.cpus c.args.array.now first) (sym w.bytes-is) inv.padded;
            inside = (let at_is = w.at-is in let before = inv.inside in omega arith);
          }
    ]

pub returns-then-saved-at-lt4-clause-read : goal.returns-then-saved-at-lt4-clause-read
returns-then-saved-at-lt4-clause-read c xs more size padded is =
    let i = c.loop-offset.invariant.read xs more size padded is in
    let past = c.loop-offset-test.false in
    let same = c.loop-offset.auto.bytes in
    let all = all_read (slice_index c.args.bytes.now) c.args.saved.now xs more c.loop-offset.bytes c.loop-offset.offset c.loop-offset.at
    (omega arith) (omega arith) i.0 i.1 in
    let few = c.if-saved-at-lt4.true in
    let four = all.1 in
    absurd (omega arith)

pub returns-else-saved-at-lt4-clause-read : goal.returns-else-saved-at-lt4-clause-read
returns-else-saved-at-lt4-clause-read c xs more size padded is =
    let i = c.loop-offset.invariant.read xs more size padded is in
    let past = c.loop-offset-test.false in
    let same = c.loop-offset.auto.bytes in
    let all = all_read (slice_index c.args.bytes.now) c.args.saved.now xs more c.loop-offset.bytes c.loop-offset.offset c.loop-offset.at
    (omega arith) (omega arith) i.0 i.1 in
    (all.0, all.2)
