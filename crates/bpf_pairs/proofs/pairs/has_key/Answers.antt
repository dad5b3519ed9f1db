use Rattle.std.proofs.Common.{◌≡◌, ℕ, ◌==◌, ◌&&◌, ◌||◌, Bool, true, false, List, get_or, refl, ap, sym, ◌∙◌, eq-eqb, ne_eqb}
use Rattle.std.specs.Str.{bytes_eq}
use Rattle.bpf_pairs.specs.declared.pairs.Pair.{Pair}
use Rattle.bpf_pairs.proofs.Counting.{key_at, key_more}
use Rattle.bpf_pairs.proofs.pairs.has_key.Goals as goal
use Rattle.bpf_pairs.proofs.pairs.has_key.Goals.{else-pair-number-via-then-pair-number+else-eq, else-pair-number-via-else-pair-number}

no_test : (a b : Bool) → b ≡ false → (a && b) ≡ false
no_test true b e = e
no_test false b e = refl

pub loop-pair-preserved : goal.loop-pair-preserved
loop-pair-preserved c =
    let ps = c.args.pairs.now in
    let k = c.loop-pair.pair-index in
    let d = c.pair-item.result in
    let m = c.args.number in
    let key = c.args.key.now in
    let more = key_more ps k d c.loop-pair-test.true m key ∙ ap (λ (x : Bool). x ||
    (((get_or ps k d).map == m && bytes_eq (get_or ps k d).key.items key) || false)) c.loop-pair.invariant in
    elim c.else-pair-number.branch [
      | else-pair-number-via-then-pair-number+else-eq w ↦
          more ∙ ap (λ (x : Bool). x || false) (no_test ((get_or ps k d).map == m) (bytes_eq (get_or ps k d).key.items key)
          (ap (λ (p : Pair). bytes_eq p.key.items key) (sym c.pair-item.is) ∙ ap (λ (x : List ℕ). bytes_eq x key)
          (sym w.as_slice.ensures.value) ∙ sym w.eq.ensures ∙ w.if-eq.false))
      | else-pair-number-via-else-pair-number w ↦
          more ∙ ap (λ (x : Bool). (x && bytes_eq (get_or ps k d).key.items key) || false)
          (ne_eqb (get_or ps k d).map m (λ same. w.if-pair-number.false (ap (λ (p : Pair). p.map) c.pair-item.is ∙ same)))
    ]

pub returns-then-eq : goal.returns-then-eq
returns-then-eq c =
    let ps = c.args.pairs.now in
    let k = c.loop-pair.pair-index in
    let d = c.pair-item.result in
    let m = c.args.number in
    let key = c.args.key.now in
    let its : ((get_or ps k d).map == m) ≡ true = eq-eqb (get_or ps k d).map m (ap (λ (p : Pair). p.map) (sym c.pair-item.is) ∙ c.if-pair-number.true) in
    let same : bytes_eq (get_or ps k d).key.items key ≡ true = ap (λ (p : Pair). bytes_eq p.key.items key) (sym c.pair-item.is) ∙ ap
    (λ (x : List ℕ). bytes_eq x key) (sym c.as_slice.ensures.value) ∙ sym c.eq.ensures ∙ c.if-eq.true in
    sym (key_at m key ps k d c.loop-pair-test.true (ap (λ (x : Bool). x && bytes_eq (get_or ps k d).key.items key) its ∙ same))
