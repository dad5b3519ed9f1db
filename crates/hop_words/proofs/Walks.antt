-- From a segment on the way of a home to the next.
use Rattle.std.proofs.Common.{◌≡◌, inl, inr, ℕ, zero, suc, Bool, true, false, if◌then◌else◌, ◌+◌, ◌-◌, ◌*◌, ◌/◌, ◌%◌, ◌^◌, ◌<◌, ◌≤◌, refl}
use Rattle.std.proofs.Common.{ap, sym, subst, ◌∙◌, arith}
use Rattle.std.specs.Int.{bit_at, w32, trailing_zeros}
use Rattle.std.proofs.lemmas.Nat.{mod-pow-add, mod-mul-add, mod_below, div-add-mod'}
use Rattle.std.proofs.lemmas.Nat.Bits.{bit_at-trailing_zeros}
use Rattle.std.proofs.lemmas.Bool.{cases_lt}
use Rattle.hop_layout.specs.Layout.{power}
use Rattle.hop_words.specs.declared.walking.Way.{Way}
use Rattle.hop_layout.specs.declared.about.About.{About}
use Rattle.hop_layout.specs.Layout.{depth, first_depth}
use Rattle.hop_words.specs.declared.known.Known.{Known}
use Rattle.hop_words.specs.Ghost.{shape_at}
use Rattle.hop_words.specs.Kinds.{KnowsBorn, First, Whole}
use Rattle.hop_words.specs.Walking.{IsOnWay, IsNextSegment}
use Rattle.hop_layout.proofs.Depths.{power_is, low_power}
use Rattle.hop_layout.proofs.Births.{mod_low, mod_small, power_mono}
use Rattle.hop_layout.proofs.Births.{some_power}

low_zero : (n t : ℕ) → ((i : ℕ) → i < t → bit_at n i ≡ 0) → n % 2 ^ t ≡ 0
low_zero n zero none = omega arith
low_zero n (suc t) none =
    let m = mod-pow-add n 1 t in
    let e : suc t ≡ 1 + t = omega arith in
    let z : n % 2 ^ suc t ≡ n % 2 ^ (1 + t) = ap (λ (i : ℕ). n % 2 ^ i) e in
    let b : n / 2 ^ t % 2 ^ 1 ≡ 0 = none t (omega arith) in
    let p : (n / 2 ^ t % 2 ^ 1) * 2 ^ t ≡ 0 = ap (λ (i : ℕ). i * 2 ^ t) b ∙ (omega arith) in
    let r = low_zero n t (λ i l. none i (omega arith)) in
    omega arith

-- what a home has above the bits of a segment on its way
module _ (home : ℕ) (way : Way) (on : IsOnWay home way) where
  abbrev more : ℕ
  more = home - way.segment

  abbrev k : ℕ
  k = power way.level

  pub whole : more + way.segment ≡ home
  whole = let d = div-add-mod' home k in let s = on.1 in omega arith

  lower : more % k ≡ 0
  lower =
      let d = div-add-mod' home k in
      let s = on.1 in
      let e : more ≡ home / k * k + 0 = omega arith in
      let o = some_power way.level in
      ap (λ (i : ℕ). i % k) e ∙ mod-mul-add (home / k) k 0 (omega arith)

  -- nothing below the depth: the home is the segment's own
  pub stays : (depth : ℕ) → way.segment < power depth → more % power depth ≡ 0 → home % power depth ≡ way.segment
  stays depth room none =
      let d = div-add-mod' more (power depth) in
      let w = whole in
      let e : home ≡ more / power depth * power depth + way.segment = omega arith in
      ap (λ (i : ℕ). i % power depth) e ∙ mod-mul-add (more / power depth) (power depth) way.segment room

  module _ (depth : ℕ) (some : 0 < more % power depth) (fits : more % power depth < 2 ^ 32) where
    abbrev ahead : ℕ
    ahead = more % power depth

    abbrev t : ℕ
    t = trailing_zeros w32 ahead

    low : ahead % 2 ^ t ≡ 0
    low = low_zero ahead t (bit_at-trailing_zeros w32 ahead some fits).2

    lowest : ahead % power (suc t) ≡ 2 ^ t
    lowest =
        let b = bit_at-trailing_zeros w32 ahead some fits in
        let m = mod-pow-add ahead 1 t in
        let e : suc t ≡ 1 + t = omega arith in
        let z : ahead % power (suc t) ≡ ahead % 2 ^ (1 + t) = ap (λ (i : ℕ). ahead % i) (power_is (suc t) ∙ ap (λ (i : ℕ). 2 ^ i) e) in
        let p : (ahead / 2 ^ t % 2 ^ 1) * 2 ^ t ≡ 2 ^ t = ap (λ (i : ℕ). i * 2 ^ t) b.1 ∙ (omega arith) in
        let l = low in
        omega arith

    pub less : t < depth
    less = elim (cases_lt t depth) [
      | inl lt ↦ lt
      | inr ge ↦ (let u = power_mono depth t ge in
          let q = power_is t in
          let o = some_power depth in
          let below : ahead < power depth = mod_below more (power depth) (omega arith) in
          let same : ahead % 2 ^ t ≡ ahead = mod_small ahead (2 ^ t) (omega arith) in
          let l = low in
          absurd (omega arith))
    ]

    first : more % power (suc t) ≡ 2 ^ t
    first = sym (mod_low more (suc t) depth less) ∙ lowest

    pub above : way.level ≤ t
    above = elim (cases_lt t way.level) [
      | inl lt ↦ (let z : more % power (suc t) ≡ 0 % power (suc t) = sym (mod_low more (suc t) way.level lt) ∙ ap (λ (i : ℕ). i % power (suc t)) lower in
          let o = some_power (suc t) in
          let n : 0 % power (suc t) ≡ 0 = mod_small 0 (power (suc t)) (omega arith) in
          let f = first in
          let q = power_is t in
          let r = some_power t in
          absurd (omega arith))
      | inr ge ↦ ge
    ]

    pub below : way.segment < power t
    below = let u = power_mono way.level t above in let z = on.0 in omega arith

    pub goes_on : (next : Way) → next.level ≡ t + 1 → next.segment ≡ way.segment + 2 ^ t → IsOnWay home next × IsNextSegment way depth next
    goes_on next lev seg = (
      (small, here),
      (t, lev, less, above, below, seg ∙ ap (λ (i : ℕ). way.segment + i) (sym (power_is t))),
    )
      where
        double : power next.level ≡ 2 * power t
        double = let e : next.level ≡ suc t = lev ∙ (omega arith) in ap power e

        small : next.segment < power next.level
        small = let z = double in let y = power_is t in let x = below in omega arith

        here : home % power next.level ≡ next.segment
        here =
            let z : more % power next.level ≡ 2 ^ t = (let e : next.level ≡ suc t = lev ∙ (omega arith) in ap (λ (i : ℕ). more % power i) e ∙ first) in
            let d = div-add-mod' more (power next.level) in
            let w = whole in
            let e : home ≡ more / power next.level * power next.level + next.segment = omega arith in
            ap (λ (i : ℕ). i % power next.level) e ∙ mod-mul-add (more / power next.level) (power next.level) next.segment small

    pub bit_fits : depth ≤ 10 → (1 * 2 ^ t % 4294967296 ≡ 2 ^ t) × (2 ^ t ≤ 1024)
    bit_fits few =
        let l = less in
        let p = low_power t (omega arith) in
        (omega arith, p)

-- as the code has it, where the power is a shifted bit
pub leads : (home : ℕ) (way next : Way) (depth bit : ℕ) → IsOnWay home way → depth ≤ 10 → bit ≡ power depth → 0 < (home - way.segment) % bit
    → next.level ≡ trailing_zeros w32 ((home - way.segment) % bit) + 1
    → next.segment ≡ way.segment + 1 * 2 ^ trailing_zeros w32 ((home - way.segment) % bit) % 4294967296
    → IsOnWay home next × IsNextSegment way depth next
leads home way next depth bit on few is = subst P (sym is) go
  where
    P : ℕ → Type 0
    P b = 0 < (home - way.segment) % b → next.level ≡ trailing_zeros w32 ((home - way.segment) % b) + 1
        → next.segment ≡ way.segment + 1 * 2 ^ trailing_zeros w32 ((home - way.segment) % b) % 4294967296
        → IsOnWay home next × IsNextSegment way depth next

    go : P (power depth)
    go some lev seg =
        let q = power_is depth in
        let l = low_power depth few in
        let o = some_power depth in
        let b : (home - way.segment) % power depth < power depth = mod_below (home - way.segment) (power depth) (omega arith) in
        let fits : (home - way.segment) % power depth < 2 ^ 32 = omega arith in
        let f = bit_fits home way on depth some fits few in
        goes_on home way on depth some fits next lev (seg ∙ ap (λ (i : ℕ). way.segment + i) f.0)

-- ---- where the way begins
-- as made a map has one segment, or all
pub first_born : (a : About) (m s : ℕ) (l : Known) → s < power (first_depth (shape_at a m)) → KnowsBorn a l m s
first_born a m s l small = go (shape_at a m).grow refl
  where
    go : (x : Bool) → (shape_at a m).grow ≡ x → KnowsBorn a l m s
    go true e = First (let z : power (first_depth (shape_at a m)) ≡ 1 = ap (λ (y : Bool). power (if y then 0 else depth (shape_at a m))) e in omega arith)
    go false e = Whole e (let z : power (first_depth (shape_at a m)) ≡ power (depth (shape_at a m)) = ap (λ (y : Bool). power (if y then 0 else depth (shape_at a m))) e in
        omega arith)
