-- The depth of a map, a doubling at a time.
use Rattle.std.proofs.Common.{◌≡◌, ℕ, zero, suc, pow-suc, Bool, if◌then◌else◌, ◌+◌, ◌-◌, ◌*◌, ◌%◌, ◌^◌, ◌<◌, ◌≤◌, true, false, nat_lt, refl, ap, ◌∙◌, arith}
use Rattle.std.proofs.lemmas.Bool.Decides.{nat_tests}
use Rattle.std.proofs.Math.Pow.{pow_mono}
use Rattle.bpf_shared.specs.declared.shapes.MapShape.{MapShape}
use Rattle.hop_layout.specs.Layout.{depth_from, depth, power, segments, first_depth}

twice : (d : ℕ) → 2 * (64 * 2 ^ d) ≡ 64 * 2 ^ (d + 1)
twice d = let e : suc d ≡ d + 1 = omega arith in let p = pow-suc 2 d in let q = ap (λ (n : ℕ). 2 ^ n) e in omega arith

pub depth_on : (d max : ℕ) → d < 10 → 64 * 2 ^ d < max → depth_from (10 - d) (64 * 2 ^ d) max ≡ 1 + depth_from (10 - (d + 1)) (64 * 2 ^ (d + 1)) max
unfolding depth_from
depth_on d max few less =
    let n : 10 - d ≡ suc (10 - (d + 1)) = omega arith in
    let t : nat_lt (64 * 2 ^ d) max ≡ true = grind (arith, nat_tests) in
    ap (λ (i : ℕ). depth_from i (64 * 2 ^ d) max) n ∙ (rw t refl ∙ ap (λ (r : ℕ). 1 + depth_from (10 - (d + 1)) r max) (twice d))

pub depth_stop : (d max : ℕ) → d < 10 → max ≤ 64 * 2 ^ d → depth_from (10 - d) (64 * 2 ^ d) max ≡ 0
unfolding depth_from
depth_stop d max few enough =
    let n : 10 - d ≡ suc (10 - (d + 1)) = omega arith in
    let t : nat_lt (64 * 2 ^ d) max ≡ false = grind (arith, nat_tests) in
    ap (λ (i : ℕ). depth_from i (64 * 2 ^ d) max) n ∙ rw t refl

pub depth_end : (room max : ℕ) → depth_from 0 room max ≡ 0
unfolding depth_from
depth_end room max = refl

pub power_is : (d : ℕ) → power d ≡ 2 ^ d
power_is zero = refl
power_is (suc d) = let r = power_is d in grind arith

pub low_power : (d : ℕ) → d ≤ 10 → 2 ^ d ≤ 1024
low_power d few = pow_mono few

-- how many words the segments have, in the code's arithmetic
pub segment_count : (d : ℕ) → d ≤ 10 → (130 * 2 ^ d % 4294967296 ≡ 130 * power d) × (130 * 2 ^ d % 4294967296 ≤ 133120)
segment_count d few = let p = power_is d in let m = low_power d few in (omega arith, omega arith)

choose : (b : Bool) (x n : ℕ) → x ≤ n → (if b then 1 + x else 0) ≤ suc n
choose true x n l = omega arith
choose false x n l = omega arith

below : (n room max : ℕ) → depth_from n room max ≤ n
unfolding depth_from
below zero room max = omega arith
below (suc n) room max = choose (nat_lt room max) (depth_from n (2 * room) max) n (below n (2 * room) max)

-- a depth is at most ten
pub depth_most : (g : MapShape) → depth g ≤ 10
depth_most g = below 10 64 g.max

pub first_most : (g : MapShape) → first_depth g ≤ 10
first_most g = go (g.grow) refl
  where
    go : (x : Bool) → g.grow ≡ x → first_depth g ≤ 10
    go true e = let z : first_depth g ≡ 0 = ap (λ (y : Bool). if y then 0 else depth g) e in omega arith
    go false e = let z : first_depth g ≡ depth g = ap (λ (y : Bool). if y then 0 else depth g) e in let m = depth_most g in omega arith

pub some_power : (d : ℕ) → 0 < power d
some_power zero = omega arith
some_power (suc d) = let r = some_power d in omega arith

first_less : (g : MapShape) → first_depth g ≤ depth g
first_less g = go g.grow refl
  where
    go : (x : Bool) → g.grow ≡ x → first_depth g ≤ depth g
    go true e = let z : first_depth g ≡ 0 = ap (λ (y : Bool). if y then 0 else depth g) e in omega arith
    go false e = let z : first_depth g ≡ depth g = ap (λ (y : Bool). if y then 0 else depth g) e in omega arith

-- as made there are no more segments than the map can have
pub first_room : (g : MapShape) → power (first_depth g) ≤ segments g
first_room g = go (depth g) (first_depth g) (first_less g)
  where
    go : (n d : ℕ) → d ≤ n → power d ≤ power n
    go zero zero l = omega arith
    go zero (suc d) l = absurd (omega arith)
    go (suc n) zero l = let o = some_power (suc n) in omega arith
    go (suc n) (suc d) l = let r = go n d (omega arith) in omega arith

pub segments_are : (d : ℕ) → d ≤ 10 → 1 * 2 ^ d % 4294967296 ≡ power d
segments_are d few = let p = power_is d in let m = low_power d few in omega arith
