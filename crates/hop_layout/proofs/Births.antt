-- Which segments are born, and who owns a home.
use Rattle.std.proofs.Common.{◌≡◌, ◌≢◌, ℕ, zero, suc, ◌+◌, ◌*◌, ◌-◌, ◌%◌, ◌/◌, ◌<◌, ◌≤◌, nat_lt, Bool, true, false, true≢false, ◌&&◌}
use Rattle.std.proofs.Common.{if◌then◌else◌, refl, ap, sym, subst, ◌∙◌, arith, eq-eqb, ne_eqb, ⊎_elim, inl, inr, ◌⊎◌}
use Rattle.std.proofs.lemmas.Bool.Decides.{nat_tests}
use Rattle.std.proofs.Math.Nat.{add-mul-mod_self_left, mod-eq_of_lt}
use Rattle.std.proofs.lemmas.Nat.{mod_below, div-add-mod', mod-mul-add}
use Rattle.std.proofs.lemmas.Bool.{false_from_ne_true, cases_eq, cases_lt, lt-ltb, and_from, and_parts}
use Rattle.bpf_shared.specs.Store.{put}
use Rattle.hop_layout.specs.Layout.{power}
use Rattle.hop_layout.specs.Births.{is_born, Owns, AreDepths, child_of, split_depths, EachHasOneOwner, SplitsBearOneChild}

-- ---- powers
pub some_power : (n : ℕ) → 1 ≤ power n
some_power zero = omega arith
some_power (suc n) = let r = some_power n in omega arith

power_sum : (a b : ℕ) → power (a + b) ≡ power a * power b
power_sum zero b = let e : 0 + b ≡ b = omega arith in ap power e ∙ (omega arith)
power_sum (suc a) b = let r = power_sum a b in let e : suc a + b ≡ suc (a + b) = omega arith in ap power e ∙ (ap (λ (n : ℕ). 2 * n) r ∙ (grind arith))

pub power_mono : (a b : ℕ) → a ≤ b → power a ≤ power b
power_mono a b l =
    let e : b ≡ a + (b - a) = omega arith in
    let s = power_sum a (b - a) in
    let q : power b ≡ power (a + (b - a)) = ap power e in
    let o = some_power (b - a) in
    grind arith

pub power_less : (a b : ℕ) → a < b → 2 * power a ≤ power b
power_less a b l = power_mono (suc a) b (omega arith)

-- a smaller power's remainder is one of the greater's remainder
pub mod_low : (g a b : ℕ) → a ≤ b → g % power b % power a ≡ g % power a
mod_low g a b l = sym (ap (λ (n : ℕ). n % power a) split ∙ add-mul-mod_self_left (g % power b) (power a) (power (b - a) * (g / power b)))
  where
    e : power b ≡ power a * power (b - a)
    e = (let z : b ≡ a + (b - a) = omega arith in ap power z) ∙ power_sum a (b - a)

    split : g ≡ g % power b + power a * (power (b - a) * (g / power b))
    split =
        let q = div-add-mod' g (power b) in
        let m : g / power b * power b ≡ g / power b * (power a * power (b - a)) = ap (λ (n : ℕ). g / power b * n) e in
        let r : g / power b * (power a * power (b - a)) ≡ power a * (power (b - a) * (g / power b)) = grind arith in
        omega arith

pub mod_small : (n m : ℕ) → n < m → n % m ≡ n
mod_small n m l = mod-eq_of_lt l

-- a number between a power and its double
pub mod_once : (n m : ℕ) → m ≤ n → n < 2 * m → n % m ≡ n - m
mod_once n m l h = let e : n ≡ 1 * m + (n - m) = omega arith in ap (λ (i : ℕ). i % m) e ∙ mod-mul-add 1 m (n - m) (omega arith)

-- ---- choices
if_true : {A : Type 0} (b : Bool) (x y : A) → b ≡ true → (if b then x else y) ≡ x
if_true b x y e = ap (λ z. if z then x else y) e

if_false : {A : Type 0} (b : Bool) (x y : A) → b ≡ false → (if b then x else y) ≡ y
if_false b x y e = ap (λ z. if z then x else y) e

pub ge_is : (m n : ℕ) → n ≤ m → nat_lt m n ≡ false
ge_is m n l = grind (arith, nat_tests)

is_lt : (m n : ℕ) → nat_lt m n ≡ true → m < n
is_lt m n e = grind (arith, nat_tests)

-- ---- born segments, a level at a time
module _ (d : ℕ → ℕ) where
  pub low_is : (n s : ℕ) → s < power n → is_born d (suc n) s ≡ is_born d n s
  low_is n s l = if_true (nat_lt s (power n)) _ _ (lt-ltb s (power n) l)

  pub high_is : (n s : ℕ) → power n ≤ s → is_born d (suc n) s ≡ nat_lt n (d (s - power n)) && is_born d n (s - power n)
  high_is n s l = if_false (nat_lt s (power n)) _ _ (ge_is s (power n) l)

  -- a segment with a top bit: its parent is born, and deep enough
  parted : (n s : ℕ) → power n ≤ s → is_born d (suc n) s ≡ true → (n < d (s - power n)) × (is_born d n (s - power n) ≡ true)
  parted n s l b = let t = and_parts (nat_lt n (d (s - power n))) (is_born d n (s - power n)) (sym (high_is n s l) ∙ b) in (is_lt n (d (s - power n)) t.0, t.1)

  pub born_small : (n s : ℕ) → is_born d n s ≡ true → s < power n
  born_small zero s b = let e : s ≡ 0 = (let z = b in grind (arith, nat_tests)) in omega arith
  born_small (suc n) s b = ⊎_elim
      (λ (l : s < power n). omega arith)
      (λ (g : power n ≤ s). let t = parted n s g b in let r = born_small n (s - power n) t.1 in omega arith)
      (cases_lt s (power n))

  -- segment 0 is born
  pub born_first : (n : ℕ) → is_born d n 0 ≡ true
  born_first zero = refl
  born_first (suc n) = low_is n 0 (let o = some_power n in omega arith) ∙ born_first n

  -- a segment whose parent is born and deep enough
  pub born_child : (n s u : ℕ) → is_born d n s ≡ true → s < power u → u < d s → u < n → is_born d n (s + power u) ≡ true
  born_child zero s u b l deep few = absurd (omega arith)
  born_child (suc n) s u b l deep few = ⊎_elim
      (λ (t : u < n).
      let two = power_less u n t in
      let low : s < power n = omega arith in
      low_is n (s + power u) (omega arith) ∙ born_child n s u (sym (low_is n s low) ∙ b) l deep t)
      (λ (ge : n ≤ u).
      let e : u ≡ n = omega arith in
      let low : s < power n = subst (λ (k : ℕ). s < power k) e l in
      let same : s + power u ≡ s + power n = ap (λ (k : ℕ). s + power k) e in
      let back : s + power n - power n ≡ s = omega arith in
      ap (is_born d (suc n)) same ∙ (high_is n (s + power n) (omega arith)
      ∙ and_from _ _ (lt-ltb n (d (s + power n - power n)) (let z = ap d back in let y = e in omega arith))
      (ap (is_born d n) back ∙ (sym (low_is n s low) ∙ b))))
      (cases_lt u n)

  -- the child of its depth isn't
  pub child_unborn : (n s : ℕ) → is_born d n s ≡ true → s < power (d s) → is_born d n (s + power (d s)) ≡ false
  child_unborn zero s b l = false_from_ne_true _
      (λ e. let z : s + power (d s) ≡ 0 = (let y = e in grind (arith, nat_tests)) in let o = some_power (d s) in omega arith)
  child_unborn (suc n) s b l = ⊎_elim
      (λ (t : d s < n).
      let two = power_less (d s) n t in
      let low : s < power n = omega arith in
      low_is n (s + power (d s)) (omega arith) ∙ child_unborn n s (sym (low_is n s low) ∙ b) l)
      (λ (ge : n ≤ d s). false_from_ne_true _ (λ e.
      let small = born_small (suc n) (s + power (d s)) e in
      let up = power_mono n (d s) ge in
      let t = parted n (s + power (d s)) (omega arith) e in
      let same : power (d s) ≡ power n = ⊎_elim
      (λ (u : n < d s). absurd (let two = power_less n (d s) u in omega arith))
      (λ (u : d s ≤ n). ap power (let z : d s ≡ n = omega arith in z))
      (cases_lt n (d s)) in
      let back : s + power (d s) - power n ≡ s = omega arith in
      let deep : n < d s = subst (λ (i : ℕ). n < d i) back t.0 in
      let two = power_less n (d s) deep in
      omega arith))
      (cases_lt (d s) n)

  -- no two born segments own one home
  pub one_owner : (n s t home : ℕ) → is_born d n s ≡ true → is_born d n t ≡ true → home % power (d s) ≡ s → home % power (d t) ≡ t → s ≡ t
  one_owner zero s t home bs bt hs ht =
      let e : s ≡ 0 = (let z = bs in grind (arith, nat_tests)) in let f : t ≡ 0 = (let z = bt in grind (arith, nat_tests)) in e ∙ sym f
  one_owner (suc n) s t home bs bt hs ht = ⊎_elim
      (λ (ls : s < power n). ⊎_elim
      (λ (lt : t < power n). one_owner n s t home (sym (low_is n s ls) ∙ bs) (sym (low_is n t lt) ∙ bt) hs ht)
      (λ (gt : power n ≤ t). absurd (apart s t ls gt bs bt hs ht (one_owner n s (t - power n) (home % power n))))
      (cases_lt t (power n)))
      (λ (gs : power n ≤ s). ⊎_elim
      (λ (lt : t < power n). absurd (apart t s lt gs bt bs ht hs (one_owner n t (s - power n) (home % power n))))
      (λ (gt : power n ≤ t).
      let e = bits s gs bs hs in
      let f = bits t gt bt ht in
      let z = e ∙ sym f in
      omega arith)
      (cases_lt t (power n)))
      (cases_lt s (power n))
    where
      -- a depth above n
      deep : (s : ℕ) → power n ≤ s → home % power (d s) ≡ s → n < d s
      deep s gs hs = ⊎_elim
          (λ (l : n < d s). l)
          (λ (ge : d s ≤ n). absurd
          (let m = power_mono (d s) n ge in let o = some_power (d s) in let z : home % power (d s) < power (d s) = omega arith in omega arith))
          (cases_lt n (d s))

      -- a segment with bit n: the parent has the home's low bits
      bits : (s : ℕ) → power n ≤ s → is_born d (suc n) s ≡ true → home % power (d s) ≡ s → s - power n ≡ home % power n
      bits s gs bs hs =
          let l = deep s gs hs in
          let small = born_small (suc n) s bs in
          let m = mod_low home n (d s) (omega arith) in
          let k : s % power n ≡ home % power n = ap (λ (i : ℕ). i % power n) (sym hs) ∙ m in
          let o = some_power n in
          let q : s % power n ≡ s - power n = mod_once s (power n) gs small in
          sym q ∙ k

      apart : (s t : ℕ) → s < power n → power n ≤ t → is_born d (suc n) s ≡ true → is_born d (suc n) t ≡ true → home % power (d s) ≡ s → home % power (d t) ≡ t
          → (is_born d n s ≡ true → is_born d n (t - power n) ≡ true → home % power n % power (d s) ≡ s → home % power n % power
          (d (t - power n)) ≡ t - power n → s ≡ t - power n) → ⊥
      apart s t ls gt bs bt hs ht again = ⊎_elim
          (λ (deep_s : n < d s).
          let m = mod_low home (suc n) (d s) deep_s in
          let m' = mod_low home (suc n) (d t) (deep t gt ht) in
          let k : s % power (suc n) ≡ home % power (suc n) = ap (λ (i : ℕ). i % power (suc n)) (sym hs) ∙ m in
          let k' : t % power (suc n) ≡ home % power (suc n) = ap (λ (i : ℕ). i % power (suc n)) (sym ht) ∙ m' in
          let small = born_small (suc n) t bt in
          let o = mod_small s (power (suc n)) (omega arith) in
          let o' = mod_small t (power (suc n)) small in
          omega arith)
          (λ (ge : d s ≤ n).
          let p = parted n t gt bt in
          let e = bits t gt bt ht in
          let small = born_small n (t - power n) p.1 in
          let hs' : home % power n % power (d s) ≡ s = mod_low home (d s) n ge ∙ hs in
          let ht' : home % power n % power (d (t - power n)) ≡ t - power n =
          mod_small (home % power n) (power (d (t - power n)))
          (let m = power_mono n (d (t - power n)) (let z = p.0 in omega arith) in let z = e in omega arith) ∙ sym e in
          let same = again (sym (low_is n s ls) ∙ bs) p.1 hs' ht' in
          let z : d s ≡ d (t - power n) = ap d same in
          let y = p.0 in
          omega arith)
          (cases_lt n (d s))

  -- from a born segment that has the low bits of a home on, down to the home's owner
  find_owner : (limit home : ℕ) → AreDepths d limit → (fuel level s : ℕ) → fuel + level ≡ limit → is_born d limit s ≡ true → level ≤ d s → s
      ≡ home % power level → (t : ℕ) × Owns d limit t home
  find_owner limit home are zero level s full b l low =
      let k = are s b in
      let e : d s ≡ level = (let z = k.1 in omega arith) in
      (s, record { born = b; here = ap (λ (n : ℕ). home % power n) e ∙ sym low })
  find_owner limit home are (suc fuel) level s full b l low = ⊎_elim
      (λ (e : d s ≡ level). (s, record { born = b; here = ap (λ (n : ℕ). home % power n) e ∙ sym low }))
      (λ (ne : d s ≢ level).
      let deep : level < d s = grind arith in
      let k = are s b in
      let o = some_power level in
      let m = mod_low home level (suc level) (omega arith) in
      let small : home % power (suc level) < 2 * power level = mod_below home (power (suc level)) (let z = some_power (suc level) in omega arith) in
      ⊎_elim
      (λ (lo : home % power (suc level) < power level).
      find_owner limit home are fuel (suc level) s (omega arith) b deep (low ∙ (sym m ∙ mod_small (home % power (suc level)) (power level) lo)))
      (λ (hi : power level ≤ home % power (suc level)).
      let is : home % power (suc level) % power level ≡ home % power (suc level) - power level = mod_once (home % power (suc level)) (power level) hi small in
      let c : home % power (suc level) ≡ s + power level = (let z = low in omega arith) in
      let sl : s < power level = (let z = low in omega arith) in
      let bc = born_child limit s level b sl deep (let z = k.1 in omega arith) in
      let kc = are (s + power level) bc in
      let dc : level < d (s + power level) = ⊎_elim
      (λ (y : level < d (s + power level)). y)
      (λ (y : d (s + power level) ≤ level). absurd (let u = power_mono (d (s + power level)) level y in let z = kc.0 in omega arith))
      (cases_lt level (d (s + power level))) in
      find_owner limit home are fuel (suc level) (s + power level) (omega arith) bc dc (sym c))
      (cases_lt (home % power (suc level)) (power level)))
      (cases_eq (d s) level)

-- ---- a split
module _ (d : ℕ → ℕ) (limit s : ℕ) (b : is_born d limit s ≡ true) (room : s < power (d s)) (few : d s < limit) where
  abbrev k : ℕ
  k = d s

  abbrev c : ℕ
  c = child_of d s

  abbrev d' : ℕ → ℕ
  d' = split_depths d s

  apart : c ≢ s
  apart e = let o = some_power k in omega arith

  at_child : (t : ℕ) → t ≡ c → d' t ≡ k + 1
  at_child t e = ap (λ (x : Bool). if x then k + 1 else put d s (k + 1) t) (eq-eqb t c e)

  at_parent : (t : ℕ) → t ≡ s → d' t ≡ k + 1
  at_parent t e = ap (λ (x : Bool). if x then k + 1 else put d s (k + 1) t) (ne_eqb t c (λ (q : t ≡ c). apart (sym q ∙ e))) ∙ ap
      (λ (x : Bool). if x then k + 1 else d t) (eq-eqb t s e)

  pub elsewhere : (t : ℕ) → t ≢ c → t ≢ s → d' t ≡ d t
  elsewhere t nc ns = ap (λ (x : Bool). if x then k + 1 else put d s (k + 1) t) (ne_eqb t c nc) ∙ ap (λ (x : Bool). if x then k + 1 else d t) (ne_eqb t s ns)

  pub parent_depth : d' s ≡ k + 1
  parent_depth = at_parent s refl

  pub child_depth : d' c ≡ k + 1
  child_depth = at_child c refl

  unborn : (n : ℕ) → is_born d n s ≡ true → is_born d n c ≡ true → ⊥
  unborn n bs bc = true≢false (sym bc ∙ child_unborn d n s bs room)

  -- who was born stays born
  pub still_born : (n : ℕ) → is_born d n s ≡ true → (t : ℕ) → is_born d n t ≡ true → is_born d' n t ≡ true
  still_born zero bs t bt = bt
  still_born (suc n) bs t bt = ⊎_elim
      (λ (l : t < power n). low_is d' n t l ∙ ⊎_elim
      (λ (ls : s < power n). still_born n (sym (low_is d n s ls) ∙ bs) t (sym (low_is d n t l) ∙ bt))
      (λ (gs : power n ≤ s). same_low n t l gs (sym (low_is d n t l) ∙ bt))
      (cases_lt s (power n)))
      (λ (g : power n ≤ t). let p = parted d n t g bt in high_is d' n t g ∙ and_from _ _ (lt-ltb n (d' (t - power n)) (deeper (t - power n) p.0 p.1)) (⊎_elim
      (λ (ls : s < power n). still_born n (sym (low_is d n s ls) ∙ bs) (t - power n) p.1)
      (λ (gs : power n ≤ s). same_low n (t - power n) (born_small d n (t - power n) p.1) gs p.1)
      (cases_lt s (power n))))
      (cases_lt t (power n))
    where
      deeper : (p : ℕ) → n < d p → is_born d n p ≡ true → n < d' p
      deeper p l bp = ⊎_elim
          (λ (e : p ≡ c). let z = at_child p e in let small = born_small d n p bp in ⊎_elim
          (λ (y : n < k + 1). omega arith)
          (λ (y : k + 1 ≤ n). absurd (true≢false (sym (ap (is_born d n) (sym e) ∙ bp) ∙ child_unborn d n s
          (let two = power_less k n (omega arith) in sym (low_is d n s (omega arith)) ∙ bs) room)))
          (cases_lt n (k + 1)))
          (λ (nc : p ≢ c). ⊎_elim
          (λ (e : p ≡ s). let z = at_parent p e in let y : d p ≡ k = ap d e in omega arith)
          (λ (ns : p ≢ s). let z = elsewhere p nc ns in omega arith)
          (cases_eq p s))
          (cases_eq p c)

      same_low : (n t : ℕ) → t < power n → power n ≤ s → is_born d n t ≡ true → is_born d' n t ≡ true
      same_low zero t l gs bt = bt
      same_low (suc n) t l gs bt = ⊎_elim
          (λ (lt : t < power n). low_is d' n t lt ∙ same_low n t lt (let o = some_power n in omega arith) (sym (low_is d n t lt) ∙ bt))
          (λ (gt : power n ≤ t). let p = parted d n t gt bt in let small = born_small d n (t - power n) p.1 in
          let z = elsewhere (t - power n) (λ (q : t - power n ≡ c). omega arith) (λ (q : t - power n ≡ s). let o = some_power n in omega arith) in
          high_is d' n t gt ∙ and_from _ _ (lt-ltb n (d' (t - power n)) (let y = p.0 in omega arith))
          (same_low n (t - power n) small (let o = some_power n in omega arith) p.1))
          (cases_lt t (power n))

  -- nobody but the child is born
  pub born_before : (n t : ℕ) → is_born d' n t ≡ true → (t ≡ c) ⊎ (is_born d n t ≡ true)
  born_before zero t bt = inr bt
  born_before (suc n) t bt = ⊎_elim
      (λ (l : t < power n). ⊎_elim (λ (e : t ≡ c). inl e) (λ (r : is_born d n t ≡ true). inr (low_is d n t l ∙ r))
      (born_before n t (sym (low_is d' n t l) ∙ bt)))
      (λ (g : power n ≤ t).
      let p = parted d' n t g bt in
      let small = born_small d' n (t - power n) p.1 in
      ⊎_elim
      (λ (e : t - power n ≡ c). absurd (let z = at_child (t - power n) e in let up = power_mono n k (let y = p.0 in omega arith) in omega arith))
      (λ (nc : t - power n ≢ c). ⊎_elim
      (λ (e : t - power n ≡ c). absurd (nc e))
      (λ (r : is_born d n (t - power n) ≡ true). ⊎_elim
      (λ (e : t - power n ≡ s).
      let z = at_parent (t - power n) e in
      let y = p.0 in
      ⊎_elim
      (λ (less : n < k). inr (high_is d n t g ∙ and_from _ _ (lt-ltb n (d (t - power n)) (let x : d (t - power n) ≡ k = ap d e in omega arith)) r))
      (λ (more : k ≤ n). inl (let x : n ≡ k = omega arith in let w = ap power x in omega arith))
      (cases_lt n k))
      (λ (ns : t - power n ≢ s).
      let z = elsewhere (t - power n) nc ns in
      inr (high_is d n t g ∙ and_from _ _ (lt-ltb n (d (t - power n)) (let y = p.0 in omega arith)) r))
      (cases_eq (t - power n) s))
      (born_before n (t - power n) p.1))
      (cases_eq (t - power n) c))
      (cases_lt t (power n))

  pub child_is_born : is_born d' limit c ≡ true
  child_is_born = born_child d' limit s k (still_born limit b s b) room (let z = parent_depth in omega arith) few

  -- the depths are depths still
  pub depths_after : AreDepths d limit → AreDepths d' limit
  depths_after are t bt = ⊎_elim
      (λ (e : t ≡ c). let z = at_child t e in let p : power (d' t) ≡ power (suc k) = ap power (let y : d' t ≡ suc k = omega arith in y) in
      (omega arith, omega arith))
      (λ (nc : t ≢ c). ⊎_elim
      (λ (e : t ≡ s). let z = at_parent t e in let p : power (d' t) ≡ power (suc k) = ap power (let y : d' t ≡ suc k = omega arith in y) in
      (omega arith, omega arith))
      (λ (ns : t ≢ s). let z = elsewhere t nc ns in ⊎_elim
      (λ (e : t ≡ c). absurd (nc e))
      (λ (r : is_born d limit t ≡ true). let y = are t r in let p : power (d' t) ≡ power (d t) = ap power z in (omega arith, omega arith))
      (born_before limit t bt))
      (cases_eq t s))
      (cases_eq t c)

-- two segments have no child in common
pub one_parent : (d : ℕ → ℕ) (s t : ℕ) → s < power (d s) → t < power (d t) → child_of d s ≡ child_of d t → s ≡ t
one_parent d s t ls lt e = ⊎_elim
    (λ (l : d s < d t). absurd (let z = power_less (d s) (d t) l in omega arith))
    (λ (ge : d t ≤ d s). ⊎_elim
    (λ (l : d t < d s). absurd (let z = power_less (d t) (d s) l in omega arith))
    (λ (ge2 : d s ≤ d t). let z : power (d s) ≡ power (d t) = ap power (let y : d s ≡ d t = omega arith in y) in omega arith)
    (cases_lt (d t) (d s)))
    (cases_lt (d s) (d t))

pub each_has_one_owner : EachHasOneOwner
each_has_one_owner d limit home are =
    let t = find_owner d limit home are limit 0 0 (omega arith) (born_first d limit) (omega arith) (omega arith) in
    (t.0, t.1, λ s own. one_owner d limit s t.0 home own.born t.1.born own.here t.1.here)

pub splits_bear_one_child : SplitsBearOneChild
splits_bear_one_child d limit s are b few =
    let room = (are s b).0 in record {
      before = λ e. true≢false (sym e ∙ child_unborn d limit s b room);
      child = child_is_born d limit s b room few;
      no_other = born_before d limit s b room few limit;
      stay = still_born d limit s b room few limit b;
      after = depths_after d limit s b room few are;
    }
