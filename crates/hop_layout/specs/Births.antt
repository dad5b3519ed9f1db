-- Which segments of a map are born, by the depths of its segments, and which homes each owns.
use Rattle.std.specs.Prelude.{◌≡◌, ◌≢◌, ℕ, zero, suc, ◌+◌, ◌-◌, ◌%◌, ◌<◌, ◌≤◌, nat_lt, Bool, true, ◌&&◌, ◌==◌, if◌then◌else◌, ◌⊎◌}
use Rattle.bpf_shared.specs.Store.{put}
use Rattle.hop_layout.specs.Layout.{power}

-- among the segments below 2^n: segment 0 is born; another where its parent, which is the segment
-- without its top bit, is born and has a depth above that bit
abbrev pub is_born : (ℕ → ℕ) → ℕ → ℕ → Bool
is_born depths zero s = s == 0
is_born depths (suc n) s =
    if nat_lt s (power n) then is_born depths n s
    else nat_lt n (depths (s - power n)) && is_born depths n (s - power n)

-- a born segment owns the homes that have its number modulo 2^depth
pub record Owns (depths : ℕ → ℕ) (limit s home : ℕ) : Type 0 where
  pub born : is_born depths limit s ≡ true
  pub here : home % power (depths s) ≡ s

-- no born segment is deeper than the limit, and none has a number that its depth leaves no room for
abbrev pub AreDepths : (ℕ → ℕ) → ℕ → Type 0
AreDepths depths limit = (s : ℕ) → is_born depths limit s ≡ true
    → (s < power (depths s)) × (depths s ≤ limit)

-- the segment that is born when this one splits
abbrev pub child_of : (ℕ → ℕ) → ℕ → ℕ
child_of depths s = s + power (depths s)

-- the depths once it has split
abbrev pub split_depths : (ℕ → ℕ) → ℕ → ℕ → ℕ
split_depths depths s = put (put depths s (depths s + 1)) (child_of depths s) (depths s + 1)

-- ---- laws
-- each home has one owner
abbrev pub EachHasOneOwner : Type 0
EachHasOneOwner = (depths : ℕ → ℕ) (limit home : ℕ) → AreDepths depths limit
    → (s : ℕ) × Owns depths limit s home × ((t : ℕ) → Owns depths limit t home → t ≡ s)

-- where a born segment below the limit splits, its child is born and no other, and who was born
-- stays so
pub record BearsOneChild (depths : ℕ → ℕ) (limit s : ℕ) : Type 0 where
  pub before : is_born depths limit (child_of depths s) ≢ true
  pub child : is_born (split_depths depths s) limit (child_of depths s) ≡ true
  pub no_other : (t : ℕ) → is_born (split_depths depths s) limit t ≡ true
      → (t ≡ child_of depths s) ⊎ (is_born depths limit t ≡ true)
  pub stay : (t : ℕ) → is_born depths limit t ≡ true
      → is_born (split_depths depths s) limit t ≡ true
  pub after : AreDepths (split_depths depths s) limit

abbrev pub SplitsBearOneChild : Type 0
SplitsBearOneChild = (depths : ℕ → ℕ) (limit s : ℕ) → AreDepths depths limit
    → is_born depths limit s ≡ true → depths s < limit → BearsOneChild depths limit s
