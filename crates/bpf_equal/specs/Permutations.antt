-- Permutations of numbers: of those of CPUs, and of those of jobs.
use Rattle.std.specs.Prelude.{◌≡◌, ℕ, ◌<◌, ◌==◌, if◌then◌else◌}

-- where each number goes, and where each comes from
pub record Permutation : Type 0 where
  pub to : ℕ → ℕ
  pub from : ℕ → ℕ
  pub back : (n : ℕ) → from (to n) ≡ n
  pub forth : (n : ℕ) → to (from n) ≡ n

-- no number below this one goes to one that isn't, or comes from one
abbrev pub StaysBelow : ℕ → Permutation → Type 0
StaysBelow n p = (k : ℕ) → k < n → (p.to k < n) × (p.from k < n)

-- c and d change places, and all others stay
abbrev pub exchanged : ℕ → ℕ → ℕ → ℕ
exchanged c d x = if x == c then d else if x == d then c else x

abbrev pub Exchanges : Permutation → ℕ → ℕ → Type 0
Exchanges p c d = (x : ℕ) → (p.to x ≡ exchanged c d x) × (p.from x ≡ exchanged c d x)
