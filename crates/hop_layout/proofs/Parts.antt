-- Bytes in a word.
use Rattle.std.proofs.Common.{◌≡◌, ℕ, zero, suc, ◌+◌, ◌*◌, ◌<◌, ◌≤◌, List, [], ◌∷◌, length, slice_index, refl, ap, sym, subst, ◌∙◌, arith}
use Rattle.bpf_base.specs.Bytes.{little_endian, part}

abbrev pub cap : ℕ → ℕ
cap zero = 1
cap (suc n) = cap n * 256

pub cap_most : (n m : ℕ) → n ≤ m → cap n ≤ cap m
cap_most n zero l = let z : n ≡ 0 = omega arith in subst (λ (k : ℕ). cap k ≤ 1) (sym z) (omega arith)
cap_most zero (suc m) l = let t = cap_most zero m (omega arith) in omega arith
cap_most (suc n) (suc m) l = let t = cap_most n m (omega arith) in omega arith

pub part_step : (bs : List ℕ) (i n : ℕ) → i < length bs → part bs i (suc n) ≡ slice_index bs i ∷ part bs (suc i) n
part_step [] i n l = absurd (omega arith)
part_step (b ∷ bs) zero n l = refl
part_step (b ∷ bs) (suc i) n l = part_step bs i n (omega arith)

pub part_none : (bs : List ℕ) (i n : ℕ) → length bs ≤ i → part bs i n ≡ []
part_none [] zero zero l = refl
part_none [] zero (suc n) l = refl
part_none [] (suc i) zero l = refl
part_none [] (suc i) (suc n) l = refl
part_none (b ∷ bs) zero n l = absurd (omega arith)
part_none (b ∷ bs) (suc i) n l = part_none bs i n (omega arith)

pub word_step : (bs : List ℕ) (i j n k : ℕ) → j ≡ suc i → k ≡ suc n → i < length bs → little_endian (part bs i k) ≡ slice_index bs i + 256 *
    little_endian (part bs j n)
word_step bs i j n k a b l = (λ t. little_endian (part bs i (b t))) ∙
    (ap little_endian (part_step bs i n l) ∙ (λ t. slice_index bs i + 256 * little_endian (part bs (sym a t) n)))

pub word_none : (bs : List ℕ) (i k : ℕ) → length bs ≤ i → little_endian (part bs i k) ≡ 0
word_none bs i k l = ap little_endian (part_none bs i k l)

pub cap_on : (n m k : ℕ) → n ≡ suc m → k < cap m → (b : ℕ) → b < 256 → k * 256 + b < cap n
cap_on n m k e l b small = subst (λ (i : ℕ). k * 256 + b < cap i) (sym e) (omega arith)

pub cap_up : (n m k : ℕ) → m ≤ n → k < cap m → k < cap n
cap_up n m k l small = let t = cap_most m n l in omega arith
