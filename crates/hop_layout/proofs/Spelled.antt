-- The bytes that words spell.
use Rattle.std.proofs.Common.{◌≡◌, ℕ, zero, suc, ◌+◌, ◌*◌, ◌/◌, ◌%◌, ◌<◌, ◌≤◌, List, [], ◌∷◌, ◌++◌, length, take, drop, refl, ap, sym, ◌∙◌}
use Rattle.std.proofs.Common.{arith, length-drop, ◌-◌}
use Rattle.std.proofs.lemmas.List.{take-append-le, take-append-drop, length-take-le, take_all, drop-drop}
use Rattle.std.proofs.Math.Seq.{take-append-add}
use mathlib.Core.Logic.{dite}
use native.Mathlib.Decide.{dec_lt}
use Rattle.bpf_base.specs.Bytes.{little_endian, low_bytes}
use Rattle.hop_layout.specs.Words.{AreBytes, word_of, bytes_of_words}

pub spelled_same : (n : ℕ) (f g : ℕ → ℕ) → ((k : ℕ) → k < n → f k ≡ g k) → bytes_of_words n f ≡ bytes_of_words n g
spelled_same zero f g e = refl
spelled_same (suc n) f g e =
    let a = ap (low_bytes 8) (e 0 (omega arith)) in
    let b = spelled_same n (λ k. f (k + 1)) (λ k. g (k + 1)) (λ k l. e (k + 1) (omega arith)) in
    λ i. a i ++ b i

low_of : (k : ℕ) (bs : List ℕ) → AreBytes bs → length bs ≤ k → take (length bs) (low_bytes k (little_endian bs)) ≡ bs
low_of k [] b l = refl
low_of zero (x ∷ bs) b l = absurd (omega arith)
low_of (suc k) (x ∷ bs) b l =
    let small : x < 256 = b.0 in
    let h : (x + 256 * little_endian bs) % 256 ≡ x = grind arith in
    let t : (x + 256 * little_endian bs) / 256 ≡ little_endian bs = grind arith in
    let r : take (length bs) (low_bytes k ((x + 256 * little_endian bs) / 256)) ≡ bs = ap (λ (n : ℕ). take (length bs) (low_bytes k n)) t ∙
    low_of k bs b.1 (omega arith) in
    λ i. h i ∷ r i

length-low : (n x : ℕ) → length (low_bytes n x) ≡ n
length-low zero x = refl
length-low (suc n) x = ap suc (length-low n (x / 256))

bytes_take : (n : ℕ) (bs : List ℕ) → AreBytes bs → AreBytes (take n bs)
bytes_take zero bs b = tt
bytes_take (suc n) [] b = tt
bytes_take (suc n) (x ∷ bs) b = (b.0, bytes_take n bs b.1)

bytes_drop : (n : ℕ) (bs : List ℕ) → AreBytes bs → AreBytes (drop n bs)
bytes_drop zero bs b = b
bytes_drop (suc n) [] b = tt
bytes_drop (suc n) (x ∷ bs) b = bytes_drop n bs b.1

word_later : (bs : List ℕ) (k : ℕ) → word_of bs (k + 1) ≡ word_of (drop 8 bs) k
word_later bs k = ap (λ (l : List ℕ). little_endian (take 8 l)) (ap (λ (n : ℕ). drop n bs)
    (let z : 8 * (k + 1) ≡ 8 + 8 * k = omega arith in z) ∙ sym (drop-drop (8 * k) 8 bs))

-- the words of bytes spell these bytes
pub spelled_back : (n : ℕ) (bs : List ℕ) → AreBytes bs → length bs ≤ 8 * n → take (length bs) (bytes_of_words n (word_of bs)) ≡ bs
spelled_back zero [] b l = refl
spelled_back zero (x ∷ bs) b l = absurd (omega arith)
spelled_back (suc n) bs b l = back_by (λ xs c k. spelled_back n xs c k)
  where
    rest : List ℕ
    rest = bytes_of_words n (λ k. word_of bs (k + 1))

    first : List ℕ
    first = low_bytes 8 (little_endian (take 8 bs))

    len : length first ≡ 8
    len = length-low 8 (little_endian (take 8 bs))

    short : (8 < length bs → ⊥) → take (length bs) (first ++ rest) ≡ bs
    short nl =
        let all : take 8 bs ≡ bs = take_all 8 bs (grind arith) in
        take-append-le (length bs) first rest (grind arith) ∙ (ap (λ (x : List ℕ). take (length bs) (low_bytes 8 (little_endian x))) all ∙
        low_of 8 bs b (grind arith))

    long : ((xs : List ℕ) → AreBytes xs → length xs ≤ 8 * n → take (length xs) (bytes_of_words n (word_of xs)) ≡ xs) → 8 < length bs → take
        (length bs) (first ++ rest) ≡ bs
    long again l8 =
        let front : length (take 8 bs) ≡ 8 = length-take-le 8 bs (omega arith) in
        let full : first ≡ take 8 bs = sym (take_all 8 first (omega arith)) ∙
        (ap (λ (k : ℕ). take k first) (sym front) ∙ low_of 8 (take 8 bs) (bytes_take 8 bs b) (omega arith)) in
        let back : length (drop 8 bs) ≡ length bs - 8 = length-drop 8 bs in
        let split : length bs ≡ length first + length (drop 8 bs) = omega arith in
        ap (λ (k : ℕ). take k (first ++ rest)) split
        ∙ (take-append-add first rest (length (drop 8 bs))
        ∙ ((λ i. full i ++ take (length (drop 8 bs)) (spelled_same n (λ k. word_of bs (k + 1)) (word_of (drop 8 bs)) (λ k _. word_later bs k) i))
        ∙ (ap (λ (x : List ℕ). take 8 bs ++ x) (again (drop 8 bs) (bytes_drop 8 bs b) (omega arith)) ∙ take-append-drop 8 bs)))

    back_by : ((xs : List ℕ) → AreBytes xs → length xs ≤ 8 * n → take (length xs) (bytes_of_words n (word_of xs)) ≡ xs) → take (length bs) (first ++ rest) ≡ bs
    back_by again = dite (dec_lt 8 (length bs)) (long again) short
