-- Bytes of a value that lie in its words: a change of one word is a change of its bytes.
use Rattle.std.proofs.Common.{◌≡◌, ◌≢◌, ℕ, zero, suc, ◌+◌, ◌-◌, ◌*◌, ◌<◌, ◌≤◌, List, [], ◌++◌, length, take, drop, refl, ap, sym, ◌∙◌}
use Rattle.std.proofs.Common.{arith, length-append, append_assoc, length-drop, Bool, ◌==◌, if◌then◌else◌, eq-eqb, ne_eqb, ◌/◌}
use native.Mathlib.Decide.{ℕ_discrete}
use mathlib.Core.Logic.{dite}
use Rattle.std.proofs.lemmas.List.{take-append-le, length-take-le, take-take, drop-append-le, drop-take, append-nil}
use Rattle.std.proofs.Math.Seq.{take-append-add, drop-append-add, drop-length}
use Rattle.bpf_base.specs.Bytes.{low_bytes, part, with_part}
use Rattle.bpf_shared.specs.Store.{put}
use Rattle.bpf_shared.proofs.Puts.{put-other}
use Rattle.hop_layout.specs.Words.{bytes_of_words}
use Rattle.hop_layout.proofs.Spelled.{spelled_same}

pub with_left : (xs ys zs : List ℕ) (i : ℕ) → i + length zs ≤ length xs → with_part (xs ++ ys) i zs ≡ with_part xs i zs ++ ys
with_left xs ys zs i l =
    (λ j. take-append-le i xs ys (omega arith) j ++ zs ++ drop-append-le (i + length zs) xs ys l j)
    ∙ sym (append_assoc (take i xs ++ zs) (drop (i + length zs) xs) ys)

pub with_right : (xs ys zs : List ℕ) (i : ℕ) → with_part (xs ++ ys) (length xs + i) zs ≡ xs ++ with_part ys i zs
with_right xs ys zs i =
    (λ j. take-append-add xs ys i j ++ zs ++ (ap (λ (n : ℕ). drop n (xs ++ ys))
    (let q : length xs + i + length zs ≡ length xs + (i + length zs) = omega arith in q) ∙ drop-append-add xs ys (i + length zs)) j)
    ∙ ((λ j. append_assoc xs (take i ys) zs j ++ drop (i + length zs) ys) ∙ append_assoc xs (take i ys ++ zs) (drop (i + length zs) ys))

pub take_with : (v i : ℕ) (xs zs : List ℕ) → i + length zs ≤ v → v ≤ length xs → take v (with_part xs i zs) ≡ with_part (take v xs) i zs
take_with v i xs zs l m =
    let front : length (take i xs) ≡ i = length-take-le i xs (omega arith) in
    let both : length (take i xs ++ zs) ≡ i + length zs = length-append (take i xs) zs ∙ ap (λ (n : ℕ). n + length zs) front in
    let all : v ≡ length (take i xs ++ zs) + (v - (i + length zs)) = omega arith in
    ap (λ (n : ℕ). take n (take i xs ++ zs ++ drop (i + length zs) xs)) all
    ∙ (take-append-add (take i xs ++ zs) (drop (i + length zs) xs) (v - (i + length zs))
    ∙ (λ j. sym (take-take i v xs (omega arith)) j ++ zs ++ (sym (drop-take (i + length zs) (v - (i + length zs)) xs) ∙ ap
    (λ (n : ℕ). drop (i + length zs) (take n xs)) (let q : i + length zs + (v - (i + length zs)) ≡ v = omega arith in q)) j))

length-low : (n x : ℕ) → length (low_bytes n x) ≡ n
length-low zero x = refl
length-low (suc n) x = ap suc (length-low n (x / 256))

pub length-spelled : (n : ℕ) (f : ℕ → ℕ) → length (bytes_of_words n f) ≡ 8 * n
length-spelled zero f = refl
length-spelled (suc n) f =
    let a = length-append (low_bytes 8 (f 0)) (bytes_of_words n (λ k. f (k + 1))) in
    let b = length-low 8 (f 0) in let c = length-spelled n (λ k. f (k + 1)) in omega arith

-- the k-th word changes, and so do its bytes from the o-th on
pub spelled_put : (n k o x : ℕ) (f : ℕ → ℕ) (zs : List ℕ) → k < n → o + length zs ≤ 8 → low_bytes 8 x ≡ with_part (low_bytes 8 (f k)) o zs →
    bytes_of_words n (put f k x) ≡ with_part (bytes_of_words n f) (8 * k + o) zs
spelled_put zero k o x f zs l fits is = absurd (omega arith)
spelled_put (suc n) zero o x f zs l fits is =
    let len = length-low 8 (f 0) in
    (λ j. is j ++ spelled_same n (λ i. put f 0 x (i + 1)) (λ i. f (i + 1)) (λ i _. put-other f 0 (i + 1) x (λ e. omega arith)) j)
    ∙ (sym (with_left (low_bytes 8 (f 0)) (bytes_of_words n (λ i. f (i + 1))) zs o (omega arith)) ∙ ap
    (λ (i : ℕ). with_part (bytes_of_words (suc n) f) i zs) (let q : o ≡ 8 * 0 + o = omega arith in q))
spelled_put (suc n) (suc k) o x f zs l fits is =
    let len = length-low 8 (f 0) in
    let at_k : low_bytes 8 x ≡ with_part (low_bytes 8 (f (k + 1))) o zs = is ∙ ap (λ (i : ℕ). with_part (low_bytes 8 (f i)) o zs)
    (let q : suc k ≡ k + 1 = omega arith in q) in
    (λ j. low_bytes 8 (put-other f (suc k) 0 x (λ e. omega arith) j) ++
    (spelled_same n (λ i. put f (suc k) x (i + 1)) (put (λ i. f (i + 1)) k x) (λ i _. shift i) ∙ spelled_put n k o x (λ i. f (i + 1)) zs
    (omega arith) fits at_k) j)
    ∙ (sym (with_right (low_bytes 8 (f 0)) (bytes_of_words n (λ i. f (i + 1))) zs (8 * k + o)) ∙ ap
    (λ (i : ℕ). with_part (bytes_of_words (suc n) f) i zs) (let q : length (low_bytes 8 (f 0)) + (8 * k + o) ≡ 8 * suc k + o = omega arith in q))
  where
    shift : (i : ℕ) → put f (suc k) x (i + 1) ≡ put (λ i. f (i + 1)) k x i
    shift i = ap (λ (b : Bool). if b then x else f (i + 1)) (same_test i)
      where
        same_test : (i : ℕ) → (i + 1 == suc k) ≡ (i == k)
        same_test i = dite (ℕ_discrete i k)
            (λ (e : i ≡ k). eq-eqb (i + 1) (suc k) (omega arith) ∙ sym (eq-eqb i k e))
            (λ (ne : i ≢ k). ne_eqb (i + 1) (suc k) (λ q. ne (omega arith)) ∙ sym (ne_eqb i k ne))

-- so the bytes of a value whose k-th word is written
pub value_put : (v n k o x : ℕ) (f : ℕ → ℕ) (zs : List ℕ) → k < n → v ≤ 8 * n → o + length zs ≤ 8 → 8 * k + o + length zs ≤ v → low_bytes 8
    x ≡ with_part (low_bytes 8 (f k)) o zs
    → take v (bytes_of_words n (put f k x)) ≡ with_part (take v (bytes_of_words n f)) (8 * k + o) zs
value_put v n k o x f zs l most fits inside is =
    let len = length-spelled n f in ap (take v) (spelled_put n k o x f zs l fits is) ∙ take_with v (8 * k + o) (bytes_of_words n f) zs inside (omega arith)

-- the bytes that are read from one word
pub part_of : (n k o b : ℕ) (f : ℕ → ℕ) → k < n → o + b ≤ 8 → part (bytes_of_words n f) (8 * k + o) b ≡ part (low_bytes 8 (f k)) o b
part_of zero k o b f l fits = absurd (omega arith)
part_of (suc n) zero o b f l fits =
    let len = length-low 8 (f 0) in
    let len' = length-drop o (low_bytes 8 (f 0)) in
    ap (λ (i : ℕ). take b (drop i (bytes_of_words (suc n) f))) (let q : 8 * 0 + o ≡ o = omega arith in q)
    ∙ (ap (take b) (drop-append-le o (low_bytes 8 (f 0)) (bytes_of_words n (λ i. f (i + 1))) (omega arith)) ∙ take-append-le b
    (drop o (low_bytes 8 (f 0))) (bytes_of_words n (λ i. f (i + 1))) (omega arith))
part_of (suc n) (suc k) o b f l fits =
    let len = length-low 8 (f 0) in
    ap (λ (i : ℕ). take b (drop i (bytes_of_words (suc n) f))) (let q : 8 * suc k + o ≡ length (low_bytes 8 (f 0)) + (8 * k + o) = omega arith in q)
    ∙ (ap (take b) (drop-append-add (low_bytes 8 (f 0)) (bytes_of_words n (λ i. f (i + 1))) (8 * k + o)) ∙
    (part_of n k o b (λ i. f (i + 1)) (omega arith) fits ∙ ap (λ (i : ℕ). part (low_bytes 8 (f i)) o b)
    (let q : k + 1 ≡ suc k = omega arith in q)))

pub part_taken : (v i b : ℕ) (xs : List ℕ) → i + b ≤ v → part (take v xs) i b ≡ part xs i b
part_taken v i b xs l =
    let q : i + (v - i) ≡ v = omega arith in
    ap (λ (n : ℕ). take b (drop i (take n xs))) (sym q) ∙ (ap (take b) (drop-take i (v - i) xs) ∙ take-take b (v - i) (drop i xs) (omega arith))

pub value_part : (v n k o b : ℕ) (f : ℕ → ℕ) → k < n → o + b ≤ 8 → 8 * k + o + b ≤ v → part (take v (bytes_of_words n f)) (8 * k + o) b ≡
    part (low_bytes 8 (f k)) o b
value_part v n k o b f l fits inside = part_taken v (8 * k + o) b (bytes_of_words n f) inside ∙ part_of n k o b f l fits

-- ---- whole words
pub whole_word : (n x : ℕ) → low_bytes 8 x ≡ with_part (low_bytes 8 n) 0 (low_bytes 8 x)
whole_word n x = sym ((λ j. low_bytes 8 x ++ none j) ∙ append-nil (low_bytes 8 x))
  where
    none : drop (0 + length (low_bytes 8 x)) (low_bytes 8 n) ≡ []
    none = ap (λ (k : ℕ). drop k (low_bytes 8 n))
        (let a = length-low 8 x in let b = length-low 8 n in let z : 0 + length (low_bytes 8 x) ≡ length (low_bytes 8 n) = omega arith in z)
        ∙ drop-length (low_bytes 8 n)
