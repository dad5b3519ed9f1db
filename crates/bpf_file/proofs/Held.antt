-- Numbers in n bytes.
use Rattle.std.proofs.Common.{◌≡◌, ℕ, suc, ◌+◌, ◌-◌, ◌*◌, ◌/◌, ◌%◌, ◌^◌, ◌<◌, ◌≤◌, true, List, [], ◌∷◌, ◌++◌, nat_eq, nat_lt, refl, sym, ap}
use Rattle.std.proofs.Common.{subst, ◌∙◌, append_assoc, append-nil, arith}
use Rattle.std.proofs.lemmas.Bool.{eqb-true, ltb_from_iff}
use Rattle.std.proofs.Math.Nat.{div-eq_of_lt, div-lt_iff_lt-mul, one-le-pow, pow-le-pow_right}
use Rattle.bpf_base.specs.Bytes.{low_bytes}

wide_below : (n s : ℕ) → n < 2 ^ 64 → 8 ≤ s → n < 2 ^ (8 * s)
wide_below n s low large =
    let grows : 2 ^ 64 ≤ 2 ^ (8 * s) = pow-le-pow_right (omega arith) {i = 64} {j = 8 * s} (omega (arith, large)) in omega (arith, low, grows)

-- 64 bits hold it, and n bytes hold 64 bits
pub wide : (n s : ℕ) → n < 2 ^ 64 → 8 ≤ s → true ≡ nat_lt n (2 ^ (8 * s))
wide n s low large = ltb_from_iff ((λ _. wide_below n s low large), (λ _. refl))

pub narrow : (n k : ℕ) → nat_eq (n / 2 ^ k) 0 ≡ nat_lt n (2 ^ k)
narrow n k =
    let some : 0 < 2 ^ k = one-le-pow k 2 (omega arith) in
    let by = div-lt_iff_lt-mul {k = 2 ^ k} {x = n} {y = 1} some in
    ltb_from_iff (
      (λ e. let none = eqb-true (n / 2 ^ k) 0 e in let below : n < 1 * 2 ^ k = by.0 (omega (arith, none)) in omega (arith, below)),
      (λ below. subst (λ x. nat_eq x 0 ≡ true) (sym (div-eq_of_lt below)) refl),
    )

-- one byte more
pub byte_more : (items : List ℕ) (size count left : ℕ) (whole : List ℕ) → count < size
    → items ++ low_bytes (size - count) left ≡ whole
    → (items ++ (left % 256 ∷ [])) ++ low_bytes (size - (count + 1)) (left / 256) ≡ whole
byte_more items size count left whole inside is =
    let one : size - count ≡ suc (size - (count + 1)) = omega (arith, inside) in
    append_assoc items (left % 256 ∷ []) (low_bytes (size - (count + 1)) (left / 256))
    ∙ (ap (λ n. items ++ low_bytes n left) (sym one) ∙ is)

-- none more
pub none_left : (items : List ℕ) (size count left : ℕ) (whole : List ℕ) → size ≤ count → items ++ low_bytes (size - count) left ≡ whole → items ≡ whole
none_left items size count left whole past is =
    let none : size - count ≡ 0 = omega (arith, past) in
    sym (append-nil items) ∙ (ap (λ n. items ++ low_bytes n left) (sym none) ∙ is)
