-- Numbers in n bytes.
use Rattle.std.proofs.Common.{◌≡◌, ℕ, suc, ◌+◌, ◌-◌, ◌*◌, ◌/◌, ◌%◌, ◌^◌, ◌<◌, ◌≤◌, true, false, cond, List, [], ◌∷◌, ◌++◌, Option, Some}
use Rattle.std.proofs.Common.{None, MatchOption, length, take, drop, nat_eq, nat_lt, refl, sym, ap, subst, ◌∙◌, append_assoc, arith}
use Rattle.std.specs.Prelude.{IfSome, nat_le}
use Rattle.std.proofs.lemmas.Bool.{eqb-true, le-leb, ltb_from_iff}
use Rattle.std.proofs.Math.Nat.{div-eq_of_lt, div-lt_iff_lt-mul, one-le-pow, pow-le-pow_right}
use Rattle.bpf_base.specs.Bytes.{low_bytes}
use Rattle.bpf_shared.specs.Access.{bytes_in}
use Rattle.bpf_check.specs.Claim.{field_of, in_64_bits, low_first}
use Rattle.bpf_check.specs.declared.claim.Field.{Field}

wide_below : (n s : ℕ) → n < 2 ^ 64 → 8 ≤ s → n < 2 ^ (8 * s)
wide_below n s low large =
    let grows : 2 ^ 64 ≤ 2 ^ (8 * s) = pow-le-pow_right (omega arith) {i = 64} {j = 8 * s} (omega (arith, large)) in omega (arith, low, grows)

-- 64 bits hold it, and n bytes hold 64 bits
pub wide : (n s : ℕ) → n < 2 ^ 64 → 8 ≤ s → true ≡ nat_lt n (2 ^ (8 * s))
wide n s low large = ltb_from_iff ((λ _. wide_below n s low large), (λ _. refl))

pub narrow : (n k : ℕ) → nat_eq (n / 2 ^ k) 0 ≡ nat_lt n (2 ^ k)
narrow n k =
    let some : 0 < 2 ^ k = one-le-pow k 2 (omega arith) in
    let by = div-lt_iff_lt-mul {k = 2 ^ k} {x = n} {y = 1} some in
    ltb_from_iff (
      (λ e. let none = eqb-true (n / 2 ^ k) 0 e in let below : n < 1 * 2 ^ k = by.0 (omega (arith, none)) in omega (arith, below)),
      (λ below. subst (λ x. nat_eq x 0 ≡ true) (sym (div-eq_of_lt below)) refl),
    )

-- one byte more
pub byte_more : (items : List ℕ) (size count left : ℕ) (whole : List ℕ) → count < size
    → items ++ low_bytes (size - count) left ≡ whole
    → (items ++ (left % 256 ∷ [])) ++ low_bytes (size - (count + 1)) (left / 256) ≡ whole
byte_more items size count left whole inside is =
    let one : size - count ≡ suc (size - (count + 1)) = omega (arith, inside) in
    append_assoc items (left % 256 ∷ []) (low_bytes (size - (count + 1)) (left / 256))
    ∙ (ap (λ n. items ++ low_bytes n left) (sym one) ∙ is)

-- what fits is there, and what doesn't isn't
pub by_bits : (o : Option ℕ) (n : ℕ) → MatchOption o (2 ^ 64 ≤ n) (λ m. m ≡ n) → IfSome o (λ m. m < 2 ^ 64) → o ≡ in_64_bits n
by_bits None n large fits =
    let no : false ≡ nat_lt n (2 ^ 64) = ltb_from_iff ((λ e. cc), (λ low. absurd (omega (arith, low, large)))) in ap (λ b. cond b (Some n) None) no
by_bits (Some m) n is fits =
    let yes : true ≡ nat_lt n (2 ^ 64) = ltb_from_iff ((λ _. omega (arith, is, fits)), (λ _. refl)) in ap Some is ∙ ap (λ b. cond b (Some n) None) yes

-- a field that the value has room for
pub field_there : (f : Field) (digits : List ℕ) (from bytes : ℕ) → from ≡ f.offset → bytes ≡ bytes_in f.size → 2 * from + 2 * bytes ≤ length digits
    → in_64_bits (low_first (take (2 * from + 2 * bytes - 2 * from) (drop (2 * from) digits))) ≡ field_of f digits
field_there f digits from bytes starts size inside =
    let there : nat_le (2 * f.offset + 2 * bytes_in f.size) (length digits) ≡ true = le-leb _ _ (omega (arith, starts, size, inside)) in
    let long : 2 * from + 2 * bytes - 2 * from ≡ 2 * bytes_in f.size = omega (arith, size) in
    ap (λ n. in_64_bits (low_first (take n (drop (2 * from) digits)))) long
    ∙ (ap (λ n. in_64_bits (low_first (take (2 * bytes_in f.size) (drop (2 * n) digits)))) starts
    ∙ ap (λ b. cond b (in_64_bits (low_first (take (2 * bytes_in f.size) (drop (2 * f.offset) digits)))) None) (sym there))
