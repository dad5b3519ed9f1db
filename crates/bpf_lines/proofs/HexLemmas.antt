-- Digits aren't passed over, so a text of digits alone reads as it is.
use Rattle.std.proofs.Common.{◌≡◌, ℕ, zero, suc, ◌/◌, ◌%◌, Bool, true, not, cond, List, [], ◌∷◌, slice_index, refl, ap, ◌∙◌}
use Rattle.std.specs.List.{list_all}
use Rattle.std.proofs.lemmas.Bool.{and_parts}
use Rattle.hex.specs.Hex.{encode_with, encode_lower, lower_digits, IsBytes}
use Rattle.hex.proofs.HexLemmas.{decode_of-encode_lower}
use Rattle.hex.specs.Hex.{decode_of}
use Rattle.bpf_lines.specs.HexText.{is_passed_over, digits_of, IsHexOf}

abbrev pub stays : ℕ → Bool
stays b = not (is_passed_over b)

-- what each element passes, and 0, an element at any place passes
slice_index-stays : (xs : List ℕ) (k : ℕ) → list_all stays xs ≡ true → stays (slice_index xs k) ≡ true
slice_index-stays [] k h = refl
slice_index-stays (x ∷ xs) zero h = (and_parts (stays x) (list_all stays xs) h).0
slice_index-stays (x ∷ xs) (suc k) h = slice_index-stays xs k (and_parts (stays x) (list_all stays xs) h).1

digit_stays : (k : ℕ) → stays (slice_index lower_digits k) ≡ true
digit_stays k = slice_index-stays lower_digits k refl

digits_of-cons : (b : ℕ) (text : List ℕ) → stays b ≡ true → digits_of (b ∷ text) ≡ b ∷ digits_of text
digits_of-cons b text e = ap (λ t. cond t (b ∷ digits_of text) (digits_of text)) e

digits_of-encode_lower : (bytes : List ℕ) → digits_of (encode_lower bytes) ≡ encode_lower bytes
unfolding encode_with
digits_of-encode_lower [] = refl
digits_of-encode_lower (b ∷ rest) =
    let high = slice_index lower_digits (b / 16) in
    let low = slice_index lower_digits (b % 16) in
    digits_of-cons high (low ∷ encode_lower rest) (digit_stays (b / 16))
    ∙ ap (λ t. high ∷ t) (digits_of-cons low (encode_lower rest) (digit_stays (b % 16)) ∙ ap (λ t. low ∷ t) (digits_of-encode_lower rest))

pub IsHexOf-encode_lower : (bytes : List ℕ) → IsBytes bytes → IsHexOf (encode_lower bytes) bytes
IsHexOf-encode_lower bytes h = ap decode_of (digits_of-encode_lower bytes) ∙ decode_of-encode_lower bytes h
