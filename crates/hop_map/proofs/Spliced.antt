-- Words of eight bytes some of which are others.
use Rattle.std.proofs.Common.{◌≡◌, ℕ, ◌+◌, ◌*◌, ◌/◌, ◌%◌, ◌<◌, List, [], ◌∷◌, ◌++◌, All, take, drop, length, slice_index, ap, sym, subst, ◌∙◌, arith}
use Rattle.std.specs.Int.{w64, to_le_bytes}
use Rattle.std.proofs.Math.Nat.{div-div-eq-div-mul}
use Rattle.std.proofs.lemmas.List.Elements.{All-take, All-drop, All-append}
use Rattle.bpf_base.specs.Bytes.{little_endian, low_bytes, with_part}
use Rattle.bpf_base.proofs.Numbers.{All-low_bytes, low_bytes-little_endian}

abbrev IsByte : ℕ → Type 0
IsByte b = b < 256

-- bytes with others among them are bytes
pub bytes_with : (bs others : List ℕ) (i : ℕ) → All IsByte bs → All IsByte others → All IsByte (with_part bs i others)
bytes_with bs others i p q =
    All-append IsByte (take i bs ++ others) (drop (i + length others) bs)
    (All-append IsByte (take i bs) others (All-take IsByte i bs p) q) (All-drop IsByte (i + length others) bs p)

-- the number that eight bytes are as code adds it up
abbrev pub added_up : List ℕ → ℕ
added_up bs = slice_index bs 0 + slice_index bs 1 * 256 + slice_index bs 2 * 65536 + slice_index bs 3 * 16777216 + slice_index bs 4 * 4294967296
    + slice_index bs 5 * 1099511627776 + slice_index bs 6 * 281474976710656 + slice_index bs 7 * 72057594037927936

eight : (bs : List ℕ) → length bs ≡ 8 → added_up bs ≡ little_endian bs
eight [] e = absurd (omega arith)
eight (a ∷ []) e = absurd (omega arith)
eight (a ∷ b ∷ []) e = absurd (omega arith)
eight (a ∷ b ∷ c ∷ []) e = absurd (omega arith)
eight (a ∷ b ∷ c ∷ d ∷ []) e = absurd (omega arith)
eight (a ∷ b ∷ c ∷ d ∷ f ∷ []) e = absurd (omega arith)
eight (a ∷ b ∷ c ∷ d ∷ f ∷ g ∷ []) e = absurd (omega arith)
eight (a ∷ b ∷ c ∷ d ∷ f ∷ g ∷ h ∷ []) e = absurd (omega arith)
eight (a ∷ b ∷ c ∷ d ∷ f ∷ g ∷ h ∷ i ∷ []) e = omega arith
eight (a ∷ b ∷ c ∷ d ∷ f ∷ g ∷ h ∷ i ∷ j ∷ bs) e = absurd (omega arith)

-- its low bytes are those
pub bytes_back : (bs : List ℕ) (n : ℕ) → length bs ≡ 8 → All IsByte bs → n ≡ added_up bs → low_bytes 8 n ≡ bs
bytes_back bs n size all is =
    ap (low_bytes 8) (is ∙ eight bs size) ∙ (ap (λ (k : ℕ). low_bytes k (little_endian bs)) (sym size) ∙ low_bytes-little_endian bs all)

-- the bytes of a number as code has them
pub bytes_of : (n : ℕ) → to_le_bytes w64 n ≡ low_bytes 8 n
bytes_of n = λ j. n % 256 ∷ n / 256 % 256 ∷ sym two j % 256 ∷ sym three j % 256 ∷ sym four j % 256 ∷ sym five j % 256 ∷ sym six j % 256 ∷ sym seven j % 256 ∷ []
  where
    two : n / 256 / 256 ≡ n / 65536
    two = div-div-eq-div-mul n 256 256

    three : n / 256 / 256 / 256 ≡ n / 16777216
    three = ap (λ (m : ℕ). m / 256) two ∙ div-div-eq-div-mul n 65536 256

    four : n / 256 / 256 / 256 / 256 ≡ n / 4294967296
    four = ap (λ (m : ℕ). m / 256) three ∙ div-div-eq-div-mul n 16777216 256

    five : n / 256 / 256 / 256 / 256 / 256 ≡ n / 1099511627776
    five = ap (λ (m : ℕ). m / 256) four ∙ div-div-eq-div-mul n 4294967296 256

    six : n / 256 / 256 / 256 / 256 / 256 / 256 ≡ n / 281474976710656
    six = ap (λ (m : ℕ). m / 256) five ∙ div-div-eq-div-mul n 1099511627776 256

    seven : n / 256 / 256 / 256 / 256 / 256 / 256 / 256 ≡ n / 72057594037927936
    seven = ap (λ (m : ℕ). m / 256) six ∙ div-div-eq-div-mul n 281474976710656 256

-- a word some bytes of which were replaced
pub spliced : (word i k x n : ℕ) (bs : List ℕ) → length bs ≡ 8 → bs ≡ with_part (low_bytes 8 word) i (low_bytes k x) → n ≡ added_up bs →
    low_bytes 8 n ≡ with_part (low_bytes 8 word) i (low_bytes k x)
spliced word i k x n bs size is sum =
    bytes_back bs n size (subst (All IsByte) (sym is) (bytes_with (low_bytes 8 word) (low_bytes k x) i (All-low_bytes 8 word) (All-low_bytes k x))) sum ∙ is
