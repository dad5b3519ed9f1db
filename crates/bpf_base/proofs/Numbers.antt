-- Numbers as bytes: how many bytes there are, how large the numbers are, and that each is read back as the other.
use Rattle.std.proofs.Common.{◌≡◌, ℕ, zero, suc, ◌+◌, ◌*◌, ◌/◌, ◌%◌, ◌^◌, ◌<◌, List, [], ◌∷◌, length, refl, ap, ◌∙◌, arith}
use Rattle.std.specs.Prelude.{All}
use Rattle.std.proofs.lemmas.Nat.{pow-add}
use Rattle.std.proofs.lemmas.List.Elements.{All-nil, All-cons, All-head, All-tail}
use Rattle.bpf_base.specs.Bytes.{modulus, little_endian, low_bytes}

-- one byte more makes 256 times as many numbers
pub modulus-suc : (n : ℕ) → modulus (suc n) ≡ 256 * modulus n
modulus-suc n = ap (λ k. 2 ^ k) (let e : 8 * suc n ≡ 8 + 8 * n = omega arith in e) ∙ pow-add 2 8 (8 * n)

pub length-low_bytes : (n x : ℕ) → length (low_bytes n x) ≡ n
length-low_bytes zero x = refl
length-low_bytes (suc n) x = ap suc (length-low_bytes n (x / 256))

pub All-low_bytes : (n x : ℕ) → All (λ byte. byte < 256) (low_bytes n x)
All-low_bytes zero x = All-nil (λ byte. byte < 256)
All-low_bytes (suc n) x = All-cons (λ byte. byte < 256) (x % 256) (low_bytes n (x / 256)) (omega arith) (All-low_bytes n (x / 256))

pub little_endian-bounded : (bytes : List ℕ) → All (λ byte. byte < 256) bytes → little_endian bytes < modulus (length bytes)
little_endian-bounded [] each = omega arith
little_endian-bounded (byte ∷ bytes) each =
    let first : byte < 256 = All-head (λ b. b < 256) byte bytes each in
    let behind : little_endian bytes < modulus (length bytes) = little_endian-bounded bytes (All-tail (λ b. b < 256) byte bytes each) in
    let more : modulus (suc (length bytes)) ≡ 256 * modulus (length bytes) = modulus-suc (length bytes) in
    omega arith

-- a number that fits is read back from its bytes
pub little_endian-low_bytes : (n x : ℕ) → x < modulus n → little_endian (low_bytes n x) ≡ x
little_endian-low_bytes zero x h = omega arith
little_endian-low_bytes (suc n) x h =
    let more : modulus (suc n) ≡ 256 * modulus n = modulus-suc n in
    let behind : little_endian (low_bytes n (x / 256)) ≡ x / 256 = little_endian-low_bytes n (x / 256) (omega arith) in
    omega arith

-- bytes are those of their number
pub low_bytes-little_endian : (bytes : List ℕ) → All (λ byte. byte < 256) bytes → low_bytes (length bytes) (little_endian bytes) ≡ bytes
low_bytes-little_endian [] each = refl
low_bytes-little_endian (byte ∷ bytes) each =
    let first : byte < 256 = All-head (λ b. b < 256) byte bytes each in
    let low : (byte + 256 * little_endian bytes) % 256 ≡ byte = omega arith in
    let high : (byte + 256 * little_endian bytes) / 256 ≡ little_endian bytes = omega arith in
    let behind : low_bytes (length bytes) (little_endian bytes) ≡ bytes = low_bytes-little_endian bytes (All-tail (λ b. b < 256) byte bytes each) in
    rw (low, high, behind)
