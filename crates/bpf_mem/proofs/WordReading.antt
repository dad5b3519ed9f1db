-- How words are read: this many zeros are to come, and then what the rest of the bytes shows.
use Rattle.std.proofs.Common.{◌≡◌, ℕ, suc, ◌+◌, ◌-◌, ◌<◌, ◌≤◌, List, [], ◌∷◌, ◌++◌, length, take, drop, get_or, sym, ap, ◌∙◌, arith}
use Rattle.std.proofs.Common.{length-append, length-drop, drop-cons, add-one}
use Rattle.std.specs.Prelude.{All, slice_set}
use Rattle.std.proofs.lemmas.List.{take-append-drop, length-take-le, take_all}
use Rattle.std.proofs.lemmas.List.Elements.{All-from_get_or, All-take}
use Rattle.bpf_base.specs.Bytes.{low_bytes, little_endian}
use Rattle.bpf_base.proofs.Numbers.{low_bytes-little_endian}
use Rattle.bpf_mem.specs.Saved.{IsWord, word_bytes, words_saved}
use Rattle.bpf_mem.proofs.WordLemmas.{AreReadTo, reads_none, reads_zero, reads_word, no_zero, too_short, reads_all, reads_fit, zeros_left, some_saved}

-- eight bytes are those of their number
pub word_back : (bytes : List ℕ) → length bytes ≡ 8 → All (λ b. b < 256) bytes → word_bytes (little_endian bytes) ≡ bytes
unfolding word_bytes
word_back bytes size each = ap (λ (n : ℕ). low_bytes n (little_endian bytes)) (sym size) ∙ low_bytes-little_endian bytes each

pub first_back : (bytes : List ℕ) (x : ℕ) → 8 ≤ length bytes → ((i : ℕ) → get_or bytes i 0 < 256) → x ≡ little_endian (take 8 bytes) →
    word_bytes x ≡ take 8 bytes
first_back bytes x long each e =
    let all : All (λ b. b < 256) bytes = All-from_get_or (λ b. b < 256) bytes 0 (λ i h. each i) in
    ap word_bytes e ∙ word_back (take 8 bytes) (length-take-le 8 bytes long) (All-take (λ b. b < 256) 8 bytes all)

-- no words of this number have such a beginning
abbrev pub HaveNone : List ℕ → ℕ → Type 0
HaveNone bytes n = (others more : List ℕ) → length others ≡ n → All IsWord others → bytes ≡ words_saved 0 others ++ more → ⊥

-- the first i words were read, and this many zeros come before the rest
abbrev pub AreLeft : List ℕ → List ℕ → ℕ → ℕ → List ℕ → Type 0
AreLeft bytes words i left rest = (past : ℕ) × AreReadTo bytes words i (left + past) past rest

pub no_bytes : (bytes : List ℕ) (n : ℕ) → length bytes ≡ 0 → HaveNone bytes n
no_bytes bytes n none others more long h e =
    let size = ap length e ∙ length-append (words_saved 0 others) more in
    omega (arith, size, some_saved 0 others)

-- what a slice from a place on is
pub all_behind : (n : ℕ) (l : List ℕ) → take (length l - n) (drop n l) ≡ drop n l
all_behind n l = take_all (length l - n) (drop n l) (omega (arith, length-drop n l))

pub left_first : (bytes words : List ℕ) → 0 < length bytes → AreLeft bytes words 0 (get_or bytes 0 0) (take (length bytes - 1) (drop 1 bytes))
left_first [] words some = absurd (omega arith)
left_first (b ∷ bytes) words some =
    let n : b + 0 ≡ b = omega arith in
    let behind : take (length (b ∷ bytes) - 1) bytes ≡ bytes = all_behind 1 (b ∷ bytes) in
    (0, rw (n, behind) (reads_none words b bytes))

module _ (bytes words : List ℕ) (i : ℕ) (rest : List ℕ) (inside : i < length words) (left : ℕ) (read : AreLeft bytes words i left rest) where
  pub left_zero : 0 < left → AreLeft bytes (slice_set words i 0) (i + 1) (left - 1) rest
  left_zero some =
      let n : left - 1 + suc read.0 ≡ left + read.0 = omega arith in
      let less : read.0 < left + read.0 = omega arith in
      (suc read.0, rw (n, add-one) (reads_zero bytes words i (left + read.0) read.0 rest read.1 inside less))

  module _ (gone : left ≤ 0) where
    most : left + read.0 ≤ read.0
    most = omega arith

    pub left_short : (n : ℕ) → length words ≡ n → length rest < 9 → HaveNone bytes n
    left_short n size short others more long h e = too_short bytes words i (left + read.0) read.0 rest read.1 inside most short others more
        (long ∙ sym size) h e

    module _ (long : 9 ≤ length rest) (x : ℕ) (wide : IsWord x) (is : word_bytes x ≡ take 8 rest) where
      here : rest ≡ word_bytes x ++ get_or rest 8 0 ∷ drop 9 rest
      here =
          let behind : drop 8 rest ≡ get_or rest 8 0 ∷ drop 9 rest = drop-cons rest 8 0 (omega arith) in
          sym (take-append-drop 8 rest) ∙ (ap (λ (l : List ℕ). l ++ drop 8 rest) (sym is) ∙ ap (λ (l : List ℕ). word_bytes x ++ l) behind)

      pub left_word : 0 < x → AreLeft bytes (slice_set words i x) (i + 1) (get_or rest 8 0) (take (length rest - 9) (drop 9 rest))
      left_word some =
          let n : get_or rest 8 0 + 0 ≡ get_or rest 8 0 = omega arith in
          let behind : take (length rest - 9) (drop 9 rest) ≡ drop 9 rest = all_behind 9 rest in (
            0,
            rw (n, add-one, behind) (reads_word bytes words i (left + read.0) read.0 rest read.1 inside x (get_or rest 8 0) (drop 9 rest)
                wide here most some),
          )

      pub left_no_zero : (n : ℕ) → length words ≡ n → x ≡ 0 → HaveNone bytes n
      left_no_zero n size none others more l h e = no_zero bytes words i (left + read.0) read.0 rest read.1 inside x (get_or rest 8 0)
          (drop 9 rest) wide here most none others more (l ∙ sym size) h e

module _ (bytes words : List ℕ) (i : ℕ) (rest : List ℕ) (all : length words ≤ i) (left : ℕ) (read : AreLeft bytes words i left rest) where
  pub left_none : left ≡ 0 → bytes ≡ words_saved 0 words ++ rest
  left_none gone = reads_all bytes words i (left + read.0) read.0 rest read.1 all (omega arith)

  pub left_fit : All IsWord words
  left_fit = reads_fit bytes words i (left + read.0) read.0 rest read.1 all

  pub left_some : (n : ℕ) → length words ≡ n → (left ≡ 0 → ⊥) → HaveNone bytes n
  left_some n size some others more l h e = zeros_left bytes words i (left + read.0) read.0 rest read.1 all (λ same. some (omega arith))
      others more (l ∙ sym size) h e
