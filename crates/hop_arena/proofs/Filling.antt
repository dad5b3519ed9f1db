-- Filling an element, a word at a time.
use Rattle.std.proofs.Common.{◌≡◌, ℕ, zero, suc, List, [], ◌∷◌, ◌++◌, length, refl, ap, ◌∙◌, arith, length-append}
use Rattle.std.proofs.lemmas.List.{append-nil}
use Rattle.hop_words.specs.declared.known.Known.{Known}
use Rattle.hop_words.specs.declared.known.Fresh.{Fresh}
use Rattle.hop_words.specs.Owning.{IsInHand, tail_of, key_filled, value_filled}
use Rattle.hop_words.specs.Locking.{nothing_in_hand}
use Rattle.hop_arena.specs.Filling.{with_words, word_list}
use Rattle.hop_layout.specs.Words.{word_of}

abbrev first : List Fresh → Fresh
first [] = nothing_in_hand
first (f ∷ fs) = f

abbrev IsFirst : List Fresh → ℕ → ℕ → Type 0
IsFirst fs m e = (f : Fresh) × (fs ≡ f ∷ tail_of fs) × (f.map ≡ m) × (f.element ≡ e)

still_first : (fs : List Fresh) (m e : ℕ) (ks vs : List ℕ) → IsFirst fs m e → IsFirst (with_words fs ks vs) m e
still_first [] m e ks vs h = let z = h.1 in cc
still_first (x ∷ xs) m e ks vs h = (
  record x { key = x.key ++ ks; value = x.value ++ vs },
  refl,
  ap (λ (fs : List Fresh). (first fs).map)
      h.1 ∙ h.2,
  ap (λ (fs : List Fresh). (first fs).element) h.1 ∙ h.3,
)

pub still_in_hand : (l : Known) (m e : ℕ) (ks vs : List ℕ) → IsInHand l m e → IsInHand (record l { fresh = with_words l.fresh ks vs }) m e
still_in_hand l m e ks vs h = still_first l.fresh m e ks vs h

pub keys_filled : (fs : List Fresh) (m e : ℕ) (ks vs : List ℕ) → IsFirst fs m e → key_filled fs ≡ 0 → key_filled (with_words fs ks vs) ≡ length ks
keys_filled [] m e ks vs h none = let z = h.1 in cc
keys_filled (x ∷ xs) m e ks vs h none = length-append x.key ks ∙ omega arith

pub values_filled : (fs : List Fresh) (m e : ℕ) (ks vs : List ℕ) → IsFirst fs m e → value_filled fs ≡ 0 → value_filled (with_words fs ks vs) ≡ length vs
values_filled [] m e ks vs h none = let z = h.1 in cc
values_filled (x ∷ xs) m e ks vs h none = length-append x.value vs ∙ omega arith

-- nothing more
pub no_words : (fs : List Fresh) → with_words fs [] [] ≡ fs
no_words [] = refl
no_words (x ∷ xs) = (λ i. record x { key = append-nil x.key i; value = append-nil x.value i } ∷ xs)

pub word_count : (n : ℕ) (bs : List ℕ) → length (word_list n bs) ≡ n
word_count zero bs = refl
word_count (suc n) bs = length-append (word_list n bs) (word_of bs n ∷ []) ∙ (let r = word_count n bs in omega arith)
