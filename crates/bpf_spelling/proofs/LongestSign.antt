-- The first sign of the list that a text begins with is the longest one, since longer signs are first.
use Rattle.std.proofs.Common.{◌≡◌, ℕ, Bool, true, false, cond, ◌&&◌, not, nat_eq, List, [], ◌∷◌, length, Option, Some, None, refl, sym}
use Rattle.std.specs.Prelude.{IfSome, nat_lt, find, filter}
use Rattle.std.specs.List.{starts_with, list_all}
use Rattle.std.proofs.lemmas.Bool.{and_parts}
use Rattle.bpf_spelling.specs.declared.signs.Sign.{Sign}
use Rattle.bpf_spelling.specs.declared.signs.TheConstants.{SIGNS}
use Rattle.bpf_spelling.specs.Private.Letters.{first_sign}
use Rattle.bpf_spelling.specs.Signs.{sign_text, longer, longest, sign_at}

abbrev is_short : ℕ → Sign → Bool
is_short n s = not (nat_lt n (length (sign_text s)))

abbrev descends : List Sign → Bool
descends [] = true
descends (s ∷ ss) = list_all (is_short (length (sign_text s))) ss && descends ss

longer_short : (n : ℕ) (s : Sign) (o : Option Sign) → is_short n s ≡ true → IfSome o (λ t. is_short n t ≡ true) → IfSome (longer s o) (λ t. is_short n t ≡ true)
longer_short n s None h k = h
longer_short n s (Some t) h k = by_test (nat_lt (length (sign_text s)) (length (sign_text t)))
  where
    by_test : (b : Bool) → IfSome (cond b (Some t) (Some s)) (λ t. is_short n t ≡ true)
    by_test true = k
    by_test false = h

longest_short : (n : ℕ) (p : Sign → Bool) (ss : List Sign) → list_all (is_short n) ss ≡ true → IfSome (longest (filter p ss)) (λ t. is_short n t ≡ true)
longest_short n p [] h = tt
longest_short n p (s ∷ ss) h =
    let both = and_parts (is_short n s) (list_all (is_short n) ss) h in
    by_test n p s ss (p s) refl both.0 (longest_short n p ss both.1)
  where
    by_test : (n : ℕ) (p : Sign → Bool) (s : Sign) (ss : List Sign) (b : Bool) → p s ≡ b → is_short n s ≡ true → IfSome
        (longest (filter p ss)) (λ t. is_short n t ≡ true)
        → IfSome (longest (filter p (s ∷ ss))) (λ t. is_short n t ≡ true)
    by_test n p s ss true e h k = rw e (longer_short n s (longest (filter p ss)) h k)
    by_test n p s ss false e h k = rw e k

not_longer : (s : Sign) (o : Option Sign) → IfSome o (λ t. is_short (length (sign_text s)) t ≡ true) → longer s o ≡ Some s
not_longer s None h = refl
not_longer s (Some t) h = by_test (nat_lt (length (sign_text s)) (length (sign_text t))) h
  where
    by_test : (b : Bool) → not b ≡ true → cond b (Some t) (Some s) ≡ Some s
    by_test true e = cc
    by_test false e = refl

first_longest : (p : Sign → Bool) (ss : List Sign) → descends ss ≡ true → find p ss ≡ longest (filter p ss)
first_longest p [] h = refl
first_longest p (s ∷ ss) h =
    let both = and_parts (list_all (is_short (length (sign_text s))) ss) (descends ss) h in
    by_test p s ss (p s) refl (longest_short (length (sign_text s)) p ss both.0) (first_longest p ss both.1)
  where
    by_test : (p : Sign → Bool) (s : Sign) (ss : List Sign) (b : Bool) → p s ≡ b → IfSome (longest (filter p ss))
        (λ t. is_short (length (sign_text s)) t ≡ true) → find p ss ≡ longest (filter p ss)
        → find p (s ∷ ss) ≡ longest (filter p (s ∷ ss))
    by_test p s ss true e h k = rw e (sym (not_longer s (longest (filter p ss)) h))
    by_test p s ss false e h k = rw e k

pub first_is_longest : (text : List ℕ) → first_sign text ≡ sign_at text
unfolding sign_at
first_is_longest text = first_longest (λ s. starts_with nat_eq text (sign_text s)) SIGNS refl
