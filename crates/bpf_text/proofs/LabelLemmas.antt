-- The first thing that has each name.
use Rattle.std.proofs.Common.{◌≡◌, ℕ, List, Option, Some, None, Bool, true, false, cond, is_some, refl, sym, ap, ◌∙◌, bytes_eq}
use Rattle.std.proofs.lemmas.Slice.Eq.{bytes_eq-Decides}
use Rattle.bpf_text.specs.Private.Labels.{or_else}

or_none : {A : Type 0} (o : Option A) → or_else o None ≡ o
or_none (Some x) = refl
or_none None = refl

-- a name that is there already changes nothing
pub kept : {A : Type 0} (f : List ℕ → Option A) (name q : List ℕ) (p : A) → is_some (f name) ≡ true → f q ≡ or_else (f q) (cond (bytes_eq name q) (Some p) None)
kept {A} f name q p e = by_test (bytes_eq name q) refl
  where
    some_first : (o x : Option A) → is_some o ≡ true → o ≡ or_else o x
    some_first (Some y) x h = refl
    some_first None x h = cc

    by_test : (b : Bool) → bytes_eq name q ≡ b → f q ≡ or_else (f q) (cond b (Some p) None)
    by_test true h = let same : name ≡ q = (bytes_eq-Decides name q).0 h in some_first (f q) (Some p) (ap (λ x. is_some (f x)) (sym same) ∙ e)
    by_test false h = sym (or_none (f q))

-- a new one is put after the others
pub added : {A : Type 0} (f : List ℕ → Option A) (name q : List ℕ) (p : A) → is_some (f name) ≡ false → cond (bytes_eq name q) (Some p)
    (f q) ≡ or_else (f q) (cond (bytes_eq name q) (Some p) None)
added {A} f name q p e = by_test (bytes_eq name q) refl
  where
    none_first : (o x : Option A) → is_some o ≡ false → x ≡ or_else o x
    none_first (Some y) x h = cc
    none_first None x h = refl

    by_test : (b : Bool) → bytes_eq name q ≡ b → cond b (Some p) (f q) ≡ or_else (f q) (cond b (Some p) None)
    by_test true h = let same : name ≡ q = (bytes_eq-Decides name q).0 h in none_first (f q) (Some p) (ap (λ x. is_some (f x)) (sym same) ∙ e)
    by_test false h = sym (or_none (f q))
