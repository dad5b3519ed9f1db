-- Arrays' bytes as they are made, one array after the other.
use Rattle.std.proofs.Common.{◌≡◌, ℕ, ◌+◌, ◌-◌, ◌<◌, List, [], ◌∷◌, ◌++◌, length, get_or, inl, inr, ap, sym, subst, ◌∙◌, arith}
use Rattle.std.specs.Prelude.{Vec}
use Rattle.std.specs.declared.alloc.Global.{Global}
use Rattle.std.proofs.lemmas.Bool.{cases_lt}
use Rattle.std.proofs.lemmas.List.{get_or_append_left, get_or-append_right}
use Rattle.std.proofs.lemmas.Option.{slice_get_within}
use Rattle.bpf_shared.specs.declared.shapes.ArrayShape.{ArrayShape}
use Rattle.bpf_shared.specs.Contents.{bytes_of_all}
use Rattle.bpf_shared.specs.Shape.{Shape, IsArray, contents_of}
use Rattle.bpf_shared.proofs.Puts.{equal_or_not}
use Rattle.bpf_shared.proofs.Fixed.{same_array}
use Rattle.bpf_plain.specs.Private.Contents.{AreAsMade, IsAsMade}
use Rattle.bpf_plain.proofs.Vectors.{count_all, push_bytes}

-- the first n arrays are as they are at first
abbrev pub AreMadeBelow : Shape → ℕ → List (Vec ℕ Global) → Type 0
AreMadeBelow h n vs = (a : ℕ) (g : ArrayShape) → a < n → IsArray h.arrays a g → IsAsMade h.cpus g (contents_of h a) (get_or (bytes_of_all vs) a [])

pub more_made : (h : Shape) (n : ℕ) (vs : List (Vec ℕ Global)) (v : Vec ℕ Global) (k : ArrayShape) → length vs ≡ n → AreMadeBelow h n vs →
    IsArray h.arrays n k → IsAsMade h.cpus k (contents_of h n) v.items → AreMadeBelow h (n + 1) (vs ++ v ∷ [])
more_made h n vs v k count made there new a g below is =
    let all : bytes_of_all (vs ++ v ∷ []) ≡ bytes_of_all vs ++ v.items ∷ [] = push_bytes vs v in
    let many : length (bytes_of_all vs) ≡ n = count_all vs ∙ count in
    subst (IsAsMade h.cpus g (contents_of h a)) (ap (λ (bs : List (List ℕ)). get_or bs a []) (sym all)) (elim (equal_or_not a n) [
      | inl e ↦
          let last : get_or (bytes_of_all vs ++ v.items ∷ []) a [] ≡ v.items =
          get_or-append_right (bytes_of_all vs) (v.items ∷ []) n a [] many (omega arith) ∙ ap (λ (x : ℕ). get_or (v.items ∷ []) x [])
          (let z : a - n ≡ 0 = omega arith in z) in
          let same : k ≡ g = same_array h.arrays n k g there (subst (λ (x : ℕ). IsArray h.arrays x g) e is) in
          subst (IsAsMade h.cpus g (contents_of h a)) (sym last)
          (subst (λ (x : ℕ). IsAsMade h.cpus g (contents_of h x) v.items) (sym e)
          (subst (λ (x : ArrayShape). IsAsMade h.cpus x (contents_of h n) v.items) same new))
      | inr ne ↦
          let less : a < n = elim (cases_lt a n) [ inl l ↦ l | inr l ↦ absurd (ne (omega arith)) ] in
          subst (IsAsMade h.cpus g (contents_of h a)) (sym (get_or_append_left (bytes_of_all vs) (v.items ∷ []) [] a (omega arith))) (made a g less is)
    ])

pub all_made : (h : Shape) (n : ℕ) (vs : List (Vec ℕ Global)) → length vs ≡ n → length h.arrays ≡ n → AreMadeBelow h n vs → AreAsMade h (bytes_of_all vs)
all_made h n vs count many made = record {
  count = count_all vs ∙ (count ∙ sym many);
  each = λ a g is. made a g (let l = slice_get_within h.arrays a g is in omega arith) is;
}
