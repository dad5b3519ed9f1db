-- What is watched, one value after the other.
use Rattle.std.proofs.Common.{◌≡◌, ℕ, zero, suc, ◌+◌, ◌<◌, List, [], ◌∷◌, ◌++◌, length, get_or, map, Option, Some, None, option_map, inl}
use Rattle.std.proofs.Common.{inr, refl, sym, ap, subst, ◌∙◌, arith}
use Rattle.std.specs.Prelude.{Vec}
use Rattle.std.specs.declared.alloc.Global.{Global}
use Rattle.std.proofs.lemmas.Bool.{cases_lt}
use Rattle.std.proofs.lemmas.List.{ext_get_or, get_or-map, get_or_append_left, get_or_push, length-append, length-map, map_push}
use Rattle.bpf_shared.specs.Store.{Plain}
use Rattle.bpf_shared.specs.Sound.{IsSoundStore}
use Rattle.bpf_plain.specs.PlainStore.{Contents, StandsFor}
use Rattle.bpf_debug.specs.Watch.{Watched, kept_values, values_of, watched_value}

-- ---- those of the first n CPUs
pub length_values : (w : Watched) (s : Plain) (n : ℕ) → length (values_of w s n) ≡ n
length_values w s zero = refl
length_values w s (suc n) =
    omega (arith, length-append (values_of w s n) (watched_value w s n ∷ []), length_values w s n)

pub each_value : (w : Watched) (s : Plain) (n k : ℕ) → k < n → get_or (values_of w s n) k None ≡ watched_value w s k
each_value w s zero k less = absurd (omega (arith, less))
each_value w s (suc n) k less =
    let sized = length_values w s n in
    elim (cases_lt k n) [
      | inl below ↦ get_or_append_left (values_of w s n) (watched_value w s n ∷ []) None k (omega (arith, below, sized)) ∙ each_value w s n k below
      | inr above ↦
          let same : k ≡ n = omega (arith, less, above) in
          subst (λ (i : ℕ). get_or (values_of w s (suc n)) i None ≡ watched_value w s i) (sym same)
          (get_or_push (values_of w s n) (watched_value w s n) None n sized)
    ]

pub all_values : (w : Watched) (s : Plain) (n : ℕ) (values : List (Option (List ℕ))) → length values ≡ n →
    ((k : ℕ) → k < n → watched_value w s k ≡ get_or values k None) → values_of w s n ≡ values
all_values w s n values size each =
    ext_get_or None (values_of w s n) values (length_values w s n ∙ sym size)
    (λ k less. let sized = length_values w s n in each_value w s n k (omega (arith, less, sized)) ∙ each k (omega (arith, less, sized)))

-- ---- values that are kept
-- the first n are those that are watched
abbrev pub Agree : Contents → Watched → List (Option (Vec ℕ Global)) → ℕ → Type 0
Agree p w before n = (s : Plain) → IsSoundStore s → StandsFor p s → (k : ℕ) → k < n → watched_value w s k ≡ get_or (kept_values before) k None

pub one_agrees : (p : Contents) (w : Watched) (before : List (Option (Vec ℕ Global))) (n : ℕ) (x : Option (Vec ℕ Global)) → n < length
    before → x ≡ get_or before n x
    → ((s : Plain) → IsSoundStore s → StandsFor p s → watched_value w s n ≡ option_map (λ (b : Vec ℕ Global). b.items) x) → Agree p w before
    n → Agree p w before (n + 1)
one_agrees p w before n x inside is now agree s sound stands k less = elim (cases_lt k n) [
  | inl below ↦ agree s sound stands k below
  | inr above ↦
      let bytes : Option (Vec ℕ Global) → Option (List ℕ) = option_map (λ (b : Vec ℕ Global). b.items) in
      let same : k ≡ n = omega (arith, less, above) in
      let kept : get_or (kept_values before) n None ≡ bytes x = get_or-map bytes before n x None inside ∙ ap bytes (sym is) in
      subst (λ (i : ℕ). watched_value w s i ≡ get_or (kept_values before) i None) (sym same) (now s sound stands ∙ sym kept)
]

-- ---- whether all are
pub all_agree : (p : Contents) (w : Watched) (before : List (Option (Vec ℕ Global))) (n : ℕ) → length before ≡ n → Agree p w before n →
    (s : Plain) → IsSoundStore s → StandsFor p s → values_of w s n ≡ kept_values before
all_agree p w before n size agree s sound stands =
    all_values w s n (kept_values before) (length-map before (option_map (λ (b : Vec ℕ Global). b.items)) ∙ size) (agree s sound stands)

pub one_differs : (w : Watched) (s : Plain) (before : List (Option (Vec ℕ Global))) (n k : ℕ) (x : Option (Vec ℕ Global)) → k < n → k <
    length before → x ≡ get_or before k x
    → (watched_value w s k ≡ option_map (λ (b : Vec ℕ Global). b.items) x → ⊥) → values_of w s n ≡ kept_values before → ⊥
one_differs w s before n k x inside within is other same =
    let bytes : Option (Vec ℕ Global) → Option (List ℕ) = option_map (λ (b : Vec ℕ Global). b.items) in
    let kept : get_or (kept_values before) k None ≡ bytes x = get_or-map bytes before k x None within ∙ ap bytes (sym is) in
    other (sym (each_value w s n k inside) ∙ ap (λ (vs : List (Option (List ℕ))). get_or vs k None) same ∙ kept)

pub size_differs : (w : Watched) (s : Plain) (before : List (Option (Vec ℕ Global))) (n : ℕ) → (length before ≡ n → ⊥) → values_of w s n ≡
    kept_values before → ⊥
size_differs w s before n other same =
    other (sym (length-map before (option_map (λ (b : Vec ℕ Global). b.items))) ∙ sym (ap (λ (vs : List (Option (List ℕ))). length vs) same)
    ∙ length_values w s n)

-- one more is kept
pub one_kept_more : (w : Watched) (s : Plain) (before : List (Option (Vec ℕ Global))) (n : ℕ) (x : Option (Vec ℕ Global)) → values_of w s n
    ≡ kept_values before → watched_value w s n ≡ option_map (λ (b : Vec ℕ Global). b.items) x
    → values_of w s (n + 1) ≡ kept_values (before ++ x ∷ [])
one_kept_more w s before n x so_far now =
    let bytes : Option (Vec ℕ Global) → Option (List ℕ) = option_map (λ (b : Vec ℕ Global). b.items) in
    let next : suc n ≡ n + 1 = omega arith in
    subst (λ (i : ℕ). values_of w s i ≡ kept_values (before ++ x ∷ [])) next
    (ap (λ (vs : List (Option (List ℕ))). vs ++ watched_value w s n ∷ []) so_far ∙ ap
    (λ (v : Option (List ℕ)). kept_values before ++ v ∷ []) now ∙ sym (map_push bytes before x))
