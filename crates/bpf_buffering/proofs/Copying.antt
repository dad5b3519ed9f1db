-- Lists that are copied, or compared, entry by entry, by what is seen of the entries.
use Rattle.std.proofs.Common.{◌≡◌, ◌≢◌, ℕ, ◌+◌, ◌<◌, ◌≤◌, List, [], ◌∷◌, ◌++◌, length, take, get_or, sym, ap, ◌∙◌}
use Rattle.std.specs.Prelude.{map}
use Rattle.std.proofs.lemmas.List.{get_or-map, length-map, map_more, map_push, take_all}

-- one more is copied
pub next_copied : {A B : Type 0} (f : A → B) (copies xs : List A) (i : ℕ) (y x : A) → i < length xs → x ≡ get_or xs i x → f y ≡ f x → map f
    copies ≡ map f (take i xs) → map f (copies ++ y ∷ []) ≡ map f (take (i + 1) xs)
next_copied {A} {B} f copies xs i y x within at same before =
    map_push f copies y ∙ ap (λ (l : List B). l ++ f y ∷ []) before ∙ ap (λ (z : B). map f (take i xs) ++ z ∷ []) (same ∙ ap f at) ∙ sym
    (map_more f xs i x within)

pub all_copied : {A B : Type 0} (f : A → B) (copies xs : List A) (n : ℕ) → length xs ≤ n → map f copies ≡ map f (take n xs) → map f copies ≡ map f xs
all_copied f copies xs n past before = before ∙ ap (map f) (take_all n xs past)

-- one more is the same
pub next_same : {A B : Type 0} (f : A → B) (xs ys : List A) (i : ℕ) (x y : A) → i < length xs → i < length ys → x ≡ get_or xs i x → y ≡
    get_or ys i y → f x ≡ f y → map f (take i xs) ≡ map f (take i ys) → map f (take (i + 1) xs) ≡ map f (take (i + 1) ys)
next_same {A} {B} f xs ys i x y inside within at here same before =
    map_more f xs i x inside ∙ ap (λ (l : List B). l ++ f (get_or xs i x) ∷ []) before
    ∙ ap (λ (z : B). map f (take i ys) ++ z ∷ []) (ap f (sym at) ∙ same ∙ ap f here) ∙ sym (map_more f ys i y within)

pub all_same : {A B : Type 0} (f : A → B) (xs ys : List A) (n : ℕ) → length xs ≤ n → length ys ≤ n → map f (take n xs) ≡ map f (take n ys) → map f xs ≡ map f ys
all_same f xs ys n past over before = ap (map f) (sym (take_all n xs past)) ∙ before ∙ ap (map f) (take_all n ys over)

-- they differ in an entry, or in how many they are
pub differ_at : {A B : Type 0} (f : A → B) (xs ys : List A) (i : ℕ) (x y : A) → i < length xs → i < length ys → x ≡ get_or xs i x → y ≡
    get_or ys i y → f x ≢ f y → map f xs ≢ map f ys
differ_at {A} {B} f xs ys i x y inside within at here differ same =
    differ (ap f at ∙ sym (get_or-map f xs i x (f x) inside) ∙ ap (λ (l : List B). get_or l i (f x)) same ∙ get_or-map f ys i y (f x) within ∙ ap f (sym here))

pub counts_differ : {A B : Type 0} (f : A → B) (xs ys : List A) → length xs ≢ length ys → map f xs ≢ map f ys
counts_differ {A} {B} f xs ys differ same = differ (sym (length-map xs f) ∙ ap (λ (l : List B). length l) same ∙ length-map ys f)
