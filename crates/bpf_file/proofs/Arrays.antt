-- The arrays of a file and what they have at first stay in their ranges, line by line.
use Rattle.std.proofs.Common.{◌≡◌, ℕ, zero, suc, ◌+◌, ◌-◌, ◌<◌, ◌≤◌, nat_lt, Bool, true, false, List, [], ◌∷◌, ◌++◌, length, length-append}
use Rattle.std.proofs.Common.{get_or, set, replicate, Some, None, ◌⊎◌, inl, inr, refl, sym, ap, subst, ◌∙◌, arith}
use Rattle.std.proofs.lemmas.Bool.Decides.{nat_tests}
use Rattle.std.proofs.lemmas.Bool.{cases_eq}
use Rattle.std.proofs.lemmas.List.{length-replicate, get_or-set_same, get_or-set_other, get_or_past, length-map}
use Rattle.std.specs.Prelude.{Vec}
use Rattle.std.specs.declared.alloc.Global.{Global}
use Rattle.bpf_base.proofs.Parts.{length-with_part}
use Rattle.bpf_shared.specs.Contents.{bytes_of, bytes_of_all}
use Rattle.bpf_shared.specs.First.{first_of}
use Rattle.bpf_shared.specs.Refusals.{array_tests, each_array_tests}
use Rattle.bpf_shared.specs.Shape.{IsArray}
use Rattle.bpf_shared.specs.declared.shapes.ArrayShape.{ArrayShape}
use Rattle.bpf_shared.proofs.Refusing.{IsGood, array_in_range, arrays_in_range, arrays_pass}
use Rattle.bpf_file.specs.Contents.{up_to, laid}
use Rattle.bpf_file.specs.Parts.{Part}

-- ---- what is said of one array

pub padded_size : (end : ℕ) (bytes : List ℕ) → length (up_to end bytes) ≡ length bytes + (end - length bytes)
padded_size end bytes =
    length-append bytes (replicate (end - length bytes) 0) ∙ ap (λ n. length bytes + n) (length-replicate (end - length bytes) 0)

reaches : (end : ℕ) (bytes : List ℕ) → end ≤ length (up_to end bytes)
reaches end bytes = let whole = padded_size end bytes in omega (arith, whole)

laid_size : (bytes : List ℕ) (at : ℕ) (others : List ℕ) → (length (laid bytes at others) ≡ length bytes) ⊎ (length (laid bytes at others) ≡ at + length others)
laid_size bytes at others =
    let whole = padded_size (at + length others) bytes in
    by_size (nat_lt (length bytes) (at + length others)) refl
    (length-with_part (up_to (at + length others) bytes) at others (reaches (at + length others) bytes) ∙ whole)
  where
    by_size : (b : Bool) → nat_lt (length bytes) (at + length others) ≡ b → length (laid bytes at others) ≡ length bytes + ((at + length others) - length bytes)
        → (length (laid bytes at others) ≡ length bytes) ⊎ (length (laid bytes at others) ≡ at + length others)
    by_size true h e = let below : length bytes < at + length others = grind (arith, nat_tests) in inr (omega (arith, e, below))
    by_size false h e = let above : at + length others ≤ length bytes = grind (arith, nat_tests) in inl (omega (arith, e, above))

laid_good : (cpus filled : ℕ) (g : ArrayShape) (bytes : List ℕ) (at : ℕ) (others : List ℕ) → filled ≡ at + length others → IsGood cpus
    (length bytes) g → IsGood cpus filled g → IsGood cpus (length (laid bytes at others)) g
laid_good cpus filled g bytes at others e old new = by_size (laid_size bytes at others)
  where
    by_size : (length (laid bytes at others) ≡ length bytes) ⊎ (length (laid bytes at others) ≡ at + length others) → IsGood cpus
        (length (laid bytes at others)) g
    by_size (inl h) = subst (λ (n : ℕ). IsGood cpus n g) (sym h) old
    by_size (inr h) = subst (λ (n : ℕ). IsGood cpus n g) (e ∙ sym h) new

-- ---- one more array

no_bytes_more : (cs : List (List ℕ)) (a : ℕ) → get_or (cs ++ [] ∷ []) a [] ≡ get_or cs a []
no_bytes_more [] zero = refl
no_bytes_more [] (suc a) = refl
no_bytes_more (c ∷ cs) zero = refl
no_bytes_more (c ∷ cs) (suc a) = no_bytes_more cs a

array_or_new : (gs : List ArrayShape) (h g : ArrayShape) (a : ℕ) → IsArray (gs ++ h ∷ []) a g → IsArray gs a g ⊎ ((a ≡ length gs) × (g ≡ h))
array_or_new [] h g zero is = inr (refl, cc)
array_or_new [] h g (suc a) is = cc
array_or_new (x ∷ gs) h g zero is = inl is
array_or_new (x ∷ gs) h g (suc a) is = by_place (array_or_new gs h g a is)
  where
    by_place : IsArray gs a g ⊎ ((a ≡ length gs) × (g ≡ h)) → IsArray (x ∷ gs) (suc a) g ⊎ ((suc a ≡ length (x ∷ gs)) × (g ≡ h))
    by_place (inl old) = inl old
    by_place (inr (last, new)) = inr (ap suc last, new)

pub arrays_with_new : (cpus : ℕ) (cs : List (List ℕ)) (gs : List ArrayShape) (h : ArrayShape) → length cs ≡ length gs → first_of
    (each_array_tests cpus cs 0 gs) ≡ None → first_of (array_tests cpus 0 (length gs) h) ≡ None
    → first_of (each_array_tests cpus (cs ++ [] ∷ []) 0 (gs ++ h ∷ [])) ≡ None
arrays_with_new cpus cs gs h counted old new =
    arrays_pass cpus (cs ++ [] ∷ []) 0 (gs ++ h ∷ []) (λ k n g e is.
    let same : k ≡ n = omega (arith, e) in subst (λ (b : ℕ). IsGood cpus (length (get_or (cs ++ [] ∷ []) b [])) g) same (good k g is))
  where
    filled : (a : ℕ) (g : ArrayShape) → IsGood cpus (length (get_or cs a [])) g → IsGood cpus (length (get_or (cs ++ [] ∷ []) a [])) g
    filled a g is = subst (λ (bytes : List ℕ). IsGood cpus (length bytes) g) (sym (no_bytes_more cs a)) is

    by_place : (k : ℕ) (g : ArrayShape) → IsArray gs k g ⊎ ((k ≡ length gs) × (g ≡ h)) → IsGood cpus (length (get_or cs k [])) g
    by_place k g (inl is) = arrays_in_range cpus cs 0 gs old k k g (omega arith) is
    by_place k g (inr (last, same)) =
        let none : get_or cs k [] ≡ [] = get_or_past cs k [] (omega (arith, last, counted)) in
        subst (λ (bytes : List ℕ). IsGood cpus (length bytes) g) (sym none)
        (subst (λ (x : ArrayShape). IsGood cpus 0 x) (sym same) (array_in_range cpus 0 (length gs) h new))

    good : (k : ℕ) (g : ArrayShape) → IsArray (gs ++ h ∷ []) k g → IsGood cpus (length (get_or (cs ++ [] ∷ []) k [])) g
    good k g is = filled k g (by_place k g (array_or_new gs h g k is))

-- ---- more bytes of an array

one_array : (gs : List ArrayShape) (a : ℕ) (g h : ArrayShape) → IsArray gs a g → IsArray gs a h → g ≡ h
one_array gs a g h x y = let both : Some g ≡ Some h = sym x ∙ y in cc

has_place : (gs : List ArrayShape) (a : ℕ) (g : ArrayShape) → IsArray gs a g → a < length gs
has_place [] a g is = cc
has_place (x ∷ gs) zero g is = omega arith
has_place (x ∷ gs) (suc a) g is = let below = has_place gs a g is in omega (arith, below)

pub arrays_with_data : (cpus : ℕ) (cs : List (List ℕ)) (gs : List ArrayShape) (a : ℕ) (h : ArrayShape) (at filled : ℕ) (bytes : List ℕ) →
    length cs ≡ length gs → first_of (each_array_tests cpus cs 0 gs) ≡ None → IsArray gs a h
    → filled ≡ at + length bytes → first_of (array_tests cpus filled a h) ≡ None → first_of
    (each_array_tests cpus (set cs a (laid (get_or cs a []) at bytes)) 0 gs) ≡ None
arrays_with_data cpus cs gs a h at filled bytes counted old there e new =
    arrays_pass cpus ds 0 gs
    (λ k n g f is. let same : k ≡ n = omega (arith, f) in subst (λ (b : ℕ). IsGood cpus (length (get_or ds b [])) g) same (good k g is (cases_eq k a)))
  where
    ds : List (List ℕ)
    ds = set cs a (laid (get_or cs a []) at bytes)

    below : a < length cs
    below = let b = has_place gs a h there in omega (arith, b, counted)

    here : IsGood cpus (length (get_or ds a [])) h
    here =
        let put : get_or ds a [] ≡ laid (get_or cs a []) at bytes = get_or-set_same cs a (laid (get_or cs a []) at bytes) [] below in
        subst (λ (x : List ℕ). IsGood cpus (length x) h) (sym put)
        (laid_good cpus filled h (get_or cs a []) at bytes e (arrays_in_range cpus cs 0 gs old a a h (omega arith) there) (array_in_range cpus filled a h new))

    good : (k : ℕ) (g : ArrayShape) → IsArray gs k g → (k ≡ a) ⊎ (k ≡ a → ⊥) → IsGood cpus (length (get_or ds k [])) g
    good k g is (inl same) =
        let P : ℕ → Type 0 = λ b. IsArray gs b g in
        let equal : h ≡ g = one_array gs a h g there (subst P same is) in
        subst (λ (b : ℕ). IsGood cpus (length (get_or ds b [])) g) (sym same) (subst (λ (x : ArrayShape). IsGood cpus (length (get_or ds a [])) x) equal here)
    good k g is (inr other) =
        let kept : get_or ds k [] ≡ get_or cs k [] = get_or-set_other cs a k (laid (get_or cs a []) at bytes) [] other in
        subst (λ (x : List ℕ). IsGood cpus (length x) g) (sym kept) (arrays_in_range cpus cs 0 gs old k k g (omega arith) is)

-- ---- their vectors

pub set_bytes : (vs : List (Vec ℕ Global)) (i : ℕ) (v : Vec ℕ Global) → bytes_of_all (set vs i v) ≡ set (bytes_of_all vs) i v.items
set_bytes [] i v = refl
set_bytes (w ∷ vs) zero v = refl
set_bytes (w ∷ vs) (suc i) v = ap (λ (l : List (List ℕ)). w.items ∷ l) (set_bytes vs i v)

pub bytes_at : (vs : List (Vec ℕ Global)) (i : ℕ) (d : Vec ℕ Global) → i < length vs → get_or (bytes_of_all vs) i [] ≡ (get_or vs i d).items
bytes_at [] i d l = absurd (omega arith)
bytes_at (v ∷ vs) zero d l = refl
bytes_at (v ∷ vs) (suc i) d l = bytes_at vs i d (omega arith)

pub count_all : (vs : List (Vec ℕ Global)) → length (bytes_of_all vs) ≡ length vs
count_all vs = length-map vs bytes_of

-- a part of which all first bytes are these
abbrev pub with_contents : Part → List (List ℕ) → Part
with_contents p cs = record p { group = 6; file = record p.file { contents = cs } }

-- bytes are put into one of the vectors
pub put_at : (items : List (Vec ℕ Global)) (k : ℕ) (v w : Vec ℕ Global) (at : ℕ) (bytes : List ℕ) → k < length items → v ≡ get_or items k v
    → w.items ≡ laid v.items at bytes
    → bytes_of_all (set items k w) ≡ set (bytes_of_all items) k (laid (get_or (bytes_of_all items) k []) at bytes)
put_at items k v w at bytes below read put =
    let here : v.items ≡ get_or (bytes_of_all items) k [] = ap (λ (x : Vec ℕ Global). x.items) read ∙ sym (bytes_at items k v below) in
    set_bytes items k w ∙ ap (set (bytes_of_all items) k) (put ∙ ap (λ (b : List ℕ). laid b at bytes) here)
