-- Lists of states: as records, each once, and in parts.
use Rattle.std.proofs.Common.{◌≡◌, ◌∙◌, ◌⊎◌, inl, inr, ◌+◌, ◌<◌, ◌≤◌, ◌^◌, ◌++◌, ◌∷◌, ◌||◌, ◌==◌, [], List, ℕ, zero, suc, Bool, true, false}
use Rattle.std.proofs.Common.{cond, if◌then◌else◌, Some, Vec, Global}
use Rattle.std.proofs.Math.Seq.{take-length}
use Rattle.std.proofs.Common.{◌-◌, append_assoc, append-nil, drop, get_or, length, length-append, length-drop, map, refl}
use Rattle.std.proofs.Common.{replicate, set, slice_get, sym, ap, subst, take, w32, arith}
use Rattle.std.specs.Int.{from_le_bytes, to_le_bytes}
use Rattle.std.specs.List.{list_any}
use Rattle.std.specs.Str.{bytes_eq}
use Rattle.std.proofs.lemmas.Bool.{cases_eq, eq-eqb, ne_eqb}
use Rattle.std.proofs.lemmas.Grind.{flat_map-append}
use Rattle.std.proofs.lemmas.List.{drop_at, length-set, length-take-le, map-append, take-append-drop}
use Rattle.std.proofs.lemmas.List.Elements.{filter-append}
use Rattle.std.proofs.lemmas.List.Sums.{fold-append}
use Rattle.std.proofs.lemmas.Nat.{from_le_bytes-to_le_bytes_4, le_bytes_4}
use Rattle.std.proofs.lemmas.Option.{slice_get_within}
use Rattle.indexmap.specs.IndexSet.{insert_key}
use Rattle.bpf_expand.specs.Parts.{AreParts, AreShort, in_part, part_of, put, put_all, record_of, records_of}

-- ---- lists that are gone through
pub take_next : {A : Type 0} (xs : List A) (n : ℕ) (x : A) → slice_get xs n ≡ Some x → take (suc n) xs ≡ take n xs ++ x ∷ []
take_next [] n x at = cc
take_next (y ∷ ys) zero x at = cc
take_next (y ∷ ys) (suc n) x at = ap (λ (l : List _). y ∷ l) (take_next ys n x at)

pub take_more : {A : Type 0} (xs : List A) (n : ℕ) (x : A) → slice_get xs n ≡ Some x → take (n + 1) xs ≡ take n xs ++ x ∷ []
take_more xs n x at = (let more : n + 1 ≡ suc n = omega arith in ap (λ (k : ℕ). take k xs) more) ∙ take_next xs n x at

drop_mapped : {A B : Type 0} (f : A → B) (xs : List A) (k : ℕ) → map f (drop k xs) ≡ drop k (map f xs)
drop_mapped f xs zero = refl
drop_mapped f [] (suc k) = refl
drop_mapped f (x ∷ xs) (suc k) = drop_mapped f xs k

-- what is left from a place on
pub left_mapped : {A B : Type 0} (f : A → B) (xs : List A) (k : ℕ) → map f (take (length xs - k) (drop k xs)) ≡ drop k (map f xs)
left_mapped f xs k =
    ap (map f) ((let e : length xs - k ≡ length (drop k xs) = sym (length-drop k xs) in ap (λ (n : ℕ). take n (drop k xs)) e) ∙ take-length (drop k xs))
    ∙ drop_mapped f xs k

-- ---- records
two_bytes : (c d : ℕ) → c < 256 → d < 256 → (i : ℕ) → get_or (c ∷ d ∷ []) i 0 < 256
two_bytes c d r s zero = r
two_bytes c d r s (suc zero) = s
two_bytes c d r s (suc (suc i)) = omega arith

four_bytes : (a b c d : ℕ) → a < 256 → b < 256 → c < 256 → d < 256 → (i : ℕ) → get_or (a ∷ b ∷ c ∷ d ∷ []) i 0 < 256
four_bytes a b c d p q r s zero = p
four_bytes a b c d p q r s (suc zero) = q
four_bytes a b c d p q r s (suc (suc i)) = two_bytes c d r s i

le_bytes_injective : (m n : ℕ) → m < 2 ^ 32 → n < 2 ^ 32 → to_le_bytes w32 m ≡ to_le_bytes w32 n → m ≡ n
le_bytes_injective m n p q same = sym (from_le_bytes-to_le_bytes_4 m p) ∙ ap (from_le_bytes w32) same ∙ from_le_bytes-to_le_bytes_4 n q

-- what four bytes and as many as they say are is a record
pub read_record : (a b c d count : ℕ) (bytes after : List ℕ) → a < 256 → b < 256 → c < 256 → d < 256 → bytes ≡ a ∷ b ∷ c ∷ d ∷ after
    → count ≡ from_le_bytes w32 (a ∷ b ∷ c ∷ d ∷ []) → count ≤ length after → bytes ≡ record_of (take count after) ++ drop count after
read_record a b c d count bytes after p q r s is read room =
    let whole : length (take count after) ≡ count = length-take-le count after room in
    let n : ℕ = length (take count after) in
    let head : to_le_bytes w32 n ≡ a ∷ b ∷ c ∷ d ∷ [] = le_bytes_4 (a ∷ b ∷ c ∷ d ∷ []) n refl (four_bytes a b c d p q r s) (whole ∙ read) in
    is ∙ sym (append_assoc (to_le_bytes w32 n) (take count after) (drop count after)
    ∙ (ap (λ (l : List ℕ). l ++ (take count after ++ drop count after)) head
    ∙ ap (λ (l : List ℕ). a ∷ b ∷ c ∷ d ∷ l) (take-append-drop count after)))

-- bytes that begin with a record have as many as it says
pub no_record : (a b c d count : ℕ) (bytes after state rest : List ℕ) → bytes ≡ a ∷ b ∷ c ∷ d ∷ after
    → count ≡ from_le_bytes w32 (a ∷ b ∷ c ∷ d ∷ []) → length after < count → length state < 2 ^ 32 → bytes ≡ record_of state ++ rest → ⊥
no_record a b c d count bytes after state rest is read short fits begins =
    let same : a ∷ b ∷ c ∷ d ∷ after ≡ to_le_bytes w32 (length state) ++ (state ++ rest) =
    sym is ∙ begins ∙ append_assoc (to_le_bytes w32 (length state)) state rest in
    let head : a ∷ b ∷ c ∷ d ∷ [] ≡ to_le_bytes w32 (length state) = ap (take 4) same in
    let tail : after ≡ state ++ rest = ap (drop 4) same in
    let many : count ≡ length state = read ∙ ap (from_le_bytes w32) head ∙ from_le_bytes-to_le_bytes_4 (length state) fits in
    let long = ap length tail in
    omega (arith, length-append state rest)

pub too_short : (bytes state rest : List ℕ) → length bytes < 4 → bytes ≡ record_of state ++ rest → ⊥
too_short bytes state rest short begins =
    let long = ap length begins in
    omega (arith, length-append (record_of state) rest, length-append (to_le_bytes w32 (length state)) state)

-- bytes begin with one record
pub one_record : (s t r q : List ℕ) → length s < 2 ^ 32 → length t < 2 ^ 32 → record_of s ++ r ≡ record_of t ++ q → r ≡ q
one_record s t r q p u same =
    let both : to_le_bytes w32 (length s) ++ (s ++ r) ≡ to_le_bytes w32 (length t) ++ (t ++ q) =
    sym (append_assoc (to_le_bytes w32 (length s)) s r) ∙ same ∙ append_assoc (to_le_bytes w32 (length t)) t q in
    let many : length s ≡ length t = le_bytes_injective (length s) (length t) p u (ap (take 4) both) in
    let tails : s ++ r ≡ t ++ q = ap (drop 4) both in
    sym (drop_at s r (length s) refl) ∙ ap (drop (length s)) tails ∙ drop_at t q (length s) (sym many)

-- the states after the first one
pub rest_of : (bytes state rest : List ℕ) (states : List (List ℕ)) → length state < 2 ^ 32 → AreShort states → bytes ≡ record_of state ++ rest
    → bytes ≡ records_of states → (more : List (List ℕ)) × AreShort more × (rest ≡ records_of more)
rest_of bytes state rest [] fits short is all =
    let long = ap length (sym is ∙ all) in
    absurd (omega (arith, length-append (record_of state) rest, length-append (to_le_bytes w32 (length state)) state))
rest_of bytes state rest (s ∷ ss) fits (first, short) is all = (ss, short, one_record state s rest (records_of ss) fits first (sym is ∙ all))

-- so where no record is first, the bytes are those of no states
pub none_left : (rest : List ℕ) (states : List (List ℕ)) → AreShort states → rest ≡ records_of states → 0 < length rest
    → ((state more : List ℕ) → length state < 2 ^ 32 → rest ≡ record_of state ++ more → ⊥) → ⊥
none_left rest [] short is some none = let empty = ap length is in omega arith
none_left rest (s ∷ ss) (first, short) is some none = none s (records_of ss) first is

-- one more state is read
pub read_more : {A : Type 0} (f : A → List ℕ) (read more : List A) (one : A) (bytes rest after : List ℕ) → bytes ≡ records_of (map f read) ++ rest
    → rest ≡ record_of (f one) ++ after → more ≡ read ++ one ∷ [] → bytes ≡ records_of (map f more) ++ after
read_more f read more one bytes rest after so_far next pushed =
    let grown : records_of (map f more) ≡ records_of (map f read) ++ record_of (f one) =
    ap (λ (l : List _). records_of (map f l)) pushed ∙ (ap records_of (map-append f read (one ∷ []))
    ∙ (flat_map-append record_of (map f read) (f one ∷ []) ∙ ap (λ (l : List ℕ). records_of (map f read) ++ l) (append-nil (record_of (f one))))) in
    so_far ∙ (ap (λ (l : List ℕ). records_of (map f read) ++ l) next ∙ (sym (append_assoc (records_of (map f read)) (record_of (f one)) after)
    ∙ ap (λ (l : List ℕ). l ++ after) (sym grown)))

-- ---- each once
-- a vector is among others where its bytes are among theirs
any_bytes : (b : List ℕ) (vs : List (Vec ℕ Global)) → list_any (λ v. bytes_eq b v.items) vs ≡ list_any (bytes_eq b) (map (λ v. v.items) vs)
any_bytes b [] = refl
any_bytes b (v ∷ vs) = ap (λ (r : Bool). bytes_eq b v.items || r) (any_bytes b vs)

pub put_one : (ks : List (Vec ℕ Global)) (v : Vec ℕ Global) → map (λ v. v.items) (insert_key (λ x y. bytes_eq x.items y.items) ks v) ≡ put
    (map (λ v. v.items) ks)
    v.items
put_one ks v = chosen (list_any (λ k. bytes_eq v.items k.items) ks)
    ∙ ap (λ (b : Bool). if b then map (λ v. v.items) ks else map (λ v. v.items) ks ++ v.items ∷ []) (any_bytes v.items ks)
  where
    chosen : (b : Bool) → map (λ v. v.items) (if b then ks else ks ++ v ∷ []) ≡ (if b then map (λ v. v.items) ks else map (λ v. v.items) ks ++ v.items ∷ [])
    chosen true = refl
    chosen false = map-append (λ v. v.items) ks (v ∷ [])

-- one more is put
pub put_more : {A : Type 0} (f : A → List ℕ) (start : List (List ℕ)) (all : List A) (n : ℕ) (one : A) → slice_get all n ≡ Some one
    → put_all start (map f (take (n + 1) all)) ≡ put (put_all start (map f (take n all))) (f one)
put_more f start all n one at =
    ap (λ (l : List _). put_all start (map f l)) (take_more all n one at) ∙ (ap (put_all start) (map-append f (take n all) (one ∷ []))
    ∙ fold-append put start (map f (take n all)) (f one ∷ []))

-- ---- parts
pub get_set_same : {A : Type 0} (xs : List A) (i : ℕ) (y : A) → i < length xs → slice_get (set xs i y) i ≡ Some y
get_set_same [] i y within = absurd (omega arith)
get_set_same (x ∷ xs) zero y within = refl
get_set_same (x ∷ xs) (suc i) y within = get_set_same xs i y (omega arith)

pub get_set_other : {A : Type 0} (xs : List A) (i k : ℕ) (y : A) → (k ≡ i → ⊥) → slice_get (set xs i y) k ≡ slice_get xs k
get_set_other [] i k y other = refl
get_set_other (x ∷ xs) zero zero y other = absurd (other refl)
get_set_other (x ∷ xs) zero (suc k) y other = refl
get_set_other (x ∷ xs) (suc i) zero y other = refl
get_set_other (x ∷ xs) (suc i) (suc k) y other = get_set_other xs i k y (λ e. other (ap suc e))

pub get_replicate : (n k : ℕ) → k < n → slice_get (replicate {A = List ℕ} n []) k ≡ Some []
get_replicate zero k within = absurd (omega arith)
get_replicate (suc n) zero within = refl
get_replicate (suc n) (suc k) within = get_replicate n k (omega arith)

-- one more state is in its own part, and in no other
pub one_in : (n k : ℕ) (states : List (List ℕ)) (state : List ℕ) (b : Bool) → (part_of n state == k) ≡ b
    → in_part n k (states ++ state ∷ []) ≡ in_part n k states ++ cond b (state ∷ []) []
one_in n k states state b is =
    filter-append (λ bytes. part_of n bytes == k) states (state ∷ [])
    ∙ ap (λ (b : Bool). in_part n k states ++ cond b (state ∷ []) []) is

pub parts_more : (n : ℕ) (states parts : List (List ℕ)) (state part grown : List ℕ) (p : ℕ) → AreParts n states parts → p ≡ part_of n state → p < n
    → slice_get parts p ≡ Some part → grown ≡ part ++ record_of state → AreParts n (states ++ state ∷ []) (set parts p grown)
parts_more n states parts state part grown p are is within at grows =
    (length-set parts p grown ∙ are.0, λ k less. each k less (cases_eq k p))
  where
    each : (k : ℕ) → k < n → (k ≡ p) ⊎ (k ≡ p → ⊥) → slice_get (set parts p grown) k ≡ Some (records_of (in_part n k (states ++ state ∷ [])))
    each k less (inl same) =
        let here : part_of n state ≡ k = sym is ∙ sym same in
        let was : Some part ≡ Some (records_of (in_part n k states)) = sym (subst (λ (j : ℕ). slice_get parts j ≡ Some part) (sym same) at) ∙ are.1 k less in
        let before : part ≡ records_of (in_part n k states) = cc in
        let more : records_of (in_part n k (states ++ state ∷ [])) ≡ records_of (in_part n k states) ++ record_of state =
        ap records_of (one_in n k states state true (eq-eqb (part_of n state) k here)) ∙ (flat_map-append record_of (in_part n k states) (state ∷ [])
        ∙ ap (λ (l : List ℕ). records_of (in_part n k states) ++ l) (append-nil (record_of state))) in
        subst (λ (j : ℕ). slice_get (set parts j grown) k ≡ Some grown) same
        (get_set_same parts k grown (let w = slice_get_within parts k part (subst (λ (j : ℕ). slice_get parts j ≡ Some part) (sym same) at) in w))
        ∙ ap (λ (l : List ℕ). Some l) (grows ∙ (ap (λ (l : List ℕ). l ++ record_of state) before ∙ sym more))
    each k less (inr other) =
        let away : part_of n state ≡ k → ⊥ = λ e. other (sym (is ∙ e)) in
        let less_more : records_of (in_part n k (states ++ state ∷ [])) ≡ records_of (in_part n k states) =
        ap records_of (one_in n k states state false (ne_eqb (part_of n state) k away) ∙ append-nil (in_part n k states)) in
        get_set_other parts p k grown other ∙ (are.1 k less ∙ ap (λ (l : List ℕ). Some l) (sym less_more))
