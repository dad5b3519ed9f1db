-- The bytes of a list that aren't as at first, one after the other.
use Rattle.std.proofs.Common.{◌≡◌, ◌≢◌, ◌⊎◌, ℕ, zero, suc, ◌+◌, ◌*◌, ◌/◌, ◌%◌, ◌==◌, ◌^◌, ◌<◌, ◌≤◌, Bool, true, false, if◌then◌else◌, List}
use Rattle.std.proofs.Common.{[], ◌∷◌, ◌++◌, length}
use Rattle.std.proofs.Common.{replicate, take, append_assoc, append-nil, get_or, Result, Ok, Err, OnErr, OnOk, inl, inr, refl, sym, ap, ◌∙◌, arith, lit<}
use Rattle.std.specs.Io.{StartsWith}
use Rattle.std.proofs.Transfers.{starts_with_of_append, starts_with_trans}
use Rattle.std.proofs.lemmas.Bool.Decides.{nat_tests}
use Rattle.std.proofs.lemmas.Nat.{mod-mul-add}
use Rattle.std.proofs.lemmas.List.{length-take-le, take_more}
use Rattle.bpf_base.specs.Bytes.{little_endian, low_bytes}
use Rattle.bpf_base.proofs.Lists.{same_fronts}
use Rattle.bpf_base.proofs.Numbers.{length-low_bytes, little_endian-low_bytes}
use Rattle.bpf_plain.specs.Private.Changes.{change, changes_from, changes}

-- a number in four bytes is read in one way
pub number_told : (x y : ℕ) (rest more : List ℕ) → x < 2 ^ 32 → y < 2 ^ 32 → low_bytes 4 x ++ rest ≡ low_bytes 4 y ++ more → (x ≡ y) × (rest ≡ more)
number_told x y rest more h k e =
    let cut = same_fronts (low_bytes 4 x) (low_bytes 4 y) rest more (length-low_bytes 4 x ∙ sym (length-low_bytes 4 y)) e in
    (sym (little_endian-low_bytes 4 x h) ∙ (ap little_endian cut.0 ∙ little_endian-low_bytes 4 y k), cut.1)

-- one byte
abbrev pub here : (ℕ → ℕ) → ℕ → ℕ → List ℕ
here first o byte = if byte == first o then [] else change o byte

pub test : (x y : ℕ) → ((x ≡ y) × ((x == y) ≡ true)) ⊎ ((x ≢ y) × ((x == y) ≡ false))
test x y = go (x == y) refl
  where
    go : (b : Bool) → (x == y) ≡ b → ((x ≡ y) × ((x == y) ≡ true)) ⊎ ((x ≢ y) × ((x == y) ≡ false))
    go true e = inl ((grind (arith, nat_tests)), e)
    go false e = inr ((λ same. absurd (let s : x ≡ y = same in grind (arith, nat_tests))), e)

pub here_same : (first : ℕ → ℕ) (o byte : ℕ) → byte ≡ first o → here first o byte ≡ []
here_same first o byte e = elim (test byte (first o)) [
  | inl t ↦ ap (λ (b : Bool). if b then [] else change o byte) t.1
  | inr t ↦ absurd (t.0 e)
]

pub here_other : (first : ℕ → ℕ) (o byte : ℕ) → byte ≢ first o → here first o byte ≡ change o byte
here_other first o byte ne = elim (test byte (first o)) [
  | inl t ↦ absurd (ne t.0)
  | inr t ↦ ap (λ (b : Bool). if b then [] else change o byte) t.1
]

-- more bytes
pub changes-append : (first : ℕ → ℕ) (o n : ℕ) (xs ys : List ℕ) → n ≡ o + length xs → changes_from first o (xs ++ ys) ≡ changes_from first o
    xs ++ changes_from first n ys
changes-append first o n [] ys e = ap (λ (k : ℕ). changes_from first k ys) (let z : o ≡ n = omega arith in z)
changes-append first o n (x ∷ xs) ys e =
    ap (λ (bs : List ℕ). here first o x ++ bs) (changes-append first (o + 1) n xs ys (omega arith))
    ∙ sym (append_assoc (here first o x) (changes_from first (o + 1) xs) (changes_from first n ys))

pub one_change : (first : ℕ → ℕ) (o x : ℕ) → changes_from first o (x ∷ []) ≡ here first o x
one_change first o x = append-nil (here first o x)

-- the first bytes matter where the others are
pub changes-first : (first other : ℕ → ℕ) (o : ℕ) (xs : List ℕ) → ((x : ℕ) → o ≤ x → x < o + length xs → first x ≡ other x) → changes_from
    first o xs ≡ changes_from other o xs
changes-first first other o [] same = refl
changes-first first other o (x ∷ xs) same =
    ap (λ (f : ℕ). (if x == f then [] else change o x) ++ changes_from first (o + 1) xs) (same o (omega arith) (omega arith))
    ∙ ap (λ (bs : List ℕ). here other o x ++ bs) (changes-first first other (o + 1) xs (λ y l m. same y (omega arith) (omega arith)))

-- ---- what bytes begin with
-- the number of a change from the o-th on, or of none
pub record Begins (o : ℕ) (bytes : List ℕ) : Type 0 where
  pub number : ℕ
  pub rest : List ℕ
  pub is : bytes ≡ low_bytes 4 number ++ rest
  pub which : (number ≡ 0) ⊎ ((o < number) × (number < 2 ^ 32))

pub begins : (first : ℕ → ℕ) (o : ℕ) (xs more : List ℕ) → o + length xs < 2 ^ 32 → Begins o (changes_from first o xs ++ (low_bytes 4 0 ++ more))
begins first o [] more few = record { number = 0; rest = more; is = refl; which = inl refl }
begins first o (x ∷ xs) more few = elim (test x (first o)) [
  | inl t ↦
      let r = begins first (o + 1) xs more (omega arith) in
      record {
        number = r.number;
        rest = r.rest;
        is = ap (λ (bs : List ℕ). (bs ++ changes_from first (o + 1) xs) ++ (low_bytes 4 0 ++ more)) (here_same first o x t.0) ∙ r.is;
        which = later o r.number r.which;
      }
  | inr t ↦ record {
    number = o + 1;
    rest = (x ∷ []) ++ (changes_from first (o + 1) xs ++ (low_bytes 4 0 ++ more));
    is = ap (λ (bs : List ℕ). (bs ++ changes_from first (o + 1) xs) ++ (low_bytes 4 0 ++ more)) (here_other first o x t.0);
    which = inr (omega arith, omega arith);
  }
]
  where
    later : (o n : ℕ) → (n ≡ 0) ⊎ ((o + 1 < n) × (n < 2 ^ 32)) → (n ≡ 0) ⊎ ((o < n) × (n < 2 ^ 32))
    later o n (inl e) = inl e
    later o n (inr l) = inr (omega arith, l.1)

-- so they don't begin with one before these
pub none_before : (first : ℕ → ℕ) (o d byte : ℕ) (xs more rest : List ℕ) → o + length xs < 2 ^ 32 → d < o → changes_from first o xs ++
    (low_bytes 4 0 ++ more) ≡ change d byte ++ rest → ⊥
none_before first o d byte xs more rest few before e =
    let r = begins first o xs more few in
    no r.number (number_told r.number (d + 1) r.rest (byte ∷ rest) (small r.number r.which) (omega arith) (sym r.is ∙ e)).0 r.which
  where
    small : (n : ℕ) → (n ≡ 0) ⊎ ((o < n) × (n < 2 ^ 32)) → n < 2 ^ 32
    small n (inl e) = omega arith
    small n (inr l) = l.1

    no : (n : ℕ) → n ≡ d + 1 → (n ≡ 0) ⊎ ((o < n) × (n < 2 ^ 32)) → ⊥
    no n same (inl e) = omega arith
    no n same (inr l) = omega arith

-- a byte before the others
pub step_same : (first : ℕ → ℕ) (o x : ℕ) (xs more : List ℕ) → x ≡ first o → changes_from first o (x ∷ xs) ++ more ≡ changes_from first (o + 1) xs ++ more
step_same first o x xs more e = ap (λ (bs : List ℕ). (bs ++ changes_from first (o + 1) xs) ++ more) (here_same first o x e)

pub step_other : (first : ℕ → ℕ) (o x : ℕ) (xs more : List ℕ) → x ≢ first o → changes_from first o (x ∷ xs) ++ more ≡ change o x ++
    (changes_from first (o + 1) xs ++ more)
step_other first o x xs more ne = ap (λ (bs : List ℕ). (bs ++ changes_from first (o + 1) xs) ++ more) (here_other first o x ne) ∙
    append_assoc (change o x) (changes_from first (o + 1) xs) more

-- equal changes are those of equal bytes, and show where they end
pub changes_told : (first : ℕ → ℕ) (o : ℕ) (xs ys rest more : List ℕ) → length xs ≡ length ys → o + length xs < 2 ^ 32
    → changes_from first o xs ++ (low_bytes 4 0 ++ rest) ≡ changes_from first o ys ++ (low_bytes 4 0 ++ more) → (xs ≡ ys) × (rest ≡ more)
changes_told first o [] [] rest more n few e = (refl, (number_told 0 0 rest more (lit< tt) (lit< tt) e).1)
changes_told first o [] (y ∷ ys) rest more n few e = absurd (omega arith)
changes_told first o (x ∷ xs) [] rest more n few e = absurd (omega arith)
changes_told first o (x ∷ xs) (y ∷ ys) rest more n few e = elim (test x (first o)) [
  | inl t ↦ elim (test y (first o)) [
    | inl u ↦
        let r = changes_told first (o + 1) xs ys rest more (omega arith) (omega arith)
        (sym (step_same first o x xs (low_bytes 4 0 ++ rest) t.0) ∙ (e ∙ step_same first o y ys (low_bytes 4 0 ++ more) u.0)) in
        (both (t.0 ∙ sym u.0) r.0, r.1)
    | inr u ↦ absurd (none_before first (o + 1) o y xs rest (changes_from first (o + 1) ys ++ (low_bytes 4 0 ++ more)) (omega arith) (omega arith)
        (sym (step_same first o x xs (low_bytes 4 0 ++ rest) t.0) ∙ (e ∙ step_other first o y ys (low_bytes 4 0 ++ more) u.0)))
  ]
  | inr t ↦ elim (test y (first o)) [
    | inl u ↦ absurd (none_before first (o + 1) o x ys more (changes_from first (o + 1) xs ++ (low_bytes 4 0 ++ rest)) (omega arith) (omega arith)
        (sym (step_same first o y ys (low_bytes 4 0 ++ more) u.0) ∙ (sym e ∙ step_other first o x xs (low_bytes 4 0 ++ rest) t.0)))
    | inr u ↦
        let whole = sym (step_other first o x xs (low_bytes 4 0 ++ rest) t.0) ∙ (e ∙ step_other first o y ys (low_bytes 4 0 ++ more) u.0) in
        let cut = number_told (o + 1) (o + 1) (x ∷ (changes_from first (o + 1) xs ++ (low_bytes 4 0 ++ rest)))
        (y ∷ (changes_from first (o + 1) ys ++ (low_bytes 4 0 ++ more))) (omega arith) (omega arith) whole in
        let head : x ≡ y = (let c = cut.1 in cc) in
        let tail : changes_from first (o + 1) xs ++ (low_bytes 4 0 ++ rest) ≡ changes_from first (o + 1) ys ++ (low_bytes 4 0 ++ more) =
        (let c = cut.1 in cc) in
        let r = changes_told first (o + 1) xs ys rest more (omega arith) (omega arith) tail in
        (both head r.0, r.1)
  ]
]
  where
    both : {a b : ℕ} {us vs : List ℕ} → a ≡ b → us ≡ vs → a ∷ us ≡ b ∷ vs
    both p q = cc

-- ---- the changes of the first bytes, and of one more
pub one_more : (first : ℕ → ℕ) (start : ℕ) (bytes old out new : List ℕ) (o : ℕ) → o < length bytes → out ≡ old ++ changes_from first start (take o bytes) →
    new ≡ out ++ here first (start + o) (get_or bytes o 0)
    → new ≡ old ++ changes_from first start (take (o + 1) bytes)
one_more first start bytes old out new o l before e =
    let x = get_or bytes o 0 in
    let these = changes_from first start (take o bytes) in
    let all : changes_from first start (take (o + 1) bytes) ≡ these ++ here first (start + o) x =
    ap (changes_from first start) (take_more bytes o 0 l)
    ∙ (changes-append first start (start + o) (take o bytes) (x ∷ []) (let s = length-take-le o bytes (omega arith) in omega arith) ∙ ap
    (λ (bs : List ℕ). these ++ bs) (one_change first (start + o) x)) in
    e ∙ (ap (λ (bs : List ℕ). bs ++ here first (start + o) x) before ∙
    (append_assoc old these (here first (start + o) x) ∙ ap (λ (bs : List ℕ). old ++ bs) (sym all)))

-- bytes as at first leave nothing
pub none_changed : (first : ℕ → ℕ) (o : ℕ) (xs : List ℕ) → ((k : ℕ) → k < length xs → get_or xs k 0 ≡ first (o + k)) → changes_from first o xs ≡ []
none_changed first o [] same = refl
none_changed first o (x ∷ xs) same =
    ap (λ (bs : List ℕ). bs ++ changes_from first (o + 1) xs) (here_same first o x (same 0 (omega arith) ∙ ap first (let z : o + 0 ≡ o = omega arith in z)))
    ∙ none_changed first (o + 1) xs (λ k l. same (suc k) (omega arith) ∙ ap first (let z : o + suc k ≡ o + 1 + k = omega arith in z))

-- the first of zeros are zeros
pub take_zeros : (n m k : ℕ) → get_or {A = ℕ} (take n (replicate {A = ℕ} m 0)) k 0 ≡ 0
take_zeros zero m k = refl
take_zeros (suc n) zero k = refl
take_zeros (suc n) (suc m) zero = refl
take_zeros (suc n) (suc m) (suc k) = take_zeros n m k

-- a place of a copy, and some places more of it
pub place_more : (o k stride : ℕ) → 0 < stride → o % stride + k < stride → (o + k) % stride ≡ o % stride + k
place_more o k stride some inside =
    let whole : o / stride * stride + o % stride ≡ o = omega arith in
    ap (λ (n : ℕ). n % stride) (let z : o + k ≡ o / stride * stride + (o % stride + k) = omega arith in z)
    ∙ mod-mul-add (o / stride) stride (o % stride + k) inside

-- where the first bytes are none, copies are as one
pub as_one_copy : {A : Type 0} {E : Type 0} (r : Result A E) (first bytes old new : List ℕ) (stride other : ℕ) → length first ≡ 0
    → OnOk r (new ≡ old ++ changes (λ x. get_or first (x % other) 0) bytes)
    → OnOk r (new ≡ old ++ changes (λ x. get_or first (x % stride) 0) bytes)
as_one_copy (Err e) first bytes old new stride other none is = tt
as_one_copy (Ok a) (x ∷ first) bytes old new stride other none is = absurd (omega arith)
as_one_copy (Ok a) [] bytes old new stride other none is =
    is ∙ ap (λ (bs : List ℕ). old ++ (bs ++ low_bytes 4 0))
    (changes-first (λ x. get_or [] (x % other) 0) (λ x. get_or [] (x % stride) 0) 0 bytes (λ x l m. refl))

-- what is left after a part, of which this is appended
pub part_more : (first : ℕ → ℕ) (o n : ℕ) (rest part more out new old whole : List ℕ) → rest ≡ part ++ more → n ≡ o + length part
    → new ≡ out ++ changes_from first o part → out ++ changes_from first o rest ≡ old ++ whole
    → new ++ changes_from first n more ≡ old ++ whole
part_more first o n rest part more out new old whole cut e made before =
    ap (λ (bs : List ℕ). bs ++ changes_from first n more) made
    ∙ (append_assoc out (changes_from first o part) (changes_from first n more)
    ∙ (ap (λ (bs : List ℕ). out ++ bs) (sym (ap (changes_from first o) cut ∙ changes-append first o n part more e)) ∙ before))

-- ---- bytes that begin with what was there, where memory was refused
pub on_err_starts : {A : Type 0} {E : Type 0} (r : Result A E) (old mid new more : List ℕ) → mid ≡ old ++ more → OnErr r
    (StartsWith new mid) → OnErr r (StartsWith new old)
on_err_starts (Ok a) old mid new more e starts = tt
on_err_starts (Err x) old mid new more e starts = starts_with_trans new mid old starts (starts_with_of_append mid old more e)
