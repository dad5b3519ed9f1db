-- Changes that are read, one offset after the other.
use Rattle.std.proofs.Common.{◌≡◌, ◌≢◌, ℕ, suc, ◌+◌, ◌-◌, ◌^◌, ◌<◌, ◌≤◌, List, [], ◌∷◌, ◌++◌, length, length-append, length-drop, take}
use Rattle.std.proofs.Common.{drop, drop-cons, take-append-drop, get_or, inl, inr, refl, sym, ap, subst, ◌⊎◌, ◌∙◌, arith}
use Rattle.std.proofs.lemmas.List.Elements.{All-from_get_or}
use Rattle.std.proofs.lemmas.List.{drop-drop, ext_get_or, get_or-take, length-take-le}
use Rattle.std.specs.List.{All}
use Rattle.bpf_base.specs.Bytes.{little_endian, low_bytes}
use Rattle.bpf_base.proofs.Numbers.{little_endian-low_bytes, low_bytes-little_endian}
use Rattle.bpf_shared.specs.declared.shapes.ArrayShape.{ArrayShape}
use Rattle.bpf_shared.specs.Shape.{IsWithin}
use Rattle.bpf_shared.proofs.Puts.{equal_or_not}
use Rattle.bpf_hash.proofs.Blocks.{below_or_same}
use Rattle.bpf_plain.specs.Private.Contents.{IsPadded}
use Rattle.bpf_plain.specs.Private.Changes.{change, changes_from}
use Rattle.bpf_plain.proofs.Changed.{number_told, none_before, step_same, step_other, test}

-- ---- a change that the bytes begin with
pub change_found : (bytes : List ℕ) (o n byte : ℕ) → 5 ≤ length bytes → ((i : ℕ) → get_or bytes i 0 < 256) → n ≡ little_endian
    (take 4 bytes) → n ≡ o + 1 → byte ≡ get_or bytes 4 0 → bytes ≡ change o byte ++ drop 5 bytes
change_found bytes o n byte long each is number byte_is =
    let size : length (take 4 bytes) ≡ 4 = length-take-le 4 bytes (omega arith) in
    let small : All (λ b. b < 256) (take 4 bytes) = All-from_get_or (λ b. b < 256) (take 4 bytes) 0 (λ i h. each_front i (omega arith)) in
    let back : low_bytes 4 (little_endian (take 4 bytes)) ≡ take 4 bytes = ap (λ (k : ℕ). low_bytes k (little_endian (take 4 bytes)))
    (sym size) ∙ low_bytes-little_endian (take 4 bytes) small in
    let front : take 4 bytes ≡ low_bytes 4 (o + 1) = sym back ∙ ap (low_bytes 4) (sym is ∙ number) in
    let next : drop 4 bytes ≡ byte ∷ drop 5 bytes = drop-cons bytes 4 0 (omega arith) ∙ ap (λ (b : ℕ). b ∷ drop 5 bytes) (sym byte_is) in
    sym (take-append-drop 4 bytes) ∙ (ap (λ (bs : List ℕ). bs ++ drop 4 bytes) front ∙ ap (λ (bs : List ℕ). low_bytes 4 (o + 1) ++ bs) next)
  where
    each_front : (i : ℕ) → i < 4 → get_or (take 4 bytes) i 0 < 256
    each_front i l = subst (λ (b : ℕ). b < 256) (sym (get_or-take 4 bytes i 0 l)) (each i)

pub change_read : (bytes more : List ℕ) (o byte : ℕ) → o + 1 < 2 ^ 32 → bytes ≡ change o byte ++ more → (5 ≤ length bytes) ×
    (little_endian (take 4 bytes) ≡ o + 1)
change_read bytes more o byte few e =
    let long = ap (λ (bs : List ℕ). length bs) e in
    let sum = length-append (change o byte) more in
    (omega arith, ap (λ (bs : List ℕ). little_endian (take 4 bs)) e ∙ little_endian-low_bytes 4 (o + 1) few)

-- ---- a byte of an array whose changes the bytes are
module _ (first : ℕ → ℕ) (saved xs more : List ℕ) (o at : ℕ) (few : o + length xs < 2 ^ 31) (l : o < length xs)
    (here : drop at saved ≡ changes_from first o (drop o xs) ++ (low_bytes 4 0 ++ more)) where
  abbrev x : ℕ
  x = get_or xs o 0

  abbrev end : List ℕ
  end = low_bytes 4 0 ++ more

  abbrev after : List ℕ
  after = changes_from first (o + 1) (drop (o + 1) xs) ++ end

  opened : drop at saved ≡ changes_from first o (x ∷ drop (o + 1) xs) ++ end
  opened =
      here
      ∙ ap (λ (bs : List ℕ). changes_from first o bs ++ end) (drop-cons xs o 0 l ∙ ap (λ (k : ℕ). x ∷ drop k xs) (let s : suc o ≡ o + 1 = omega arith in s))

  pub taken : (byte : ℕ) → drop at saved ≡ change o byte ++ drop 5 (drop at saved) → (x ≢ first o) × (byte ≡ x) × (drop (at + 5) saved ≡ after)
  taken byte found = elim (test x (first o)) [
    | inl t ↦ absurd (
        let long = length-drop (o + 1) xs in
        none_before first (o + 1) o byte (drop (o + 1) xs) more (drop 5 (drop at saved)) (omega arith) (omega arith)
        (sym (step_same first o x (drop (o + 1) xs) end t.0) ∙ (sym opened ∙ found)))
    | inr t ↦
        let cut = number_told (o + 1) (o + 1) (x ∷ after) (byte ∷ drop 5 (drop at saved)) (omega arith) (omega arith)
        (sym (step_other first o x (drop (o + 1) xs) end t.0) ∙ (sym opened ∙ found)) in
        let same : byte ≡ x = (let c = cut.1 in cc) in
        let rest : drop 5 (drop at saved) ≡ after = (let c = cut.1 in cc) in
        (t.0, same, sym (drop-drop 5 at saved) ∙ rest)
  ]

  pub passed : ((byte : ℕ) (rest : List ℕ) → drop at saved ≡ change o byte ++ rest → ⊥) → (x ≡ first o) × (drop at saved ≡ after)
  passed none = elim (test x (first o)) [
    | inl t ↦ (t.0, opened ∙ step_same first o x (drop (o + 1) xs) end t.0)
    | inr t ↦ absurd (none x after (opened ∙ step_other first o x (drop (o + 1) xs) end t.0))
  ]

  -- so the bytes that are read agree with it, up to the next offset
  pub front_taken : (cpus : ℕ) (g : ArrayShape) (bytes new : List ℕ) (byte : ℕ) → IsPadded cpus g first xs
      → (IsWithin cpus g o 1 × (get_or new o 0 ≡ byte)) ⊎ ((IsWithin cpus g o 1 → ⊥) × (get_or new o 0 ≡ get_or bytes o 0)) →
      ((y : ℕ) → y ≢ o → get_or new y 0 ≡ get_or bytes y 0)
      → (x ≢ first o) × (byte ≡ x) × (drop (at + 5) saved ≡ after) → ((y : ℕ) → y < o → get_or bytes y 0 ≡ get_or xs y 0) → (y : ℕ) → y < o
      + 1 → get_or new y 0 ≡ get_or xs y 0
  front_taken cpus g bytes new byte padded here_is others t before y below = elim (equal_or_not y o) [
    | inl e ↦ ap (λ (k : ℕ). get_or new k 0) e ∙ (put here_is ∙ ap (λ (k : ℕ). get_or xs k 0) (sym e))
    | inr ne ↦ others y ne ∙ before y (below_or_same y o below ne)
  ]
    where
      put : (IsWithin cpus g o 1 × (get_or new o 0 ≡ byte)) ⊎ ((IsWithin cpus g o 1 → ⊥) × (get_or new o 0 ≡ get_or bytes o 0)) → get_or new o 0 ≡ x
      put (inl w) = w.1 ∙ t.1
      put (inr w) = absurd (t.0 (padded o l w.0))

  pub front_passed : (bytes : List ℕ) → get_or bytes o 0 ≡ first o → (x ≡ first o) × (drop at saved ≡ after) →
      ((y : ℕ) → y < o → get_or bytes y 0 ≡ get_or xs y 0) → (y : ℕ) → y < o + 1 → get_or bytes y 0 ≡ get_or xs y 0
  front_passed bytes was p before y below = elim (equal_or_not y o) [
    | inl e ↦ ap (λ (k : ℕ). get_or bytes k 0) e ∙ (was ∙ (sym p.0 ∙ ap (λ (k : ℕ). get_or xs k 0) (sym e)))
    | inr ne ↦ before y (below_or_same y o below ne)
  ]

-- nothing is put between values
pub padded_taken : (cpus : ℕ) (g : ArrayShape) (first : ℕ → ℕ) (bytes new : List ℕ) (o byte : ℕ) → length new ≡ length bytes
    → (IsWithin cpus g o 1 × (get_or new o 0 ≡ byte)) ⊎ ((IsWithin cpus g o 1 → ⊥) × (get_or new o 0 ≡ get_or bytes o 0)) →
    ((y : ℕ) → y ≢ o → get_or new y 0 ≡ get_or bytes y 0) → IsPadded cpus g first bytes → IsPadded cpus g first new
padded_taken cpus g first bytes new o byte size here others padded y below none = elim (equal_or_not y o) [
  | inl e ↦ ap (λ (k : ℕ). get_or new k 0) e ∙ (kept here e ∙ (ap (λ (k : ℕ). get_or bytes k 0) (sym e) ∙ padded y (omega arith) none))
  | inr ne ↦ others y ne ∙ padded y (omega arith) none
]
  where
    kept : (IsWithin cpus g o 1 × (get_or new o 0 ≡ byte)) ⊎ ((IsWithin cpus g o 1 → ⊥) × (get_or new o 0 ≡ get_or bytes o 0)) → y ≡ o →
        get_or new o 0 ≡ get_or bytes o 0
    kept (inl w) e = absurd (none (subst (λ (k : ℕ). IsWithin cpus g k 1) (sym e) w.0))
    kept (inr w) e = w.1

-- ---- all offsets are read
no_more : (ys : List ℕ) → length ys ≡ 0 → ys ≡ []
no_more [] e = refl
no_more (y ∷ ys) e = absurd (omega arith)

pub all_read : (first : ℕ → ℕ) (saved xs more bytes : List ℕ) (o at : ℕ) → length xs ≤ o → length bytes ≡ length xs →
    ((x : ℕ) → x < o → get_or bytes x 0 ≡ get_or xs x 0)
    → drop at saved ≡ changes_from first o (drop o xs) ++ (low_bytes 4 0 ++ more) → (bytes ≡ xs) × (4 ≤ length saved - at) × (drop (at + 4) saved ≡ more)
all_read first saved xs more bytes o at past size front here =
    let none : drop o xs ≡ [] = no_more (drop o xs) (let d = length-drop o xs in omega arith) in
    let rest : drop at saved ≡ low_bytes 4 0 ++ more = here ∙ ap (λ (ys : List ℕ). changes_from first o ys ++ (low_bytes 4 0 ++ more)) none in
    let long = ap (λ (bs : List ℕ). length bs) rest in
    let count = length-drop at saved in
    (ext_get_or 0 bytes xs size (λ x l. front x (omega arith)), omega arith, sym (drop-drop 4 at saved) ∙ ap (drop 4) rest)
