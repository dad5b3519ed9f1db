-- Numbers that are put into places by hashes are found there.
use Rattle.std.proofs.Common.{◌≡◌, ◌≢◌, ◌∙◌, ℕ, ◌+◌, ◌<◌, ◌≤◌, List, inl, inr, length, sym, ap, subst, arith}
use Rattle.std.specs.Prelude.{slice_index_or, slice_set}
use Rattle.std.proofs.lemmas.Bool.{cases_lt}
use Rattle.std.proofs.lemmas.List.{length-set, get_or-set_other, get_or-set_same}
use Rattle.bpf_explore.specs.Private.Slots.{place_at, slot_at, IsMarked, IsPut}

-- ---- a number is looked for
-- none of the numbers before this step is one of these
abbrev pub Passed : List ℕ → ℕ → ℕ → (ℕ → Type 0) → Type 0
Passed slots hash step P = (e n : ℕ) → e < step → slot_at slots hash e ≡ n + 1 → P n → ⊥

pub none_passed : (slots : List ℕ) (hash : ℕ) (P : ℕ → Type 0) → Passed slots hash 0 P
none_passed slots hash P e n less at is = absurd (omega arith)

pub next_passed : (slots : List ℕ) (hash step m : ℕ) (P : ℕ → Type 0) → Passed slots hash step P → slot_at slots hash step ≡ m + 1 →
    (P m → ⊥) → Passed slots hash (step + 1) P
next_passed slots hash step m P far here never e n less at is = elim (cases_lt e step) [
  | inl below ↦ far e n below at is
  | inr past ↦
      let same : e ≡ step = omega arith in
      let one : n + 1 ≡ m + 1 = sym at ∙ (ap (slot_at slots hash) same ∙ here) in
      let number : n ≡ m = omega arith in
      never (subst P number is)
]

-- it is none of those that were put
pub none_at : (slots : List ℕ) (hash step : ℕ) (P : ℕ → Type 0) → Passed slots hash step P → slot_at slots hash step ≡ 0 → (n : ℕ) → IsPut
    slots hash n → P n → ⊥
none_at slots hash step P far empty n (d, inside, at, before) is = elim (cases_lt d step) [
  | inl below ↦ far d n below at is
  | inr past ↦ elim (cases_lt step d) [
    | inl above ↦ before step above empty
    | inr same ↦
        let here : d ≡ step = omega arith in
        let no : n + 1 ≡ 0 = sym at ∙ (ap (slot_at slots hash) here ∙ empty) in
        absurd (omega arith)
  ]
]

pub none_left : (slots : List ℕ) (hash step : ℕ) (P : ℕ → Type 0) → Passed slots hash step P → length slots ≤ step → (n : ℕ) → IsPut slots hash n → P n → ⊥
none_left slots hash step P far past n (d, inside, at, before) is = far d n (omega arith) at is

-- ---- one more is put
module _ (slots : List ℕ) (place mark : ℕ) (within : place < length slots) (empty : slice_index_or slots place 0 ≡ 0) where
  abbrev after : List ℕ
  after = slice_set slots place mark

  size : length after ≡ length slots
  size = length-set slots place mark

  slot_other : (h e : ℕ) → place_at h e (length slots) ≢ place → slot_at after h e ≡ slot_at slots h e
  slot_other h e apart =
      ap (λ (k : ℕ). slice_index_or after (place_at h e k) 0) size ∙ get_or-set_other slots place (place_at h e (length slots)) mark 0 apart

  slot_taken : (h e : ℕ) → slot_at slots h e ≢ 0 → slot_at after h e ≡ slot_at slots h e
  slot_taken h e taken = slot_other h e (λ same. taken (ap (λ (p : ℕ). slice_index_or slots p 0) same ∙ empty))

  pub still_marked : (h k : ℕ) → k ≢ 0 → IsMarked slots h k → IsMarked after h k
  still_marked h k some (d, inside, at, before) = (
    d,
    omega (arith, size),
    slot_taken h d (λ no. some (sym at ∙ no)) ∙ at,
    λ e less no. before e less (sym (slot_taken h e (before e less)) ∙ no),
  )

  pub still_put : (h n : ℕ) → IsPut slots h n → IsPut after h n
  still_put h n is = still_marked h (n + 1) (λ no. absurd (omega arith)) is

  -- at a place of which all before are taken
  pub marked : (hash step : ℕ) → step < length slots → place ≡ place_at hash step (length slots) →
      ((e : ℕ) → e < step → slot_at slots hash e ≢ 0) → IsMarked after hash mark
  marked hash step inside here taken = (
    step,
    omega (arith, size),
    ap (λ (k : ℕ). slice_index_or after (place_at hash step k) 0) size ∙
        (ap (λ (p : ℕ). slice_index_or after p 0) (sym here) ∙ get_or-set_same slots place mark 0 within),
    λ e less no. taken e less (sym (slot_taken hash e (taken e less)) ∙ no),
  )

pub next_taken : (slots : List ℕ) (hash step : ℕ) → ((e : ℕ) → e < step → slot_at slots hash e ≢ 0) → slot_at slots hash step ≢ 0 → (e : ℕ)
    → e < step + 1 → slot_at slots hash e ≢ 0
next_taken slots hash step far here e less = elim (cases_lt e step) [
  | inl below ↦ far e below
  | inr past ↦ let same : step ≡ e = omega arith in subst (λ (k : ℕ). slot_at slots hash k ≢ 0) same here
]
