-- Bytes that are gathered, but for those that are left out.
use Rattle.std.proofs.Common.{◌≡◌, ◌∙◌, ℕ, ◌+◌, ◌<◌, ◌≤◌, ◌⊎◌, List, [], ◌∷◌, ◌++◌, Some, length, get_or, false, inl, inr, sym, ap, subst, arith}
use Rattle.std.specs.Prelude.{slice_get}
use Rattle.std.proofs.lemmas.Bool.{cases_lt}
use Rattle.std.proofs.lemmas.Option.{slice_get-get_or, slice_get_within}
use Rattle.bpf_races.specs.declared.access.Access.{Access}
use Rattle.bpf_races.specs.declared.sync.Part.{Part}
use Rattle.bpf_races.specs.Touch.{IsAmong}
use Rattle.bpf_races.specs.Parts.{IsLeftOut}
use Rattle.bpf_races.specs.Private.Clashes.{Collects}
use Rattle.bpf_races.proofs.Lists.{in_front, in_last, in_cases}

-- it is in a range, and below n
abbrev pub InRange : ℕ → ℕ → ℕ → ℕ → Type 0
InRange low high n b = (low ≤ b) × (b < n) × (b < high)

-- one of the first n accesses has it
abbrev pub Below : (Access → ℕ → Type 0) → List Access → ℕ → ℕ → Type 0
Below Q xs n b = (i : ℕ) × (x : Access) × (i < n) × (slice_get xs i ≡ Some x) × Q x b

module _ (sync : List Part) where
  -- ---- one byte
  pub byte_out : (old : List ℕ) (byte : ℕ) → IsLeftOut sync byte → Collects (λ b. b ≡ byte) sync old old
  byte_out old byte out = record { keeps = λ b there. there; each = λ b there. inl there; all = λ b is. inr (subst (λ (x : ℕ). IsLeftOut sync x) (sym is) out) }

  pub byte_put : (old new : List ℕ) (byte : ℕ) → (IsLeftOut sync byte → ⊥) → new ≡ old ++ byte ∷ [] → Collects (λ b. b ≡ byte) sync old new
  byte_put old new byte counts is = subst (λ (xs : List ℕ). Collects (λ b. b ≡ byte) sync old xs) (sym is) (record {
    keeps = λ b there. in_front old byte b there;
    each = λ b there. elim (in_cases old byte b there) [
      | inl before ↦ inl before
      | inr same ↦ inr (same, subst (λ (x : ℕ). IsLeftOut sync x → ⊥) (sym same) counts)
    ];
    all = λ b is. inl (subst (λ (x : ℕ). IsAmong (old ++ byte ∷ []) x) (sym is) (in_last old byte));
  })

  -- ---- more and more of them
  pub none_yet : (P : ℕ → Type 0) (old : List ℕ) → ((b : ℕ) → P b → ⊥) → Collects P sync old old
  none_yet P old none = record { keeps = λ b there. there; each = λ b there. inl there; all = λ b is. absurd (none b is) }

  pub joined : (P Q R : ℕ → Type 0) (old mid new : List ℕ) → ((b : ℕ) → R b → P b ⊎ Q b) → ((b : ℕ) → P b → R b) → ((b : ℕ) → Q b → R b) →
      Collects P sync old mid → Collects Q sync mid new → Collects R sync old new
  joined P Q R old mid new split left right first second = record {
    keeps = λ b there. second.keeps b (first.keeps b there);
    each = λ b there. elim (second.each b there) [
      | inl before ↦ elim (first.each b before) [ inl first_of_all ↦ inl first_of_all | inr it ↦ inr (left b it.0, it.1) ]
      | inr it ↦ inr (right b it.0, it.1)
    ];
    all = λ b is. elim (split b is) [
      | inl p ↦ elim (first.all b p) [ inl there ↦ inl (second.keeps b there) | inr out ↦ inr out ]
      | inr q ↦ second.all b q
    ];
  }

  pub as_well : (P Q : ℕ → Type 0) (old new : List ℕ) → ((b : ℕ) → P b → Q b) → ((b : ℕ) → Q b → P b) → Collects P sync old new → Collects Q sync old new
  as_well P Q old new to from all = record {
    keeps = all.keeps;
    each = λ b there. elim (all.each b there) [ inl before ↦ inl before | inr it ↦ inr (to b it.0, it.1) ];
    all = λ b is. all.all b (from b is);
  }

  -- ---- those of a range, one by one
  pub range_begins : (low high : ℕ) (old : List ℕ) → Collects (InRange low high low) sync old old
  range_begins low high old = none_yet (InRange low high low) old (λ b is. absurd (let from = is.0 in let past = is.1 in omega arith))

  pub range_goes_on : (low high n : ℕ) (old mid new : List ℕ) → low ≤ n → n < high → Collects (InRange low high n) sync old mid → Collects
      (λ b. b ≡ n) sync mid new → Collects (InRange low high (n + 1)) sync old new
  range_goes_on low high n old mid new from below far one = joined (InRange low high n) (λ b. b ≡ n) (InRange low high (n + 1)) old mid new
      (λ b is. elim (cases_lt b n) [ inl less ↦ inl (is.0, less, is.2) | inr past ↦ inr (let next = is.1 in omega arith) ])
      (λ b is. (is.0, (let less = is.1 in omega arith), is.2)) (λ b is.
      ((let same : b ≡ n = is in omega arith), (let same : b ≡ n = is in omega arith), (let same : b ≡ n = is in omega arith))) far one

  -- ---- those that some accesses have, one by one
  pub access_begins : (Q : Access → ℕ → Type 0) (xs : List Access) (old : List ℕ) → Collects (Below Q xs 0) sync old old
  access_begins Q xs old = none_yet (Below Q xs 0) old (λ b is. absurd (let less = is.2 in omega arith))

  pub access_goes_on : (Q : Access → ℕ → Type 0) (xs : List Access) (n : ℕ) (x : Access) (old mid new : List ℕ) → slice_get xs n ≡ Some x →
      Collects (Below Q xs n) sync old mid → Collects (Q x) sync mid new → Collects (Below Q xs (n + 1)) sync old new
  access_goes_on Q xs n x old mid new at far one = joined (Below Q xs n) (Q x) (Below Q xs (n + 1)) old mid new split
      (λ b (i, y, less, there, is). (i, y, (omega arith), there, is)) (λ b is. (n, x, (omega arith), at, is)) far one
    where
      split : (b : ℕ) → Below Q xs (n + 1) b → Below Q xs n b ⊎ Q x b
      split b (i, y, less, there, is) = elim (cases_lt i n) [
        | inl below ↦ inl (i, y, below, there, is)
        | inr past ↦
            let e : i ≡ n = omega arith in
            let two : Some y ≡ Some x = sym there ∙ (ap (λ (k : ℕ). slice_get xs k) e ∙ at) in
            let same : y ≡ x = cc in
            inr (subst (λ (z : Access). Q z b) same is)
      ]

  pub access_ends : (Q : Access → ℕ → Type 0) (xs : List Access) (n : ℕ) (old new : List ℕ) → length xs ≤ n → Collects (Below Q xs n) sync
      old new → Collects (λ b. (x : Access) × IsAmong xs x × Q x b) sync old new
  access_ends Q xs n old new past far = as_well (Below Q xs n) (λ b. (x : Access) × IsAmong xs x × Q x b) old new
      (λ b (i, y, less, there, is). (y, (i, there), is)) (λ b (y, (i, there), is).
      (let inside = slice_get_within xs i y there in (i, y, (omega arith), there, is))) far

-- the access that is read
abbrev pub no_access : Access
no_access = record { at = 0; past = 0; writes = false; atomic = false }

pub at_read : (xs : List Access) (n : ℕ) → n < length xs → slice_get xs n ≡ Some (get_or xs n no_access)
at_read xs n inside = slice_get-get_or xs n no_access inside
