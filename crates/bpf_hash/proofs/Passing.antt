-- Elements that were passed, as in the map or kept, stay so while the runs go on.
use Rattle.std.proofs.Common.{◌≡◌, ℕ, ◌*◌, ◌<◌, ◌≤◌, List, length, ◌⊎◌, inl, inr, sym, ap, subst, ◌∙◌, arith}
use Rattle.bpf_hash.specs.declared.runs.Runs.{Runs}
use Rattle.bpf_hash.specs.Private.Runs.{run_of, is_run}
use Rattle.bpf_shared.specs.Shape.{elements}
use Rattle.bpf_hash.specs.Private.Rows.{Rows, AreMarked, ArePassed, GoOn, HasCurrentAt, IsMissing, IsKeptRow, IsLinked, IsTable, linked_row}
use Rattle.bpf_hash.specs.Private.Rows.{run_left, unlinked_row}
use Rattle.bpf_shared.proofs.Puts.{equal_or_not}
use Rattle.bpf_hash.proofs.Linking.{linked_here, linked_more, unlinked_still}
use Rattle.bpf_hash.proofs.Updating.{left-else}

pub marked_passed : (runs : List Runs) (t : Rows) (n : ℕ) → AreMarked t.linked n → ArePassed runs t n
marked_passed runs t n marks i l = inl (marks i l)

pub passed_on : (seen runs : List Runs) (t : Rows) (n : ℕ) → length seen ≡ length runs → GoOn seen runs → ArePassed seen t n → ArePassed runs t n
passed_on seen runs t n same on passed i l = elim (passed i l) [
  | inl k ↦ inl k
  | inr k ↦ inr (k.0, subst (λ (m : ℕ). k.0 < m) same k.1, on k.0 (run_left t i k.0) k.1 k.2)
]

-- a key is put into an element
pub linked_passed : (seen : List Runs) (t : Rows) → IsTable t → (i : ℕ) (key bytes : List ℕ) → IsMissing t key → i < elements t.shape → (IsLinked t i → ⊥)
    → length key ≡ t.shape.key → length bytes ≡ t.shape.value → (n : ℕ) → ArePassed seen t n → ArePassed seen (linked_row i key bytes t) n
linked_passed seen t is i key bytes missing inside free size long n passed j l = elim (passed j l) [
  | inl a ↦ inl (linked_more t is i key bytes missing inside free size long j a)
  | inr a ↦ inr a
]

-- that element is passed, too
pub linked_more_passed : (seen : List Runs) (t : Rows) → IsTable t → (i : ℕ) (key bytes : List ℕ) → IsMissing t key → i < elements t.shape → (IsLinked t i → ⊥)
    → length key ≡ t.shape.key → length bytes ≡ t.shape.value → (n m : ℕ) → ArePassed seen t n → ((j : ℕ) → j < m → (j < n) ⊎ (j ≡ i)) →
    ArePassed seen (linked_row i key bytes t) m
linked_more_passed seen t is i key bytes missing inside free size long n m passed most j l = elim (most j l) [
  | inl k ↦ linked_passed seen t is i key bytes missing inside free size long n passed j k
  | inr e ↦ inl (subst (IsLinked (linked_row i key bytes t)) (sym e) (linked_here t is i key bytes missing inside free size long))
]

-- an element leaves the map, which is passed further on only if it is kept
pub unlinked_passed : (seen runs : List Runs) (t : Rows) → IsTable t → (k : ℕ) → IsLinked t k → length runs ≡ t.cpus → length seen ≡ t.cpus
    → (n m : ℕ) → ArePassed seen t n → m ≤ n
    → (k < m → HasCurrentAt (unlinked_row runs k t).left (k * t.cpus) seen)
    → ArePassed seen (unlinked_row runs k t) m
unlinked_passed seen runs t is k inside width same n m passed below kept j l = elim (equal_or_not j k) [
  | inl e ↦ inr (subst (IsKeptRow seen (unlinked_row runs k t)) (sym e) (kept (subst (λ (x : ℕ). x < m) e l)))
  | inr ne ↦ elim (passed j (omega (arith, l, below))) [
    | inl a ↦ inl (unlinked_still runs t is k inside width j a ne)
    | inr a ↦ inr (a.0, a.1, ap (is_run (run_of seen a.0)) (left-else runs t is k inside width j a.0 (subst (λ (x : ℕ). a.0 < x) same a.1) ne) ∙ a.2)
  ]
]
