-- What the turns of CPUs lead to, CPU by CPU.
use Rattle.std.proofs.Common.{◌≡◌, ◌∙◌, ℕ, zero, suc, ap, ◌+◌, ◌<◌, ◌≤◌, ◌⊎◌, true, inl, inr, List, [], ◌∷◌, ◌++◌, Some, length, refl, sym, subst, arith}
use Rattle.std.specs.Prelude.{All, nat_lt, slice_get}
use Rattle.std.proofs.lemmas.Bool.{cases_lt, ltb-true}
use Rattle.std.proofs.lemmas.Option.{slice_get_within}
use Rattle.std.proofs.lemmas.List.Elements.{All-nil, All-push}
use Rattle.bpf_base.proofs.Lists.{slice_get-front}
use Rattle.bpf_plain.specs.PlainStore.{has_cpu}
use Rattle.bpf_cpu.specs.Task.{Stage, Task, Waiting, InHand}
use Rattle.bpf_machine.specs.Hands.{IsAt}
use Rattle.bpf_machine.specs.Machine.{MachineState}
use Rattle.bpf_expand.specs.declared.successor.Successor.{Successor}
use Rattle.bpf_expand.specs.State.{Host, IsStateOf, IsIdleIn, IsSuccessor, HasSuccessor, HasWorkIn, AreSuccessors}

-- what the turns of the CPUs below a number lead to
pub record AreBelow (h : Host) (bytes : List ℕ) (found : List Successor) (n : ℕ) : Type 0 where
  pub each : All (λ s. IsSuccessor h bytes s.cpu s.ahead s.bytes.items) found
  pub work : All (λ s. HasWorkIn h bytes s.cpu) found
  pub below : (i : ℕ) (s : Successor) → slice_get found i ≡ Some s → s.cpu < n
  pub rising : (i j : ℕ) (s later : Successor) → i < j → slice_get found i ≡ Some s → slice_get found j ≡ Some later → s.cpu < later.cpu
  pub all : (c : ℕ) → c < n → IsIdleIn h bytes c ⊎ HasSuccessor h bytes found c

-- the CPUs from a number on have no work
abbrev pub IdleBeyond : Host → List ℕ → ℕ → Type 0
IdleBeyond h bytes n = (c : ℕ) → n ≤ c → IsIdleIn h bytes c

pub idle_beyond : (h : Host) (m : MachineState) (bytes : List ℕ) (n : ℕ) → IsStateOf h m bytes → ((c : ℕ) → has_cpu m.store c ≡ nat_lt c n)
    → IdleBeyond h bytes n
idle_beyond h m bytes n is serves c beyond =
    let nobody : (j : ℕ) (task : Task) (stage : Stage) → IsAt m.jobs c j task stage → ⊥ = λ j task stage here. (
    let there : nat_lt c n ≡ true = sym (serves c) ∙ subst (λ (d : ℕ). has_cpu m.store d ≡ true) here.of (is.of.stands.served j task here.listed) in
    let less = ltb-true c n there in
    omega arith) in
    (m, is, λ j task state left here. nobody j task (InHand state left) here, λ j task input here. nobody j task (Waiting input) here)

pub none_below : (h : Host) (bytes : List ℕ) → AreBelow h bytes [] 0
none_below h bytes = record {
  each = All-nil (λ s. IsSuccessor h bytes s.cpu s.ahead s.bytes.items);
  work = All-nil (λ s. HasWorkIn h bytes s.cpu);
  below = λ i s at. cc;
  rising = λ i j s later less at then. cc;
  all = λ c less. absurd (omega arith);
}

pub idle_below : (h : Host) (bytes : List ℕ) (found : List Successor) (n : ℕ) → AreBelow h bytes found n → IsIdleIn h bytes n → AreBelow h bytes found (n + 1)
idle_below h bytes found n are idle = record {
  each = are.each;
  work = are.work;
  below = λ i s at. (let less = are.below i s at in omega (arith, less));
  rising = are.rising;
  all = λ c less. elim (cases_lt c n) [
    | inl below ↦ are.all c below
    | inr past ↦ let same : n ≡ c = omega arith in inl (subst (λ (k : ℕ). IsIdleIn h bytes k) same idle)
  ];
}

still_has : (h : Host) (bytes : List ℕ) (found : List Successor) (more : List Successor) (c : ℕ) → HasSuccessor h bytes found c →
    HasSuccessor h bytes (found ++ more) c
still_has h bytes found more c (i, s, at, of, is) = (i, s, slice_get-front found more i (slice_get_within found i s at) ∙ at, of, is)

slice_get-end : (found : List Successor) (s : Successor) → slice_get (found ++ s ∷ []) (length found) ≡ Some s
slice_get-end [] s = refl
slice_get-end (x ∷ xs) s = slice_get-end xs s

-- an element of a list with one more
at_end : (found : List Successor) (s : Successor) (i : ℕ) (x : Successor) → slice_get (found ++ s ∷ []) i ≡ Some x
    → ((i < length found) × (slice_get found i ≡ Some x)) ⊎ ((i ≡ length found) × (x ≡ s))
at_end [] s zero x at = inr (refl, cc)
at_end [] s (suc i) x at = cc
at_end (y ∷ ys) s zero x at = inl (omega arith, at)
at_end (y ∷ ys) s (suc i) x at = elim (at_end ys s i x at) [
  | inl (less, there) ↦ inl (omega (arith, less), there)
  | inr (same, is) ↦ inr (omega (arith, same), is)
]

below_end : (found : List Successor) (s : Successor) (n : ℕ) → ((i : ℕ) (x : Successor) → slice_get found i ≡ Some x → x.cpu < n) → s.cpu ≡ n
    → (i : ℕ) (x : Successor) → slice_get (found ++ s ∷ []) i ≡ Some x → x.cpu < n + 1
below_end found s n below of i x at = elim (at_end found s i x at) [
  | inl (less, there) ↦ let far = below i x there in omega (arith, far)
  | inr (same, is) ↦ let cpu : x.cpu ≡ s.cpu = ap (λ (x : Successor). x.cpu) is in omega (arith, cpu, of)
]

rising_end : (found : List Successor) (s : Successor) (n : ℕ) → ((i : ℕ) (x : Successor) → slice_get found i ≡ Some x → x.cpu < n)
    → ((i j : ℕ) (x later : Successor) → i < j → slice_get found i ≡ Some x → slice_get found j ≡ Some later → x.cpu < later.cpu) → s.cpu ≡ n
    → (i j : ℕ) (x later : Successor) → i < j → slice_get (found ++ s ∷ []) i ≡ Some x → slice_get (found ++ s ∷ []) j ≡ Some later → x.cpu < later.cpu
rising_end found s n below rising of i j x later less at then = elim (at_end found s i x at) [
  | inl (near, there) ↦ elim (at_end found s j later then) [
    | inl (far, beyond) ↦ rising i j x later less there beyond
    | inr (same, is) ↦ let cpu : later.cpu ≡ s.cpu = ap (λ (x : Successor). x.cpu) is in let first = below i x there in omega (arith, cpu, of, first)
  ]
  | inr (same, is) ↦ elim (at_end found s j later then) [
    | inl (far, beyond) ↦ absurd (omega (arith, same, far, less))
    | inr (end, be) ↦ absurd (omega (arith, same, end, less))
  ]
]

pub next_below : (h : Host) (bytes : List ℕ) (found : List Successor) (n : ℕ) (s : Successor) → AreBelow h bytes found n
    → (s.cpu ≡ n) × HasWorkIn h bytes n × IsSuccessor h bytes n s.ahead s.bytes.items → AreBelow h bytes (found ++ s ∷ []) (n + 1)
next_below h bytes found n s are (of, works, is) = record {
  each = All-push (λ s. IsSuccessor h bytes s.cpu s.ahead s.bytes.items) found s are.each
      (subst (λ (c : ℕ). IsSuccessor h bytes c s.ahead s.bytes.items) (sym of) is);
  work = All-push (λ s. HasWorkIn h bytes s.cpu) found s are.work (subst (λ (c : ℕ). HasWorkIn h bytes c) (sym of) works);
  below = below_end found s n are.below of;
  rising = rising_end found s n are.below are.rising of;
  all = λ c less. elim (cases_lt c n) [
    | inl below ↦ still below (are.all c below)
    | inr past ↦ let same : n ≡ c = omega arith in inr (subst (λ (k : ℕ). HasSuccessor h bytes (found ++ s ∷ []) k) same
        (length found, s, slice_get-end found s, of, is))
  ];
}
  where
    still : {c : ℕ} → c < n → (IsIdleIn h bytes c ⊎ HasSuccessor h bytes found c) → IsIdleIn h bytes c ⊎ HasSuccessor h bytes (found ++ s ∷ []) c
    still {c} less (inl idle) = inl idle
    still {c} less (inr has) = inr (still_has h bytes found (s ∷ []) c has)

pub all_below : (h : Host) (bytes : List ℕ) (found : List Successor) (n end : ℕ) → AreBelow h bytes found n → end ≤ n → IdleBeyond h bytes
    end → AreSuccessors h bytes found
all_below h bytes found n end are past beyond = record {
  each = are.each;
  work = are.work;
  rising = are.rising;
  all = λ c. elim (cases_lt c n) [
    | inl below ↦ are.all c below
    | inr far ↦ inl (beyond c (omega arith))
  ];
}
