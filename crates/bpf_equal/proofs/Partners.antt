-- Jobs and their partners are in the same stages, of the CPUs that change places.
use Rattle.std.proofs.Common.{◌≡◌, ◌≢◌, ℕ, ◌<◌, ◌⊎◌, List, Option, Some, None, inl, inr, refl, sym, ap, subst, ◌∙◌, arith}
use Rattle.std.specs.Prelude.{slice_get, slice_set}
use Rattle.std.proofs.lemmas.Bool.{cases_lt}
use Rattle.bpf_base.proofs.Lists.{slice_get-set_known, slice_get-set_other}
use Rattle.bpf_shared.specs.Shape.{Shape}
use Rattle.bpf_shared.proofs.Puts.{equal_or_not}
use Rattle.bpf_loader.specs.Loaded.{Loaded}
use Rattle.bpf_cpu.specs.declared.cpu.Cpu.{Cpu}
use Rattle.bpf_cpu.specs.declared.input.Input.{Input}
use Rattle.bpf_cpu.specs.Task.{Stage, Task, Waiting, InHand, Ended}
use Rattle.bpf_machine.specs.Hands.{IsAt, IsFree, NoneWaits, NoneWaitsBelow, SomeWaits}
use Rattle.bpf_equal.specs.Permutations.{Permutation}
use Rattle.bpf_equal.specs.States.{AreOneInput, AreOneState}
use Rattle.bpf_equal.specs.Worlds.{AreOneStage, ArePartners, IsBlind, IsPartner, KeepsOrder}

-- ---- stages
pub hand_of : (state : Cpu) (left : ℕ) (new : Stage) → AreOneStage (InHand state left) new → (other : Cpu) × (new ≡ InHand other left) × AreOneState state other
hand_of state left (InHand other rest) (one, same) = (other, ap (InHand other) same, one)
hand_of state left (Waiting input) e = let no : Waiting input ≡ InHand state left = e in cc
hand_of state left (Ended end) e = let no : Ended end ≡ InHand state left = e in cc

hand_from : (old : Stage) (other : Cpu) (left : ℕ) → AreOneStage old (InHand other left) → (state : Cpu) × (old ≡ InHand state left)
hand_from (InHand state rest) other left (one, same) = (state, ap (InHand state) (sym same))
hand_from (Waiting input) other left e = let no : InHand other left ≡ Waiting input = e in cc
hand_from (Ended end) other left e = let no : InHand other left ≡ Ended end = e in cc

wait_of : (input : Input) (new : Stage) → AreOneStage (Waiting input) new → (other : Input) × (new ≡ Waiting other) × AreOneInput input other
wait_of input (InHand other rest) e = let no : InHand other rest ≡ Waiting input = e in cc
wait_of input (Waiting other) one = (other, refl, one)
wait_of input (Ended end) e = let no : Ended end ≡ Waiting input = e in cc

wait_from : (old : Stage) (other : Input) → AreOneStage old (Waiting other) → (input : Input) × (old ≡ Waiting input)
wait_from (InHand state rest) other e = let no : Waiting other ≡ InHand state rest = e in cc
wait_from (Waiting input) other one = (input, refl)
wait_from (Ended end) other e = let no : Waiting other ≡ Ended end = e in cc

module _ (h : Shape) (programs : List Loaded) (cpus : Permutation) where
  abbrev Partner : Task → Task → Type 0
  Partner = IsPartner h programs cpus

  -- ---- one job
  -- the states are so of a job and its partner in hand
  abbrev pub Follows : Task → Task → Cpu → Cpu → Type 0
  Follows old new state other = ((new.cpu ≡ old.cpu) × (other ≡ state)) ⊎ (IsBlind h programs old.program × AreOneState state other)

  -- so is what both get, where they wait
  abbrev pub Awaits : Task → Task → Input → Input → Type 0
  Awaits old new input other = ((new.cpu ≡ old.cpu) × (other ≡ input)) ⊎ (IsBlind h programs old.program × AreOneInput input other)

  module _ (old new : Task) (partner : Partner old new) where
    pub hand_there : (state : Cpu) (left : ℕ) → old.stage ≡ InHand state left → (other : Cpu) × (new.stage ≡ InHand other left) × Follows old new state other
    hand_there state left at = elim partner.stage [
      | inl same ↦ (state, same.1 ∙ at, inl (same.0, refl))
      | inr one ↦
          let k = hand_of state left new.stage (subst (λ (s : Stage). AreOneStage s new.stage) at one.1) in
          (k.0, k.1, inr (one.0, k.2))
    ]

    pub hand_back : (other : Cpu) (left : ℕ) → new.stage ≡ InHand other left → (state : Cpu) × (old.stage ≡ InHand state left)
    hand_back other left at = elim partner.stage [
      | inl same ↦ (other, sym same.1 ∙ at)
      | inr one ↦ hand_from old.stage other left (subst (λ (s : Stage). AreOneStage old.stage s) at one.1)
    ]

    pub wait_there : (input : Input) → old.stage ≡ Waiting input → (other : Input) × (new.stage ≡ Waiting other) × Awaits old new input other
    wait_there input at = elim partner.stage [
      | inl same ↦ (input, same.1 ∙ at, inl (same.0, refl))
      | inr one ↦
          let k = wait_of input new.stage (subst (λ (s : Stage). AreOneStage s new.stage) at one.1) in
          (k.0, k.1, inr (one.0, k.2))
    ]

    wait_back : (other : Input) → new.stage ≡ Waiting other → (input : Input) × (old.stage ≡ Waiting input)
    wait_back other at = elim partner.stage [
      | inl same ↦ (other, sym same.1 ∙ at)
      | inr one ↦ wait_from old.stage other (subst (λ (s : Stage). AreOneStage old.stage s) at one.1)
    ]

    -- it is the CPU's that goes there
    pub same_cpu : (c : ℕ) → new.cpu ≡ cpus.to c → old.cpu ≡ c
    same_cpu c of = sym (cpus.back old.cpu) ∙ ap cpus.from (sym partner.cpu ∙ of) ∙ cpus.back c

  partner_of : (o p : Option Task) (x : Task) → o ≡ Some x → ArePartners h programs cpus o p → (y : Task) × (p ≡ Some y) × Partner x y
  partner_of None p x at both = let no : None ≡ Some x = at in cc
  partner_of (Some a) None x at both = absurd both
  partner_of (Some a) (Some b) x at both = let same : a ≡ x = cc in (b, refl, subst (λ (t : Task). Partner t b) same both)

  partner_from : (o p : Option Task) (y : Task) → p ≡ Some y → ArePartners h programs cpus o p → (x : Task) × (o ≡ Some x) × Partner x y
  partner_from o None y at both = let no : None ≡ Some y = at in cc
  partner_from None (Some b) y at both = absurd both
  partner_from (Some a) (Some b) y at both = let same : b ≡ y = cc in (a, refl, subst (λ (t : Task). Partner a t) same both)

  pub partners_at : (o p : Option Task) (x y : Task) → o ≡ Some x → p ≡ Some y → Partner x y → ArePartners h programs cpus o p
  partners_at o p x y at there partner =
      subst (λ (q : Option Task). ArePartners h programs cpus o q) (sym there)
      (subst (λ (q : Option Task). ArePartners h programs cpus q (Some y)) (sym at) partner)

  -- ---- all of them
  module _ (jobs : Permutation) (olds news : List Task) (each : (j : ℕ) → ArePartners h programs cpus (slice_get olds j) (slice_get news (jobs.to j))) where
    pub partner_at : (j : ℕ) (x : Task) → slice_get olds j ≡ Some x → (y : Task) × (slice_get news (jobs.to j) ≡ Some y) × Partner x y
    partner_at j x at = partner_of (slice_get olds j) (slice_get news (jobs.to j)) x at (each j)

    pub partner_back : (k : ℕ) (y : Task) → slice_get news k ≡ Some y → (x : Task) × (slice_get olds (jobs.from k) ≡ Some x) × Partner x y
    partner_back k y at =
        partner_from (slice_get olds (jobs.from k)) (slice_get news (jobs.to (jobs.from k))) y (ap (slice_get news) (jobs.forth k) ∙ at) (each (jobs.from k))

    pub wait_at : (c j : ℕ) (task : Task) (input : Input) → IsAt olds c j task (Waiting input) → (new : Task) × (other : Input) × IsAt news (cpus.to c)
        (jobs.to j) new (Waiting other) × Partner task new × Awaits task new input other
    wait_at c j task input at =
        let b = partner_at j task at.listed in
        let k = wait_there task b.0 b.2 input at.at in
        (b.0, k.0, record { listed = b.1; of = b.2.cpu ∙ ap cpus.to at.of; at = k.1 }, b.2, k.2)

    wait_before : (c k : ℕ) (new : Task) (input : Input) → IsAt news (cpus.to c) k new (Waiting input) → (old : Task) × (other : Input) × IsAt olds c
        (jobs.from k) old (Waiting other)
    wait_before c k new input at =
        let b = partner_back k new at.listed in
        let s = wait_back b.0 new b.2 input at.at in
        (b.0, s.0, record { listed = b.1; of = same_cpu b.0 new b.2 c at.of; at = s.1 })

    pub free_there : (c : ℕ) → IsFree olds c → IsFree news (cpus.to c)
    free_there c free k new other left at =
        let b = partner_back k new at.listed in
        let s = hand_back b.0 new b.2 other left at.at in
        free (jobs.from k) b.0 s.0 left (record { listed = b.1; of = same_cpu b.0 new b.2 c at.of; at = s.1 })

    pub none_there : (c : ℕ) → NoneWaits olds c → NoneWaits news (cpus.to c)
    none_there c none k new input at = let b = wait_before c k new input at in none (jobs.from k) b.0 b.1 b.2

    pub some_there : (c : ℕ) → SomeWaits olds c → SomeWaits news (cpus.to c)
    some_there c (j, task, input, at) = let b = wait_at c j task input at in (jobs.to j, b.0, b.1, b.2)

    pub none_below : (c j : ℕ) (task : Task) (input : Input) → KeepsOrder olds jobs → IsAt olds c j task (Waiting input) → NoneWaitsBelow olds c j
        → NoneWaitsBelow news (cpus.to c) (jobs.to j)
    none_below c j task input order first none k new more below at =
        let b = wait_before c k new more at in
        let i = jobs.from k in
        elim (cases_lt i j) [
          | inl low ↦ none i b.0 b.1 low b.2
          | inr high ↦ elim (equal_or_not i j) [
            | inl same ↦ let is : k ≡ jobs.to j = sym (jobs.forth k) ∙ ap jobs.to same in omega (arith, is)
            | inr apart ↦
                let past : jobs.to j < jobs.to i = order j i task b.0 first.listed b.2.listed (first.of ∙ sym b.2.of) (omega (arith, high, apart)) in
                let is = jobs.forth k in
                omega (arith, past, is)
          ]
        ]

    -- ---- a job and its partner change
    module _ (j : ℕ) (was is : Task) (listed : slice_get olds j ≡ Some was) (there : slice_get news (jobs.to j) ≡ Some is) (x y : Task) where
      pub set_partners : Partner x y → (k : ℕ) → ArePartners h programs cpus (slice_get (slice_set olds j x) k) (slice_get (slice_set news (jobs.to j) y)
          (jobs.to k))
      set_partners partner k = elim (equal_or_not k j) [
        | inl e ↦
            let P : ℕ → Type 0 = λ i. ArePartners h programs cpus (slice_get (slice_set olds j x) i) (slice_get (slice_set news (jobs.to j) y) (jobs.to i)) in
            subst P (sym e)
            (partners_at _ _ x y (slice_get-set_known olds j x was listed) (slice_get-set_known news (jobs.to j) y is there) partner)
        | inr ne ↦
            let apart : jobs.to k ≢ jobs.to j = λ e. ne (sym (jobs.back k) ∙ ap jobs.from e ∙ jobs.back j) in
            subst (λ (q : Option Task). ArePartners h programs cpus (slice_get (slice_set olds j x) k) q)
            (sym (slice_get-set_other news (jobs.to j) (jobs.to k) y apart))
            (subst (λ (q : Option Task). ArePartners h programs cpus q (slice_get news (jobs.to k))) (sym (slice_get-set_other olds j k x ne)) (each k))
      ]

      -- what was listed there, of that CPU
      listed_before : x.cpu ≡ was.cpu → (k : ℕ) (t : Task) → slice_get (slice_set olds j x) k ≡ Some t → (u : Task) ×
          (slice_get olds k ≡ Some u) × (u.cpu ≡ t.cpu)
      listed_before same k t at = elim (equal_or_not k j) [
        | inl e ↦
            let both : Some x ≡ Some t = sym (slice_get-set_known olds j x was listed) ∙ subst (λ (i : ℕ). slice_get (slice_set olds j x) i ≡ Some t) e at in
            let one : x ≡ t = cc in
            (was, ap (slice_get olds) e ∙ listed, sym same ∙ ap (λ (u : Task). u.cpu) one)
        | inr ne ↦ (t, sym (slice_get-set_other olds j k x ne) ∙ at, refl)
      ]

      pub set_order : x.cpu ≡ was.cpu → KeepsOrder olds jobs → KeepsOrder (slice_set olds j x) jobs
      set_order same order i k one other at_i at_k cpu below =
          let a = listed_before same i one at_i in
          let b = listed_before same k other at_k in
          order i k a.0 b.0 a.1 b.1 (a.2 ∙ cpu ∙ sym b.2) below
