-- Two equal CPUs may be exchanged.
use Rattle.std.proofs.Common.{◌≡◌, ◌≢◌, ◌∙◌, ℕ, ◌<◌, ◌==◌, if◌then◌else◌, Bool, Option, Some, None, ◌⊎◌, inl, inr, refl, sym, ap, subst}
use Rattle.std.proofs.Common.{eq-eqb, ne_eqb}
use Rattle.std.specs.Prelude.{slice_get}
use mathlib.Core.Path.{fun_ext}
use Rattle.bpf_shared.specs.Store.{Plain}
use Rattle.bpf_shared.proofs.Puts.{equal_or_not}
use Rattle.bpf_cpu.specs.Task.{Task}
use Rattle.bpf_machine.specs.Schedule.{World}
use Rattle.bpf_equal.specs.Equal.{AreEqual, AreEqualIn, EqualCpusAreExchanged, IsCounterpart, OutcomesAreExchanged}
use Rattle.bpf_equal.specs.Permutations.{Permutation, StaysBelow, exchanged}
use Rattle.bpf_equal.specs.Stores.{store_permuted}
use Rattle.bpf_equal.specs.Worlds.{ArePartners, IsBlind, IsPartner, IsPermuted}
use Rattle.bpf_equal.proofs.Back.{partners_end_alike}
use Rattle.bpf_equal.proofs.Turns.{schedules_are_permuted}

module _ (c d : ℕ) where
  abbrev pub E : ℕ → ℕ
  E = exchanged c d

  pub first_goes : (x : ℕ) → x ≡ c → E x ≡ d
  first_goes x e = ap (λ (b : Bool). if b then d else if x == d then c else x) (eq-eqb x c e)

  past_first : (x : ℕ) → x ≢ c → E x ≡ (if x == d then c else x)
  past_first x ne = ap (λ (b : Bool). if b then d else if x == d then c else x) (ne_eqb x c ne)

  pub second_goes : (x : ℕ) → x ≢ c → x ≡ d → E x ≡ c
  second_goes x ne e = past_first x ne ∙ ap (λ (b : Bool). if b then c else x) (eq-eqb x d e)

  pub others_stay : (x : ℕ) → x ≢ c → x ≢ d → E x ≡ x
  others_stay x ne apart = past_first x ne ∙ ap (λ (b : Bool). if b then c else x) (ne_eqb x d apart)

  second_too : d ≢ c → E d ≡ c
  second_too ne = second_goes d ne refl

  -- a property of the two and of what stays
  by_cases : (P : ℕ → ℕ → Type 0) → P c d → P d c → ((x : ℕ) → x ≢ c → x ≢ d → P x x) → (x : ℕ) → P x (E x)
  by_cases P one two rest x = elim (equal_or_not x c) [
    | inl e ↦ subst (P x) (sym (first_goes x e)) (subst (λ (y : ℕ). P y d) (sym e) one)
    | inr ne ↦ elim (equal_or_not x d) [
      | inl f ↦ subst (P x) (sym (second_goes x ne f)) (subst (λ (y : ℕ). P y c) (sym f) two)
      | inr apart ↦ subst (P x) (sym (others_stay x ne apart)) (rest x ne apart)
    ]
  ]

  pub twice : (x : ℕ) → E (E x) ≡ x
  twice x = by_cases (λ x y. E y ≡ x) second_back (first_goes c refl) (λ y ne apart. others_stay y ne apart) x
    where
      second_back : E d ≡ c
      second_back = elim (equal_or_not d c) [
        | inl e ↦ first_goes d e ∙ e
        | inr ne ↦ second_too ne
      ]

  abbrev pub exchange : Permutation
  exchange = record { to = E; from = E; back = twice; forth = twice }

  pub same_through : {A : Type 0} (f : ℕ → A) → f c ≡ f d → (x : ℕ) → f (E x) ≡ f x
  same_through f same x = by_cases (λ x y. f y ≡ f x) (sym same) same (λ y ne apart. refl) x

  pub moved : (x : ℕ) → (E x ≡ x) ⊎ ((x ≡ c) ⊎ (x ≡ d))
  moved x = by_cases (λ x y. (y ≡ x) ⊎ ((x ≡ c) ⊎ (x ≡ d))) (inr (inl refl)) (inr (inr refl)) (λ y ne apart. inl refl) x

-- the two are exchanged the other way round too
pub either_way : (c d x : ℕ) → exchanged c d x ≡ exchanged d c x
either_way c d x = elim (equal_or_not x c) [
  | inl is_c ↦ elim (equal_or_not x d) [
    | inl is_d ↦ first_goes c d x is_c ∙ (sym is_d ∙ is_c) ∙ sym (first_goes d c x is_d)
    | inr not_d ↦ first_goes c d x is_c ∙ sym (second_goes d c x not_d is_c)
  ]
  | inr not_c ↦ elim (equal_or_not x d) [
    | inl is_d ↦ second_goes c d x not_c is_d ∙ sym (first_goes d c x is_d)
    | inr not_d ↦ others_stay c d x not_c not_d ∙ sym (others_stay d c x not_d not_c)
  ]
]

pub exchanged_itself : (c x : ℕ) → exchanged c c x ≡ x
exchanged_itself c x = elim (equal_or_not x c) [
  | inl is ↦ first_goes c c x is ∙ sym is
  | inr ne ↦ others_stay c c x ne ne
]

-- ---- a store in which two CPUs are equal
module _ (s : Plain) (c d : ℕ) (equal : AreEqualIn s c d) where
  pub same_store : s ≡ store_permuted (exchange c d) s
  same_store =
      let with_flags : (ℕ → Bool) → (ℕ → ℕ → Bool) → (ℕ → ℕ → Bool) → Plain = λ running held kept. record s
      { running = running; held = held; kept = kept } in
      sym (
      ap (λ (r : ℕ → Bool). with_flags r (λ x. s.held (exchanged c d x)) (λ x. s.kept (exchanged c d x)))
      (fun_ext (same_through c d s.running equal.running))
      ∙ ap (λ (f : ℕ → ℕ → Bool). with_flags s.running f (λ x. s.kept (exchanged c d x))) (fun_ext (same_through c d s.held equal.held))
      ∙ ap (λ (f : ℕ → ℕ → Bool). with_flags s.running s.held f) (fun_ext (same_through c d s.kept equal.kept))
      )

  pub stays : StaysBelow s.shape.cpus (exchange c d)
  stays k inside = elim (equal_or_not k c) [
    | inl e ↦ both (subst (λ (n : ℕ). n < s.shape.cpus) (sym (first_goes c d k e)) equal.inside.1)
    | inr ne ↦ elim (equal_or_not k d) [
      | inl f ↦ both (subst (λ (n : ℕ). n < s.shape.cpus) (sym (second_goes c d k ne f)) equal.inside.0)
      | inr apart ↦ both (subst (λ (n : ℕ). n < s.shape.cpus) (sym (others_stay c d k ne apart)) inside)
    ]
  ]
    where
      both : exchanged c d k < s.shape.cpus → (exchanged c d k < s.shape.cpus) × (exchanged c d k < s.shape.cpus)
      both low = (low, low)

module _ (w : World) (c d : ℕ) (jobs : Permutation) (equal : AreEqual w c d jobs) where
  abbrev cpus : Permutation
  cpus = exchange c d

  abbrev Are : Option Task → Option Task → Type 0
  Are = ArePartners w.store.shape w.programs cpus

  -- a job of another CPU is its own partner
  itself : (task : Task) → exchanged c d task.cpu ≡ task.cpu → IsPartner w.store.shape w.programs cpus task task
  itself task same = record { cpu = sym same; program = refl; budget = refl; stage = inl (refl, refl) }

  counterpart : (task other : Task) → IsBlind w.store.shape w.programs task.program → IsCounterpart c d task other
      → IsPartner w.store.shape w.programs cpus task other
  counterpart task other blind is = record { cpu = is.cpu; program = is.program; budget = is.budget; stage = inr (blind, is.stage) }

  partners : (j : ℕ) (o : Option Task) → slice_get w.jobs j ≡ o → Are o (slice_get w.jobs (jobs.to j))
  partners j None at = subst (Are None) (sym (equal.count j at)) tt
  partners j (Some task) at = elim (moved c d task.cpu) [
    | inl same ↦
        let here : slice_get w.jobs (jobs.to j) ≡ Some task = ap (slice_get w.jobs) (equal.others j task at same) ∙ at in
        subst (Are (Some task)) (sym here) (itself task same)
    | inr one ↦
        let m = equal.moved j task at one in
        subst (Are (Some task)) (sym m.1.1) (counterpart task m.1.0 m.0 m.1.2)
  ]

  pub exchanged_so : IsPermuted cpus jobs w w
  exchanged_so = record {
    store = same_store w.store c d equal.store;
    programs = refl;
    each = λ j. partners j (slice_get w.jobs j) refl;
    order = equal.order;
    lists = sym (fun_ext (same_through c d w.lists equal.lists));
    stays = stays w.store c d equal.store;
  }

pub equal_cpus_are_exchanged : EqualCpusAreExchanged
equal_cpus_are_exchanged w c d jobs equal = (exchange c d, λ x. (refl, refl), exchanged_so w c d jobs equal)

pub outcomes_are_exchanged : OutcomesAreExchanged
outcomes_are_exchanged w z c d jobs schedule equal runs =
    let r = schedules_are_permuted (exchange c d) jobs w w z schedule (exchanged_so w c d jobs equal) runs in
    (r.0, r.1, λ j. partners_end_alike (exchange c d) jobs z r.0 j r.2)
