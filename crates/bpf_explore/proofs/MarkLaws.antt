-- From which kept machines an end can be reached.
use Rattle.std.proofs.Common.{◌≡◌, ◌∙◌, ℕ, zero, suc, ◌+◌, ◌-◌, ◌<◌, ◌≤◌, ◌⊎◌, Bool, true, false, List, [], ◌∷◌, Some, inl, inr, length}
use Rattle.std.proofs.Common.{replicate, refl, sym, ap, subst, arith}
use Rattle.std.specs.Prelude.{slice_get, slice_set}
use Rattle.std.proofs.lemmas.Bool.{cases_lt}
use Rattle.bpf_base.proofs.Lists.{slice_get-set_other}
use Rattle.bpf_shared.proofs.Puts.{equal_or_not}
use Rattle.bpf_machine.specs.Machine.{MachineState}
use Rattle.bpf_machine.specs.Rounds.{HaveEnded}
use Rattle.bpf_machine.specs.Cover.{TurnsTo, TurnsAhead}
use Rattle.bpf_equal.specs.declared.peers.Peer.{Peer}
use Rattle.bpf_equal.specs.Patient.{AreStuckPermuted, IsStuckPermuted, LeadsToPermuted}
use Rattle.bpf_alike.proofs.Like.{all_like}
use Rattle.bpf_machine.proofs.CoverLaws.{idle_turns_to}
use Rattle.bpf_machine.proofs.PatientLaws.{all_same}
use Rattle.bpf_explore.specs.declared.turns.Edge.{Edge}
use Rattle.bpf_explore.specs.Album.{HaveEndedAt, NoneRanOutAt}
use Rattle.bpf_explore.specs.Search.{IsIdleAt}
use Rattle.bpf_explore.specs.Private.Edges.{IsEdgeOf}
use Rattle.bpf_explore.specs.Private.Ends.{LeadsToEnd, LeadToEnds, unmarked}
use Rattle.bpf_explore.proofs.StateLaws.{there}

-- ---- turns
turns_to : (old : MachineState) (c n : ℕ) (new : MachineState) → TurnsAhead old c n new → TurnsTo old c new
turns_to old c n new t = (t.0, t.1, t.2, t.3, t.4)

module _ (peers : List Peer) where
  pub edge_leads : (kept : List MachineState) (i c : ℕ) (e : Edge) → IsEdgeOf peers kept i c e → LeadsToPermuted peers kept i c e.to
  edge_leads kept i c e (from, own, is) = (
    is.old,
    is.new,
    subst (λ (k : ℕ). slice_get kept k ≡ Some is.old) from is.there,
    subst (λ (k : ℕ). TurnsTo is.old k is.new) own (turns_to is.old e.cpu e.ahead is.new is.turns),
    is.is_kept,
  )

  pub idle_leads : (kept : List MachineState) (i c : ℕ) → i < length kept → IsIdleAt kept i c → LeadsToPermuted peers kept i c i
  idle_leads kept i c inside idle =
      let h = there kept i inside in
      let none = idle h.0 h.1 in (
        h.0,
        h.0,
        h.1,
        idle_turns_to h.0 c none.0 none.1,
        λ w shows.
            (w, (0, refl), (w.jobs, all_same w.jobs, (w.jobs, all_like w.programs w.jobs, (h.0, h.1, shows)))),
      )

  -- ---- a kept machine
  pub ended_leads : (kept : List MachineState) (i : ℕ) → i < length kept → HaveEndedAt kept i → NoneRanOutAt kept i → LeadsToEnd peers kept i
  ended_leads kept i inside ended none =
      let h = there kept i inside in
      (0, (h.0, h.1, ended h.0 h.1, none h.0 h.1))

  pub next_leads : (kept : List MachineState) (marks : List Bool) (i c k : ℕ) → LeadsToPermuted peers kept i c k → LeadToEnds peers kept marks → slice_get
      marks k ≡ Some true → LeadsToEnd peers kept i
  next_leads kept marks i c k leads all at =
      let r = all k at in
      (suc r.0, (c, k, leads, r.1))

  -- the turns of the CPUs below a number lead to no end
  abbrev pub StuckBelow : List MachineState → List Bool → ℕ → ℕ → Type 0
  StuckBelow kept marks i n = (c : ℕ) → c < n → (k : ℕ) × LeadsToPermuted peers kept i c k × (slice_get marks k ≡ Some false)

  pub next_stuck : (kept : List MachineState) (marks : List Bool) (i n k : ℕ) → StuckBelow kept marks i n → LeadsToPermuted peers kept i n k →
      slice_get marks k ≡ Some false → StuckBelow kept marks i (n + 1)
  next_stuck kept marks i n k far leads at c less = elim (cases_lt c n) [
    | inl below ↦ far c below
    | inr past ↦ let e : n ≡ c = omega arith in subst (λ (d : ℕ). (j : ℕ) × LeadsToPermuted peers kept i d j ×
        (slice_get marks j ≡ Some false)) e (k, leads, at)
  ]

  pub is_stuck : (kept : List MachineState) (marks : List Bool) (i n cpus : ℕ) → i < length kept → (HaveEndedAt kept i → ⊥) → NoneRanOutAt
      kept i → ((j c : ℕ) → cpus ≤ c → IsIdleAt kept j c) → cpus ≤ n → StuckBelow kept marks i n → slice_get marks i ≡ Some false →
      IsStuckPermuted peers kept marks i
  is_stuck kept marks i n cpus inside works none idle past far off = record {
    works = λ m at ended. works (λ other there. (
        let two : Some m ≡ Some other = sym at ∙ there in
        let one : m ≡ other = cc in
        subst (λ (x : MachineState). HaveEnded x.jobs) one ended));
    none = none;
    turns = λ c. elim (cases_lt c n) [
      | inl below ↦ far c below
      | inr above ↦ (i, idle_leads kept i c inside (idle i c (omega arith)), off)
    ];
  }

  -- ---- marks
  pub none_marked : (kept : List MachineState) (n : ℕ) → LeadToEnds peers kept (replicate n false)
  none_marked kept n i at = absurd (never n i at)
    where
      never : (n i : ℕ) → slice_get (replicate n false) i ≡ Some true → ⊥
      never zero i at = cc
      never (suc n) zero at = cc
      never (suc n) (suc i) at = never n i at

  pub one_more_marked : (kept : List MachineState) (marks : List Bool) (i : ℕ) (was : Bool) → slice_get marks i ≡ Some was → LeadToEnds peers kept
      marks → LeadsToEnd peers kept i → LeadToEnds peers kept (slice_set marks i true)
  one_more_marked kept marks i was there all leads k at = elim (equal_or_not k i) [
    | inl e ↦ subst (LeadsToEnd peers kept) (sym e) leads
    | inr ne ↦ all k (sym (slice_get-set_other marks i k true ne) ∙ at)
  ]

pub fewer_unmarked : (marks : List Bool) (i : ℕ) → slice_get marks i ≡ Some false → unmarked (slice_set marks i true) < unmarked marks
fewer_unmarked [] i at = cc
fewer_unmarked (true ∷ marks) zero at = cc
fewer_unmarked (false ∷ marks) zero at = omega arith
fewer_unmarked (true ∷ marks) (suc i) at = fewer_unmarked marks i at
fewer_unmarked (false ∷ marks) (suc i) at = let far = fewer_unmarked marks i at in omega arith

-- what a round marks
pub record Counted (old new : List Bool) (more : Bool) : Type 0 where
  pub fewer : more ≡ true → unmarked new < unmarked old
  pub no_more : unmarked new ≤ unmarked old

pub none_counted : (marks : List Bool) → Counted marks marks false
none_counted marks = record { fewer = λ is. cc; no_more = omega arith }

pub next_counted : (old mid new : List Bool) (more marked now : Bool) → Counted old mid more → (marked ≡ true → unmarked new < unmarked mid)
    → (marked ≡ false → new ≡ mid) → (now ≡ true → (more ≡ true) ⊎ (marked ≡ true)) → Counted old new now
next_counted old mid new more true now far fewer same some =
    let one = fewer refl in
    let least = far.no_more in
    record { fewer = λ is. omega arith; no_more = omega arith }
next_counted old mid new more false now far fewer same some =
    let one : unmarked new ≡ unmarked mid = ap unmarked (same refl) in
    let least = far.no_more in record {
      fewer = λ is. elim (some is) [ inl before ↦ let less = far.fewer before in omega arith | inr same_too ↦ absurd (never same_too) ];
      no_more = omega arith;
    }
  where
    never : false ≡ true → ⊥
    never e = cc

module _ (peers : List Peer) where
  -- those from a place on
  abbrev pub StuckFrom : List MachineState → List Bool → ℕ → Type 0
  StuckFrom kept marks n = (i : ℕ) → n ≤ i → slice_get marks i ≡ Some false → IsStuckPermuted peers kept marks i

  pub next_stuck_from : (kept : List MachineState) (old new : List Bool) (count step place : ℕ) → step < count → place ≡ count - 1 - step →
      StuckFrom kept old (count - step) → new ≡ old → (slice_get old place ≡ Some false → IsStuckPermuted peers kept old place)
      → StuckFrom kept new (count - (step + 1))
  next_stuck_from kept old new count step place less here far same one = subst
      (λ (marks : List Bool). StuckFrom kept marks (count - (step + 1))) (sym same) (λ i past off. elim (cases_lt i (count - step)) [
        | inl below ↦
            let e : place ≡ i = omega arith in
            subst (IsStuckPermuted peers kept old) e (one (ap (slice_get old) e ∙ off))
        | inr above ↦ far i above off
      ])

  pub all_stuck : (kept : List MachineState) (marks : List Bool) (count step : ℕ) → count ≤ step → StuckFrom kept marks (count - step) →
      AreStuckPermuted peers kept marks
  all_stuck kept marks count step past far i off = far i (omega arith) off
