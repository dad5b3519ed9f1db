-- The machine's parts fit each other still after one job's stage has changed.
use Rattle.std.proofs.Common.{◌≡◌, ◌≢◌, ℕ, ◌<◌, Bool, true, false, List, length, Some, ◌⊎◌, inl, inr, sym, ap, subst, ◌∙◌}
use Rattle.std.specs.Prelude.{slice_get}
use Rattle.bpf_base.proofs.Lists.{slice_get-set_known, slice_get-set_other}
use Rattle.bpf_shared.specs.declared.events.Span.{Span}
use Rattle.bpf_shared.proofs.Puts.{equal_or_not}
use Rattle.bpf_plain.specs.PlainStore.{has_cpu, is_running}
use Rattle.bpf_loader.specs.Loaded.{Loaded}
use Rattle.bpf_helpers.specs.Held.{AreHeld}
use Rattle.bpf_cpu.specs.declared.cpu.Cpu.{Cpu}
use Rattle.bpf_cpu.specs.Task.{Stage, Task, InHand}
use Rattle.bpf_machine.specs.Hands.{IsAt, IsFree, with_stage}
use Rattle.bpf_machine.specs.Machine.{MachineState}
use Rattle.bpf_machine.specs.Parts.{FitsHand}
use Rattle.bpf_machine.specs.Work.{HasInHand}
use Rattle.bpf_buffering.specs.Going.{LeavesOthers}
use Rattle.bpf_buffering.specs.Buffering.{Stands}

module _ (old new : MachineState) (c j : ℕ) (task : Task) (stage : Stage) (listed : slice_get old.jobs j ≡ Some task) (of : task.cpu ≡ c)
    (programs : new.programs ≡ old.programs)
    (jobs : new.jobs ≡ with_stage old.jobs j task stage) (others : LeavesOthers c old.store new.store) (stands : Stands old)
    (only : (k : ℕ) → k ≢ j → HasInHand old.jobs c k → ⊥) where
  abbrev task' : Task
  task' = record task { stage = stage }

  -- a job is the one that has changed, or another
  after : (k : ℕ) (t : Task) → slice_get new.jobs k ≡ Some t → ((k ≡ j) × (task' ≡ t)) ⊎ ((k ≢ j) × (slice_get old.jobs k ≡ Some t))
  after k t is =
      let there : slice_get (with_stage old.jobs j task stage) k ≡ Some t = subst (λ (ts : List Task). slice_get ts k ≡ Some t) jobs is in
      elim (equal_or_not k j) [
        | inl e ↦
            let both : Some task' ≡ Some t = sym (slice_get-set_known old.jobs j task' task listed) ∙ subst
            (λ (n : ℕ). slice_get (with_stage old.jobs j task stage) n ≡ Some t) e there in
            inl (e, cc)
        | inr ne ↦ inr (ne, sym (slice_get-set_other old.jobs j k task' ne) ∙ there)
      ]

  other_cpu : (d k : ℕ) (t : Task) (state : Cpu) (left : ℕ) → k ≢ j → IsAt old.jobs d k t (InHand state left) → d ≢ c
  other_cpu d k t state left ne at q = only k ne (t, state, left, record { listed = at.listed; of = at.of ∙ q; at = at.at })

  split : (d k : ℕ) → HasInHand new.jobs d k → ((k ≡ j) × (d ≡ c)) ⊎ ((k ≢ j) × HasInHand old.jobs d k)
  split d k (t, state, left, at) = elim (after k t at.listed) [
    | inl same ↦ inl (same.0, sym at.of ∙ ap (λ (u : Task). u.cpu) (sym same.1) ∙ of)
    | inr other ↦ inr (other.0, (t, state, left, record { listed = other.1; of = at.of; at = at.at }))
  ]

  one : (d k l : ℕ) → HasInHand new.jobs d k → HasInHand new.jobs d l → k ≡ l
  one d k l p q = elim (split d k p) [
    | inl a ↦ elim (split d l q) [
      | inl b ↦ a.0 ∙ sym b.0
      | inr b ↦ absurd (only l b.0 (subst (λ (n : ℕ). HasInHand old.jobs n l) a.1 b.1))
    ]
    | inr a ↦ elim (split d l q) [
      | inl b ↦ absurd (only k a.0 (subst (λ (n : ℕ). HasInHand old.jobs n k) b.1 a.1))
      | inr b ↦ stands.one d k l a.1 b.1
    ]
  ]

  -- where the job is in hand now, the CPU may go on with it; and where it has none in hand, it is in no run
  module _ (fits : (state : Cpu) (left : ℕ) → stage ≡ InHand state left → FitsHand new c task' state)
      (idle : IsFree new.jobs c → is_running new.store c ≡ false) where
    hand : (d k : ℕ) (t : Task) (state : Cpu) (left : ℕ) → IsAt new.jobs d k t (InHand state left) → FitsHand new d t state
    hand d k t state left at = elim (after k t at.listed) [
      | inl same ↦
          let cpu : c ≡ d = sym of ∙ ap (λ (u : Task). u.cpu) same.1 ∙ at.of in
          subst (λ (n : ℕ). FitsHand new n t state) cpu (subst (λ (u : Task). FitsHand new c u state) same.1
          (fits state left (ap (λ (u : Task). u.stage) same.1 ∙ at.at)))
      | inr other ↦
          let was : IsAt old.jobs d k t (InHand state left) = record { listed = other.1; of = at.of; at = at.at } in
          let f = stands.hand d k t state left was in
          let ne = other_cpu d k t state left other.0 was in
          record {
            number = f.number;
            program = f.program;
            loaded = ap (λ (ps : List Loaded). slice_get ps t.program) programs ∙ f.loaded;
            ready = f.ready;
            held = subst (λ (g : Span → Bool). AreHeld g state.held) (sym (others.held d ne)) f.held;
            runs = others.runs d ne ∙ f.runs;
          }
    ]

    free_before : (d : ℕ) → d ≢ c → IsFree new.jobs d → IsFree old.jobs d
    free_before d ne free k t state left at =
        let other : k ≢ j = λ q.
        let two : Some t ≡ Some task = sym at.listed ∙ ap (λ (n : ℕ). slice_get old.jobs n) q ∙ listed in
        let same : t ≡ task = cc in
        ne (sym at.of ∙ ap (λ (u : Task). u.cpu) same ∙ of)
        in
        free k t state left (record {
          listed = ap (λ (ts : List Task). slice_get ts k) jobs ∙ slice_get-set_other old.jobs j k task' other ∙
              at.listed;
          of = at.of;
          at = at.at;
        })

    pub stands_changed : Stands new
    stands_changed = record {
      served = λ k t is. elim (after k t is) [
        | inl same ↦ ap (λ (f : ℕ → Bool). f t.cpu) others.serves ∙ subst (λ (u : Task). has_cpu old.store u.cpu ≡ true) same.1 (stands.served j task listed)
        | inr other ↦ ap (λ (f : ℕ → Bool). f t.cpu) others.serves ∙ stands.served k t other.1
      ];
      loaded = λ k t is. subst (λ (ps : List Loaded). t.program < length ps) (sym programs) (elim (after k t is) [
        | inl same ↦ subst (λ (u : Task). u.program < length old.programs) same.1 (stands.loaded j task listed)
        | inr other ↦ stands.loaded k t other.1
      ]);
      hand = hand;
      one = one;
      idle = λ d free. elim (equal_or_not d c) [
        | inl e ↦ ap (is_running new.store) e ∙ idle (subst (λ (n : ℕ). IsFree new.jobs n) e free)
        | inr ne ↦ others.runs d ne ∙ stands.idle d (free_before d ne free)
      ];
    }
