-- Turns that lead on from worlds lead on from those that are alike, also those that no store sees.
use Rattle.std.proofs.Common.{◌≡◌, ◌∙◌, ℕ, zero, suc, List, Some, None, inl, inr, refl, sym, ap, subst}
use Rattle.std.specs.Prelude.{slice_get}
use Rattle.bpf_shared.specs.Store.{Plain}
use Rattle.bpf_loader.specs.Loaded.{Loaded}
use Rattle.bpf_cpu.specs.declared.cpu.Cpu.{Cpu}
use Rattle.bpf_cpu.specs.declared.outcome.Outcome.TheVariants.{OutOfBudget}
use Rattle.bpf_cpu.specs.declared.outcome.Progress.{Progress}
use Rattle.bpf_cpu.specs.declared.outcome.Progress.TheVariants.{On, Done}
use Rattle.bpf_cpu.specs.Step.{Step}
use Rattle.bpf_cpu.specs.Task.{Task, InHand}
use Rattle.bpf_live.specs.Laws.{AlikeIsAnEquivalence, OneStateIsAlike, StepsAreAlike}
use Rattle.bpf_machine.specs.declared.machine.ahead.Headway.{Headway}
use Rattle.bpf_machine.specs.declared.machine.ahead.Headway.TheVariants.{Idle, Turns}
use Rattle.bpf_machine.specs.Hands.{IsAt, with_stage}
use Rattle.bpf_machine.specs.Headways.{RunsAhead, TakesQuietTurns, with_jobs}
use Rattle.bpf_machine.specs.Machine.{MachineState, Shows}
use Rattle.bpf_machine.specs.Rounds.{HaveEnded}
use Rattle.bpf_machine.specs.Schedule.{World, outcome_after, Advances}
use Rattle.bpf_machine.specs.Work.{HasInHand}
use Rattle.bpf_machine.proofs.CoverLaws.{LeadsBy}
use Rattle.bpf_machine.proofs.FallLaws.{turns_fall}
use Rattle.bpf_alike.specs.Worlds.{AllAlike, AreLike, ButForDead, IsAlike}
use Rattle.bpf_alike.proofs.AlikeJobs.{all_again, all_back, alike_at, alike_ended, alike_hand}
use Rattle.bpf_alike.proofs.AlikeJobs.{alike_set, at_back, below_alike, free_alike, wait_now, waits_alike}
use Rattle.bpf_alike.proofs.AlikeTurns.{same_outcome, turn_alike}
use Rattle.bpf_alike.proofs.Like.{like_once, like_pc}

-- ---- turns that no store sees
goes_on : (answer : Progress) (n : ℕ) (new : Cpu) → None ≡ outcome_after answer n new → answer ≡ On
goes_on (Done end) n new e = let none : None ≡ Some end = e in cc
goes_on On n new e = refl

module _ (one : OneStateIsAlike) (program : Loaded) (c : ℕ) (some : Plain) where
  abbrev Quietly : Cpu → ℕ → Cpu → ℕ → Type 0
  Quietly old left new rest = (s : Plain) → Advances program c s old left None s new rest

  advance_quietly : (old other : Cpu) (left : ℕ) (new : Cpu) (rest : ℕ) → AreLike program old other → Quietly old left new rest
      → (next : Cpu) × Quietly other left next rest × AreLike program new next
  advance_quietly old other zero new rest alike made = let a = made some in let none : None ≡ Some (OutOfBudget old.pc) = a.0 in cc
  advance_quietly old other (suc n) new rest alike made =
      let a = made some in
      let on : a.1 ≡ On = goes_on a.1 n new a.4 in
      let r = like_once program one old other new some.shape a.0 alike (subst (λ (p : Progress). Step some.shape program old a.0 p new) on a.2) in
      let same = like_pc program new r.0 r.1 in (
        r.0,
        λ s.
            let b = made s in
            let further : b.1 ≡ On = goes_on b.1 n new b.4 in
            let step = r.2 s.shape b.0 (subst (λ (p : Progress). Step s.shape program old b.0 p new) further b.2) in (
              b.0,
              b.1,
              subst (λ (p : Progress). Step s.shape program other b.0 p r.0) (sym further) step,
              b.3,
              b.4 ∙ sym
                  (same_outcome b.1 n new r.0 same),
              b.5,
            ),
        r.1,
      )

  turns_quietly : (n : ℕ) (old other : Cpu) (left : ℕ) (new : Cpu) (rest : ℕ) → AreLike program old other → TakesQuietTurns program c n old left new rest
      → (next : Cpu) × TakesQuietTurns program c n other left next rest × AreLike program new next
  turns_quietly zero old other left new rest alike made = (other, (refl, made.1), subst (λ (x : Cpu). AreLike program x other) (sym made.0) alike)
  turns_quietly (suc n) old other left new rest alike made =
      let a = advance_quietly old other left made.0 made.1 alike made.2 in
      let r = turns_quietly n made.0 a.0 made.1 new rest a.2 made.3 in
      (r.0, (a.0, made.1, a.1, r.1), r.2)

-- ---- turns ahead
module _ (equal : AlikeIsAnEquivalence) (one : OneStateIsAlike) (mid : MachineState) (some : Plain) where
  abbrev All : List Task → List Task → Type 0
  All = AllAlike mid.programs

  abbrev other : List Task → MachineState
  other jobs = record mid { jobs = jobs }

  -- the machine with jobs that are alike goes so far ahead
  abbrev Ahead : (jobs : List Task) → ℕ → Headway → MachineState → Type 0
  Ahead jobs c h new = (later : List Task) × RunsAhead (other jobs) c h (other later) × All new.jobs later × (new ≡ other new.jobs)

  in_hand : (olds news : List Task) → All olds news → (c k : ℕ) → HasInHand news c k → HasInHand olds c k
  in_hand olds news all c k (task, state, left, at) = let b = at_back equal mid.programs olds news all c k task state left at in (b.0, b.1, left, b.2)

  ahead_alike : (jobs : List Task) (c : ℕ) (h : Headway) (new : MachineState) → All mid.jobs jobs → RunsAhead mid c h new → Ahead jobs c h new
  ahead_alike jobs c Idle new all (same, free, waits) = (
    jobs,
    (refl, free_alike equal mid.programs mid.jobs jobs all c free, waits_alike equal mid.programs mid.jobs jobs all c waits),
    subst (λ (m : MachineState). All m.jobs jobs) (sym same) all,
    subst (λ (m : MachineState). m ≡ other m.jobs) (sym same) refl,
  )
  ahead_alike jobs c (Turns n) new all (inl (same, none, next)) =
      let w = next.1 in (
        jobs,
        inl (
          refl,
          none,
          (
            next.0,
            (
              free_alike equal mid.programs mid.jobs jobs all c w.0,
              (w.1.0, w.1.1, wait_now equal mid.programs mid.jobs jobs all c next.0 w.1.0 w.1.1 w.1.2),
              below_alike equal mid.programs mid.jobs jobs all c next.0 w.2,
            ),
          ),
        ),
        subst (λ (m : MachineState). All m.jobs jobs) (sym same) all,
        subst (λ (m : MachineState). m ≡ other m.jobs) (sym same) refl,
      )
  ahead_alike jobs c (Turns n) new all (inr (j, (task, state, left, program, later, rest, at, loaded, made, is), only)) =
      let b = alike_at equal mid.programs mid.jobs jobs j task all at.listed in
      let h = alike_hand equal mid.programs task b.0 state left b.2 at.at in
      let r = turns_quietly one program c some n state h.0 left later rest (h.2 program loaded) made in
      let there : IsAt jobs c j b.0 (InHand h.0 left) = record {
        listed = b.1;
        of = ap (λ (t : Task). t.cpu) h.1 ∙ at.of;
        at = ap (λ (t : Task). t.stage) h.1;
      } in
      let last = with_stage jobs j b.0 (InHand r.0 rest) in
      let alike : IsAlike mid.programs (record task { stage = InHand later rest }) (record b.0 { stage = InHand r.0 rest }) =
      inr (program, later, rest, r.0, loaded, refl, ap (λ (t : Task). record t { stage = InHand r.0 rest }) h.1, r.2) in
      let both : All (with_stage mid.jobs j task (InHand later rest)) last =
      alike_set equal mid.programs mid.jobs jobs j (record task { stage = InHand later rest }) (record b.0 { stage = InHand r.0 rest }) all alike in
      let jobs_are : new.jobs ≡ with_stage mid.jobs j task (InHand later rest) = ap (λ (m : MachineState). m.jobs) is in
      let now : All new.jobs last = subst (λ (ts : List Task). All ts last) (sym jobs_are) both in (
        last,
        inr (
          j,
          (b.0, h.0, left, program, r.0, rest, there, ap (slice_get mid.programs) (ap (λ (t : Task). t.program) h.1) ∙ loaded, r.1, refl),
          λ k hand. only k (in_hand new.jobs last now c k hand),
        ),
        now,
        is ∙ ap other (sym jobs_are),
      )

-- ---- what is true of worlds but for dead registers
module _ (equal : AlikeIsAnEquivalence) where
  pub dead_once : (P : World → Type 0) (w : World) → ButForDead (ButForDead P) w → ButForDead P w
  dead_once P w (jobs, all, (more, again, shown)) = (more, all_again equal w.programs w.jobs jobs more all again, shown)

  pub dead_ended : (P : World → Type 0) (w : World) → ButForDead P w → HaveEnded w.jobs → P w
  dead_ended P w (jobs, all, shown) ended =
      subst (λ (ts : List Task). P (with_jobs w ts)) (alike_ended equal w.programs w.jobs jobs all ended) shown

-- where turns lead from the ones to the others, so they do but for dead registers
module _ (equal : AlikeIsAnEquivalence) (steps : StepsAreAlike) (one : OneStateIsAlike) (P : World → Type 0) (Q : Headway → World → Type 0) (c : ℕ) where
  pub leads_alike : LeadsBy P Q c → LeadsBy (ButForDead P) (λ h u. ButForDead (Q h) u) c
  leads_alike leads v (jobs, all, shown) =
      let r = leads (with_jobs v jobs) shown in
      let z = r.4 in
      let back = all_back equal v.programs v.jobs jobs all in
      let mine = turn_alike equal steps v.programs (with_jobs v jobs) z.0 v.jobs c r.0 refl back z.1 in
      let mid : MachineState = r.1 in
      let new : MachineState = r.2 in
      let over : mid.programs ≡ v.programs = sym z.2.programs ∙ (turns_fall (with_jobs v jobs) z.0 c r.0 z.1).2 in
      let all_z : AllAlike mid.programs z.0.jobs mine.0 = subst (λ (ps : List Loaded). AllAlike ps z.0.jobs mine.0) (sym over) mine.2 in
      let all_mid : AllAlike mid.programs mid.jobs mine.0 = subst (λ (ts : List Task). AllAlike mid.programs ts mine.0) z.2.jobs all_z in
      let ahead = ahead_alike equal one mid z.0.store mine.0 c r.3 new all_mid r.5 in
      let there : Shows (record mid { jobs = mine.0 }) (with_jobs z.0 mine.0) =
      record { store = z.2.store; sound = z.2.sound; programs = z.2.programs; jobs = refl; lists = z.2.lists } in (
        r.0,
        record mid { jobs = mine.0 },
        record mid { jobs = ahead.0 },
        r.3,
        (with_jobs z.0 mine.0, mine.1, there),
        ahead.1,
        λ y seen.
            let kept_one : Shows (record mid { jobs = new.jobs }) (with_jobs y new.jobs) =
            record { store = seen.store; sound = seen.sound; programs = seen.programs; jobs = refl; lists = seen.lists } in
            let held = r.6 (with_jobs y new.jobs) (subst (λ (m : MachineState). Shows m (with_jobs y new.jobs)) (sym ahead.3) kept_one) in
            let here = subst (λ (ps : List Loaded). AllAlike ps ahead.0 new.jobs) (sym seen.programs) (all_back equal mid.programs new.jobs ahead.0 ahead.2) in
            (new.jobs, subst (λ (ts : List Task). AllAlike y.programs ts new.jobs) (sym seen.jobs) here, held),
      )
