-- Worlds that are alike take the same turns.
use Rattle.std.proofs.Common.{◌≡◌, ◌∙◌, ℕ, zero, suc, List, Option, Some, None, inl, inr, refl, sym, ap, subst}
use Rattle.std.specs.Prelude.{slice_get}
use Rattle.bpf_shared.specs.Store.{Plain}
use Rattle.bpf_loader.specs.Loaded.{Loaded}
use Rattle.bpf_cpu.specs.declared.cpu.Cpu.{Cpu}
use Rattle.bpf_cpu.specs.declared.outcome.Outcome.{Outcome}
use Rattle.bpf_cpu.specs.declared.outcome.Outcome.TheVariants.{OutOfBudget}
use Rattle.bpf_cpu.specs.declared.outcome.Progress.{Progress}
use Rattle.bpf_cpu.specs.declared.outcome.Progress.TheVariants.{On, Done}
use Rattle.bpf_cpu.specs.State.{start}
use Rattle.bpf_cpu.specs.Task.{Stage, Task, InHand, Ended}
use Rattle.bpf_live.specs.Laws.{AlikeIsAnEquivalence, StepsAreAlike}
use Rattle.bpf_machine.specs.declared.machine.Turn.{Turn}
use Rattle.bpf_machine.specs.Hands.{IsAt, SomeWaits, with_stage}
use Rattle.bpf_machine.specs.Headways.{with_jobs}
use Rattle.bpf_machine.specs.Schedule.{World, outcome_after, Advances, Settles, GoesOn, TakesTurn}
use Rattle.bpf_machine.proofs.ListLaws.{with_end, lists_jobs, lists_along}
use Rattle.bpf_alike.specs.Worlds.{AllAlike, AreLike, IsAlike}
use Rattle.bpf_alike.proofs.Like.{like_pc, like_same, like_steps}
use Rattle.bpf_alike.proofs.AlikeJobs.{alike_hand, alike_at, alike_set, wait_now, free_alike, waits_alike, below_alike}

-- ---- a step of a job in hand
pub same_outcome : (answer : Progress) (n : ℕ) (new next : Cpu) → next.pc ≡ new.pc → outcome_after answer n next ≡ outcome_after answer n new
same_outcome (Done end) n new next e = refl
same_outcome On zero new next e = ap (λ (pc : ℕ). Some (OutOfBudget pc)) e
same_outcome On (suc n) new next e = refl

pub advance_alike : (steps : StepsAreAlike) (program : Loaded) (c : ℕ) (s : Plain) (old other : Cpu) (left : ℕ) (end : Option Outcome)
    (t : Plain) (new : Cpu) (rest : ℕ)
    → AreLike program old other → Advances program c s old left end t new rest
    → (next : Cpu) × Advances program c s other left end t next rest × AreLike program new next
advance_alike steps program c s old other zero end t new rest alike a =
    let same = like_pc program old other alike in (
      other,
      (a.0 ∙ ap (λ (pc : ℕ). Some (OutOfBudget pc)) (sym same), a.1, refl, a.3),
      subst (λ (x : Cpu). AreLike program x other) (sym a.2) alike,
    )
advance_alike steps program c s old other (suc n) end t new rest alike a =
    let r = like_steps program steps s.shape old other new a.0 a.1 alike a.2 in (
      r.0,
      (a.0, a.1, r.1, a.3, a.4 ∙ sym (same_outcome a.1 n new r.0 (like_pc program new r.0 r.2)), a.5),
      r.2,
    )

-- ---- a turn
module _ (equal : AlikeIsAnEquivalence) (steps : StepsAreAlike) (programs : List Loaded) where
  goes_alike : (w : World) (jobs : List Task) (c j : ℕ) (task new : Task) (state other : Cpu) (left : ℕ) (answer : Turn) (z : World) → w.programs ≡ programs
      → AllAlike programs w.jobs jobs
      → ((stage : Stage) → record new { stage = stage } ≡ record task { stage = stage }) → new.program ≡ task.program
      → ((program : Loaded) → slice_get programs task.program ≡ Some program → AreLike program state other)
      → GoesOn w c j task state left answer z → (later : List Task) × GoesOn (with_jobs w jobs) c j new other left answer
      (with_jobs z later) × AllAlike programs z.jobs later
  goes_alike w jobs c j task new state other left answer z known all same program alike g = settle g.1 g.6 g.7
    where
      here : slice_get programs task.program ≡ Some g.0
      here = ap (λ (ps : List Loaded). slice_get ps task.program) (sym known) ∙ g.5

      loaded : slice_get w.programs new.program ≡ Some g.0
      loaded = ap (slice_get w.programs) program ∙ g.5

      settle : (end : Option Outcome) → Advances g.0 c w.store state left end g.2 g.3 g.4 → Settles (record w { store = g.2 }) c j task g.3 g.4 end answer z
          → (later : List Task) × GoesOn (with_jobs w jobs) c j new other left answer (with_jobs z later) × AllAlike programs z.jobs later
      settle None a s =
          let made = advance_alike steps g.0 c w.store state other left None g.2 g.3 g.4 (alike g.0 here) a in
          let later = with_stage jobs j new (InHand made.0 g.4) in
          let one : IsAlike programs (record task { stage = InHand g.3 g.4 }) (record new { stage = InHand made.0 g.4 }) =
          inr (g.0, g.3, g.4, made.0, here, refl, same (InHand made.0 g.4), made.2) in (
            later,
            (g.0, None, g.2, made.0, g.4, loaded, made.1, (s.0, ap (λ (x : World). with_jobs x later) s.1)),
            subst (λ (ts : List Task). AllAlike programs ts later) (sym (ap (λ (x : World). x.jobs) s.1))
                (alike_set equal programs w.jobs jobs j (record task { stage = InHand g.3 g.4 }) (record new { stage = InHand made.0 g.4 }) all one),
          )
      settle (Some end) a s =
          let made = advance_alike steps g.0 c w.store state other left (Some end) g.2 g.3 g.4 (alike g.0 here) a in
          let later = with_stage jobs j new (Ended end) in
          let m : World = with_end w j task end s.0 in
          let is : z.jobs ≡ m.jobs = lists_jobs m c z s.3 in
          let both : AllAlike programs m.jobs later = alike_set equal programs w.jobs jobs j (record task { stage = Ended end })
          (record new { stage = Ended end }) all (inl (same (Ended end))) in
          let some : SomeWaits m.jobs c → SomeWaits later c = λ h. (h.0, h.1, h.2, wait_now equal programs m.jobs later both c h.0 h.1 h.2 h.3) in (
            later,
            (
              g.0,
              Some end,
              g.2,
              made.0,
              g.4,
              loaded,
              made.1,
              (
                s.0,
                s.1,
                s.2,
                lists_along m c z later some
                    (waits_alike equal programs m.jobs later both c) s.3,
              ),
            ),
            subst (λ (ts : List Task). AllAlike programs ts later) (sym is) both,
          )

  pub turn_alike : (w z : World) (jobs : List Task) (c : ℕ) (answer : Turn) → w.programs ≡ programs → AllAlike programs w.jobs jobs → TakesTurn w c answer z
      → (later : List Task) × TakesTurn (with_jobs w jobs) c answer (with_jobs z later) × AllAlike programs z.jobs later
  turn_alike w z jobs c answer known all (inl (j, task, state, left, at, g)) =
      let b = alike_at equal programs w.jobs jobs j task all at.listed in
      let h = alike_hand equal programs task b.0 state left b.2 at.at in
      let r = goes_alike w jobs c j task b.0 state h.0 left answer z known all (λ stage. ap (λ (t : Task). record t { stage = stage }) h.1)
      (ap (λ (t : Task). t.program) h.1) h.2 g in
      let there : IsAt jobs c j b.0 (InHand h.0 left) = record {
        listed = b.1;
        of = ap (λ (t : Task). t.cpu) h.1 ∙ at.of;
        at = ap (λ (t : Task). t.stage) h.1;
      } in
      (r.0, inl (j, b.0, h.0, left, there, r.1), r.2)
  turn_alike w z jobs c answer known all (inr (inl (free, a))) =
      let there = wait_now equal programs w.jobs jobs all c a.0 a.1 a.2 a.4 in
      let r = goes_alike (record w { store = a.3 }) jobs c a.0 a.1 a.1 (start c a.2) (start c a.2) a.1.budget answer z known all (λ stage. refl) refl
      (λ program loaded. like_same program (start c a.2)) a.7 in (
        r.0,
        inr (inl (
          free_alike equal programs w.jobs jobs all c free,
          (a.0, a.1, a.2, a.3, there, below_alike equal programs w.jobs jobs all c a.0 a.5, a.6, r.1),
        )),
        r.2,
      )
  turn_alike w z jobs c answer known all (inr (inr (free, waits, idle, same))) = (
    jobs,
    inr (inr (
      free_alike equal programs w.jobs jobs all c free,
      waits_alike equal programs w.jobs jobs all c waits,
      idle,
      ap
          (λ (x : World). with_jobs x jobs) same,
    )),
    subst (λ (x : World). AllAlike programs x.jobs jobs) (sym same) all,
  )
