-- Where turns lead ever deeper but for dead registers, and no machine is as deep as a budget, none is
-- used up.
use Rattle.std.proofs.Common.{◌≡◌, ◌∙◌, ◌<◌, ◌≤◌, ◌⊎◌, ℕ, List, Some, inl, inr, sym, ap, subst}
use Rattle.std.specs.Prelude.{slice_get}
use Rattle.bpf_shared.specs.Laws.{CallsHaveOneReply}
use Rattle.bpf_loader.specs.Loaded.{Loaded}
use Rattle.bpf_loader.specs.Laws.{OneInstructionBegins}
use Rattle.bpf_mem.specs.Laws.{WritesAreDetermined}
use Rattle.bpf_cpu.specs.Task.{Task}
use Rattle.bpf_live.specs.Laws.{AlikeIsAnEquivalence, OneStateIsAlike, StepsAreAlike}
use Rattle.bpf_machine.specs.Budgets.{depth_at}
use Rattle.bpf_machine.specs.Cover.{TurnsAhead}
use Rattle.bpf_machine.specs.Hands.{IsFree, NoneWaits}
use Rattle.bpf_machine.specs.Headways.{turns_in, with_jobs}
use Rattle.bpf_machine.specs.Machine.{MachineState, Shows}
use Rattle.bpf_machine.specs.Schedule.{World}
use Rattle.bpf_machine.proofs.CoverLaws.{LeadsBy}
use Rattle.bpf_machine.proofs.EndLaws.{IsShownAt, one_machine}
use Rattle.bpf_alike.proofs.SpareLaws.{DeeperBy, IsSparingBy, Richer, none_runs_out}
use Rattle.bpf_alike.specs.Budgets.{AlikeBudgetsSuffice, AreSparingAlike, LeadsDeeperAlike}
use Rattle.bpf_alike.specs.Ends.{IsShownAlikeAt, IsShownAlikeRichlyAt}
use Rattle.bpf_alike.specs.Worlds.{AllAlike, ButForDead, IsAlike}
use Rattle.bpf_alike.proofs.AlikeAhead.{leads_alike}
use Rattle.bpf_alike.proofs.AlikeJobs.{alike_at, all_back, all_same, free_alike, waits_alike}
use Rattle.bpf_alike.proofs.AlikeRicher.{dead_and_rich}

alike_budget : (programs : List Loaded) (old new : Task) → IsAlike programs old new → new.budget ≡ old.budget
alike_budget programs old new (inl same) = ap (λ (t : Task). t.budget) same
alike_budget programs old new (inr a) = ap (λ (t : Task). t.budget) a.6

module _ (equal : AlikeIsAnEquivalence) (steps : StepsAreAlike) (one : OneStateIsAlike) (kept : List MachineState) (depths : List ℕ) (least : ℕ) where
  -- where turns lead from a kept machine to what this is so of, so they do but for dead registers
  module _ (K : World → Type 0) (i : ℕ) (m new : MachineState) (c n : ℕ) (at : slice_get kept i ≡ Some m) (turns : TurnsAhead m c n new)
      (is_kept : (y : World) → Shows new y → K y) where
    leads_here : LeadsBy (IsShownAt kept i) (λ h u. (turns_in h ≡ n) × K u) c
    leads_here v (other, there, shows) =
        let same = one_machine kept i other m there at in (
          turns.0,
          turns.1,
          new,
          turns.2,
          turns.3 v (subst (λ (x : MachineState). Shows x v) same shows),
          turns.4,
          λ y seen. (turns.5, is_kept y seen),
        )

    pub leads_ahead : LeadsBy (IsShownAlikeAt kept i) (λ h u. (turns_in h ≡ n) × ButForDead K u) c
    leads_ahead v shown =
        let r = leads_alike equal steps one (IsShownAt kept i) (λ h u. (turns_in h ≡ n) × K u) c leads_here v shown in
        (r.0, r.1, r.2, r.3, r.4, r.5, λ y seen. (let q = r.6 y seen in (q.2.0, (q.0, q.1, q.2.1))))

  deeper_alike : (i : ℕ) (m : MachineState) (c : ℕ) → slice_get kept i ≡ Some m → LeadsDeeperAlike kept depths i m c
      → DeeperBy (IsShownAlikeAt kept) (Richer (IsShownAlikeAt kept)) depths i c
  deeper_alike i m c at (new, k, n, turns, is_kept, deeper) = (
    k,
    n,
    λ v shown.
        let r = leads_ahead (IsShownAlikeRichlyAt kept k) i m new c n at turns is_kept v shown in
        (r.0, r.1, r.2, r.3, r.4, r.5, λ y seen. (let q = r.6 y seen in (q.0, dead_and_rich equal (IsShownAt kept k) y q.1))),
    deeper,
  )

  -- what a kept machine that is less deep than each budget shows is so, but for dead registers
  pub sparing_by : (C : ℕ → World → Type 0) (i : ℕ) (m : MachineState) → depth_at depths i < least
      → ((j : ℕ) (task : Task) → slice_get m.jobs j ≡ Some task → least ≤ task.budget)
      → ((c : ℕ) → (IsFree m.jobs c × NoneWaits m.jobs c) ⊎ DeeperBy (IsShownAlikeAt kept) C depths i c)
      → (v : World) (jobs : List Task) → AllAlike v.programs v.jobs jobs → Shows m (with_jobs v jobs)
      → IsSparingBy (IsShownAlikeAt kept) C depths least i v
  sparing_by C i m depth budgets turns v jobs all shows =
      let back = all_back equal v.programs v.jobs jobs all in
      record {
        depth = depth;
        budgets = λ j task there. (
            let b = alike_at equal v.programs v.jobs jobs j task all there in
            subst (λ (n : ℕ). least ≤ n) (alike_budget v.programs task b.0 b.2)
            (budgets j b.0 (ap (λ (ts : List Task). slice_get ts j) (sym shows.jobs) ∙ b.1)));
        turns = λ c. elim (turns c) [
          | inl idle ↦
              inl (
                free_alike equal v.programs jobs v.jobs back c (subst (λ (ts : List Task). IsFree ts c) (sym shows.jobs) idle.0),
                waits_alike equal v.programs jobs v.jobs back c (subst (λ (ts : List Task). NoneWaits ts c) (sym shows.jobs) idle.1),
              )
          | inr deeper ↦ inr deeper
        ];
      }

  sparing_alike : AreSparingAlike kept depths least → (i : ℕ) (v : World) → IsShownAlikeAt kept i v
      → IsSparingBy (IsShownAlikeAt kept) (Richer (IsShownAlikeAt kept)) depths least i v
  sparing_alike sparing i v (jobs, all, (m, at, shows)) =
      let s = sparing i m at in
      sparing_by (Richer (IsShownAlikeAt kept)) i m s.depth s.budgets
      (λ c. elim (s.turns c) [
        | inl idle ↦ inl idle
        | inr deeper ↦ inr (deeper_alike i m c at deeper)
      ]) v jobs all shows

pub alike_budgets_suffice : AlikeIsAnEquivalence → StepsAreAlike → OneStateIsAlike → WritesAreDetermined → OneInstructionBegins → CallsHaveOneReply
    → AlikeBudgetsSuffice
alike_budgets_suffice equal steps one law begins replies kept depths least w z schedule sparing fresh (i, m, at, shows) runs =
    none_runs_out (IsShownAlikeAt kept) depths least (sparing_alike equal steps one kept depths least sparing) law begins replies i w z schedule fresh
    (w.jobs, all_same equal w.programs w.jobs, (m, at, shows)) runs
