-- Where turns lead ever deeper, and no machine is as deep as a budget, none is used up.
use Rattle.std.proofs.Common.{◌≡◌, ◌≢◌, ◌∙◌, ◌+◌, ◌<◌, ◌≤◌, ◌⊎◌, ℕ, zero, suc, List, [], ◌∷◌, Option, Some, None, inl, inr, refl, sym, ap, subst, arith}
use Rattle.bpf_shared.specs.Shape.{Shape}
use Rattle.std.specs.Prelude.{slice_get}
use Rattle.bpf_base.proofs.Lists.{slice_get-set_known}
use Rattle.bpf_shared.specs.Laws.{CallsHaveOneReply}
use Rattle.bpf_shared.specs.declared.events.Event.{Event}
use Rattle.bpf_loader.specs.Loaded.{Loaded}
use Rattle.bpf_loader.specs.Laws.{OneInstructionBegins}
use Rattle.bpf_mem.specs.Laws.{WritesAreDetermined}
use Rattle.bpf_cpu.specs.declared.cpu.Cpu.{Cpu}
use Rattle.bpf_cpu.specs.declared.input.Input.{Input}
use Rattle.bpf_cpu.specs.declared.outcome.Progress.{Progress}
use Rattle.bpf_cpu.specs.declared.outcome.Progress.TheVariants.{On, Done}
use Rattle.bpf_cpu.specs.declared.outcome.Outcome.{Outcome}
use Rattle.bpf_cpu.specs.declared.outcome.Outcome.TheVariants.{OutOfBudget}
use Rattle.bpf_cpu.specs.State.{start}
use Rattle.bpf_cpu.specs.Step.{Step}
use Rattle.bpf_cpu.specs.Task.{Stage, Task, Waiting, InHand, Ended}
use Rattle.bpf_machine.specs.declared.machine.Turn.{Turn}
use Rattle.bpf_machine.specs.declared.machine.Turn.TheVariants as turn
use Rattle.bpf_machine.specs.declared.machine.ahead.Headway.{Headway}
use Rattle.bpf_machine.specs.declared.machine.ahead.Headway.TheVariants.{Idle, Turns}
use Rattle.bpf_machine.specs.Hands.{IsAt, IsFree, NoneWaits, with_stage}
use Rattle.bpf_machine.specs.Schedule.{World, outcome_after, Advances, Settles, GoesOn, TakesTurn, RunsSchedule}
use Rattle.bpf_machine.specs.Laws.{IsFresh}
use Rattle.bpf_machine.specs.Work.{HasInHand}
use Rattle.bpf_machine.specs.Headways.{turns_in, Precedes, FitsHeadway, with_jobs, IsAheadOf}
use Rattle.bpf_machine.specs.Cover.{IsAhead}
use Rattle.bpf_machine.specs.Patient.{NoneRanOut, IsRicher, AsRich}
use Rattle.bpf_machine.specs.Budgets.{depth_at}
use Rattle.bpf_machine.proofs.ListLaws.{with_end, lists_jobs}
use Rattle.bpf_machine.proofs.DeterminedTurns.{IsWorld, one_turn, fresh_world, Changed, Same, Other, changed}
use Rattle.bpf_machine.proofs.HeadwayLaws.{before, behind, free_behind, none_behind}
use Rattle.bpf_machine.proofs.CoverLaws.{now, now_is, others_are, LeadsBy, comes_made, comes_new, none_is_ahead, nobody_ahead}
use Rattle.bpf_machine.proofs.PatientLaws.{all_same, rich_at, rich_again, rich_turn, rich_world, hand_rich, hand_back, wait_now, Richly, enriched_by}
use Rattle.bpf_cpu.proofs.OutLaws.{step_never_out}

-- ---- a job goes on that has two steps left
-- it makes one of them; or it ends, and not out of budget
abbrev Went : List Task → ℕ → Task → ℕ → List Task → Type 0
Went jobs j task left news =
    ((new : Cpu) × (rest : ℕ) × (rest + 1 ≡ left) × (news ≡ with_stage jobs j task (InHand new rest)))
    ⊎ ((end : Outcome) × ((pc : ℕ) → end ≡ OutOfBudget pc → ⊥) × (news ≡ with_stage jobs j task (Ended end)))

not_none : (answer : Progress) (n : ℕ) (new old : Cpu) (end : Outcome) (shape : Shape) (program : Loaded) (events : List Event)
    → Step shape program old events answer new → 0 < n → Some end ≡ outcome_after answer n new → (pc : ℕ) → end ≡ OutOfBudget pc → ⊥
not_none (Done other) n new old end shape program events step some e pc out =
    let both : Some end ≡ Some other = e in
    let same : other ≡ OutOfBudget pc = cc in
    step_never_out old new pc shape program events (subst (λ (o : Outcome). Step shape program old events (Done o) new) same step)
not_none On zero new old end shape program events step some e pc out = absurd (omega arith)
not_none On (suc n) new old end shape program events step some e pc out = let no : Some end ≡ None = e in cc

went : (w : World) (c j : ℕ) (task : Task) (state : Cpu) (left : ℕ) (answer : Turn) (z : World) → 2 ≤ left → GoesOn w c j task state left answer z
    → Went w.jobs j task left z.jobs
went w c j task state left answer z two g = settle g.1 left two g.6 g.7
  where
    settle : (end : Option Outcome) (n : ℕ) → 2 ≤ n → Advances g.0 c w.store state n end g.2 g.3 g.4 → Settles (record w { store = g.2 }) c
        j task g.3 g.4 end answer z → Went w.jobs j task n z.jobs
    settle end zero two' a s = absurd (omega arith)
    settle None (suc n) two' a s =
        let rest : g.4 ≡ n = a.5 in
        let sum : g.4 + 1 ≡ suc n = omega arith in
        inl (g.3, g.4, sum, ap (λ (x : World). x.jobs) s.1)
    settle (Some end) (suc n) two' a s =
        let some : 0 < n = omega arith in
        inr (end, not_none a.1 n g.3 state end w.store.shape g.0 a.0 a.2 some a.4, lists_jobs (with_end (record w { store = g.2 }) j task end s.0) c z s.3)

-- ---- steps left, of each job in hand
abbrev pub HasSteps : List Task → (ℕ → ℕ) → ℕ → Type 0
HasSteps jobs ahead depth = (c j : ℕ) (task : Task) (state : Cpu) (left : ℕ) → IsAt jobs c j task (InHand state left) → task.budget + ahead c ≤ left + depth

module _ (jobs news : List Task) (c j : ℕ) (task : Task) (stage : Stage) (at : IsAt jobs c j task stage)
    (only : (k : ℕ) (other : Task) (state : Cpu) (left : ℕ) → IsAt jobs c k other (InHand state left) → k ≡ j) where
  set_budget : (now : Stage) (k : ℕ) (other : Task) → k ≡ j → slice_get (with_stage jobs j task now) k ≡ Some other → other.budget ≡ task.budget
  set_budget now k other e there =
      let one : Some (record task { stage = now }) ≡ Some other = sym
      (slice_get-set_known jobs j (record task { stage = now }) task at.listed) ∙ subst
      (λ (n : ℕ). slice_get (with_stage jobs j task now) n ≡ Some other) e there in
      let same : record task { stage = now } ≡ other = cc in
      ap (λ (t : Task). t.budget) (sym same)

  -- a job in hand of what is left
  data HandNow (d k : ℕ) (other : Task) (state : Cpu) (left : ℕ) (now : Stage) : Type 0 where
    ThisOne : d ≡ c → other.budget ≡ task.budget → InHand state left ≡ now → HandNow d k other state left now
    Elsewhere : d ≢ c → IsAt jobs d k other (InHand state left) → HandNow d k other state left now

  hand_now : (now : Stage) (d k : ℕ) (other : Task) (state : Cpu) (left : ℕ) → IsAt (with_stage jobs j task now) d k other (InHand state left)
      → HandNow d k other state left now
  hand_now now d k other state left there = go (changed jobs c j task stage now d k other (InHand state left) at there)
    where
      go : Changed jobs c j now d k other (InHand state left) → HandNow d k other state left now
      go (Same is of e) = ThisOne of (set_budget now k other is there.listed) e
      go (Other apart was) = Elsewhere (λ of. apart (only k other state left (subst (λ (b : ℕ). IsAt jobs b k other (InHand state left)) of was))) was

  module _ (f g : ℕ → ℕ) (others : (d : ℕ) → d ≢ c → f d ≡ g d) (old deep left : ℕ) (more : old ≤ deep) (steps : HasSteps jobs f old)
      (enough : task.budget + g c + 1 ≤ left + deep) where
    steps_after : Went jobs j task left news → HasSteps news g deep
    steps_after (inl (new, rest, sum, same)) d k other state now there = go
        (hand_now (InHand new rest) d k other state now (subst (λ (ts : List Task). IsAt ts d k other (InHand state now)) same there))
      where
        go : HandNow d k other state now (InHand new rest) → other.budget + g d ≤ now + deep
        go (ThisOne of budget e) =
            let lefts : now ≡ rest = cc in
            let ahead : g d ≡ g c = ap g of in
            omega arith
        go (Elsewhere apart was) =
            let before : other.budget + f d ≤ now + old = steps d k other state now was in
            let ahead : f d ≡ g d = others d apart in
            omega arith
    steps_after (inr (end, not_out, same)) d k other state now there = go
        (hand_now (Ended end) d k other state now (subst (λ (ts : List Task). IsAt ts d k other (InHand state now)) same there))
      where
        go : HandNow d k other state now (Ended end) → other.budget + g d ≤ now + deep
        go (ThisOne of budget e) = cc
        go (Elsewhere apart was) =
            let before : other.budget + f d ≤ now + old = steps d k other state now was in
            let ahead : f d ≡ g d = others d apart in
            omega arith

  none_after : (left : ℕ) → NoneRanOut jobs → Went jobs j task left news → NoneRanOut news
  none_after left none (inl (new, rest, sum, same)) k other pc there ended = go
      (changed jobs c j task stage (InHand new rest) other.cpu k other (Ended (OutOfBudget pc)) at
      (record { listed = subst (λ (ts : List Task). slice_get ts k ≡ Some other) same there; of = refl; at = ended }))
    where
      go : Changed jobs c j (InHand new rest) other.cpu k other (Ended (OutOfBudget pc)) → ⊥
      go (Same is of e) = cc
      go (Other apart was) = none k other pc was.listed was.at
  none_after left none (inr (end, not_out, same)) k other pc there ended = go
      (changed jobs c j task stage (Ended end) other.cpu k other (Ended (OutOfBudget pc)) at
      (record { listed = subst (λ (ts : List Task). slice_get ts k ≡ Some other) same there; of = refl; at = ended }))
    where
      go : Changed jobs c j (Ended end) other.cpu k other (Ended (OutOfBudget pc)) → ⊥
      go (Same is of e) = let out : end ≡ OutOfBudget pc = cc in not_out pc out
      go (Other apart was) = none k other pc was.listed was.at

-- ---- budgets stay
richer_budget : (old new : Task) → IsRicher old new → new.budget ≡ old.budget
richer_budget old new (inl same) = ap (λ (t : Task). t.budget) same
richer_budget old new (inr a) = ap (λ (t : Task). t.budget) a.4

precedes_budget : (programs : List Loaded) (n : ℕ) (old new : Task) → Precedes programs n old new → new.budget ≡ old.budget
precedes_budget programs n old new (inl a) = ap (λ (t : Task). t.budget) a.0
precedes_budget programs n old new (inr a) = ap (λ (t : Task). t.budget) a.7

-- ---- worlds of which something is true by a number, and each number has a depth
-- the CPU's turn, with n turns of it that no store sees, leads from the i-th to what is so of one that is
-- deeper
abbrev pub DeeperBy : (P C : ℕ → World → Type 0) → List ℕ → ℕ → ℕ → Type 0
DeeperBy P C depths i c = (k : ℕ) × (n : ℕ) × LeadsBy (P i) (λ h u. (turns_in h ≡ n) × C k u) c × (depth_at depths i + n + 1 ≤ depth_at depths k)

-- the i-th is less deep than each budget, and each CPU with work leads deeper
pub record IsSparingBy (P C : ℕ → World → Type 0) (depths : List ℕ) (least i : ℕ) (v : World) : Type 0 where
  pub depth : depth_at depths i < least
  pub budgets : (j : ℕ) (task : Task) → slice_get v.jobs j ≡ Some task → least ≤ task.budget
  pub turns : (c : ℕ) → (IsFree v.jobs c × NoneWaits v.jobs c) ⊎ DeeperBy P C depths i c

-- the i-th is true of the world, but for richer jobs and turns ahead, and each job in hand has as many
-- steps left as its budget, but for those of the depth
pub record IsSparedBy (P : ℕ → World → Type 0) (depths : List ℕ) (z : World) : Type 0 where
  pub i : ℕ
  pub v : World
  pub headways : ℕ → Headway
  pub jobs : List Task
  pub rich : AsRich z.jobs jobs
  pub shown : P i v
  pub same : with_jobs v jobs ≡ with_jobs z jobs
  pub ahead : IsAheadOf (IsAhead headways) headways jobs v
  pub steps : HasSteps z.jobs (λ c. turns_in (headways c)) (depth_at depths i)
  pub none : NoneRanOut z.jobs

-- something else is true of that world
pub spared_so : (P Q : ℕ → World → Type 0) (depths : List ℕ) (z : World) (s : IsSparedBy P depths z) → Q s.i s.v → IsSparedBy Q depths z
spared_so P Q depths z s shown = record {
  i = s.i;
  v = s.v;
  headways = s.headways;
  jobs = s.jobs;
  rich = s.rich;
  shown = shown;
  same = s.same;
  ahead = s.ahead;
  steps = s.steps;
  none = s.none;
}

-- with richer jobs
abbrev pub Richer : (ℕ → World → Type 0) → ℕ → World → Type 0
Richer P k u = Richly (P k) u

pub spared_rich : (P : ℕ → World → Type 0) (depths : List ℕ) (z : World) → IsSparedBy (Richer P) depths z → IsSparedBy P depths z
spared_rich P depths z s =
    let e = enriched_by (with_jobs z s.jobs) s.v s.headways s.shown.0 s.shown.1 s.same s.ahead in
    record {
      i = s.i;
      v = with_jobs s.v s.shown.0;
      headways = s.headways;
      jobs = e.0;
      rich = rich_again z.jobs s.jobs e.0 s.rich e.1;
      shown = s.shown.2;
      same = e.2;
      ahead = e.3;
      steps = s.steps;
      none = s.none;
    }

-- before the first turn
pub first_spared : (P : ℕ → World → Type 0) (depths : List ℕ) (i : ℕ) (w : World) → IsFresh w → P i w → IsSparedBy P depths w
first_spared P depths i w fresh shown = record {
  i = i;
  v = w;
  headways = none_is_ahead;
  jobs = w.jobs;
  rich = all_same w.jobs;
  shown = shown;
  same = refl;
  ahead = nobody_ahead w;
  steps = λ c j task state left there. (
      let waits = fresh.waits j task there.listed in
      let no : Waiting waits.0 ≡ InHand state left = sym waits.1 ∙ there.at in cc);
  none = λ j task pc there ended. (
      let waits = fresh.waits j task there in
      let no : Waiting waits.0 ≡ Ended (OutOfBudget pc) = sym waits.1 ∙ ended in cc);
}

module _ (P C : ℕ → World → Type 0) (depths : List ℕ) (least : ℕ) (stays : (k : ℕ) (u : World) → P k u → C k u)
    (low : (k : ℕ) (u : World) → C k u → depth_at depths k < least) (sparing : (i : ℕ) (v : World) → P i v → IsSparingBy P C depths least i v) where
  abbrev IsSpared : World → Type 0
  IsSpared = IsSparedBy P depths

  abbrev IsSparedThere : World → Type 0
  IsSparedThere = IsSparedBy C depths

  stays_spared : (z : World) → IsSpared z → IsSparedThere z
  stays_spared z s = spared_so P C depths z s (stays s.i s.v s.shown)

  module _ (z : World) (s : IsSpared z) where
    least_is : (j : ℕ) (task : Task) → slice_get z.jobs j ≡ Some task → least ≤ task.budget
    least_is j task at =
        let b = rich_at z.jobs s.jobs j task s.rich at in
        let a = before s.v.programs (λ c. turns_in (s.headways c)) s.jobs s.v.jobs s.ahead.each j b.0 b.1 in
        let budget = (sparing s.i s.v s.shown).budgets j a.0 a.1 in
        let one = richer_budget task b.0 b.2 in
        let two = precedes_budget s.v.programs (turns_in (s.headways b.0.cpu)) b.0 a.0 a.2 in
        omega arith

  module _ (law : WritesAreDetermined) (begins : OneInstructionBegins) (replies : CallsHaveOneReply) (z z' : World) (c : ℕ) (answer : Turn)
      (world : IsWorld z) (s : IsSpared z) (progress : TakesTurn z c answer z') where
    abbrev p : World
    p = with_jobs z s.jobs

    -- the CPU's turn leads to what the k-th shows so
    module _ (k : ℕ) (other : Turn) (p' u : World) (h : Headway) (taken : TakesTurn p c other p') (shown : C k u)
        (same : with_jobs u p'.jobs ≡ p') (ahead : IsAheadOf (IsAhead (now s.headways c h)) (now s.headways c h) p'.jobs u)
        (more : depth_at depths s.i ≤ depth_at depths k)
        (hand : (j : ℕ) (task : Task) (state : Cpu) (left : ℕ) → IsAt z.jobs c j task (InHand state left) → (2 ≤ left) ×
        (task.budget + turns_in h + 1 ≤ left + depth_at depths k))
        (begun : (j : ℕ) (task : Task) (input : Input) → IsFree z.jobs c → IsAt z.jobs c j task (Waiting input) → (2 ≤ task.budget) ×
        (task.budget + turns_in h + 1 ≤ task.budget + depth_at depths k)) where
      there : (steps : HasSteps z'.jobs (λ d. turns_in (now s.headways c h d)) (depth_at depths k)) → NoneRanOut z'.jobs → IsSparedThere z'
      there steps none =
          let r = rich_turn z s.jobs c answer z' s.rich progress none in
          let one = (one_turn law begins replies p c other answer p' (with_jobs z' r.0) (rich_world z s.jobs s.rich world) taken r.1).worlds in
          let new = now s.headways c h in
          record {
            i = k;
            v = u;
            headways = new;
            jobs = r.0;
            rich = r.2;
            shown = shown;
            same = subst (λ (x : World). with_jobs u x.jobs ≡ x) one same;
            ahead = subst (λ (x : World). IsAheadOf (IsAhead new) new x.jobs u) one ahead;
            steps = steps;
            none = none;
          }

      others : (d : ℕ) → d ≢ c → turns_in (s.headways d) ≡ turns_in (now s.headways c h d)
      others d ne = ap turns_in (others_are s.headways c h d ne)

      at_c : turns_in h ≡ turns_in (now s.headways c h c)
      at_c = ap turns_in (sym (now_is s.headways c h))

      spared_by : TakesTurn z c answer z' → IsSparedThere z'
      spared_by (inl (j, task, state, left, at, g)) =
          let bound = hand j task state left at in
          let only : (k : ℕ) (other : Task) (now : Cpu) (rest : ℕ) → IsAt z.jobs c k other (InHand now rest) → k ≡ j = λ k other now rest
          too. world.one c k j other task now state rest left too at in
          let w = went z c j task state left answer z' bound.0 g in
          let enough : task.budget + turns_in (now s.headways c h c) + 1 ≤ left + depth_at depths k = subst
          (λ (n : ℕ). task.budget + n + 1 ≤ left + depth_at depths k) at_c bound.1 in
          there (steps_after z.jobs z'.jobs c j task (InHand state left) at only (λ d. turns_in (s.headways d))
          (λ d. turns_in (now s.headways c h d)) others (depth_at depths s.i) (depth_at depths k) left more s.steps enough w)
          (none_after z.jobs z'.jobs c j task (InHand state left) at only left s.none w)
      spared_by (inr (inl (free, a))) =
          let j = a.0 in
          let task = a.1 in
          let at = a.4 in
          let bound = begun j task a.2 free at in
          let only : (k : ℕ) (other : Task) (now : Cpu) (rest : ℕ) → IsAt z.jobs c k other (InHand now rest) → k ≡ j = λ k other now rest
          too. absurd (free k other now rest too) in
          let w = went (record z { store = a.3 }) c j task (start c a.2) task.budget answer z' bound.0 a.7 in
          let enough : task.budget + turns_in (now s.headways c h c) + 1 ≤ task.budget + depth_at depths k = subst
          (λ (n : ℕ). task.budget + n + 1 ≤ task.budget + depth_at depths k) at_c bound.1 in
          there (steps_after z.jobs z'.jobs c j task (Waiting a.2) at only (λ d. turns_in (s.headways d))
          (λ d. turns_in (now s.headways c h d)) others (depth_at depths s.i) (depth_at depths k) task.budget more s.steps enough w)
          (none_after z.jobs z'.jobs c j task (Waiting a.2) at only task.budget s.none w)
      spared_by (inr (inr a)) = subst IsSparedThere (sym a.3) (stays_spared z s)

    sparing_here : IsSparingBy P C depths least s.i s.v
    sparing_here = sparing s.i s.v s.shown

    -- a job in hand of what the kept machine shows is in hand
    hand_behind : (j : ℕ) → HasInHand s.v.jobs c j → HasInHand z.jobs c j
    hand_behind j (task, state, left, at) =
        let b = behind s.v.programs (λ d. turns_in (s.headways d)) s.jobs s.v.jobs s.ahead.each j task at.listed in
        go b.0 b.1 b.2
      where
        back : (old : Task) (was : Cpu) (had : ℕ) → IsAt s.jobs c j old (InHand was had) → HasInHand z.jobs c j
        back old was had there = let h = hand_back z.jobs s.jobs s.rich c j old was had there in (h.0, was, h.1, h.2)

        go : (old : Task) → slice_get s.jobs j ≡ Some old → Precedes s.v.programs (turns_in (s.headways old.cpu)) old task → HasInHand z.jobs c j
        go old listed (inl a) =
            back old state left (record { listed = listed; of = ap (λ (t : Task). t.cpu) (sym a.0) ∙ at.of; at = ap (λ (t : Task). t.stage) (sym a.0) ∙ at.at })
        go old listed (inr a) =
            back old a.1 a.2 (record { listed = listed; of = ap (λ (t : Task). t.cpu) (sym a.7) ∙ at.of; at = a.6 })

    -- the turn was made ahead
    was_made : (n : ℕ) → s.headways c ≡ Turns (suc n) → IsSparedThere z'
    was_made n many =
        let r = comes_made p c s.v s.headways s.same s.ahead n many in
        let fits = subst (λ (h : Headway). FitsHeadway s.v.jobs c h) many (s.ahead.fits c (n, many)) in
        let deep = sparing_here.depth in
        let made : turns_in (s.headways c) ≡ suc n = ap turns_in many in
        spared_by s.i turn.Ran r.0 s.v (Turns n) r.1 (stays s.i s.v s.shown) r.2 r.3 (omega arith)
        (λ j task state left at. (
        let budget = least_is z s j task at.listed in
        let steps : task.budget + turns_in (s.headways c) ≤ left + depth_at depths s.i = s.steps c j task state left at in
        (omega arith, omega arith)))
        (λ j task input free at. (let h = hand_behind fits.0 fits.1 in absurd (free fits.0 h.0 h.1 h.2 h.3)))
        progress

    -- the CPU has no work in it
    was_idle : IsFree s.v.jobs c → NoneWaits s.v.jobs c → IsSparedThere z'
    was_idle free none = go progress
      where
        free_p : IsFree s.jobs c
        free_p = free_behind s.v.programs (λ d. turns_in (s.headways d)) s.jobs s.v.jobs s.ahead.each c free

        none_p : NoneWaits s.jobs c
        none_p = none_behind s.v.programs (λ d. turns_in (s.headways d)) s.jobs s.v.jobs s.ahead.each c none

        go : TakesTurn z c answer z' → IsSparedThere z'
        go (inl (j, task, state, left, at, g)) =
            let h = hand_rich z.jobs s.jobs s.rich c j (task, state, left, at) in
            absurd (free_p j h.0 h.1 h.2 h.3)
        go (inr (inl (is_free, a))) = absurd (none_p a.0 a.1 a.2 (wait_now z.jobs s.jobs s.rich c a.0 a.1 a.2 a.4))
        go (inr (inr a)) = subst IsSparedThere (sym a.3) (stays_spared z s)

    -- it is made from it
    was_new : turns_in (s.headways c) ≡ 0 → DeeperBy P C depths s.i c → IsSparedThere z'
    was_new none (k, n, leads, deeper) =
        let r = comes_new p c s.v s.headways s.same s.ahead (P s.i) (λ h u. (turns_in h ≡ n) × C k u) leads s.shown none in
        let shown = r.5.1 in
        let deep = low k r.2 shown in
        let many : turns_in r.3 ≡ n = r.5.0 in
        spared_by k r.0 r.1 r.2 r.3 r.4 shown r.6 r.7 (omega arith)
        (λ j task state left at. (
        let budget = least_is z s j task at.listed in
        let steps : task.budget + turns_in (s.headways c) ≤ left + depth_at depths s.i = s.steps c j task state left at in
        (omega arith, omega arith)))
        (λ j task input free at. (let budget = least_is z s j task at.listed in (omega arith, omega arith)))
        progress

    from_kept : turns_in (s.headways c) ≡ 0 → IsSparedThere z'
    from_kept none = elim (sparing_here.turns c) [
      | inl idle ↦ was_idle idle.0 idle.1
      | inr deeper ↦ was_new none deeper
    ]

    from_headway : (h : Headway) → s.headways c ≡ h → IsSparedThere z'
    from_headway Idle e = from_kept (ap turns_in e)
    from_headway (Turns zero) e = from_kept (ap turns_in e)
    from_headway (Turns (suc n)) e = was_made n e

    pub spared : IsSparedThere z'
    spared = from_headway (s.headways c) refl

-- ---- where turns lead to richer jobs
module _ (P : ℕ → World → Type 0) (depths : List ℕ) (least : ℕ) (sparing : (i : ℕ) (v : World) → P i v → IsSparingBy P (Richer P) depths least i v)
    (law : WritesAreDetermined) (begins : OneInstructionBegins) (replies : CallsHaveOneReply) where
  still_spared : (z z' : World) (c : ℕ) (answer : Turn) → IsWorld z → IsSparedBy P depths z → TakesTurn z c answer z' → IsSparedBy P depths z'
  still_spared z z' c answer world s progress =
      spared_rich P depths z' (spared P (Richer P) depths least (λ k u shown. (u.jobs, all_same u.jobs, shown))
      (λ k u shown. (sparing k (with_jobs u shown.0) shown.2).depth) sparing law begins replies z z' c answer world s progress)

  none_spent : (cs : List ℕ) (w z : World) → IsWorld w → IsSparedBy P depths w → RunsSchedule w cs z → NoneRanOut z.jobs
  none_spent [] w z world s runs = subst (λ (x : World). NoneRanOut x.jobs) (sym runs) s.none
  none_spent (c ∷ cs) w z world s (answer, m, progress, runs) =
      let next = (one_turn law begins replies w c answer answer m m world progress progress).world in
      none_spent cs m z next (still_spared w m c answer world s progress) runs

  pub none_runs_out : (i : ℕ) (w z : World) (schedule : List ℕ) → IsFresh w → P i w → RunsSchedule w schedule z → NoneRanOut z.jobs
  none_runs_out i w z schedule fresh shown runs =
      none_spent schedule w z (fresh_world law begins replies w fresh) (first_spared P depths i w fresh shown) runs
