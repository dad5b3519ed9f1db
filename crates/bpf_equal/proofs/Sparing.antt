-- Where turns lead ever deeper but for places, and no machine is as deep as a budget, none is used up.
use Rattle.std.proofs.Common.{◌≡◌, ◌∙◌, ◌+◌, ◌<◌, ◌≤◌, ℕ, zero, suc, List, [], ◌∷◌, Some, inl, inr, refl, sym, ap, subst}
use Rattle.std.specs.Prelude.{slice_get}
use Rattle.bpf_shared.specs.Laws.{CallsHaveOneReply}
use Rattle.bpf_shared.specs.Sound.{IsSoundStore}
use Rattle.bpf_loader.specs.Laws.{OneInstructionBegins}
use Rattle.bpf_mem.specs.Laws.{IsMemory, WritesAreDetermined}
use Rattle.bpf_cpu.specs.declared.cpu.Cpu.{Cpu}
use Rattle.bpf_cpu.specs.declared.input.Input.{Input}
use Rattle.bpf_cpu.specs.Input.{IsShort}
use Rattle.bpf_cpu.specs.Task.{Stage, Task, Waiting, InHand, Ended}
use Rattle.bpf_live.specs.Laws.{AlikeIsAnEquivalence, OneStateIsAlike, StepsAreAlike}
use Rattle.bpf_machine.specs.declared.machine.Turn.{Turn}
use Rattle.bpf_machine.specs.Budgets.{depth_at}
use Rattle.bpf_machine.specs.Hands.{IsAt}
use Rattle.bpf_machine.specs.Headways.{turns_in, with_jobs}
use Rattle.bpf_machine.specs.Laws.{IsFresh}
use Rattle.bpf_machine.specs.Machine.{MachineState}
use Rattle.bpf_machine.specs.Patient.{NoneRanOut}
use Rattle.bpf_machine.specs.Schedule.{RunsSchedule, TakesTurn, World}
use Rattle.bpf_machine.proofs.DeterminedTurns.{IsWorld, fresh_world}
use Rattle.bpf_machine.proofs.EndLaws.{IsShownAt}
use Rattle.bpf_machine.proofs.PatientLaws.{Richly}
use Rattle.bpf_machine.proofs.PatientLaws.{all_same as all_rich}
use Rattle.bpf_alike.specs.Ends.{IsShownAlikeAt}
use Rattle.bpf_alike.proofs.AlikeBudgets.{leads_ahead, sparing_by}
use Rattle.bpf_alike.proofs.AlikeJobs.{all_same}
use Rattle.bpf_alike.proofs.AlikeRicher.{dead_and_rich}
use Rattle.bpf_alike.proofs.SpareLaws.{DeeperBy, HasSteps, IsSparedBy, IsSparingBy, Richer, first_spared, spared, spared_rich, spared_so}
use Rattle.bpf_equal.specs.Patient.{AreSparingPermuted, IsShownPermutedRichlyAt, LeadsDeeperPermuted, PermutedBudgetsSuffice}
use Rattle.bpf_equal.specs.Peers.{Peer}
use Rattle.bpf_equal.specs.Permutations.{Permutation}
use Rattle.bpf_equal.specs.Worlds.{AreOneStage, ArePermutedIn, IsPermuted}
use Rattle.bpf_equal.proofs.Back.{sound_stores_stay_sound}
use Rattle.bpf_equal.proofs.Carrying.{ahead_too, news, permuted_behind, there}
use Rattle.bpf_equal.proofs.Chains.{back, dead_places, leads, none_by, none_there, turns_there}
use Rattle.bpf_equal.proofs.Covering.{Places, again_so, in_place, next_world}
use Rattle.bpf_equal.proofs.Partners.{Follows, hand_back, hand_there, partner_back, same_cpu}
use Rattle.bpf_equal.proofs.Poorer.{poor_there}

waits_before : (s : Stage) (input : Input) → AreOneStage s (Waiting input) → (was : Input) × (s ≡ Waiting was) × (IsShort was → IsShort input)
waits_before (Waiting was) input one = (was, refl, λ short. subst IsShort (sym one) short)
waits_before (InHand state left) input e = let no : Waiting input ≡ InHand state left = e in cc
waits_before (Ended end) input e = let no : Waiting input ≡ Ended end = e in cc

-- ---- worlds between turns
module _ (cpus jobs : Permutation) (w v : World) (p : IsPermuted cpus jobs w v) where
  -- a job in hand, and what it was before the change of places
  record WasInHand (c j : ℕ) (task : Task) (state : Cpu) (left : ℕ) : Type 0 where
    old : Task
    was : Cpu
    at : IsAt w.jobs (cpus.from c) (jobs.from j) old (InHand was left)
    memory : state.memory ≡ was.memory
    budget : task.budget ≡ old.budget

  memory_is : (old new : Task) (s t : Cpu) → Follows w.store.shape w.programs cpus old new s t → t.memory ≡ s.memory
  memory_is old new s t (inl (cpu, same)) = ap (λ (x : Cpu). x.memory) same
  memory_is old new s t (inr (blind, one)) = ap (λ (x : Cpu). x.memory) one

  was_in_hand : (c j : ℕ) (task : Task) (state : Cpu) (left : ℕ) → IsAt v.jobs c j task (InHand state left) → WasInHand c j task state left
  was_in_hand c j task state left at =
      let h = w.store.shape in
      let ps = w.programs in
      let b = partner_back h ps cpus jobs w.jobs v.jobs p.each j task at.listed in
      let s = hand_back h ps cpus b.0 task b.2 state left at.at in
      let k = hand_there h ps cpus b.0 task b.2 s.0 left s.1 in
      let both : InHand k.0 left ≡ InHand state left = sym k.1 ∙ at.at in
      let same : k.0 ≡ state = cc in
      record {
        old = b.0;
        was = s.0;
        at = record { listed = b.1; of = same_cpu h ps cpus b.0 task b.2 (cpus.from c) (at.of ∙ sym (cpus.forth c)); at = s.1 };
        memory = ap (λ (x : Cpu). x.memory) (sym same) ∙ memory_is b.0 task s.0 k.0 k.2;
        budget = b.2.budget;
      }

  module _ (world : IsWorld w) where
    short_there : (c j : ℕ) (task : Task) (input : Input) → IsAt v.jobs c j task (Waiting input) → IsShort input
    short_there c j task input at =
        let h = w.store.shape in
        let ps = w.programs in
        let b = partner_back h ps cpus jobs w.jobs v.jobs p.each j task at.listed in
        let of : b.0.cpu ≡ cpus.from c = same_cpu h ps cpus b.0 task b.2 (cpus.from c) (at.of ∙ sym (cpus.forth c)) in
        elim b.2.stage [
          | inl same ↦ world.short (cpus.from c) (jobs.from j) b.0 input (record { listed = b.1; of = of; at = sym same.1 ∙ at.at })
          | inr one ↦
              let k = waits_before b.0.stage input (subst (λ (s : Stage). AreOneStage b.0.stage s) at.at one.1) in
              k.2 (world.short (cpus.from c) (jobs.from j) b.0 k.0 (record { listed = b.1; of = of; at = k.1 }))
        ]

    pub world_there : IsWorld v
    world_there = record {
      store = subst IsSoundStore (sym p.store) (sound_stores_stay_sound cpus w.store world.store);
      memory = λ c j task state left at. (
          let b = was_in_hand c j task state left at in
          subst IsMemory (sym b.memory) (world.memory (cpus.from c) (jobs.from j) b.old b.was left b.at));
      one = λ c j k task other state now left rest g h. (
          let a = was_in_hand c j task state left g in
          let b = was_in_hand c k other now rest h in
          let same = world.one (cpus.from c) (jobs.from j) (jobs.from k) a.old b.old a.was b.was left rest a.at b.at in
          sym (jobs.forth j) ∙ ap jobs.to same ∙ jobs.forth k);
      short = short_there;
    }

world_along : (peers : List Peer) (n : ℕ) (w v : World) → ArePermutedIn peers n w v → IsWorld w → IsWorld v
world_along peers zero w v same world = subst IsWorld (sym same) world
world_along peers (suc n) w v (mid, step, rest) world =
    let l = leads peers w mid step in world_along peers n mid v rest (world_there l.0 l.1 w mid l.2 world)

-- ---- what is true of a world where CPUs and jobs change places
module _ (depths : List ℕ) (R K : ℕ → World → Type 0) (cpus jobs : Permutation) (z : World) (s : IsSparedBy R depths z) (mid : World)
    (p : IsPermuted cpus jobs s.v mid) (shown : K s.i mid) where
  abbrev later : List Task
  later = news cpus jobs s.v mid p s.headways s.jobs s.ahead

  over : IsPermuted cpus jobs (with_jobs z s.jobs) (with_jobs mid later)
  over =
      subst (λ (a : World). IsPermuted cpus jobs a (with_jobs mid later)) s.same
      (permuted_behind cpus jobs s.v mid p s.headways s.jobs s.ahead)

  spared_moved : (y : World) × IsPermuted cpus jobs z y × IsSparedBy K depths y
  spared_moved =
      let poor = poor_there cpus jobs (with_jobs z s.jobs) (with_jobs mid later) over z.jobs s.rich in
      let y = with_jobs mid poor.0 in
      let moved : IsPermuted cpus jobs z y = poor.2 in
      let ahead = there cpus jobs s.v mid p s.headways s.jobs s.ahead in
      let steps : HasSteps y.jobs (λ c. turns_in (ahead c)) (depth_at depths s.i) = λ c j task state left at. (
      let b = was_in_hand cpus jobs z y moved c j task state left at in
      subst (λ (n : ℕ). n + turns_in (ahead c) ≤ left + depth_at depths s.i) (sym b.budget)
      (s.steps (cpus.from c) (jobs.from j) b.old b.was left b.at)) in (
        y,
        moved,
        record {
          i = s.i;
          v = mid;
          headways = ahead;
          jobs = later;
          rich = poor.1;
          shown = shown;
          same = refl;
          ahead = ahead_too cpus jobs s.v mid p s.headways s.jobs s.ahead;
          steps = steps;
          none = none_by cpus jobs z y moved s.none;
        },
      )

module _ (peers : List Peer) (depths : List ℕ) (K : ℕ → World → Type 0) (u : World) where
  -- this many moves lead from the world to the one of which it is true
  abbrev Along : ℕ → ℕ → World → Type 0
  Along n i v = ArePermutedIn peers n v u × K i u

  spared_along : (n : ℕ) (z : World) → IsSparedBy (Along n) depths z → Places peers (IsSparedBy K depths) z
  spared_along zero z s = in_place peers (IsSparedBy K depths) z (spared_so (Along zero) K depths z s (subst (K s.i) s.shown.0 s.shown.1))
  spared_along (suc n) z s =
      let step = s.shown.0 in
      let l = leads peers s.v step.0 step.1 in
      let m = spared_moved depths (Along (suc n)) (Along n) l.0 l.1 z s step.0 l.2 (step.2, s.shown.1) in
      let r = spared_along n m.0 m.2 in
      (r.0, (suc r.1.0, (m.0, l.3 z m.0 m.1, r.1.1)), r.2)

-- ---- where turns lead to richer jobs in other places
module _ (peers : List Peer) (P : ℕ → World → Type 0) (depths : List ℕ) (least : ℕ) where
  abbrev Elsewhere : ℕ → World → Type 0
  Elsewhere k u = Places peers (Richly (P k)) u

  settled : (z : World) → IsSparedBy Elsewhere depths z → Places peers (IsSparedBy P depths) z
  settled z s =
      let u = s.shown.0 in
      let n = s.shown.1.0 in
      let r = spared_along peers depths (Richer P) u n z
      (spared_so Elsewhere (Along peers depths (Richer P) u n) depths z s (s.shown.1.1, s.shown.2)) in
      (r.0, r.1, spared_rich P depths r.0 r.2)

  module _ (sparing : (i : ℕ) (v : World) → P i v → IsSparingBy P Elsewhere depths least i v) (law : WritesAreDetermined) (begins : OneInstructionBegins)
      (replies : CallsHaveOneReply) where
    stays : (k : ℕ) (u : World) → P k u → Elsewhere k u
    stays k u shown = in_place peers (Richly (P k)) u (u.jobs, all_rich u.jobs, shown)

    low : (k : ℕ) (u : World) → Elsewhere k u → depth_at depths k < least
    low k u (x, places, (jobs, rich, shown)) = (sparing k (with_jobs x jobs) shown).depth

    still_spared : (z z' : World) (c : ℕ) (answer : Turn) → IsWorld z → Places peers (IsSparedBy P depths) z → TakesTurn z c answer z'
        → Places peers (IsSparedBy P depths) z'
    still_spared z z' c answer world (u, (n, chain), s) taken =
        let t = turns_there peers n z u z' c answer chain taken in
        let after = spared P Elsewhere depths least stays low sparing law begins replies u t.2 t.0 t.1 (world_along peers n z u chain world) s t.3 in
        again_so peers (IsSparedBy P depths) z' t.2 (n, t.4) (settled t.2 after)

    none_spent : (cs : List ℕ) (w z : World) → IsWorld w → Places peers (IsSparedBy P depths) w → RunsSchedule w cs z → NoneRanOut z.jobs
    none_spent [] w z world (u, (n, chain), s) runs =
        let b = back peers w u (n, chain) in
        subst (λ (x : World). NoneRanOut x.jobs) (sym runs) (none_there peers b.0 u w b.1 s.none)
    none_spent (c ∷ cs) w z world s (answer, m, taken, runs) =
        none_spent cs m z (next_world peers law begins replies w m c answer world taken) (still_spared w m c answer world s taken) runs

    none_runs_out : (i : ℕ) (w z : World) (schedule : List ℕ) → IsFresh w → P i w → RunsSchedule w schedule z → NoneRanOut z.jobs
    none_runs_out i w z schedule fresh shown runs =
        none_spent schedule w z (fresh_world law begins replies w fresh) (in_place peers (IsSparedBy P depths) w (first_spared P depths i w fresh shown)) runs

-- ---- kept machines
module _ (equal : AlikeIsAnEquivalence) (steps : StepsAreAlike) (one : OneStateIsAlike) (peers : List Peer) (kept : List MachineState) (depths : List ℕ)
    (least : ℕ) where
  abbrev At : ℕ → World → Type 0
  At = IsShownAlikeAt kept

  abbrev There : ℕ → World → Type 0
  There = Elsewhere peers At depths least

  deeper : (i : ℕ) (m : MachineState) (c : ℕ) → slice_get kept i ≡ Some m → LeadsDeeperPermuted peers kept depths i m c → DeeperBy At There depths i c
  deeper i m c at (new, k, n, turns, is_kept, more) = (
    k,
    n,
    λ v shown.
        let r = leads_ahead equal steps one kept depths least (IsShownPermutedRichlyAt peers kept k) i m new c n at turns is_kept v shown in (
          r.0,
          r.1,
          r.2,
          r.3,
          r.4,
          r.5,
          λ y seen.
              let q = r.6 y seen in
              let s = dead_places peers equal (Richly (At k)) y q.1 in
              (q.0, (s.0, s.1, dead_and_rich equal (IsShownAt kept k) s.0 s.2)),
        ),
    more,
  )

  sparing_there : AreSparingPermuted peers kept depths least → (i : ℕ) (v : World) → At i v → IsSparingBy At There depths least i v
  sparing_there sparing i v (jobs, all, (m, at, shows)) =
      let s = sparing i m at in
      sparing_by equal steps one kept depths least There i m s.depth s.budgets
      (λ c. elim (s.turns c) [
        | inl idle ↦ inl idle
        | inr far ↦ inr (deeper i m c at far)
      ]) v jobs all shows

pub permuted_budgets_suffice : AlikeIsAnEquivalence → StepsAreAlike → OneStateIsAlike → WritesAreDetermined → OneInstructionBegins → CallsHaveOneReply
    → PermutedBudgetsSuffice
permuted_budgets_suffice equal steps one law begins replies peers kept depths least first z schedule sparing fresh (i, m, at, shows) runs =
    none_runs_out peers (IsShownAlikeAt kept) depths least (sparing_there equal steps one peers kept depths least sparing) law begins replies i first z
    schedule fresh (first.jobs, all_same equal first.programs first.jobs, (m, at, shows)) runs
