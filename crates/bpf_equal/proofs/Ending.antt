-- Where each job has ended, one world alone is another but for permutations.
use Rattle.std.proofs.Common.{◌≡◌, ◌∙◌, ℕ, zero, suc, List, map, Option, Some, None, inl, inr, refl, sym, ap, subst}
use Rattle.std.specs.Prelude.{slice_get}
use Rattle.bpf_shared.specs.Shape.{Shape}
use Rattle.bpf_shared.specs.Store.{Plain}
use Rattle.bpf_loader.specs.Loaded.{Loaded}
use Rattle.bpf_cpu.specs.declared.outcome.Outcome.{Outcome}
use Rattle.bpf_cpu.specs.Task.{Stage, Task, Ended}
use Rattle.bpf_machine.specs.Listings.{Listing}
use Rattle.bpf_machine.specs.Rounds.{HaveEnded}
use Rattle.bpf_machine.specs.Schedule.{RunsSchedule, World}
use Rattle.bpf_machine.proofs.AheadLaws.{equal_lists}
use Rattle.bpf_equal.specs.Laws.{MovesReachEnds, PermutedEndsAreOne}
use Rattle.bpf_equal.specs.Peers.{Peer}
use Rattle.bpf_equal.specs.Permutations.{Permutation}
use Rattle.bpf_equal.specs.Worlds.{AreNeighbours, AreOneStage, ArePartners, ArePermutedIn, AreSymmetries, IsAsFar, IsPartner, IsPermuted}
use Rattle.bpf_equal.proofs.Back.{inverse, permuted_back}
use Rattle.bpf_equal.proofs.Chains.{ended_next}
use Rattle.bpf_equal.proofs.Turns.{schedules_are_permuted}

module _ (h : Shape) (programs : List Loaded) (cpus : Permutation) where
  -- what a job is when it has ended there
  abbrev ended_as : Task → Outcome → Task
  ended_as task end = record task { cpu = cpus.to task.cpu; stage = Ended end }

  stage_is : (task new : Task) (end : Outcome) → task.stage ≡ Ended end → IsAsFar h programs task new → new.stage ≡ Ended end
  stage_is task new end at (inl same) = same.1 ∙ at
  stage_is task new end at (inr one) = subst (λ (s : Stage). AreOneStage s new.stage) at one.1

  partner_is : (task new : Task) (end : Outcome) → task.stage ≡ Ended end → IsPartner h programs cpus task new → new ≡ ended_as task end
  partner_is task new end at p =
      let made : ℕ → ℕ → ℕ → Stage → Task = λ cpu program budget stage. record
      { cpu = cpu; program = program; budget = budget; stage = stage } in
      ap (λ (c : ℕ). made c new.program new.budget new.stage) p.cpu
      ∙ ap (λ (n : ℕ). made (cpus.to task.cpu) n new.budget new.stage) p.program
      ∙ ap (λ (n : ℕ). made (cpus.to task.cpu) task.program n new.stage) p.budget
      ∙ ap (made (cpus.to task.cpu) task.program task.budget) (stage_is task new end at p.stage)

  one_partner : (o p q : Option Task) → ((task : Task) → o ≡ Some task → (end : Outcome) × (task.stage ≡ Ended end)) → ArePartners h programs cpus o p
      → ArePartners h programs cpus o q → p ≡ q
  one_partner None None None ended one two = refl
  one_partner None None (Some y) ended one two = absurd two
  one_partner None (Some x) q ended one two = absurd one
  one_partner (Some task) None q ended one two = absurd one
  one_partner (Some task) (Some x) None ended one two = absurd two
  one_partner (Some task) (Some x) (Some y) ended one two =
      let e = ended task refl in
      ap Some (partner_is task x e.0 e.1 one ∙ sym (partner_is task y e.0 e.1 two))

module _ (cpus jobs : Permutation) (w u v : World) (ended : HaveEnded w.jobs) (p : IsPermuted cpus jobs w u) (q : IsPermuted cpus jobs w v) where
  same_job : (k : ℕ) → slice_get u.jobs k ≡ slice_get v.jobs k
  same_job k =
      let j = jobs.from k in
      let there = one_partner w.store.shape w.programs cpus (slice_get w.jobs j) (slice_get u.jobs (jobs.to j)) (slice_get v.jobs (jobs.to j))
      (λ task at. ended j task at) (p.each j) (q.each j) in
      subst (λ (i : ℕ). slice_get u.jobs i ≡ slice_get v.jobs i) (jobs.forth k) there

  pub one_end : u ≡ v
  one_end =
      let made : Plain → List Loaded → List Task → (ℕ → Listing) → World = λ store programs tasks lists. record
      { store = store; programs = programs; jobs = tasks; lists = lists } in
      ap (λ (s : Plain). made s u.programs u.jobs u.lists) (p.store ∙ sym q.store)
      ∙ ap (λ (ps : List Loaded). made v.store ps u.jobs u.lists) (p.programs ∙ sym q.programs)
      ∙ ap (λ (ts : List Task). made v.store v.programs ts u.lists) (equal_lists u.jobs v.jobs same_job)
      ∙ ap (made v.store v.programs v.jobs) (p.lists ∙ sym q.lists)

pub permuted_ends_are_one : PermutedEndsAreOne
permuted_ends_are_one cpus jobs w u v ended p q = one_end cpus jobs w u v ended p q

-- ---- ends that peers lead to are reached
abbrev IsReached : World → World → Type 0
IsReached first z = (schedule : List ℕ) × RunsSchedule first schedule z

reached_by : (cpus jobs : Permutation) (first z y : World) → IsPermuted cpus jobs first first → IsReached first z → HaveEnded z.jobs
    → IsPermuted cpus jobs z y → IsReached first y
reached_by cpus jobs first z y stays (schedule, runs) ended p =
    let r = schedules_are_permuted cpus jobs first first z schedule stays runs in
    let one = permuted_ends_are_one cpus jobs z r.0 y ended r.2 p in
    (map cpus.to schedule, subst (RunsSchedule first (map cpus.to schedule)) one r.1)

module _ (peers : List Peer) (first : World) (stay : AreSymmetries peers first) where
  reached_next : (z y : World) → IsReached first z → HaveEnded z.jobs → AreNeighbours peers z y → IsReached first y
  reached_next z y reached ended (cpus, jobs, is, inl p) = reached_by cpus jobs first z y (stay cpus jobs is) reached ended p
  reached_next z y reached ended (cpus, jobs, is, inr p) =
      reached_by (inverse cpus) (inverse jobs) first z y (permuted_back cpus jobs first first (stay cpus jobs is)) reached ended
      (permuted_back cpus jobs y z p)

  pub reached_along : (n : ℕ) (z y : World) → IsReached first z → HaveEnded z.jobs → ArePermutedIn peers n z y → IsReached first y
  reached_along zero z y reached ended same = subst (IsReached first) (sym same) reached
  reached_along (suc n) z y reached ended (mid, step, rest) =
      reached_along n mid y (reached_next z mid reached ended step) (ended_next peers z mid step ended) rest

pub moves_reach_ends : MovesReachEnds
moves_reach_ends peers first z y schedule stay runs ended (n, chain) = reached_along peers first stay n z y (schedule, runs) ended chain
