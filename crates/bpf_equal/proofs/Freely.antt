-- Runs in which jobs are given steps, where CPUs and jobs change places: what can end, and what is hung.
use Rattle.std.proofs.Common.{ℕ, zero, suc, List, [], ◌∷◌, ◌++◌, map, refl, sym, subst}
use Rattle.bpf_cpu.specs.Task.{Task}
use Rattle.bpf_machine.specs.Ends.{CanEnd, IsHung}
use Rattle.bpf_machine.specs.Headways.{with_jobs}
use Rattle.bpf_machine.specs.Patient.{AsRich}
use Rattle.bpf_machine.specs.Schedule.{RunsSchedule, World}
use Rattle.bpf_machine.proofs.EndLaws.{gift_first, runs_then_freely}
use Rattle.bpf_equal.specs.Patient.{FreeRunsArePermuted, HungAreExchanged}
use Rattle.bpf_equal.specs.Peers.{Peer}
use Rattle.bpf_equal.specs.Permutations.{Permutation, exchanged}
use Rattle.bpf_equal.specs.Worlds.{ArePermutedIn, IsPermuted, turn_permuted}
use Rattle.bpf_equal.proofs.Back.{inverse, permuted_back}
use Rattle.bpf_equal.proofs.Chains.{ended_by, leads, none_by}
use Rattle.bpf_equal.proofs.Exchanging.{exchange}
use Rattle.bpf_equal.proofs.Richer.{rich_there}
use Rattle.bpf_equal.proofs.Turns.{schedules_are_permuted, turns_are_permuted}

pub free_runs_are_permuted : FreeRunsArePermuted
free_runs_are_permuted cpus jobs w v z [] p (tasks, rich, same) =
    let r = rich_there cpus jobs w v p tasks rich in
    (with_jobs v r.0, (r.0, r.1, refl), subst (λ (x : World). IsPermuted cpus jobs x (with_jobs v r.0)) (sym same) r.2)
free_runs_are_permuted cpus jobs w v z (c ∷ cs) p (tasks, answer, m, rich, taken, rest) =
    let r = rich_there cpus jobs w v p tasks rich in
    let t = turns_are_permuted cpus jobs (with_jobs w tasks) (with_jobs v r.0) m c answer r.2 taken in
    let f = free_runs_are_permuted cpus jobs m t.0 z cs t.2 rest in
    (f.0, (r.0, turn_permuted jobs answer, t.0, r.1, t.1, f.1), f.2)

-- ---- ends
pub can_end_by : (cpus jobs : Permutation) (w v : World) → IsPermuted cpus jobs w v → CanEnd w → CanEnd v
can_end_by cpus jobs w v p (cs, z, runs, ended, none) =
    let f = free_runs_are_permuted cpus jobs w v z cs p runs in
    (map cpus.to cs, f.0, f.1, ended_by cpus jobs z f.0 f.2 ended, none_by cpus jobs z f.0 f.2 none)

pub hung_by : (cpus jobs : Permutation) (w v : World) → IsPermuted cpus jobs w v → IsHung w → IsHung v
hung_by cpus jobs w v p hung ends = hung (can_end_by (inverse cpus) (inverse jobs) v w (permuted_back cpus jobs w v p) ends)

-- where one of some peers can end, so can the first
pub can_end_along : (peers : List Peer) (n : ℕ) (w v : World) → ArePermutedIn peers n w v → CanEnd v → CanEnd w
can_end_along peers zero w v same ends = subst CanEnd same ends
can_end_along peers (suc n) w v (mid, step, rest) ends =
    let l = leads peers w mid step in
    can_end_by (inverse l.0) (inverse l.1) mid w (permuted_back l.0 l.1 w mid l.2) (can_end_along peers n mid v rest ends)

pub can_end_poor : (w : World) (jobs : List Task) → AsRich w.jobs jobs → CanEnd (with_jobs w jobs) → CanEnd w
can_end_poor w jobs rich (cs, z, runs, ended, none) = (cs, z, gift_first cs w z jobs rich runs, ended, none)

pub can_end_after : (cs : List ℕ) (w y : World) → RunsSchedule w cs y → CanEnd y → CanEnd w
can_end_after cs w y runs (ds, z, freely, ended, none) = (cs ++ ds, z, runs_then_freely cs ds w y z runs freely, ended, none)

pub hung_are_exchanged : HungAreExchanged
hung_are_exchanged peers first z schedule c d stay (j, k, one, other, less, group, is_c, is_d) runs none hung =
    let cpus = exchange one.cpu other.cpu in
    let jobs = exchange j k in
    let p = stay cpus jobs (j, k, one, other, group, λ x. (refl, refl), λ x. (refl, refl)) in
    let r = schedules_are_permuted cpus jobs first first z schedule p runs in (
      r.0,
      subst (λ (n : ℕ). RunsSchedule first (map (exchanged c n) schedule) r.0) is_d
          (subst (λ (n : ℕ). RunsSchedule first (map (exchanged n other.cpu) schedule) r.0) is_c r.1),
      none_by cpus jobs z r.0 r.2 none,
      hung_by cpus jobs z r.0 r.2 hung,
    )
