-- A machine in which a job has its whole budget back is as good as the one before.
use Rattle.std.proofs.Common.{◌≡◌, ◌∙◌, ℕ, zero, suc, ◌+◌, List, [], ◌∷◌, Some, inl, inr, refl, sym, ap, subst}
use Rattle.std.specs.Prelude.{slice_get}
use Rattle.bpf_cpu.specs.declared.cpu.Cpu.{Cpu}
use Rattle.bpf_cpu.specs.Task.{Stage, Task, InHand}
use Rattle.bpf_machine.specs.Hands.{with_stage}
use Rattle.bpf_machine.specs.Headways.{with_jobs}
use Rattle.bpf_machine.specs.Machine.{MachineState, Shows}
use Rattle.bpf_machine.specs.Schedule.{World, RunsSchedule}
use Rattle.bpf_machine.specs.Cover.{TurnsTo}
use Rattle.bpf_machine.specs.Ends.{RunsFreely}
use Rattle.bpf_alike.specs.Ends.{IsShownAlikeAt}
use Rattle.bpf_equal.specs.declared.peers.Peer.{Peer}
use Rattle.bpf_equal.specs.Patient.{IsKeptPermutedRichlyAt}
use Rattle.bpf_equal.specs.Worlds.{ArePermutedIn}
use Rattle.bpf_equal.proofs.Chains.{leads}
use Rattle.bpf_equal.proofs.Poorer.{poor_there}
use Rattle.bpf_machine.specs.Patient.{IsRicher, AsRich, IsRefilled}
use Rattle.bpf_machine.proofs.PatientLaws.{all_same}
use Rattle.bpf_explore.specs.Album.{IsKeptAlikeAt}
use Rattle.bpf_explore.specs.Search.{Richly, IsTurned, Extends}
use Rattle.bpf_explore.specs.Private.Peers.{IsKeptElsewhereAt}
use Rattle.bpf_explore.proofs.AlbumLaws.{still_at}

rich_set : (jobs : List Task) (j : ℕ) (task : Task) (state : Cpu) (left more : ℕ) → slice_get jobs j ≡ Some task → task.stage ≡ InHand state
    left → AsRich jobs (with_stage jobs j task (InHand state (left + more)))
rich_set [] j task state left more at is = cc
rich_set (x ∷ xs) zero task state left more at is =
    let same : x ≡ task = cc in
    let P : Task → Type 0 = λ t. IsRicher t (record task { stage = InHand state (left + more) }) in
    (subst P (sym same) (inr (state, left, more, is, refl)), all_same xs)
rich_set (x ∷ xs) (suc j) task state left more at is = (inl refl, rich_set xs j task state left more at is)

-- what is shown before is shown after, but for richer jobs
pub refilled_shows : (m new : MachineState) (c : ℕ) → IsRefilled m c new → (w : World) → Shows m w → (jobs : List Task) × AsRich w.jobs jobs
    × Shows new (with_jobs w jobs)
refilled_shows m new c (inl (free, same)) w shows = (w.jobs, all_same w.jobs, subst (λ (x : MachineState). Shows x w) (sym same) shows)
refilled_shows m new c (inr (j, (task, state, left, more, at, enough, e))) w shows =
    let stage : Stage = InHand state (left + more) in
    let jobs = with_stage w.jobs j task stage in
    let there : slice_get w.jobs j ≡ Some task = ap (λ (ts : List Task). slice_get ts j) shows.jobs ∙ at.listed in (
      jobs,
      rich_set w.jobs j task state left more there at.at,
      subst (λ (x : MachineState). Shows x (with_jobs w jobs)) (sym e) (record {
        store = shows.store;
        sound = shows.sound;
        programs = shows.programs;
        jobs = ap (λ (ts : List Task). with_stage ts j task stage) shows.jobs;
        lists = shows.lists;
      }),
    )

-- what richer jobs lead to by changes of places, with richer jobs what these lead to
module _ (peers : List Peer) where
  poor_along : (n : ℕ) (w : World) (tasks : List Task) (v : World) → AsRich w.jobs tasks → ArePermutedIn peers n (with_jobs w tasks) v
      → (x : World) × ArePermutedIn peers n w x × ((jobs : List Task) × AsRich x.jobs jobs × (with_jobs x jobs ≡ v))
  poor_along zero w tasks v rich same = (w, refl, (tasks, rich, sym same))
  poor_along (suc n) w tasks v rich (mid, step, rest) =
      let l = leads peers (with_jobs w tasks) mid step in
      let p = poor_there l.0 l.1 (with_jobs w tasks) mid l.2 w.jobs rich in
      let x : World = with_jobs mid p.0 in
      let r = poor_along n x mid.jobs v p.1 rest in
      (r.0, (x, l.3 w x p.2, r.1), r.2)

  pub richly_kept : (kept : List MachineState) (m new : MachineState) (c n : ℕ) → IsRefilled m c new → IsKeptElsewhereAt peers kept n new
      → IsKeptPermutedRichlyAt peers kept n m
  richly_kept kept m new c n refills is w shows =
      let r = refilled_shows m new c refills w shows in
      let e = is (with_jobs w r.0) r.2 in
      let p = poor_along e.1.0 w r.0 e.0 r.1 e.1.1 in
      (p.0, (e.1.0, p.1), (p.2.0, p.2.1, subst (IsShownAlikeAt kept n) (sym p.2.2) e.2))

  -- what is kept but for dead registers
  pub here_elsewhere : (kept : List MachineState) (n : ℕ) (m : MachineState) → IsKeptAlikeAt kept n m → IsKeptElsewhereAt peers kept n m
  here_elsewhere kept n m is w shows = (w, (0, refl), is w shows)

  -- ---- a turn from a kept machine
  pub turned_richly : (old new : List MachineState) (place cpu n : ℕ) (m after refilled : MachineState) → slice_get old place ≡ Some m
      → Extends old new → TurnsTo m cpu after → IsRefilled after cpu refilled → IsKeptElsewhereAt peers new n refilled
      → IsTurned (Richly peers) new place cpu
  turned_richly old new place cpu n m after refilled at more turns refills kept other there =
      let two : Some m ≡ Some other = sym (still_at old new place m at more) ∙ there in
      let same : m ≡ other = cc in (
        after,
        subst (λ (x : MachineState). TurnsTo x cpu after) same turns,
        λ w shows. (
            let r = richly_kept new after refilled cpu n refills kept w shows in
            (r.0, r.1, (r.2.0, r.2.1, (r.2.2.0, r.2.2.1, (n, r.2.2.2.0, r.2.2.2.1, r.2.2.2.2))))),
      )

-- its turns, and steps that are given after them
gift_last : (cs : List ℕ) (w y : World) (jobs : List Task) → RunsSchedule w cs y → AsRich y.jobs jobs → RunsFreely w cs (with_jobs y jobs)
gift_last [] w y jobs runs rich = (jobs, subst (λ (x : World). AsRich x.jobs jobs) runs rich, ap (λ (x : World). with_jobs x jobs) runs)
gift_last (c ∷ cs) w y jobs (answer, m, progress, runs) rich = (w.jobs, answer, m, all_same w.jobs, progress, gift_last cs m y jobs runs rich)

pub led_freely : (restored after refilled : MachineState) (cpu : ℕ) (cs : List ℕ) →
    ((w : World) → Shows restored w → (z : World) × RunsSchedule w cs z × Shows after z) → IsRefilled after cpu refilled
    → (w : World) → Shows restored w → (z : World) × RunsFreely w cs z × Shows refilled z
led_freely restored after refilled cpu cs runs refills w shows =
    let r = runs w shows in
    let s = refilled_shows after refilled cpu refills r.0 r.2 in
    (with_jobs r.0 s.0, gift_last cs w r.0 s.0 r.1 s.1, s.2)
