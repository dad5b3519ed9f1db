-- Worlds from which peers lead to one another: turns, ends, and what is so of them.
use Rattle.std.proofs.Common.{◌≡◌, ◌∙◌, ℕ, zero, suc, List, inl, inr, refl, sym, ap, subst}
use Rattle.bpf_cpu.specs.declared.outcome.Outcome.{Outcome}
use Rattle.bpf_cpu.specs.declared.outcome.Outcome.TheVariants.{OutOfBudget}
use Rattle.bpf_cpu.specs.Task.{Stage, Task, Waiting, InHand, Ended}
use Rattle.bpf_live.specs.Laws.{AlikeIsAnEquivalence}
use Rattle.bpf_machine.specs.declared.machine.ahead.Headway.{Headway}
use Rattle.bpf_machine.specs.declared.machine.Turn.{Turn}
use Rattle.bpf_machine.specs.Cover.{IsAhead}
use Rattle.bpf_machine.specs.Headways.{IsAheadOf, with_jobs}
use Rattle.bpf_machine.specs.Patient.{AsRich, NoneRanOut}
use Rattle.bpf_machine.specs.Rounds.{HaveEnded}
use Rattle.bpf_machine.specs.Schedule.{TakesTurn, World}
use Rattle.bpf_machine.proofs.CoverLaws.{IsCoveredBy}
use Rattle.bpf_machine.proofs.PatientLaws.{Richly}
use Rattle.bpf_alike.specs.Worlds.{AllAlike, ButForDead}
use Rattle.bpf_equal.specs.Covers.{ButForPlaces}
use Rattle.bpf_equal.specs.Laws.{PermutedIsAnEquivalence}
use Rattle.bpf_equal.specs.Peers.{Peer}
use Rattle.bpf_equal.specs.Permutations.{Permutation}
use Rattle.bpf_equal.specs.Worlds.{AreNeighbours, AreOneStage, ArePermuted, ArePermutedIn, IsPermuted, turn_permuted}
use Rattle.bpf_equal.proofs.Back.{inverse, permuted_back}
use Rattle.bpf_equal.proofs.Carrying.{ahead_too, news, permuted_behind, there}
use Rattle.bpf_equal.proofs.Partners.{partner_back}
use Rattle.bpf_equal.proofs.Richer.{are_rich_here, dead_alike, dead_permuted, dead_there, rich_here, rich_permuted, rich_there}
use Rattle.bpf_equal.proofs.Turns.{turns_are_permuted}

-- ---- ends
end_of : (s : Stage) (end : Outcome) → AreOneStage (Ended end) s → s ≡ Ended end
end_of s end one = ended_is s one
  where
    ended_is : (s : Stage) → AreOneStage (Ended end) s → s ≡ Ended end
    ended_is s e = e

end_from : (s : Stage) (end : Outcome) → AreOneStage s (Ended end) → s ≡ Ended end
end_from (InHand state left) end e = sym e
end_from (Waiting input) end e = sym e
end_from (Ended other) end e = sym e

module _ (cpus jobs : Permutation) (w v : World) (p : IsPermuted cpus jobs w v) where
  pub ended_by : HaveEnded w.jobs → HaveEnded v.jobs
  ended_by ended j task at =
      let b = partner_back w.store.shape w.programs cpus jobs w.jobs v.jobs p.each j task at in
      let e = ended (jobs.from j) b.0 b.1 in
      elim b.2.stage [
        | inl same ↦ (e.0, same.1 ∙ e.1)
        | inr one ↦ (e.0, end_of task.stage e.0 (subst (λ (s : Stage). AreOneStage s task.stage) e.1 one.1))
      ]

  pub none_by : NoneRanOut w.jobs → NoneRanOut v.jobs
  none_by none j task pc at ended =
      let b = partner_back w.store.shape w.programs cpus jobs w.jobs v.jobs p.each j task at in
      none (jobs.from j) b.0 pc b.1 (elim b.2.stage [
        | inl same ↦ sym same.1 ∙ ended
        | inr one ↦ end_from b.0.stage (OutOfBudget pc) (subst (λ (s : Stage). AreOneStage b.0.stage s) ended one.1)
      ])

module _ (peers : List Peer) where
  abbrev In : ℕ → World → World → Type 0
  In = ArePermutedIn peers

  -- ---- peers, and back
  step_back : (w v : World) → AreNeighbours peers w v → AreNeighbours peers v w
  step_back w v (cpus, jobs, is, inl p) = (cpus, jobs, is, inr p)
  step_back w v (cpus, jobs, is, inr p) = (cpus, jobs, is, inl p)

  again_in : (n : ℕ) (w v u : World) → In n w v → ArePermuted peers v u → ArePermuted peers w u
  again_in zero w v u same (m, more) = (m, subst (λ (x : World). In m x u) same more)
  again_in (suc n) w v u (mid, step, rest) more = let r = again_in n mid v u rest more in (suc r.0, (mid, step, r.1))

  back_in : (n : ℕ) (w v : World) → In n w v → ArePermuted peers v w
  back_in zero w v same = (0, sym same)
  back_in (suc n) w v (mid, step, rest) =
      let r = back_in n mid v rest in again_in r.0 v mid w r.1 (1, (w, step_back w mid step, refl))

  pub again : (w v u : World) → ArePermuted peers w v → ArePermuted peers v u → ArePermuted peers w u
  again w v u (n, chain) more = again_in n w v u chain more

  pub back : (w v : World) → ArePermuted peers w v → ArePermuted peers v w
  back w v (n, chain) = back_in n w v chain

  -- a move is one permutation, by which others are neighbours too
  abbrev pub Leads : World → World → Type 0
  Leads w v = (cpus : Permutation) × (jobs : Permutation) × IsPermuted cpus jobs w v
      × ((a b : World) → IsPermuted cpus jobs a b → AreNeighbours peers a b)

  pub leads : (w v : World) → AreNeighbours peers w v → Leads w v
  leads w v (cpus, jobs, is, inl p) = (cpus, jobs, p, λ a b q. (cpus, jobs, is, inl q))
  leads w v (cpus, jobs, is, inr p) = (
    inverse cpus,
    inverse jobs,
    permuted_back cpus jobs v w p,
    λ a b q. (cpus, jobs, is, inr (permuted_back (inverse cpus) (inverse jobs) a b q)),
  )

  -- ---- turns
  -- a turn of the last of them is one of the first
  abbrev TurnsBack : ℕ → World → World → Type 0
  TurnsBack n w v = (place : ℕ → ℕ) × ((c : ℕ) (answer : Turn) (y : World) → TakesTurn v (place c) answer y
      → (other : Turn) × (z : World) × TakesTurn w c other z × In n z y)

  pub turns_back : (n : ℕ) (w v : World) → In n w v → TurnsBack n w v
  turns_back zero w v same =
      (λ c. c, λ c answer y taken. (answer, y, subst (λ (x : World). TakesTurn x c answer y) same taken, refl))
  turns_back (suc n) w v (mid, step, rest) =
      let r = turns_back n mid v rest in
      let l = leads w mid step in
      let cpus = l.0 in
      let jobs = l.1 in (
        λ c. r.0 (cpus.to c),
        λ c answer y taken.
            let s = r.1 (cpus.to c) answer y taken in
            let here = permuted_back cpus jobs w mid l.2 in
            let t = turns_are_permuted (inverse cpus) (inverse jobs) mid w s.1 (cpus.to c) s.0 here s.2 in
            let other = turn_permuted (inverse jobs) s.0 in
            let its : TakesTurn w c other t.0 = subst (λ (d : ℕ). TakesTurn w d other t.0) (cpus.back c) t.1 in
            (other, t.0, its, (s.1, l.3 t.0 s.1 (permuted_back (inverse cpus) (inverse jobs) s.1 t.0 t.2), s.3)),
      )

  -- a turn of the first is one of the last
  pub turns_there : (n : ℕ) (w v z : World) (c : ℕ) (answer : Turn) → In n w v → TakesTurn w c answer z
      → (d : ℕ) × (other : Turn) × (y : World) × TakesTurn v d other y × In n z y
  turns_there zero w v z c answer same taken = (c, answer, z, subst (λ (x : World). TakesTurn x c answer z) (sym same) taken, refl)
  turns_there (suc n) w v z c answer (mid, step, rest) taken =
      let l = leads w mid step in
      let t = turns_are_permuted l.0 l.1 w mid z c answer l.2 taken in
      let r = turns_there n mid v t.0 ((l.0).to c) (turn_permuted l.1 answer) rest t.1 in
      (r.0, r.1, r.2, r.3, (t.0, l.3 z t.0 t.2, r.4))

  -- ---- ends
  pub ended_next : (w v : World) → AreNeighbours peers w v → HaveEnded w.jobs → HaveEnded v.jobs
  ended_next w v step ended = let l = leads w v step in ended_by l.0 l.1 w v l.2 ended

  pub ended_there : (n : ℕ) (w v : World) → In n w v → HaveEnded w.jobs → HaveEnded v.jobs
  ended_there zero w v same ended = subst (λ (x : World). HaveEnded x.jobs) (sym same) ended
  ended_there (suc n) w v (mid, step, rest) ended = ended_there n mid v rest (ended_next w mid step ended)

  pub none_there : (n : ℕ) (w v : World) → In n w v → NoneRanOut w.jobs → NoneRanOut v.jobs
  none_there zero w v same none = subst (λ (x : World). NoneRanOut x.jobs) (sym same) none
  none_there (suc n) w v (mid, step, rest) none =
      let l = leads w mid step in none_there n mid v rest (none_by l.0 l.1 w mid l.2 none)

  -- ---- what is covered
  module _ (P : World → Type 0) where
    abbrev Carried : ℕ → World → Type 0
    Carried n y = (x : World) × In n y x × IsCoveredBy P x

    pub carried : (n : ℕ) (y v u : World) (headways : ℕ → Headway) → In n v u → P u → with_jobs v y.jobs ≡ y
        → IsAheadOf (IsAhead headways) headways y.jobs v → Carried n y
    carried zero y v u headways one shown same ahead = (y, refl, (v, headways, subst P one shown, same, ahead))
    carried (suc n) y v u headways (mid, step, rest) shown same ahead =
        let l = leads v mid step in
        let later = news l.0 l.1 v mid l.2 headways y.jobs ahead in
        let x : World = with_jobs mid later in
        let p = subst (λ (a : World). IsPermuted l.0 l.1 a x) same (permuted_behind l.0 l.1 v mid l.2 headways y.jobs ahead) in
        let r = carried n x mid u (there l.0 l.1 v mid l.2 headways y.jobs ahead) rest shown refl
        (ahead_too l.0 l.1 v mid l.2 headways y.jobs ahead) in
        (r.0, (x, l.3 y x p, r.1), r.2)

  -- ---- dead registers, and richer jobs
  abbrev DeadThere : ℕ → World → World → Type 0
  DeadThere n w v = (x : World) × In n w x × ((last : List Task) × AllAlike x.programs x.jobs last × (with_jobs x last ≡ v))

  dead_along : AlikeIsAnEquivalence → (n : ℕ) (w : World) (tasks : List Task) (v : World) → AllAlike w.programs w.jobs tasks
      → In n (with_jobs w tasks) v → DeadThere n w v
  dead_along equal zero w tasks v all same = (w, refl, (tasks, all, sym same))
  dead_along equal (suc n) w tasks v all (mid, step, rest) =
      let l = leads (with_jobs w tasks) mid step in
      let x : World = with_jobs mid (dead_there equal l.0 l.1 w tasks all mid l.2) in
      let r = dead_along equal n x mid.jobs v (dead_alike equal l.0 l.1 w tasks all mid l.2) rest in
      (r.0, (x, l.3 w x (dead_permuted equal l.0 l.1 w tasks all mid l.2), r.1), r.2)

  pub dead_places : AlikeIsAnEquivalence → (P : World → Type 0) (w : World) → ButForDead (ButForPlaces peers P) w → ButForPlaces peers (ButForDead P) w
  dead_places equal P w (tasks, all, (v, (n, chain), shown)) =
      let r = dead_along equal n w tasks v all chain in
      (r.0, (n, r.1), (r.2.0, r.2.1, subst P (sym r.2.2) shown))

  abbrev RichHere : ℕ → World → World → Type 0
  RichHere n w v = (jobs : List Task) × AsRich w.jobs jobs × In n (with_jobs w jobs) v

  rich_along : (n : ℕ) (w v : World) (tasks : List Task) → In n w v → AsRich v.jobs tasks → RichHere n w (with_jobs v tasks)
  rich_along zero w v tasks same rich =
      (tasks, subst (λ (x : World). AsRich x.jobs tasks) same rich, ap (λ (x : World). with_jobs x tasks) same)
  rich_along (suc n) w v tasks (mid, step, rest) rich =
      let r = rich_along n mid v tasks rest rich in
      let l = leads w mid step in
      let jobs = rich_here l.0 l.1 w mid l.2 r.0 r.1 in (
        jobs,
        are_rich_here l.0 l.1 w mid l.2 r.0 r.1,
        (with_jobs mid r.0, l.3 (with_jobs w jobs) (with_jobs mid r.0) (rich_permuted l.0 l.1 w mid l.2 r.0 r.1), r.2),
      )

  -- richer jobs of the first are richer ones of the last
  pub rich_over : (n : ℕ) (w v : World) (tasks : List Task) → In n w v → AsRich w.jobs tasks
      → (jobs : List Task) × AsRich v.jobs jobs × In n (with_jobs w tasks) (with_jobs v jobs)
  rich_over zero w v tasks same rich =
      (tasks, subst (λ (x : World). AsRich x.jobs tasks) (sym same) rich, ap (λ (x : World). with_jobs x tasks) same)
  rich_over (suc n) w v tasks (mid, step, rest) rich =
      let l = leads w mid step in
      let t = rich_there l.0 l.1 w mid l.2 tasks rich in
      let r = rich_over n mid v t.0 rest t.1 in
      (r.0, r.1, (with_jobs mid t.0, l.3 (with_jobs w tasks) (with_jobs mid t.0) t.2, r.2))

  pub places_richly : (P : World → Type 0) (w : World) → ButForPlaces peers (Richly P) w → Richly (ButForPlaces peers P) w
  places_richly P w (v, (n, chain), (tasks, rich, shown)) =
      let r = rich_along n w v tasks chain rich in
      (r.0, r.1, (with_jobs v tasks, (n, r.2), shown))

pub permuted_is_an_equivalence : PermutedIsAnEquivalence
permuted_is_an_equivalence peers a b c = ((0, refl), back peers a b, again peers a b c)
