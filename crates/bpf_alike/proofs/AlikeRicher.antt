-- Jobs that are alike, of which the ones are given more steps.
use Rattle.std.proofs.Common.{◌∙◌, ◌+◌, List, [], ◌∷◌, inl, inr, refl, ap, subst}
use Rattle.bpf_loader.specs.Loaded.{Loaded}
use Rattle.bpf_cpu.specs.Task.{Task, InHand}
use Rattle.bpf_live.specs.Laws.{AlikeIsAnEquivalence}
use Rattle.bpf_machine.specs.Patient.{AsRich, IsRicher}
use Rattle.bpf_machine.specs.Schedule.{World}
use Rattle.bpf_machine.proofs.PatientLaws.{Richly, richer_hand}
use Rattle.bpf_alike.specs.Worlds.{AllAlike, ButForDead, IsAlike}
use Rattle.bpf_alike.proofs.AlikeJobs.{all_again}

module _ (programs : List Loaded) where
  -- a job that is richer than one that is alike is alike one that is richer
  one_under : (x y z : Task) → IsAlike programs x y → IsRicher y z → (t : Task) × IsRicher x t × IsAlike programs t z
  one_under x y z (inl same) richer = (z, subst (λ (t : Task). IsRicher t z) same richer, inl refl)
  one_under x y z (inr (program, state, left, other, loaded, there, is, alike)) richer =
      let h = richer_hand y z other left richer (ap (λ (t : Task). t.stage) is) in
      let more = left + h.0 in (
        record x { stage = InHand state more },
        inr (state, left, h.0, there, refl),
        inr (program, state, more, other, loaded, refl, h.1 ∙ ap (λ (t : Task). record t { stage = InHand other more }) is, alike),
      )

  pub rich_under : (xs ys zs : List Task) → AllAlike programs xs ys → AsRich ys zs → (ts : List Task) × AsRich xs ts × AllAlike programs ts zs
  rich_under [] [] [] all rich = ([], tt, tt)
  rich_under [] [] (z ∷ zs) all rich = absurd rich
  rich_under [] (y ∷ ys) zs all rich = absurd all
  rich_under (x ∷ xs) [] zs all rich = absurd all
  rich_under (x ∷ xs) (y ∷ ys) [] all rich = absurd rich
  rich_under (x ∷ xs) (y ∷ ys) (z ∷ zs) all rich =
      let one = one_under x y z all.0 rich.0 in
      let rest = rich_under xs ys zs all.1 rich.1 in
      (one.0 ∷ rest.0, (one.1, rest.1), (one.2, rest.2))

-- dead registers, richer jobs and dead registers again are richer jobs and dead registers
pub dead_and_rich : AlikeIsAnEquivalence → (P : World → Type 0) (w : World) → ButForDead (Richly (ButForDead P)) w → Richly (ButForDead P) w
dead_and_rich equal P w (jobs, all, (more, rich, (last, again, shown))) =
    let r = rich_under w.programs w.jobs jobs more all rich in
    (r.0, r.1, (last, all_again equal w.programs r.0 more last r.2 again, shown))
