-- Poorer jobs, where CPUs and jobs change places.
use Rattle.std.proofs.Common.{◌≡◌, ◌∙◌, ℕ, ◌+◌, List, Option, Some, None, inl, inr, refl, sym, ap, subst}
use Rattle.std.specs.Prelude.{slice_get}
use Rattle.bpf_shared.specs.Shape.{Shape}
use Rattle.bpf_loader.specs.Loaded.{Loaded}
use Rattle.bpf_cpu.specs.declared.cpu.Cpu.{Cpu}
use Rattle.bpf_cpu.specs.Task.{Stage, Task, InHand}
use Rattle.bpf_machine.specs.Headways.{with_jobs}
use Rattle.bpf_machine.specs.Patient.{AsRich, IsRicher}
use Rattle.bpf_machine.specs.Schedule.{World}
use Rattle.bpf_machine.proofs.PatientLaws.{richer_cpu}
use Rattle.bpf_equal.specs.Permutations.{Permutation}
use Rattle.bpf_equal.specs.Worlds.{AreOneStage, IsAsFar, IsBlind, IsPartner, IsPermuted}
use Rattle.bpf_equal.proofs.Beside.{Beside, others, others_beside, permuted_beside}
use Rattle.bpf_equal.proofs.Partners.{Follows, hand_there}
use Rattle.bpf_equal.proofs.Richer.{each_rich, rich_each}

abbrev IsPoorer : Task → Task → Type 0
IsPoorer old new = IsRicher new old

poorer_cpu : (old new : Task) → IsPoorer old new → new.cpu ≡ old.cpu
poorer_cpu old new poor = sym (richer_cpu new old poor)

module _ (h : Shape) (programs : List Loaded) (cpus : Permutation) where
  abbrev Partner : Task → Task → Type 0
  Partner = IsPartner h programs cpus

  -- the partner of a poorer job
  poorer_follows : (x more y : Task) → IsPoorer x more → Partner x y → (other : Task) × Partner more other × IsPoorer y other
  poorer_follows x more y (inl same) partner = (y, subst (λ (t : Task). Partner t y) same partner, inl refl)
  poorer_follows x more y (inr (state, left, n, at, is)) partner = go k.0 k.1 k.2
    where
      k : (other : Cpu) × (y.stage ≡ InHand other (left + n)) × Follows h programs cpus x y state other
      k = hand_there h programs cpus x y partner state (left + n) (ap (λ (t : Task). t.stage) is)

      stage_is : (other : Cpu) → Follows h programs cpus x y state other → IsAsFar h programs more (record y { stage = InHand other left })
      stage_is other (inl (cpu, same)) = inl (cpu ∙ ap (λ (t : Task). t.cpu) is, ap (λ (c : Cpu). InHand c left) same ∙ sym at)
      stage_is other (inr (blind, one)) = inr (
        subst (IsBlind h programs) (ap (λ (t : Task). t.program) is) blind,
        subst (λ (s : Stage). AreOneStage s (InHand other left)) (sym at) (one, refl),
      )

      go : (other : Cpu) → y.stage ≡ InHand other (left + n) → Follows h programs cpus x y state other
          → (last : Task) × Partner more last × IsPoorer y last
      go other stage follows = (
        record y { stage = InHand other left },
        record {
          cpu = partner.cpu ∙ ap (λ (t : Task). cpus.to t.cpu) is;
          program = partner.program ∙ ap (λ (t : Task). t.program) is;
          budget = partner.budget ∙ ap (λ (t : Task). t.budget) is;
          stage = stage_is other follows;
        },
        inr (other, left, n, refl, ap (λ (s : Stage). record y { stage = s }) stage),
      )

turned : (o p : Option Task) → Beside IsRicher o p → Beside IsPoorer p o
turned None None both = tt
turned None (Some y) both = absurd both
turned (Some x) None both = absurd both
turned (Some x) (Some y) both = both

turned_back : (o p : Option Task) → Beside IsPoorer o p → Beside IsRicher p o
turned_back None None both = tt
turned_back None (Some y) both = absurd both
turned_back (Some x) None both = absurd both
turned_back (Some x) (Some y) both = both

-- with poorer jobs, what a world leads to, with poorer ones
module _ (cpus jobs : Permutation) (w v : World) (p : IsPermuted cpus jobs w v) (tasks : List Task) (rich : AsRich tasks w.jobs) where
  each_poor : (j : ℕ) → Beside IsPoorer (slice_get w.jobs j) (slice_get tasks j)
  each_poor j = turned (slice_get tasks j) (slice_get w.jobs j) (rich_each tasks w.jobs rich j)

  pub poor_there : (news : List Task) × AsRich news v.jobs × IsPermuted cpus jobs (with_jobs w tasks) (with_jobs v news)
  poor_there =
      let follows = poorer_follows w.store.shape w.programs cpus in
      let news = others IsPoorer poorer_cpu cpus jobs w v p tasks each_poor follows in (
        news,
        each_rich news v.jobs (λ k. turned_back (slice_get v.jobs k) (slice_get news k)
            (others_beside IsPoorer poorer_cpu cpus jobs w v p tasks each_poor follows k)),
        permuted_beside IsPoorer poorer_cpu cpus jobs w v p tasks each_poor follows,
      )
