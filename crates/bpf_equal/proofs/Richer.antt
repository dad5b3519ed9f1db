-- Dead registers and richer jobs, where CPUs and jobs change places.
use Rattle.std.proofs.Common.{◌≡◌, ◌∙◌, ℕ, zero, suc, ◌+◌, List, [], ◌∷◌, Some, inl, inr, refl, sym, ap, subst}
use Rattle.std.specs.Prelude.{slice_get}
use Rattle.bpf_shared.specs.Shape.{Shape}
use Rattle.bpf_loader.specs.Loaded.{Loaded}
use Rattle.bpf_cpu.specs.declared.cpu.Cpu.{Cpu}
use Rattle.bpf_cpu.specs.Task.{Task, InHand}
use Rattle.bpf_live.specs.Alike.{AreAlike}
use Rattle.bpf_live.specs.Laws.{AlikeIsAnEquivalence}
use Rattle.bpf_live.specs.Live.{Table}
use Rattle.bpf_machine.specs.Headways.{with_jobs}
use Rattle.bpf_machine.specs.Patient.{AsRich, IsRicher}
use Rattle.bpf_machine.specs.Schedule.{World}
use Rattle.bpf_machine.proofs.PatientLaws.{richer_cpu}
use Rattle.bpf_alike.specs.Worlds.{AllAlike, AreAlikeIn, AreLike, IsAlike}
use Rattle.bpf_alike.proofs.AlikeJobs.{all_back}
use Rattle.bpf_equal.specs.Permutations.{Permutation}
use Rattle.bpf_equal.specs.States.{Marks, marked, marks_of}
use Rattle.bpf_equal.specs.Worlds.{IsPartner, IsPermuted}
use Rattle.bpf_equal.proofs.Back.{inverse, permuted_back}
use Rattle.bpf_equal.proofs.Beside.{Beside, others, others_beside, permuted_beside}
use Rattle.bpf_equal.proofs.Partners.{Follows, hand_there}

-- ---- states
alike_marked : (program : Loaded) (table : Table) (k : Marks) (a b : Cpu) → AreAlike program table a b → AreAlike program table (marked k a) (marked k b)
alike_marked program table k a b alike =
    record { rest = ap (marked k) alike.rest; many = alike.many; live = alike.live; entered = alike.entered }

chains_marked : (program : Loaded) (k : Marks) (n : ℕ) (a b : Cpu) → AreAlikeIn program n a b → AreAlikeIn program n (marked k a) (marked k b)
chains_marked program k zero a b same = ap (marked k) same
chains_marked program k (suc n) a b (table, mid, sound, alike, rest) =
    (table, marked k mid, sound, alike_marked program table k a mid alike, chains_marked program k n mid b rest)

marks_alike : (program : Loaded) (k : Marks) (a b : Cpu) → AreLike program a b → AreLike program (marked k a) (marked k b)
marks_alike program k a b (n, alike) = (n, chains_marked program k n a b alike)

-- ---- jobs
-- a job in hand that is in another state, or has other steps left, and the partner of one
module _ (h : Shape) (programs : List Loaded) (cpus : Permutation) (x y : Task) (partner : IsPartner h programs cpus x y) (state other : Cpu) where
  -- the partner of the job in another state
  pub in_state : (left rest : ℕ) (last : Cpu) → Follows h programs cpus x y state other
      → (new : Cpu) × IsPartner h programs cpus (record x { stage = InHand last rest }) (record y { stage = InHand new rest })
      × (((program : Loaded) → slice_get programs x.program ≡ Some program → AreLike program state last)
      → (program : Loaded) → slice_get programs x.program ≡ Some program → AreLike program other new)
  in_state left rest last (inl (cpu, same)) = (
    last,
    record { cpu = partner.cpu; program = partner.program; budget = partner.budget; stage = inl (cpu, refl) },
    λ like program loaded. subst (λ (c : Cpu). AreLike program c last) (sym same) (like program loaded),
  )
  in_state left rest last (inr (blind, one)) = (
    marked (marks_of other) last,
    record { cpu = partner.cpu; program = partner.program; budget = partner.budget; stage = inr (blind, (refl, refl)) },
    λ like program loaded. subst (λ (c : Cpu). AreLike program c (marked (marks_of other) last)) (sym one)
        (marks_alike program (marks_of other) state last (like program loaded)),
  )

module _ (h : Shape) (programs : List Loaded) (cpus : Permutation) where
  abbrev Partner : Task → Task → Type 0
  Partner = IsPartner h programs cpus

  pub alike_follows : (x more y : Task) → IsAlike programs x more → Partner x y → (other : Task) × Partner more other × IsAlike programs y other
  alike_follows x more y (inl same) partner = (y, subst (λ (t : Task). Partner t y) (sym same) partner, inl refl)
  alike_follows x more y (inr (program, state, left, last, loaded, at, is, alike)) partner =
      let k = hand_there h programs cpus x y partner state left at in
      let s = in_state h programs cpus x y partner state k.0 left left last k.2 in
      let like = s.2 (λ it there.
      let both : Some program ≡ Some it = sym loaded ∙ there in
      let one : program ≡ it = cc in
      subst (λ (l : Loaded). AreLike l state last) one alike) program loaded in (
        record y { stage = InHand s.0 left },
        subst (λ (t : Task). Partner t (record y { stage = InHand s.0 left })) (sym is) s.1,
        inr (program, k.0, left, s.0, ap (slice_get programs) partner.program ∙ loaded, k.1, refl, like),
      )

  pub richer_follows : (x more y : Task) → IsRicher x more → Partner x y → (other : Task) × Partner more other × IsRicher y other
  richer_follows x more y (inl same) partner = (y, subst (λ (t : Task). Partner t y) (sym same) partner, inl refl)
  richer_follows x more y (inr (state, left, n, at, is)) partner =
      let k = hand_there h programs cpus x y partner state left at in
      let z : Task = record y { stage = InHand k.0 (left + n) } in
      (z, subst (λ (t : Task). Partner t z) (sym is) (same_state k.0 k.2), inr (k.0, left, n, k.1, refl))
    where
      same_state : (other : Cpu) → Follows h programs cpus x y state other → Partner (record x { stage = InHand state (left + n) }) (record y
          { stage = InHand other (left + n) })
      same_state other (inl (cpu, same)) = record {
        cpu = partner.cpu;
        program = partner.program;
        budget = partner.budget;
        stage = inl (cpu, ap (λ (c : Cpu). InHand c (left + n)) same);
      }
      same_state other (inr (blind, one)) =
          record { cpu = partner.cpu; program = partner.program; budget = partner.budget; stage = inr (blind, (one, refl)) }

-- ---- lists
module _ (programs : List Loaded) where
  alike_each : (xs ys : List Task) → AllAlike programs xs ys → (j : ℕ) → Beside (IsAlike programs) (slice_get xs j) (slice_get ys j)
  alike_each [] [] all j = tt
  alike_each [] (y ∷ ys) all j = absurd all
  alike_each (x ∷ xs) [] all j = absurd all
  alike_each (x ∷ xs) (y ∷ ys) all zero = all.0
  alike_each (x ∷ xs) (y ∷ ys) all (suc j) = alike_each xs ys all.1 j

  each_alike : (xs ys : List Task) → ((j : ℕ) → Beside (IsAlike programs) (slice_get xs j) (slice_get ys j)) → AllAlike programs xs ys
  each_alike [] [] each = tt
  each_alike [] (y ∷ ys) each = absurd (each 0)
  each_alike (x ∷ xs) [] each = absurd (each 0)
  each_alike (x ∷ xs) (y ∷ ys) each = (each 0, each_alike xs ys (λ j. each (suc j)))

pub rich_each : (xs ys : List Task) → AsRich xs ys → (j : ℕ) → Beside IsRicher (slice_get xs j) (slice_get ys j)
rich_each [] [] all j = tt
rich_each [] (y ∷ ys) all j = absurd all
rich_each (x ∷ xs) [] all j = absurd all
rich_each (x ∷ xs) (y ∷ ys) all zero = all.0
rich_each (x ∷ xs) (y ∷ ys) all (suc j) = rich_each xs ys all.1 j

pub each_rich : (xs ys : List Task) → ((j : ℕ) → Beside IsRicher (slice_get xs j) (slice_get ys j)) → AsRich xs ys
each_rich [] [] each = tt
each_rich [] (y ∷ ys) each = absurd (each 0)
each_rich (x ∷ xs) [] each = absurd (each 0)
each_rich (x ∷ xs) (y ∷ ys) each = (each 0, each_rich xs ys (λ j. each (suc j)))

one_cpu : (programs : List Loaded) (x y : Task) → IsAlike programs x y → y.cpu ≡ x.cpu
one_cpu programs x y (inl same) = ap (λ (t : Task). t.cpu) same
one_cpu programs x y (inr a) = ap (λ (t : Task). t.cpu) a.6

-- ---- worlds
module _ (equal : AlikeIsAnEquivalence) (cpus jobs : Permutation) (w : World) (tasks : List Task) (all : AllAlike w.programs w.jobs tasks) (v : World)
    (p : IsPermuted cpus jobs (with_jobs w tasks) v) where
  abbrev R : Task → Task → Type 0
  R = IsAlike w.programs

  each_back : (j : ℕ) → Beside R (slice_get tasks j) (slice_get w.jobs j)
  each_back = alike_each w.programs tasks w.jobs (all_back equal w.programs w.jobs tasks all)

  -- with other jobs, what it leads to, with others
  pub dead_there : List Task
  dead_there = others R (one_cpu w.programs) cpus jobs (with_jobs w tasks) v p w.jobs each_back (alike_follows w.store.shape w.programs cpus)

  pub dead_permuted : IsPermuted cpus jobs w (with_jobs v dead_there)
  unfolding dead_there
  dead_permuted = permuted_beside R (one_cpu w.programs) cpus jobs (with_jobs w tasks) v p w.jobs each_back (alike_follows w.store.shape w.programs cpus)

  pub dead_alike : AllAlike v.programs dead_there v.jobs
  unfolding dead_there
  dead_alike =
      let beside = others_beside R (one_cpu w.programs) cpus jobs (with_jobs w tasks) v p w.jobs each_back
      (alike_follows w.store.shape w.programs cpus) in
      subst (λ (l : List Loaded). AllAlike l dead_there v.jobs) (sym p.programs)
      (all_back equal w.programs v.jobs dead_there (each_alike w.programs v.jobs dead_there beside))

module _ (cpus jobs : Permutation) (w v : World) (p : IsPermuted cpus jobs w v) (tasks : List Task) (rich : AsRich v.jobs tasks) where
  abbrev back : IsPermuted (inverse cpus) (inverse jobs) v w
  back = permuted_back cpus jobs w v p

  each_rich_there : (j : ℕ) → Beside IsRicher (slice_get v.jobs j) (slice_get tasks j)
  each_rich_there = rich_each v.jobs tasks rich

  -- jobs that lead to richer ones
  pub rich_here : List Task
  rich_here = others IsRicher richer_cpu (inverse cpus) (inverse jobs) v w back tasks each_rich_there (richer_follows v.store.shape v.programs (inverse cpus))

  pub rich_permuted : IsPermuted cpus jobs (with_jobs w rich_here) (with_jobs v tasks)
  unfolding rich_here
  rich_permuted =
      let there = permuted_beside IsRicher richer_cpu (inverse cpus) (inverse jobs) v w back tasks each_rich_there
      (richer_follows v.store.shape v.programs (inverse cpus)) in
      permuted_back (inverse cpus) (inverse jobs) (with_jobs v tasks) (with_jobs w rich_here) there

  pub are_rich_here : AsRich w.jobs rich_here
  unfolding rich_here
  are_rich_here =
      let beside = others_beside IsRicher richer_cpu (inverse cpus) (inverse jobs) v w back tasks each_rich_there
      (richer_follows v.store.shape v.programs (inverse cpus)) in
      each_rich w.jobs rich_here beside

-- with richer jobs, what it leads to, with richer ones
pub rich_there : (cpus jobs : Permutation) (w v : World) → IsPermuted cpus jobs w v → (tasks : List Task) → AsRich w.jobs tasks
    → (news : List Task) × AsRich v.jobs news × IsPermuted cpus jobs (with_jobs w tasks) (with_jobs v news)
rich_there cpus jobs w v p tasks rich =
    let q = permuted_back cpus jobs w v p in
    let news = rich_here (inverse cpus) (inverse jobs) v w q tasks rich in (
      news,
      are_rich_here (inverse cpus) (inverse jobs) v w q tasks rich,
      permuted_back (inverse cpus) (inverse jobs) (with_jobs v news) (with_jobs w tasks)
          (rich_permuted (inverse cpus) (inverse jobs) v w q tasks rich),
    )
