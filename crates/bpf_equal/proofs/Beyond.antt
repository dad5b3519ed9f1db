-- What lies beyond schedules, where CPUs and jobs change places.
use Rattle.std.proofs.Common.{◌≡◌, ◌∙◌, ◌<◌, ℕ, zero, suc, List, [], ◌∷◌, map, Option, Some, None, inl, inr, refl, sym, ap, subst, arith}
use Rattle.std.specs.Prelude.{slice_get}
use Rattle.std.proofs.lemmas.Bool.{cases_lt}
use mathlib.Core.Path.{fun_ext}
use Rattle.bpf_shared.specs.Shape.{Shape}
use Rattle.bpf_shared.specs.Store.{Plain}
use Rattle.bpf_shared.proofs.Puts.{equal_or_not}
use Rattle.bpf_loader.specs.Loaded.{Loaded}
use Rattle.bpf_cpu.specs.Task.{Task}
use Rattle.bpf_machine.specs.Headways.{with_jobs}
use Rattle.bpf_machine.specs.Schedule.{World, unrolled}
use Rattle.bpf_machine.proofs.PatientLaws.{rich_again}
use Rattle.bpf_equal.specs.Patient.{AreAllExchanged, BeyondIsExchanged, CoveredLieBeyond, ExchangesAreSymmetries, LiesBeyond, LiesBeyondOne}
use Rattle.bpf_equal.specs.Peers.{AreOneGroup, Peer}
use Rattle.bpf_equal.specs.Permutations.{Exchanges, Permutation, exchanged}
use Rattle.bpf_equal.specs.Worlds.{AreNeighbours, ArePartners, ArePermutedIn, AreSymmetries, IsPermuted, KeepsOrder}
use Rattle.bpf_equal.proofs.Back.{composed, inverse, none_moves, permuted_back, permuted_itself, permuted_on}
use Rattle.bpf_equal.proofs.Exchanging.{either_way, exchanged_itself}
use Rattle.bpf_equal.proofs.Freely.{free_runs_are_permuted}
use Rattle.bpf_equal.proofs.Richer.{rich_there}
use Rattle.bpf_equal.proofs.Turns.{schedules_are_permuted}

pub covered_lie_beyond : CoveredLieBeyond
covered_lie_beyond first y z w schedule later m runs freely shows (jobs, rich, covered) = (
  y,
  later,
  z,
  jobs,
  runs,
  freely,
  rich,
  record {
    cpus = none_moves;
    jobs = none_moves;
    first = z;
    second = with_jobs w jobs;
    first_goes = permuted_itself z;
    second_goes = permuted_itself (with_jobs w jobs);
    machine = m;
    shows = shows;
    covers = covered;
  },
)

-- ---- the same moves
module _ (cpus jobs more others : Permutation) (w v : World) (to : (x : ℕ) → cpus.to x ≡ more.to x) (from : (x : ℕ) → cpus.from x ≡ more.from x)
    (goes : (x : ℕ) → jobs.to x ≡ others.to x) (p : IsPermuted more others w v) where
  abbrev h : Shape
  h = w.store.shape

  abbrev ps : List Loaded
  ps = w.programs

  partners : (o q : Option Task) → ArePartners h ps more o q → ArePartners h ps cpus o q
  partners None None both = tt
  partners None (Some new) both = absurd both
  partners (Some old) None both = absurd both
  partners (Some old) (Some new) both =
      record { cpu = both.cpu ∙ sym (to old.cpu); program = both.program; budget = both.budget; stage = both.stage }

  order_so : KeepsOrder w.jobs jobs
  order_so j k one other at_j at_k same below =
      subst (λ (n : ℕ). n < jobs.to k) (sym (goes j))
      (subst (λ (n : ℕ). others.to j < n) (sym (goes k)) (p.order j k one other at_j at_k same below))

  permuted_so : IsPermuted cpus jobs w v
  permuted_so =
      let froms : more.from ≡ cpus.from = fun_ext (λ x. sym (from x)) in
      let stored : (ℕ → ℕ) → Plain = λ f. record w.store {
        running = λ c. w.store.running (f c);
        held = λ c. w.store.held (f c);
        kept = λ c. w.store.kept (f c);
      } in
      record {
        store = p.store ∙ ap stored froms;
        programs = p.programs;
        each = λ j. subst (λ (i : ℕ). ArePartners h ps cpus (slice_get w.jobs j) (slice_get v.jobs i)) (sym (goes j))
            (partners (slice_get w.jobs j) (slice_get v.jobs (others.to j)) (p.each j));
        order = order_so;
        lists = p.lists ∙ ap (λ (f : ℕ → ℕ). λ (c : ℕ). w.lists (f c)) froms;
        stays = λ k inside. (
          subst (λ (n : ℕ). n < w.store.shape.cpus) (sym (to k)) (p.stays k inside).0,
          subst (λ (n : ℕ). n < w.store.shape.cpus) (sym (from k)) (p.stays k inside).1,
        );
      }

-- an exchange of two is one of the other and the one
exchanges_back : (p : Permutation) (c d : ℕ) → Exchanges p c d → Exchanges p d c
exchanges_back p c d is x = ((is x).0 ∙ either_way c d x, (is x).1 ∙ either_way c d x)

exchanges_once : (p q : Permutation) (c d : ℕ) → Exchanges p c d → Exchanges q c d → (x : ℕ) → (p.to x ≡ q.to x) × (p.from x ≡ q.from x)
exchanges_once p q c d is other x = ((is x).0 ∙ sym (other x).0, (is x).1 ∙ sym (other x).1)

-- one of nothing moves none
exchanges_none : (p : Permutation) (c d : ℕ) → d ≡ c → Exchanges p c d → (x : ℕ) → (p.to x ≡ x) × (p.from x ≡ x)
exchanges_none p c d same is x =
    let stays : exchanged c d x ≡ x = ap (λ (n : ℕ). exchanged c n x) same ∙ exchanged_itself c x in
    ((is x).0 ∙ stays, (is x).1 ∙ stays)

turned : (peers : List Peer) (j k : ℕ) (one other : Peer) → AreOneGroup peers j k one other → AreOneGroup peers k j other one
turned peers j k one other group = record { first = group.second; second = group.first; group = sym group.group }

one_peer : (peers : List Peer) (j k : ℕ) (one other : Peer) → AreOneGroup peers j k one other → j ≡ k → other.cpu ≡ one.cpu
one_peer peers j k one other group same =
    let two : slice_get peers j ≡ slice_get peers k = ap (slice_get peers) same in
    let both : Some one ≡ Some other = sym group.first ∙ two ∙ group.second in
    let is : one ≡ other = cc in
    ap (λ (p : Peer). p.cpu) (sym is)

-- the lesser of two is before the other, or they are one
data Order (j k : ℕ) : Type 0 where
  Rises : j < k → Order j k
  Falls : k < j → Order j k
  Stays : j ≡ k → Order j k

order_of : (j k : ℕ) → Order j k
order_of j k = elim (cases_lt j k) [
  | inl less ↦ Rises less
  | inr past ↦ elim (equal_or_not j k) [
    | inl same ↦ Stays same
    | inr apart ↦ Falls (omega (arith, past, apart))
  ]
]

pub exchanges_are_symmetries : ExchangesAreSymmetries
exchanges_are_symmetries peers w stay cpus jobs (j, k, one, other, group, on_cpus, on_jobs) = go (order_of j k)
  where
    go : Order j k → IsPermuted cpus jobs w w
    go (Rises less) =
        let s = stay j k one other less group in
        let c = exchanges_once cpus s.0 one.cpu other.cpu on_cpus s.2 in
        let b = exchanges_once jobs s.1 j k on_jobs s.3 in
        permuted_so cpus jobs s.0 s.1 w w (λ x. (c x).0) (λ x. (c x).1) (λ x. (b x).0) s.4
    go (Falls less) =
        let s = stay k j other one less (turned peers j k one other group) in
        let c = exchanges_once cpus s.0 other.cpu one.cpu (exchanges_back cpus one.cpu other.cpu on_cpus) s.2 in
        let b = exchanges_once jobs s.1 k j (exchanges_back jobs j k on_jobs) s.3 in
        permuted_so cpus jobs s.0 s.1 w w (λ x. (c x).0) (λ x. (c x).1) (λ x. (b x).0) s.4
    go (Stays same) =
        let c = exchanges_none cpus one.cpu other.cpu (one_peer peers j k one other group same) on_cpus in
        let b = exchanges_none jobs j k (sym same) on_jobs in
        permuted_so cpus jobs none_moves none_moves w w (λ x. (c x).0) (λ x. (c x).1) (λ x. (b x).0) (permuted_itself w)

-- ---- what lies beyond
lies_by : (cpus jobs : Permutation) (first w v : World) (schedule : List ℕ) → IsPermuted cpus jobs first first → IsPermuted cpus jobs w v
    → LiesBeyond first schedule w → LiesBeyond first (map cpus.to schedule) v
lies_by cpus jobs first w v schedule stays p (y, later, z, tasks, runs, freely, rich, one) =
    let r = schedules_are_permuted cpus jobs first first y schedule stays runs in
    let f = free_runs_are_permuted cpus jobs y r.0 z later r.2 freely in
    let t = rich_there cpus jobs w v p tasks rich in
    let goes = permuted_back cpus jobs z f.0 f.2 in
    let goes_too = permuted_back cpus jobs (with_jobs w tasks) (with_jobs v t.0) t.2 in (
      r.0,
      map cpus.to later,
      f.0,
      t.0,
      r.1,
      f.1,
      t.1,
      record {
        cpus = composed (inverse cpus) one.cpus;
        jobs = composed (inverse jobs) one.jobs;
        first = one.first;
        second = one.second;
        first_goes = permuted_on (inverse cpus) (inverse jobs) f.0 z goes one.cpus one.jobs one.first one.first_goes;
        second_goes = permuted_on (inverse cpus) (inverse jobs) (with_jobs v t.0) (with_jobs w tasks) goes_too one.cpus one.jobs one.second one.second_goes;
        machine = one.machine;
        shows = one.shows;
        covers = one.covers;
      },
    )

map_stays : (place : ℕ → ℕ) → ((x : ℕ) → place x ≡ x) → (xs : List ℕ) → map place xs ≡ xs
map_stays place stays [] = refl
map_stays place stays (x ∷ xs) = ap (λ (n : ℕ). n ∷ map place xs) (stays x) ∙ ap (λ (ns : List ℕ). x ∷ ns) (map_stays place stays xs)

module _ (peers : List Peer) (first : World) (all : List (List (ℕ × ℕ))) (stay : AreSymmetries peers first) (closed : AreAllExchanged peers all) where
  -- with each schedule there is the one of CPUs that a move leads to
  abbrev IsThere : (ℕ → ℕ) → List (ℕ × ℕ) → Type 0
  IsThere place by = (k : ℕ) × (other : List (ℕ × ℕ)) × (slice_get all k ≡ Some other) × (unrolled other ≡ map place (unrolled by))

  module _ (i : ℕ) (by : List (ℕ × ℕ)) (at : slice_get all i ≡ Some by) (place : ℕ → ℕ) where
    there_by : (c d : ℕ) → ((x : ℕ) → place x ≡ exchanged c d x) → IsThere (exchanged c d) by → IsThere place by
    there_by c d is (k, other, there, same) =
        (k, other, there, same ∙ ap (λ (f : ℕ → ℕ). map f (unrolled by)) (sym (fun_ext is)))

    is_there : (j k : ℕ) (one other : Peer) → AreOneGroup peers j k one other → ((x : ℕ) → place x ≡ exchanged one.cpu other.cpu x) → IsThere place by
    is_there j k one other group is = go (order_of j k)
      where
        go : Order j k → IsThere place by
        go (Rises less) = there_by one.cpu other.cpu is (closed i one.cpu other.cpu by at (j, k, one, other, less, group, refl, refl))
        go (Falls less) =
            there_by other.cpu one.cpu (λ x. is x ∙ either_way one.cpu other.cpu x)
            (closed i other.cpu one.cpu by at (k, j, other, one, less, turned peers j k one other group, refl, refl))
        go (Stays same) =
            let none : (x : ℕ) → place x ≡ x = λ x. is x
            ∙ (ap (λ (n : ℕ). exchanged one.cpu n x) (one_peer peers j k one other group same) ∙ exchanged_itself one.cpu x) in
            (i, by, at, sym (map_stays place none (unrolled by)))

  lies_there : (place : ℕ → ℕ) (w : World) (by : List (ℕ × ℕ)) → IsThere place by → LiesBeyond first (map place (unrolled by)) w → LiesBeyondOne first all w
  lies_there place w by (k, other, there, same) lies = (k, other, there, subst (λ (cs : List ℕ). LiesBeyond first cs w) (sym same) lies)

  lies_next : (w v : World) → AreNeighbours peers w v → LiesBeyondOne first all v → LiesBeyondOne first all w
  lies_next w v (cpus, jobs, (j, k, one, other, group, on_cpus, on_jobs), inl p) (i, by, at, lies) =
      let s = permuted_back cpus jobs first first (stay cpus jobs (j, k, one, other, group, on_cpus, on_jobs)) in
      let q = permuted_back cpus jobs w v p in
      lies_there cpus.from w by (is_there i by at cpus.from j k one other group (λ x. (on_cpus x).1))
      (lies_by (inverse cpus) (inverse jobs) first v w (unrolled by) s q lies)
  lies_next w v (cpus, jobs, (j, k, one, other, group, on_cpus, on_jobs), inr p) (i, by, at, lies) =
      let s = stay cpus jobs (j, k, one, other, group, on_cpus, on_jobs) in
      lies_there cpus.to w by (is_there i by at cpus.to j k one other group (λ x. (on_cpus x).0)) (lies_by cpus jobs first v w (unrolled by) s p lies)

  lies_along : (n : ℕ) (w v : World) → ArePermutedIn peers n w v → LiesBeyondOne first all v → LiesBeyondOne first all w
  lies_along zero w v same lies = subst (LiesBeyondOne first all) same lies
  lies_along (suc n) w v (mid, step, rest) lies = lies_next w mid step (lies_along n mid v rest lies)

pub beyond_is_exchanged : BeyondIsExchanged
beyond_is_exchanged peers first w v all jobs stay closed rich (n, chain) beyond =
    let (i, by, at, (y, later, z, tasks, runs, freely, more, one)) = lies_along peers first all stay closed n (with_jobs w jobs) v chain beyond in
    (i, by, at, (y, later, z, tasks, runs, freely, rich_again w.jobs jobs tasks rich more, one))
