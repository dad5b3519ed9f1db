-- Equal jobs change places: their stages go, and all else stays.
use Rattle.std.proofs.Common.{◌≡◌, ◌≢◌, ◌∙◌, ℕ, zero, suc, ◌+◌, ◌<◌, List, [], ◌∷◌, Option, Some, None, inl, inr, refl, sym, ap, subst, length, get_or, arith}
use Rattle.std.specs.Prelude.{slice_get}
use Rattle.std.proofs.lemmas.Option.{slice_get_cases, slice_get_within, slice_get-get_or}
use mathlib.Core.Path.{fun_ext}
use Rattle.bpf_shared.proofs.Puts.{equal_or_not}
use Rattle.bpf_cpu.specs.Task.{Stage, Task, Waiting, InHand, Ended}
use Rattle.bpf_machine.specs.Headways.{with_jobs}
use Rattle.bpf_machine.specs.Schedule.{World}
use Rattle.bpf_equal.specs.Equal.{AreEqualIn}
use Rattle.bpf_equal.specs.Groups.{IsJobOf, IsOfPeers, restaged}
use Rattle.bpf_equal.specs.Peers.{AreOneGroup, Peer}
use Rattle.bpf_equal.specs.Permutations.{Permutation, exchanged}
use Rattle.bpf_equal.specs.Worlds.{AreNeighbours, AreOneStage, ArePartners, ArePermuted, IsBlind, IsMove, IsPartner, IsPermuted, KeepsOrder}
use Rattle.bpf_equal.proofs.Back.{none_moves}
use Rattle.bpf_equal.proofs.Chains.{again}
use Rattle.bpf_equal.proofs.Exchanging.{exchange, first_goes, second_goes, others_stay, same_store, same_through, stays}

pub one_stage : (s : Stage) → AreOneStage s s
one_stage (InHand state left) = (refl, refl)
one_stage (Waiting input) = refl
one_stage (Ended end) = refl

-- ---- jobs with the stages of others
abbrev pub restage : Task → Task → Task
restage task other = record task { stage = other.stage }

pub restaged_at : (ts cs : List Task) (i : ℕ) (t c : Task) → slice_get ts i ≡ Some t → slice_get cs i ≡ Some c → slice_get (restaged ts cs) i
    ≡ Some (restage t c)
restaged_at [] cs i t c at there = cc
restaged_at (x ∷ xs) [] i t c at there = cc
restaged_at (x ∷ xs) (y ∷ ys) zero t c at there =
    let same : x ≡ t = cc in
    let other : y ≡ c = cc in
    ap (λ (a : Task). Some (restage a y)) same ∙ ap (λ (b : Task). Some (restage t b)) other
restaged_at (x ∷ xs) (y ∷ ys) (suc i) t c at there = restaged_at xs ys i t c at there

pub restaged_past : (ts cs : List Task) (i : ℕ) → slice_get ts i ≡ None → slice_get (restaged ts cs) i ≡ None
restaged_past [] cs i none = refl
restaged_past (x ∷ xs) [] i none = refl
restaged_past (x ∷ xs) (y ∷ ys) zero none = cc
restaged_past (x ∷ xs) (y ∷ ys) (suc i) none = restaged_past xs ys i none

pub restaged_itself : (ts : List Task) → restaged ts ts ≡ ts
restaged_itself [] = refl
restaged_itself (t ∷ ts) = ap (λ (us : List Task). t ∷ us) (restaged_itself ts)

-- ---- two of them change places
module _ (peers : List Peer) (w : World) (of : IsOfPeers peers w) (j k : ℕ) (one other : Peer) (group : AreOneGroup peers j k one other) (differ : j
    ≢ k) (alike : w.store.running one.cpu ≡ w.store.running other.cpu) where
  abbrev cpus : Permutation
  cpus = exchange one.cpu other.cpu

  abbrev jobs : Permutation
  jobs = exchange j k

  abbrev Partner : Task → Task → Type 0
  Partner = IsPartner w.store.shape w.programs cpus

  equal : AreEqualIn w.store one.cpu other.cpu
  equal = record {
    inside = (of.are.inside j one group.first, of.are.inside k other group.second);
    running = alike;
    held = of.held one.cpu ∙ sym (of.held other.cpu);
    kept = of.kept one.cpu ∙ sym (of.kept other.cpu);
  }

  -- the job of a place, and that it is its peer's
  its : (i : ℕ) (peer : Peer) (task : Task) → slice_get peers i ≡ Some peer → slice_get w.jobs i ≡ Some task → IsJobOf peer task
  its i peer task there at = of.jobs.each i peer task there at

  job_at : (i : ℕ) (peer : Peer) → slice_get peers i ≡ Some peer → (task : Task) × (slice_get w.jobs i ≡ Some task)
  job_at i peer there =
      let inside = slice_get_within peers i peer there in
      elim (slice_get_cases w.jobs i).1 [
        | inl x ↦ (x.0, x.2)
        | inr x ↦ let many = of.jobs.many in absurd (omega (arith, inside, x.0))
      ]

  peer_at : (i : ℕ) (task : Task) → slice_get w.jobs i ≡ Some task → (peer : Peer) × (slice_get peers i ≡ Some peer)
  peer_at i task at =
      let inside = slice_get_within w.jobs i task at in
      elim (slice_get_cases peers i).1 [
        | inl x ↦ (x.0, x.2)
        | inr x ↦ let many = of.jobs.many in absurd (omega (arith, inside, x.0))
      ]

  -- a job of the two goes to the other's place
  goes : (a b : Task) (c : Task) → b.cpu ≡ exchanged one.cpu other.cpu a.cpu → a.program ≡ one.program → b.program ≡ one.program → b.budget ≡ a.budget
      → Partner (restage a c) (restage b c)
  goes a b c cpu mine its same = record {
    cpu = cpu;
    program = its ∙ sym mine;
    budget = same;
    stage = inr (subst (IsBlind w.store.shape w.programs) (sym mine) (of.are.blind j k one other group differ), one_stage c.stage);
  }

  cpus_differ : other.cpu ≢ one.cpu
  cpus_differ same = differ (of.are.apart j k one other group.first group.second (sym same))

  first_partner : (a b c : Task) → IsJobOf one a → IsJobOf other b → Partner (restage a c) (restage b c)
  first_partner a b c mine theirs =
      goes a b c (theirs.cpu ∙ sym (first_goes one.cpu other.cpu a.cpu mine.cpu)) mine.program
      (theirs.program ∙ of.are.program j k one other group) (theirs.budget ∙ (of.are.budget j k one other group ∙ sym mine.budget))

  second_partner : (a b c : Task) → IsJobOf one b → IsJobOf other a → Partner (restage a c) (restage b c)
  second_partner a b c mine theirs =
      goes a b c
      (mine.cpu ∙ sym (second_goes one.cpu other.cpu a.cpu (λ same. cpus_differ (sym theirs.cpu ∙ same)) theirs.cpu))
      (theirs.program ∙ of.are.program j k one other group) mine.program
      (mine.budget ∙ (sym (of.are.budget j k one other group) ∙ sym theirs.budget))

  rest_stays : (i : ℕ) (a c : Task) → slice_get w.jobs i ≡ Some a → i ≢ j → i ≢ k → Partner (restage a c) (restage a c)
  rest_stays i a c at not_one not_other =
      let p = peer_at i a at in
      let mine = its i p.0 a p.1 at in
      record {
        cpu = sym (others_stay one.cpu other.cpu a.cpu (λ same. not_one (of.are.apart i j p.0 one p.1 group.first (sym mine.cpu ∙ same)))
            (λ same. not_other (of.are.apart i k p.0 other p.1 group.second (sym mine.cpu ∙ same))));
        program = refl;
        budget = refl;
        stage = inl (refl, refl);
      }

  module _ (cur new : List Task) (many : length cur ≡ length w.jobs) (moved : (i : ℕ) → slice_get new (exchanged j k i) ≡ slice_get cur i) where
    abbrev Are : Option Task → Option Task → Type 0
    Are = ArePartners w.store.shape w.programs cpus

    there : (i : ℕ) (a b c : Task) → slice_get w.jobs i ≡ Some a → slice_get cur i ≡ Some c → slice_get w.jobs (exchanged j k i) ≡ Some b
        → Partner (restage a c) (restage b c)
        → Are (slice_get (restaged w.jobs cur) i) (slice_get (restaged w.jobs new) (exchanged j k i))
    there i a b c at stage at_b partner =
        subst (λ (o : Option Task). Are o (slice_get (restaged w.jobs new) (exchanged j k i))) (sym (restaged_at w.jobs cur i a c at stage))
        (subst (Are (Some (restage a c))) (sym (restaged_at w.jobs new (exchanged j k i) b c at_b (moved i ∙ stage))) partner)

    some_partner : (i : ℕ) (a c : Task) → slice_get w.jobs i ≡ Some a → slice_get cur i ≡ Some c
        → Are (slice_get (restaged w.jobs cur) i) (slice_get (restaged w.jobs new) (exchanged j k i))
    some_partner i a c at stage = elim (equal_or_not i j) [
      | inl e ↦
          let b = job_at k other group.second in
          let mine = its j one a group.first (subst (λ (x : ℕ). slice_get w.jobs x ≡ Some a) e at) in
          there i a b.0 c at stage (subst (λ (x : ℕ). slice_get w.jobs x ≡ Some b.0) (sym (first_goes j k i e)) b.1)
          (first_partner a b.0 c mine (its k other b.0 group.second b.1))
      | inr not_one ↦ elim (equal_or_not i k) [
        | inl f ↦
            let b = job_at j one group.first in
            let theirs = its k other a group.second (subst (λ (x : ℕ). slice_get w.jobs x ≡ Some a) f at) in
            there i a b.0 c at stage (subst (λ (x : ℕ). slice_get w.jobs x ≡ Some b.0) (sym (second_goes j k i not_one f)) b.1)
            (second_partner a b.0 c (its j one b.0 group.first b.1) theirs)
        | inr not_other ↦
            there i a a c at stage (subst (λ (x : ℕ). slice_get w.jobs x ≡ Some a) (sym (others_stay j k i not_one not_other)) at)
            (rest_stays i a c at not_one not_other)
      ]
    ]

    not_there : (i : ℕ) → slice_get w.jobs i ≡ None → length w.jobs < i + 1
        → Are (slice_get (restaged w.jobs cur) i) (slice_get (restaged w.jobs new) (exchanged j k i))
    not_there i none past =
        let low = slice_get_within peers j one group.first in
        let high = slice_get_within peers k other group.second in
        let same = of.jobs.many in
        let stay : exchanged j k i ≡ i = others_stay j k i (λ e. omega (arith, low, past, same)) (λ e. omega (arith, high, past, same)) in
        let old : slice_get (restaged w.jobs cur) i ≡ None = restaged_past w.jobs cur i none in
        let here : slice_get (restaged w.jobs new) (exchanged j k i) ≡ None =
        subst (λ (x : ℕ). slice_get (restaged w.jobs new) x ≡ None) (sym stay) (restaged_past w.jobs new i none) in
        subst (λ (o : Option Task). Are o (slice_get (restaged w.jobs new) (exchanged j k i))) (sym old) (subst (Are None) (sym here) tt)

    partners : (i : ℕ) → Are (slice_get (restaged w.jobs cur) i) (slice_get (restaged w.jobs new) (exchanged j k i))
    partners i = elim (slice_get_cases w.jobs i).1 [
      | inl x ↦ some_partner i x.0 (get_or cur i x.0) x.2 (slice_get-get_or cur i x.0 (let inside = x.1 in omega (arith, many, inside)))
      | inr x ↦ not_there i x.1 (let past = x.0 in omega (arith, past))
    ]

    -- no two of them are of one CPU
    in_order : KeepsOrder (restaged w.jobs cur) jobs
    in_order a b x y at_a at_b same below = absurd (apart a b x y at_a at_b same below)
      where
        task_of : (i : ℕ) (x : Task) → slice_get (restaged w.jobs cur) i ≡ Some x → (t : Task) × (slice_get w.jobs i ≡ Some t) × (x.cpu ≡ t.cpu)
        task_of i x at = elim (slice_get_cases w.jobs i).1 [
          | inl y ↦
              let inside = y.1 in
              let r = restaged_at w.jobs cur i y.0 (get_or cur i y.0) y.2 (slice_get-get_or cur i y.0 (omega (arith, many, inside))) in
              let is : x ≡ restage y.0 (get_or cur i y.0) = cc in
              (y.0, y.2, ap (λ (t : Task). t.cpu) is)
          | inr y ↦ let none : slice_get (restaged w.jobs cur) i ≡ None = restaged_past w.jobs cur i y.1 in cc
        ]

        apart : (a b : ℕ) (x y : Task) → slice_get (restaged w.jobs cur) a ≡ Some x → slice_get (restaged w.jobs cur) b ≡ Some y → x.cpu ≡ y.cpu → a
            < b → ⊥
        apart a b x y at_a at_b same below =
            let s = task_of a x at_a in
            let t = task_of b y at_b in
            let p = peer_at a s.0 s.1 in
            let q = peer_at b t.0 t.1 in
            let mine = its a p.0 s.0 p.1 s.1 in
            let theirs = its b q.0 t.0 q.1 t.1 in
            let equal : a ≡ b = of.are.apart a b p.0 q.0 p.1 q.1 (sym mine.cpu ∙ (sym s.2 ∙ (same ∙ (t.2 ∙ theirs.cpu)))) in
            omega (arith, equal, below)

    pub stages_exchanged : IsPermuted cpus jobs (with_jobs w (restaged w.jobs cur)) (with_jobs w (restaged w.jobs new))
    stages_exchanged = record {
      store = same_store w.store one.cpu other.cpu equal;
      programs = refl;
      each = partners;
      order = in_order;
      lists = sym (fun_ext (same_through one.cpu other.cpu w.lists (of.lists one.cpu other.cpu)));
      stays = stays w.store one.cpu other.cpu equal;
    }

    pub exchanged_next : AreNeighbours peers (with_jobs w (restaged w.jobs cur)) (with_jobs w (restaged w.jobs new))
    exchanged_next = (cpus, jobs, (j, k, one, other, group, (λ x. (refl, refl)), (λ x. (refl, refl))), inl stages_exchanged)

-- ---- each stays in its place, and may get other marks
exchanged_itself : (c x : ℕ) → exchanged c c x ≡ x
exchanged_itself c x = elim (equal_or_not x c) [
  | inl e ↦ first_goes c c x e ∙ sym e
  | inr ne ↦ others_stay c c x ne ne
]

pub stays_put : (peers : List Peer) (j : ℕ) (one : Peer) → slice_get peers j ≡ Some one → IsMove peers none_moves none_moves
stays_put peers j one at = (
  j,
  j,
  one,
  one,
  record { first = at; second = at; group = refl },
  (λ x. (sym (exchanged_itself one.cpu x), sym (exchanged_itself one.cpu x))),
  (λ x. (sym (exchanged_itself j x), sym (exchanged_itself j x))),
)

module _ (w : World) (old new : List Task) (each : (i : ℕ) → ArePartners w.store.shape w.programs none_moves (slice_get old i) (slice_get new i)) where
  pub marked_anew : IsPermuted none_moves none_moves (with_jobs w old) (with_jobs w new)
  marked_anew = record {
    store = refl;
    programs = refl;
    each = each;
    order = λ j k one other at_j at_k same below. below;
    lists = refl;
    stays = λ k inside. (inside, inside);
  }

-- one more neighbour
pub one_more : (peers : List Peer) (w v u : World) → ArePermuted peers w v → AreNeighbours peers v u → ArePermuted peers w u
one_more peers w v u chain next = again peers w v u chain (1, (u, next, refl))
