-- Jobs that are found to be equal.
use Rattle.std.proofs.Common.{◌≡◌, ◌≢◌, ◌∙◌, ℕ, suc, ◌+◌, ◌<◌, ◌==◌, Bool, true, false, not, List, [], ◌∷◌, Some, inl, inr, refl, sym, ap}
use Rattle.std.proofs.Common.{subst, length, get_or, arith, ne_eqb}
use Rattle.std.specs.Prelude.{All, slice_get}
use Rattle.std.specs.List.{list_any}
use Rattle.std.proofs.lemmas.List.{get_or_read}
use Rattle.std.proofs.lemmas.Map.Keys.{any_passes_from_place}
use Rattle.std.proofs.lemmas.Option.{slice_get_cases, slice_get_within, slice_get-get_or}
use Rattle.bpf_shared.specs.Shape.{Shape}
use Rattle.bpf_shared.proofs.Puts.{equal_or_not}
use Rattle.bpf_loader.specs.Loaded.{Loaded}
use Rattle.bpf_cpu.specs.Task.{Task}
use Rattle.bpf_machine.specs.Parts.{chosen, no_task}
use Rattle.bpf_equal.specs.Groups.{AreEquallyFresh, AreJobsOf, ArePeers, IsJobOf}
use Rattle.bpf_equal.specs.Peers.{Peer}
use Rattle.bpf_equal.specs.Private.Finding.{ArePair, IsFoundAt, IsPairAt, IsPeerOf}
use Rattle.bpf_equal.specs.Worlds.{AreOneStage}
use Rattle.bpf_equal.proofs.Peering.{one_stage}
use Rattle.bpf_equal.proofs.Settling.{chosen_at}

pub none_passes : {A : Type 0} (test : A → Bool) (xs : List A) (i : ℕ) (x : A) → list_any test xs ≡ false → slice_get xs i ≡ Some x → test x ≡ false
none_passes test xs i x none at = go (test x) refl
  where
    go : (b : Bool) → test x ≡ b → b ≡ false
    go false e = refl
    go true e = sym (any_passes_from_place test xs i x at e) ∙ none

pub no_items : {A : Type 0} (xs : List A) → (length xs == 0) ≡ true → xs ≡ []
no_items [] e = refl
no_items (x ∷ xs) e = let never : (suc (length xs) == 0) ≡ false = ne_eqb (suc (length xs)) 0 (λ q. omega (arith, q)) in absurd (true_false (sym e ∙ never))
  where
    true_false : true ≡ false → ⊥
    true_false q = cc

pub not_so : (b : Bool) → not b ≡ true → b ≡ false
not_so false e = refl
not_so true e = cc

pub same_program : (programs : List Loaded) (n : ℕ) (one other : Loaded) → slice_get programs n ≡ Some one → slice_get programs n ≡ Some other → one
    ≡ other
same_program programs n one other at there = cc

-- of no jobs
pub none_are_peers : (h : Shape) (programs : List Loaded) (peers : List Peer) → peers ≡ [] → ArePeers h programs peers
none_are_peers h programs peers e = subst (ArePeers h programs) (sym e) none
  where
    none : ArePeers h programs []
    none = record {
      inside = λ j one at. cc;
      apart = λ j k one other at there same. cc;
      blind = λ j k one other group differ. let at = group.first in cc;
      program = λ j k one other group. let at = group.first in cc;
      budget = λ j k one other group. let at = group.first in cc;
      told = λ j one at blind. cc;
      no_maps = λ j one at. cc;
    }

-- one more is a pair with the job
pub next_pair : (jobs : List Task) (peers : List Peer) (j n : ℕ) → ((k : ℕ) → k < n → j ≢ k → IsPairAt jobs peers j k)
    → (j ≢ n → IsPairAt jobs peers j n) → (k : ℕ) → k < n + 1 → j ≢ k → IsPairAt jobs peers j k
next_pair jobs peers j n before here k less differ = elim (equal_or_not k n) [
  | inl e ↦ subst (IsPairAt jobs peers j) (sym e) (here (λ same. differ (same ∙ sym e)))
  | inr ne ↦ before k (omega (arith, less, ne)) differ
]

-- one more is found
pub next_found : (h : Shape) (programs : List Loaded) (jobs : List Task) (peers : List Peer) (n : ℕ) (task : Task) (peer : Peer)
    → ((j : ℕ) → j < n → IsFoundAt h programs jobs peers j) → slice_get jobs n ≡ Some task → slice_get peers n ≡ Some peer
    → IsPeerOf h programs task peer → ((k : ℕ) → k < length peers → n ≢ k → IsPairAt jobs peers n k)
    → (j : ℕ) → j < n + 1 → IsFoundAt h programs jobs peers j
next_found h programs jobs peers n task peer before at there is pairs j less = elim (equal_or_not j n) [
  | inl e ↦ subst (IsFoundAt h programs jobs peers) (sym e) (here, pairs)
  | inr ne ↦ before j (omega (arith, less, ne))
]
  where
    here : (t : Task) (p : Peer) → slice_get jobs n ≡ Some t → slice_get peers n ≡ Some p → IsPeerOf h programs t p
    here t p at_t at_p =
        let same : task ≡ t = cc in
        let one : peer ≡ p = cc in
        subst (λ (q : Peer). IsPeerOf h programs t q) one (subst (λ (x : Task). IsPeerOf h programs x peer) same is)

-- what an index reads
pub read_part : (parts : List Task) (numbers : List ℕ) (place : ℕ) (x : Task) → place < length numbers → All (λ n. n < length parts) numbers
    → x ≡ get_or parts (get_or numbers place 0) x → slice_get (chosen parts numbers) place ≡ Some x
read_part parts numbers place x inside within is =
    let n = get_or numbers place 0 in
    chosen_at parts numbers place n (slice_get-get_or numbers place 0 inside) ∙ ap Some (sym (get_or_read parts n x (within place 0 inside) is no_task))

-- ---- all are found
module _ (h : Shape) (programs : List Loaded) (jobs : List Task) (peers : List Peer) (many : length jobs ≡ length peers) (found : (j : ℕ) → j
    < length peers → IsFoundAt h programs jobs peers j) where
  its : (j : ℕ) (peer : Peer) → slice_get peers j ≡ Some peer → (task : Task) × (slice_get jobs j ≡ Some task) × IsPeerOf h programs task peer
  its j peer at =
      let inside = slice_get_within peers j peer at in
      elim (slice_get_cases jobs j).1 [
        | inl x ↦ (x.0, x.2, (found j inside).0 x.0 peer x.2 at)
        | inr x ↦ absurd (omega (arith, many, inside, x.0))
      ]

  pair : (j k : ℕ) (one other : Peer) → slice_get peers j ≡ Some one → slice_get peers k ≡ Some other → j ≢ k
      → (task : Task) × (later : Task) × (slice_get jobs j ≡ Some task) × (slice_get jobs k ≡ Some later) × ArePair task later one other
  pair j k one other at there differ =
      let s = its j one at in
      let t = its k other there in (
        s.0,
        t.0,
        s.1,
        t.1,
        (found j (slice_get_within peers j one at)).1 k (slice_get_within peers k other there) differ s.0 t.0 one other s.1 t.1 at there,
      )

  same_place : (j : ℕ) (one other : Peer) → slice_get peers j ≡ Some one → slice_get peers j ≡ Some other → other ≡ one
  same_place j one other at there = cc

  pub are_peers : ArePeers h programs peers
  are_peers = record {
    inside = λ j one at. (its j one at).2.inside;
    apart = λ j k one other at there same. elim (equal_or_not j k) [
      | inl e ↦ e
      | inr ne ↦ absurd ((pair j k one other at there ne).4.apart same)
    ];
    blind = λ j k one other group differ.
        let p = pair j k one other group.first group.second differ in (its j one group.first).2.told (p.4.equal group.group).blind;
    program = λ j k one other group. elim (equal_or_not j k) [
      | inl e ↦ ap (λ (p : Peer). p.program)
          (same_place k one other (subst (λ (x : ℕ). slice_get peers x ≡ Some one) e group.first) group.second)
      | inr ne ↦ ((pair j k one other group.first group.second ne).4.equal group.group).program
    ];
    budget = λ j k one other group. elim (equal_or_not j k) [
      | inl e ↦ ap (λ (p : Peer). p.budget)
          (same_place k one other (subst (λ (x : ℕ). slice_get peers x ≡ Some one) e group.first) group.second)
      | inr ne ↦ ((pair j k one other group.first group.second ne).4.equal group.group).budget
    ];
    told = λ j one at blind. (its j one at).2.told blind;
    no_maps = λ j one at. (its j one at).2.no_maps;
  }

  one_task : (j : ℕ) (task other : Task) → slice_get jobs j ≡ Some task → slice_get jobs j ≡ Some other → other ≡ task
  one_task j task other at there = cc

  pub are_jobs : AreJobsOf peers jobs
  are_jobs = record {
    many = many;
    each = λ j peer task at there. ((found j (slice_get_within peers j peer at)).0 task peer there at).job;
  }

  pub equally_fresh : AreEquallyFresh peers jobs
  equally_fresh j k one other task later group at there = elim (equal_or_not j k) [
    | inl e ↦
        let same = one_task k task later (subst (λ (x : ℕ). slice_get jobs x ≡ Some task) e at) there in
        subst (λ (t : Task). AreOneStage task.stage t.stage) (sym same) (one_stage task.stage)
    | inr ne ↦
        let p : ArePair task later one other =
        (found j (slice_get_within peers j one group.first)).1 k (slice_get_within peers k other group.second) ne task later one other at there
        group.first group.second in
        (p.equal group.group).stage
  ]

-- one more is that of its peer
pub next_own : (peers : List Peer) (jobs : List Task) (n : ℕ) (one : Peer) (first : Task)
    → ((j : ℕ) (peer : Peer) (task : Task) → j < n → slice_get peers j ≡ Some peer → slice_get jobs j ≡ Some task → IsJobOf peer task)
    → slice_get peers n ≡ Some one → slice_get jobs n ≡ Some first → IsJobOf one first
    → (j : ℕ) (peer : Peer) (task : Task) → j < n + 1 → slice_get peers j ≡ Some peer → slice_get jobs j ≡ Some task → IsJobOf peer task
next_own peers jobs n one first before at there is j peer task less here its = elim (equal_or_not j n) [
  | inl e ↦
      let mine : slice_get peers n ≡ Some peer = subst (λ (x : ℕ). slice_get peers x ≡ Some peer) e here in
      let own : slice_get jobs n ≡ Some task = subst (λ (x : ℕ). slice_get jobs x ≡ Some task) e its in
      let same : one ≡ peer = cc in
      let one_task : first ≡ task = cc in
      subst (λ (p : Peer). IsJobOf p task) same (subst (IsJobOf one) one_task is)
  | inr ne ↦ before j peer task (omega (arith, less, ne)) here its
]
