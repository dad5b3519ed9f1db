-- Equal jobs in machines: what turns leave of them, and what is shown where two change places.
use Rattle.std.proofs.Common.{◌≡◌, ◌≢◌, ◌∙◌, ℕ, zero, suc, ◌<◌, ◌≤◌, ◌⊎◌, Bool, false, List, [], ◌∷◌, Option, Some, None, inl, inr, length, map}
use Rattle.std.proofs.Common.{refl, sym, ap, subst, arith}
use Rattle.std.specs.Prelude.{slice_get}
use Rattle.std.proofs.Math.ListN.{get_or, length-set}
use Rattle.std.proofs.lemmas.Bool.{cases_lt}
use Rattle.std.proofs.lemmas.Option.{slice_get_within, slice_get-get_or}
use mathlib.Core.Path.{fun_ext}
use Rattle.bpf_base.proofs.Lists.{slice_get-set_known, slice_get-set_other}
use Rattle.bpf_shared.specs.Shape.{Shape}
use Rattle.bpf_shared.specs.Sound.{IsSoundStore}
use Rattle.bpf_shared.specs.Store.{Plain}
use Rattle.bpf_shared.proofs.Puts.{equal_or_not}
use Rattle.bpf_plain.specs.PlainStore.{Contents, StandsFor}
use Rattle.bpf_loader.specs.Loaded.{Loaded}
use Rattle.bpf_cpu.specs.State.{start}
use Rattle.bpf_cpu.specs.declared.cpu.Cpu.{Cpu}
use Rattle.bpf_cpu.specs.declared.outcome.Outcome.{Outcome}
use Rattle.bpf_cpu.specs.Task.{Stage, Task, Waiting, InHand, Ended}
use Rattle.bpf_machine.specs.declared.machine.Turn.{Turn}
use Rattle.bpf_machine.specs.Hands.{IsFree, with_stage}
use Rattle.bpf_machine.specs.Listings.{Listing, listing_at}
use Rattle.bpf_machine.specs.Machine.{MachineState, Shows}
use Rattle.bpf_machine.specs.Cover.{IsShown}
use Rattle.bpf_machine.specs.Parts.{no_task}
use Rattle.bpf_machine.specs.Rounds.{HaveEnded}
use Rattle.bpf_machine.specs.Schedule.{GoesOn, RunsSchedule, Settles, TakesTurn, World}
use Rattle.bpf_machine.proofs.AheadLaws.{equal_lists}
use Rattle.bpf_equal.specs.declared.peers.Peer.{Peer}
use Rattle.bpf_equal.specs.Equal.{AreEqual, IsCounterpart}
use Rattle.bpf_equal.specs.Groups.{AreEquallyFresh, AreJobsOf, ArePeers, IsJobOf}
use Rattle.bpf_equal.specs.Peers.{AreOneGroup}
use Rattle.bpf_equal.specs.Permutations.{Exchanges, Permutation, exchanged}
use Rattle.bpf_equal.specs.Races.{StaysExchanged}
use Rattle.bpf_equal.specs.Stores.{store_permuted}
use Rattle.bpf_equal.specs.Covers.{KeepsEnds}
use Rattle.bpf_equal.specs.Patient.{ExchangesAreSymmetries}
use Rattle.bpf_equal.specs.Worlds.{AreOneStage, ArePartners, IsAsFar, IsBlind, IsPermuted}
use Rattle.bpf_equal.proofs.Back.{inverse, permuted_back}
use Rattle.bpf_equal.proofs.Exchanging.{either_way, exchange, exchanged_so, first_goes, moved, others_stay, second_goes, twice}
use Rattle.bpf_explore.specs.Album.{AreLedThrough, BeginsAt, HaveEndedAt, IsShownAt, LeadsThrough, Stock}
use Rattle.bpf_explore.specs.Private.Answers.{IsFirst}
use Rattle.bpf_explore.specs.Private.Hung.{StaysFirst}
use Rattle.bpf_explore.specs.Private.Spread.{AreRuns}
use Rattle.bpf_explore.specs.Private.Peers.{AreOfKind, AreStill, CanExchange, FitPeers, IsExchanged, IsKeptExchanged, IsOfKind}
use Rattle.bpf_explore.proofs.ExchangeLaws.{exchanged_beyond, exchanged_within, none_past}

-- ---- what turns leave of jobs
pub still_itself : (jobs : List Task) → AreStill jobs jobs
still_itself jobs = record { many = refl; each = λ i task at. (task, at, refl, refl, refl) }

pub still_on : (a b c : List Task) → AreStill a b → AreStill b c → AreStill a c
still_on a b c first second = record {
  many = second.many ∙ first.many;
  each = λ i task at.
      let r = second.each i task at in
      let s = first.each i r.0 r.1 in
      (s.0, s.1, r.2 ∙ s.2, r.3 ∙ s.3, r.4 ∙ s.4);
}

pub staged_still : (jobs : List Task) (j : ℕ) (task : Task) (stage : Stage) → slice_get jobs j ≡ Some task → AreStill jobs (with_stage jobs j task stage)
staged_still jobs j task stage here = record {
  many = simp length-set;
  each = λ i one at. elim (equal_or_not i j) [
    | inl e ↦
        let made : Task = record task { stage = stage } in
        let two : Some made ≡ Some one = sym (slice_get-set_known jobs j made task here) ∙ (ap (slice_get (with_stage jobs j task stage)) (sym e) ∙ at) in
        let same : made ≡ one = cc in (
          task,
          ap (slice_get jobs) e ∙ here,
          sym (ap (λ (t : Task). t.cpu) same),
          sym (ap (λ (t : Task). t.program) same),
          sym
              (ap (λ (t : Task). t.budget) same),
        )
    | inr apart ↦ (one, sym (slice_get-set_other jobs j i (record task { stage = stage }) apart) ∙ at, refl, refl, refl)
  ];
}

settled : (w z : World) (c j : ℕ) (task : Task) (new : Cpu) (left : ℕ) (end : Option Outcome) (answer : Turn) → slice_get w.jobs j ≡ Some task
    → Settles w c j task new left end answer z → AreStill w.jobs z.jobs
settled w z c j task new left None answer at (ran, is) =
    subst (λ (x : World). AreStill w.jobs x.jobs) (sym is) (staged_still w.jobs j task (InHand new left) at)
settled w z c j task new left (Some end) answer at (s, allowed, ended, inl (some, is)) =
    subst (λ (x : World). AreStill w.jobs x.jobs) (sym is) (staged_still w.jobs j task (Ended end) at)
settled w z c j task new left (Some end) answer at (s, allowed, ended, inr (none, is)) =
    subst (λ (x : World). AreStill w.jobs x.jobs) (sym is) (staged_still w.jobs j task (Ended end) at)

gone : (w z : World) (c j : ℕ) (task : Task) (old : Cpu) (left : ℕ) (answer : Turn) → slice_get w.jobs j ≡ Some task
    → GoesOn w c j task old left answer z → AreStill w.jobs z.jobs
gone w z c j task old left answer at (program, end, s, new, rest, loaded, advances, settles) =
    settled (record w { store = s }) z c j task new rest end answer at settles

pub turned_still : (w z : World) (c : ℕ) (answer : Turn) → TakesTurn w c answer z → AreStill w.jobs z.jobs
turned_still w z c answer (inl (j, task, state, left, at, goes)) = gone w z c j task state left answer at.listed goes
turned_still w z c answer (inr (inl (free, (j, task, input, s, at, none, allowed, goes)))) =
    gone (record w { store = s }) z c j task (start c input) task.budget answer at.listed goes
turned_still w z c answer (inr (inr (free, none, idle, is))) = subst (λ (x : World). AreStill w.jobs x.jobs) (sym is) (still_itself w.jobs)

pub runs_still : (cs : List ℕ) (w z : World) → RunsSchedule w cs z → AreStill w.jobs z.jobs
runs_still [] w z same = subst (λ (x : World). AreStill w.jobs x.jobs) (sym same) (still_itself w.jobs)
runs_still (c ∷ cs) w z (answer, m, taken, rest) =
    still_on w.jobs m.jobs z.jobs (turned_still w m c answer taken) (runs_still cs m z rest)

pub jobs_still : (peers : List Peer) (old new : List Task) → AreStill old new → AreJobsOf peers old → AreJobsOf peers new
jobs_still peers old new still are = record {
  many = still.many ∙ are.many;
  each = λ j peer task at there. (
      let r = still.each j task there in
      let is = are.each j peer r.0 at r.1 in
      record { cpu = r.2 ∙ is.cpu; program = r.3 ∙ is.program; budget = r.4 ∙ is.budget });
}

-- ---- exchanged numbers
pub second_back : (c d : ℕ) → exchanged c d d ≡ c
second_back c d = elim (equal_or_not d c) [
  | inl e ↦ first_goes c d d e ∙ e
  | inr ne ↦ second_goes c d d ne refl
]

past_none : (tasks : List Task) (i : ℕ) → slice_get tasks i ≡ None → length tasks ≤ i
past_none [] i none = omega arith
past_none (task ∷ tasks) zero none = let no : Some task ≡ None = none in cc
past_none (task ∷ tasks) (suc i) none = let rest = past_none tasks i none in omega arith

-- ---- two of one group change places
module _ (h : Shape) (programs : List Loaded) (peers : List Peer) (are : ArePeers h programs peers) (j k : ℕ) (one other : Peer)
    (group : AreOneGroup peers j k one other) where
  back_group : AreOneGroup peers k j other one
  back_group = record { first = group.second; second = group.first; group = sym group.group }

  -- a peer is the one that it changes places with, but for the group and the CPU
  abbrev pub Match : Peer → Peer → Type 0
  Match p q = (exchanged one.cpu other.cpu q.cpu ≡ p.cpu) × (q.program ≡ p.program) × (q.budget ≡ p.budget)

  there_is : (x : ℕ) (p q : Peer) → slice_get peers x ≡ Some p → slice_get peers x ≡ Some q → p ≡ q
  there_is x p q a b = let two : Some p ≡ Some q = sym a ∙ b in cc

  pub matched : (x : ℕ) (p q : Peer) → slice_get peers x ≡ Some p → slice_get peers (exchanged j k x) ≡ Some q → Match p q
  matched x p q at there = elim (equal_or_not x j) [
    | inl e ↦
        let first = there_is j one p group.first (ap (slice_get peers) (sym e) ∙ at) in
        let second = there_is k other q group.second (ap (slice_get peers) (sym (first_goes j k x e)) ∙ there) in
        let here : Match one other = (second_back one.cpu other.cpu, are.program j k one other group, are.budget j k one other group) in
        subst (λ (y : Peer). Match y q) first (subst (Match one) second here)
    | inr ne ↦ elim (equal_or_not x k) [
      | inl f ↦
          let first = there_is k other p group.second (ap (slice_get peers) (sym f) ∙ at) in
          let second = there_is j one q group.first (ap (slice_get peers) (sym (second_goes j k x ne f)) ∙ there) in
          let here : Match other one = (
            first_goes one.cpu other.cpu one.cpu refl,
            are.program k j other one back_group,
            are.budget k j other one back_group,
          ) in
          subst (λ (y : Peer). Match y q) first (subst (Match other) second here)
      | inr apart ↦
          let same = there_is x p q at (ap (slice_get peers) (sym (others_stay j k x ne apart)) ∙ there) in
          let here : Match p p = (
            others_stay one.cpu other.cpu p.cpu (λ e. ne (are.apart x j p one at group.first e))
                (λ e. apart (are.apart x k p other at group.second e)),
            refl,
            refl,
          ) in
          subst (Match p) same here
    ]
  ]

-- ---- a world before its first turn
module _ (w : World) (peers : List Peer) (are : ArePeers w.store.shape w.programs peers) (jobs : AreJobsOf peers w.jobs)
    (fresh : AreEquallyFresh peers w.jobs) (idle : (c : ℕ) → w.store.running c ≡ false) (sound : IsSoundStore w.store)
    (lists : (c d : ℕ) → w.lists c ≡ w.lists d) (j k : ℕ) (one other : Peer) (group : AreOneGroup peers j k one other) (apart : j ≢ k) where
  abbrev c : ℕ
  c = one.cpu

  abbrev d : ℕ
  d = other.cpu

  few_jobs : (j < length w.jobs) × (k < length w.jobs)
  few_jobs =
      let first = slice_get_within peers j one group.first in
      let second = slice_get_within peers k other group.second in
      let many = jobs.many in
      (omega arith, omega arith)

  peer_of : (i : ℕ) (task : Task) → slice_get w.jobs i ≡ Some task → (p : Peer) × (slice_get peers i ≡ Some p) × IsJobOf p task
  peer_of i task at =
      let inside = slice_get_within w.jobs i task at in
      let many = jobs.many in
      let p = get_or peers i one in
      let here = slice_get-get_or peers i one (omega arith) in
      (p, here, jobs.each i p task here at)

  -- a job of the CPU of a peer is that peer's
  its_place : (x : ℕ) (p : Peer) (i : ℕ) (task : Task) → slice_get peers x ≡ Some p → slice_get w.jobs i ≡ Some task → task.cpu ≡ p.cpu → i ≡ x
  its_place x p i task there at same =
      let r = peer_of i task at in
      are.apart i x r.0 p r.1 there (sym r.2.cpu ∙ same)

  counterpart : (x y : ℕ) (p q : Peer) (task : Task) → AreOneGroup peers x y p q → x ≢ y → slice_get w.jobs x ≡ Some task → exchanged c d p.cpu ≡ q.cpu
      → exchanged j k x ≡ y → IsBlind w.store.shape w.programs task.program
      × ((o : Task) × (slice_get w.jobs (exchanged j k x) ≡ Some o) × IsCounterpart c d task o)
  counterpart x y p q task both ne at cpus place =
      let low = slice_get_within peers y q both.second in
      let many = jobs.many in
      let o = get_or w.jobs y task in
      let there : slice_get w.jobs y ≡ Some o = slice_get-get_or w.jobs y task (omega arith) in
      let its = jobs.each x p task both.first at in
      let far = jobs.each y q o both.second there in (
        subst (IsBlind w.store.shape w.programs) (sym its.program) (are.blind x y p q both ne),
        (
          o,
          ap (slice_get w.jobs) place ∙ there,
          record {
            cpu = far.cpu ∙ (sym cpus ∙ ap (exchanged c d) (sym its.cpu));
            program = far.program ∙ (are.program x y p q both ∙ sym its.program);
            budget = far.budget ∙ (are.budget x y p q both ∙ sym its.budget);
            stage = fresh x y p q task o both at there;
          },
        ),
      )

  cpus_apart : d ≡ c → ⊥
  cpus_apart e = apart (are.apart j k one other group.first group.second (sym e))

  others_there : (i : ℕ) (task : Task) → slice_get w.jobs i ≡ Some task → exchanged c d task.cpu ≡ task.cpu → exchanged j k i ≡ i
  others_there i task at same = elim (moved j k i) [
    | inl stays ↦ stays
    | inr (inl e) ↦
        let its = jobs.each j one task group.first (ap (slice_get w.jobs) (sym e) ∙ at) in
        absurd (cpus_apart (sym (first_goes c d task.cpu its.cpu) ∙ (same ∙ its.cpu)))
    | inr (inr e) ↦
        let its = jobs.each k other task group.second (ap (slice_get w.jobs) (sym e) ∙ at) in
        let goes : exchanged c d task.cpu ≡ c = ap (exchanged c d) its.cpu ∙ second_back c d in
        absurd (cpus_apart (sym its.cpu ∙ (sym same ∙ goes)))
  ]

  moved_there : (i : ℕ) (task : Task) → slice_get w.jobs i ≡ Some task → (task.cpu ≡ c) ⊎ (task.cpu ≡ d)
      → IsBlind w.store.shape w.programs task.program
      × ((o : Task) × (slice_get w.jobs (exchanged j k i) ≡ Some o) × IsCounterpart c d task o)
  moved_there i task at (inl e) =
      let place = its_place j one i task group.first at e in
      subst (λ (x : ℕ). IsBlind w.store.shape w.programs task.program × ((o : Task) × (slice_get w.jobs (exchanged j k x) ≡ Some o) × IsCounterpart c
      d task o)) (sym place) (counterpart j k one other task group apart (ap (slice_get w.jobs) (sym place) ∙ at) (first_goes c d c refl)
      (first_goes j k j refl))
  moved_there i task at (inr e) =
      let place = its_place k other i task group.second at e in
      subst (λ (x : ℕ). IsBlind w.store.shape w.programs task.program × ((o : Task) × (slice_get w.jobs (exchanged j k x) ≡ Some o) × IsCounterpart c
      d task o)) (sym place) (counterpart k j other one task (back_group w.store.shape w.programs peers are j k one other group) (λ f. apart (sym f))
      (ap (slice_get w.jobs) (sym place) ∙ at) (second_back c d) (second_back j k))

  are_equal : AreEqual w c d (exchange j k)
  are_equal = record {
    store = record {
      inside = (are.inside j one group.first, are.inside k other group.second);
      running = idle c ∙ sym (idle d);
      held = fun_ext (λ v. (sound.idle c (idle c) v).0 ∙ sym (sound.idle d (idle d) v).0);
      kept = fun_ext (λ v. (sound.idle c (idle c) v).1 ∙ sym (sound.idle d (idle d) v).1);
    };
    lists = lists c d;
    count = λ i none. (let few = few_jobs in
        ap (slice_get w.jobs) (exchanged_beyond j k (length w.jobs) i few.0 few.1 (past_none w.jobs i none)) ∙ none);
    others = others_there;
    moved = moved_there;
    order = λ a b t u at_a at_b same less. (let r = peer_of b u at_b in
        let e = its_place b r.0 a t r.1 at_a (same ∙ r.2.cpu) in absurd (omega arith));
  }

  pub stays_exchanged : IsPermuted (exchange c d) (exchange j k) w w
  stays_exchanged = exchanged_so w c d (exchange j k) are_equal

-- ---- an end
quiet_store : (cpus : Permutation) (s : Plain) → IsSoundStore s → ((c : ℕ) → s.running c ≡ false) → store_permuted cpus s ≡ s
quiet_store cpus s sound idle =
    let with_flags : (ℕ → Bool) → (ℕ → ℕ → Bool) → (ℕ → ℕ → Bool) → Plain = λ running held kept. record s
    { running = running; held = held; kept = kept } in
    let held : (c : ℕ) → s.held (cpus.from c) ≡ s.held c = λ c.
    fun_ext (λ v. (sound.idle (cpus.from c) (idle (cpus.from c)) v).0 ∙ sym (sound.idle c (idle c) v).0) in
    let kept : (c : ℕ) → s.kept (cpus.from c) ≡ s.kept c = λ c.
    fun_ext (λ v. (sound.idle (cpus.from c) (idle (cpus.from c)) v).1 ∙ sym (sound.idle c (idle c) v).1) in
    ap (λ (r : ℕ → Bool). with_flags r (λ c. s.held (cpus.from c)) (λ c. s.kept (cpus.from c))) (fun_ext (λ c. idle (cpus.from c) ∙ sym (idle c)))
    ∙ ap (λ (f : ℕ → ℕ → Bool). with_flags s.running f (λ c. s.kept (cpus.from c))) (fun_ext held)
    ∙ ap (λ (f : ℕ → ℕ → Bool). with_flags s.running s.held f) (fun_ext kept)

pub ended_free : (jobs : List Task) → HaveEnded jobs → (c : ℕ) → IsFree jobs c
ended_free jobs ended c i task state left at =
    let end = ended i task at.listed in
    let no : InHand state left ≡ Ended end.0 = sym at.at ∙ end.1 in
    cc

module _ (h : Shape) (programs : List Loaded) (cpus : Permutation) where
  stage_is : (task new : Task) (end : Outcome) → task.stage ≡ Ended end → IsAsFar h programs task new → new.stage ≡ Ended end
  stage_is task new end at (inl same) = same.1 ∙ at
  stage_is task new end at (inr both) = subst (λ (s : Stage). AreOneStage s new.stage) at both.1

  -- the partner of a job that has ended, where its CPU, program and budget are known
  known_partner : (o : Option Task) (task was : Task) (end : Outcome) → ArePartners h programs cpus (Some was) o → was.stage ≡ Ended end
      → cpus.to was.cpu ≡ task.cpu → was.program ≡ task.program → was.budget ≡ task.budget → o ≡ Some (record task { stage = was.stage })
  known_partner None task was end both ended cpu program budget = absurd both
  known_partner (Some new) task was end p ended cpu program budget =
      let at : ℕ → ℕ → ℕ → Stage → Task = λ c n b s. record { cpu = c; program = n; budget = b; stage = s } in
      ap Some (
      ap (λ (n : ℕ). at n new.program new.budget new.stage) (p.cpu ∙ cpu)
      ∙ ap (λ (n : ℕ). at task.cpu n new.budget new.stage) (p.program ∙ program)
      ∙ ap (λ (n : ℕ). at task.cpu task.program n new.stage) (p.budget ∙ budget)
      ∙ ap (at task.cpu task.program task.budget) (stage_is was new end ended p.stage ∙ sym ended)
      )

  no_partner : (o : Option Task) → ArePartners h programs cpus None o → o ≡ None
  no_partner None both = refl
  no_partner (Some new) both = absurd both

module _ (stock : Stock) (peers : List Peer) (are : ArePeers stock.shape stock.programs peers) (m new : MachineState) (kind : IsOfKind stock m)
    (jobs : AreJobsOf peers m.jobs) (ended : HaveEnded m.jobs) (j k : ℕ) (one other : Peer) (group : AreOneGroup peers j k one other)
    (exchanges : IsExchanged j k m new) (z y : World) (shows : Shows m z) (cpus places : Permutation) (on_cpus : Exchanges cpus one.cpu other.cpu)
    (on_jobs : Exchanges places j k) (p : IsPermuted cpus places z y) where
  idle_all : (c : ℕ) → z.store.running c ≡ false
  idle_all c = shows.store.maps.running c ∙ kind.stands.idle c (ended_free m.jobs ended c)

  same_store : y.store ≡ z.store
  same_store = p.store ∙ quiet_store cpus z.store shows.sound idle_all

  abbrev Are : Option Task → Option Task → Type 0
  Are = ArePartners z.store.shape z.programs cpus

  partners_at : (x : ℕ) → Are (slice_get m.jobs (exchanged j k x)) (slice_get y.jobs x)
  partners_at x =
      let from = exchanged j k x in
      let goes : places.to from ≡ x = (on_jobs from).0 ∙ twice j k x in
      subst (λ (ts : List Task). Are (slice_get ts from) (slice_get y.jobs x)) shows.jobs
      (subst (λ (i : ℕ). Are (slice_get z.jobs from) (slice_get y.jobs i)) goes (p.each from))

  few : (j < length m.jobs) × (k < length m.jobs)
  few =
      let first = slice_get_within peers j one group.first in
      let second = slice_get_within peers k other group.second in
      let many = jobs.many in
      (omega arith, omega arith)

  job_at : (x : ℕ) → slice_get y.jobs x ≡ slice_get new.jobs x
  job_at x = let low = few in let many = exchanges.jobs.many in elim (cases_lt x (length m.jobs)) [
    | inl below ↦
        let from = exchanged j k x in
        let inside : from < length m.jobs = exchanged_within j k (length m.jobs) x low.0 low.1 below in
        let task = get_or m.jobs x no_task in
        let was = get_or m.jobs from no_task in
        let at = slice_get-get_or m.jobs x no_task below in
        let there = slice_get-get_or m.jobs from no_task inside in
        let all = jobs.many in
        let here = get_or peers x one in
        let far = get_or peers from one in
        let at_here = slice_get-get_or peers x one (omega arith) in
        let at_far = slice_get-get_or peers from one (omega arith) in
        let its = jobs.each x here task at_here at in
        let was_its = jobs.each from far was at_far there in
        let match = matched stock.shape stock.programs peers are j k one other group x here far at_here at_far in
        let end = ended from was there in
        known_partner z.store.shape z.programs cpus (slice_get y.jobs x) task was end.0
        (subst (λ (o : Option Task). Are o (slice_get y.jobs x)) there (partners_at x)) end.1
        ((on_cpus was.cpu).0 ∙ (ap (exchanged one.cpu other.cpu) was_its.cpu ∙ (match.0 ∙ sym its.cpu)))
        (was_its.program ∙ (match.1 ∙ sym its.program)) (was_its.budget ∙ (match.2 ∙ sym its.budget))
        ∙ sym (exchanges.jobs.each x task was at there)
    | inr past ↦
        let beyond = exchanged_beyond j k (length m.jobs) x low.0 low.1 past in
        let none : slice_get m.jobs (exchanged j k x) ≡ None = ap (slice_get m.jobs) beyond ∙ none_past m.jobs x past in
        no_partner z.store.shape z.programs cpus (slice_get y.jobs x) (subst (λ (o : Option Task). Are o (slice_get y.jobs x)) none (partners_at x))
        ∙ sym (none_past new.jobs x (omega arith))
  ]

  pub shown_exchanged : Shows new y
  shown_exchanged =
      let listed : Option (List Listing) → ℕ → Listing = λ o. listing_at o in
      let none : z.lists ≡ listing_at None = shows.lists ∙ ap listed kind.lists in
      record {
        store = subst (λ (s : Contents). StandsFor s y.store) (sym exchanges.store) (subst (StandsFor m.store) (sym same_store) shows.store);
        sound = subst IsSoundStore (sym same_store) shows.sound;
        programs = p.programs ∙ (shows.programs ∙ sym exchanges.programs);
        jobs = equal_lists y.jobs new.jobs job_at;
        lists = p.lists ∙ (fun_ext (λ c. ap (λ (f : ℕ → Listing). f (cpus.from c)) none) ∙ sym (ap listed exchanges.lists));
      }

-- ---- what is kept
one_machine : (kept : List MachineState) (i : ℕ) (m n : MachineState) → slice_get kept i ≡ Some m → slice_get kept i ≡ Some n → m ≡ n
one_machine kept i m n a b = let two : Some m ≡ Some n = sym a ∙ b in cc

module _ (runs : World → List ℕ → World → Type 0) (law : AreRuns runs) (stock : Stock) (kept : List MachineState) (peers : List Peer)
    (can : CanExchange stock kept peers) (kinds : AreOfKind stock kept) (led : AreLedThrough runs kept) where
  pub jobs_there : (j : ℕ) (one : Peer) → slice_get peers j ≡ Some one → (i : ℕ) (m : MachineState) → slice_get kept i ≡ Some m → AreJobsOf peers m.jobs
  jobs_there j one peer i m at =
      let w = can.fresh.0 in
      let first = can.fresh.2 in
      let path = led i (slice_get_within kept i m at) in
      let r = path.1 w first in
      let begun = subst (AreJobsOf peers) (sym first.2.jobs) (can.fit.first j one first.0 peer first.1).0 in
      let there = jobs_still peers w.jobs (r.0).jobs (law.still path.0 w r.0 r.1) begun in
      let same = one_machine kept i (r.2).0 m (r.2).1 at in
      subst (λ (n : MachineState). AreJobsOf peers n.jobs) same (subst (AreJobsOf peers) (r.2).2.jobs there)

  pub few_there : (j k : ℕ) (one other : Peer) → AreOneGroup peers j k one other → (i : ℕ) (m : MachineState) → slice_get kept i ≡ Some m
      → (j < length m.jobs) × (k < length m.jobs)
  few_there j k one other group i m at =
      let first = slice_get_within peers j one group.first in
      let second = slice_get_within peers k other group.second in
      let all = jobs_there j one group.first i m at in
      let many = all.many in
      (omega arith, omega arith)

  pub symmetric : (w : World) → IsFirst kept w → (j k : ℕ) (one other : Peer) → AreOneGroup peers j k one other → j ≢ k
      → IsPermuted (exchange one.cpu other.cpu) (exchange j k) w w
  symmetric w (m, at, shows) j k one other group apart =
      let v = can.fresh.0 in
      let fresh = can.fresh.1 in
      let first = can.fresh.2 in
      let kind = kinds 0 m at in
      let same = one_machine kept 0 first.0 m first.1 at in
      let jobs : v.jobs ≡ m.jobs = first.2.jobs ∙ ap (λ (n : MachineState). n.jobs) same in
      let free : (c : ℕ) → IsFree m.jobs c = λ c i task state left here. (
      let waits = fresh.waits i task (ap (λ (ts : List Task). slice_get ts i) jobs ∙ here.listed) in
      let no : InHand state left ≡ Waiting waits.0 = sym here.at ∙ waits.1 in
      cc) in
      let idle : (c : ℕ) → w.store.running c ≡ false = λ c. shows.store.maps.running c ∙ kind.stands.idle c (free c) in
      let shape : stock.shape ≡ w.store.shape = sym (shows.store.shape ∙ kind.shape.0) in
      let programs : stock.programs ≡ w.programs = kind.programs ∙ sym shows.programs in
      let are = subst (λ (ps : List Loaded). ArePeers w.store.shape ps peers) programs
      (subst (λ (h : Shape). ArePeers h stock.programs peers) shape can.fit.are) in
      let begun = can.fit.first j one m group.first at in
      let listed : Option (List Listing) → ℕ → Listing = λ o. listing_at o in
      let none : w.lists ≡ listing_at None = shows.lists ∙ ap listed kind.lists in
      stays_exchanged w peers are (subst (AreJobsOf peers) (sym shows.jobs) begun.0) (subst (AreEquallyFresh peers) (sym shows.jobs) begun.1) idle
      shows.sound (λ c d. ap (λ (f : ℕ → Listing). f c) none ∙ sym (ap (λ (f : ℕ → Listing). f d) none)) j k one other group apart

  -- what an exchange leads to
  pub leads_exchanged : (i j k : ℕ) (m new : MachineState) (one other : Peer) → AreOneGroup peers j k one other → j ≢ k → slice_get kept i ≡ Some m
      → HaveEnded m.jobs → IsExchanged j k m new → (schedule : List ℕ) → LeadsThrough runs kept 0 schedule i → (w : World) → IsShownAt kept 0 w
      → (y : World) × runs w (map (exchanged one.cpu other.cpu) schedule) y × Shows new y
  leads_exchanged i j k m new one other group apart at ended exchanges schedule leads w shown =
      let r = leads w shown in
      let same = one_machine kept i (r.2).0 m (r.2).1 at in
      let shows = subst (λ (n : MachineState). Shows n r.0) same (r.2).2 in
      let cpus = exchange one.cpu other.cpu in
      let places = exchange j k in
      let s = law.permuted cpus places w w r.0 schedule (symmetric w shown j k one other group apart) r.1 in (
        s.0,
        s.1,
        shown_exchanged stock peers can.fit.are m new (kinds i m at) (jobs_there j one group.first i m at) ended j k one other group exchanges r.0 s.0
            shows cpus places (λ x. (refl, refl)) (λ x. (refl, refl)) s.2,
      )

  -- ---- where each end is kept in all places
  module _ (all : (i j k : ℕ) (one other : Peer) → j < k → AreOneGroup peers j k one other → HaveEndedAt kept i → IsKeptExchanged kept i j k) where
    exchanges_back : (p : Permutation) (c d : ℕ) → Exchanges p c d → Exchanges p d c
    exchanges_back p c d is x = ((is x).0 ∙ either_way c d x, (is x).1 ∙ either_way c d x)

    rising : (w v : World) (cpus places : Permutation) (j k : ℕ) (one other : Peer) → IsShown kept w → HaveEnded w.jobs
        → AreOneGroup peers j k one other → Exchanges cpus one.cpu other.cpu → Exchanges places j k → IsPermuted cpus places w v → j < k → IsShown kept v
    rising w v cpus places j k one other (i, m, at, shows) ended group on_cpus on_jobs p less =
        let over : HaveEnded m.jobs = subst HaveEnded shows.jobs ended in
        let there : HaveEndedAt kept i = λ n here. subst (λ (x : MachineState). HaveEnded x.jobs) (one_machine kept i m n at here) over in
        let r = all i j k one other less group there m at in
        r.2 v (shown_exchanged stock peers can.fit.are m r.0 (kinds i m at) (jobs_there j one group.first i m at) over j k one other group r.1 w v shows
        cpus places on_cpus on_jobs p)

    exchanged_itself : (j : ℕ) (m : MachineState) → m.lists ≡ None → IsExchanged j j m m
    exchanged_itself j m none = record {
      store = refl;
      programs = refl;
      jobs = record {
        many = refl;
        each = λ i task other at there.
            let stays : exchanged j j i ≡ i = elim (equal_or_not i j) [
              | inl e ↦ first_goes j j i e ∙ sym e
              | inr ne ↦ others_stay j j i ne ne
            ] in
            let two : Some task ≡ Some other = sym at ∙ (ap (slice_get m.jobs) (sym stays) ∙ there) in
            let same : task ≡ other = cc in
            at ∙ ap (λ (s : Stage). Some (record task { stage = s })) (ap (λ (t : Task). t.stage) same);
      };
      lists = none;
    }

    any_way : (w v : World) (cpus places : Permutation) (j k : ℕ) (one other : Peer) → IsShown kept w → HaveEnded w.jobs
        → AreOneGroup peers j k one other → Exchanges cpus one.cpu other.cpu → Exchanges places j k → IsPermuted cpus places w v → IsShown kept v
    any_way w v cpus places j k one other (i, m, at, shows) ended group on_cpus on_jobs p = elim (cases_lt j k) [
      | inl less ↦ rising w v cpus places j k one other (i, m, at, shows) ended group on_cpus on_jobs p less
      | inr past ↦ elim (cases_lt k j) [
        | inl less ↦
            rising w v cpus places k j other one (i, m, at, shows) ended
            (record { first = group.second; second = group.first; group = sym group.group }) (exchanges_back cpus one.cpu other.cpu on_cpus)
            (exchanges_back places j k on_jobs) p less
        | inr again ↦
            let e : k ≡ j = omega arith in
            let over : HaveEnded m.jobs = subst HaveEnded shows.jobs ended in
            let kind = kinds i m at in
            let its = subst (λ (x : ℕ). IsExchanged j x m m) (sym e) (exchanged_itself j m kind.lists) in (
              i,
              m,
              at,
              shown_exchanged stock peers can.fit.are m m kind (jobs_there j one group.first i m at) over j k one other group its w v shows
                  cpus places on_cpus on_jobs p,
            )
      ]
    ]

    pub keeps_ends : KeepsEnds peers kept
    keeps_ends w v shown ended (cpus, places, (j, k, one, other, group, on_cpus, on_jobs), inl p) =
        any_way w v cpus places j k one other shown ended group on_cpus on_jobs p
    keeps_ends w v shown ended (cpus, places, (j, k, one, other, group, on_cpus, on_jobs), inr p) =
        any_way w v (inverse cpus) (inverse places) j k one other shown ended group (λ x. ((on_cpus x).1, (on_cpus x).0))
        (λ x. ((on_jobs x).1, (on_jobs x).0)) (permuted_back cpus places v w p)

-- ---- the first machine
pub equal_stay : (runs : World → List ℕ → World → Type 0) → AreRuns runs → (stock : Stock) (kept : List MachineState) (peers : List Peer) →
    FitPeers stock kept peers → AreOfKind stock kept
    → AreLedThrough runs kept
    → (w : World) → BeginsAt kept w → StaysExchanged peers w
equal_stay runs law stock kept peers fit kinds led w begins c d (j, k, one, other, less, group, is_c, is_d) =
    let can : CanExchange stock kept peers = record { fit = fit; fresh = (w, begins.0, begins.1) } in
    let apart : j ≢ k = λ e. omega (arith, e, less) in
    let stays = symmetric runs law stock kept peers can kinds led w begins.1 j k one other group apart in (
      exchange c d,
      exchange j k,
      λ x. (refl, refl),
      subst (λ (n : ℕ). IsPermuted (exchange n d) (exchange j k) w w) is_c
          (subst (λ (n : ℕ). IsPermuted (exchange one.cpu n) (exchange j k) w w) is_d stays),
    )

-- each exchange of two equal jobs leaves it as it is
pub stays_first : ExchangesAreSymmetries → (runs : World → List ℕ → World → Type 0) → AreRuns runs → (stock : Stock) (kept : List MachineState)
    (peers : List Peer) → CanExchange stock kept peers → AreOfKind stock kept → AreLedThrough runs kept → StaysFirst peers kept
stays_first symmetries runs law stock kept peers can kinds led w fresh first =
    symmetries peers w (λ j k one other less group. (
      exchange one.cpu other.cpu,
      exchange j k,
      λ x. (refl, refl),
      λ x. (refl, refl),
      symmetric runs law stock kept peers can kinds led w first j k one other group (λ e. omega (arith, e, less)),
    ))
