-- Where CPUs are ahead of their jobs, those that they go to are ahead of the partners of these.
use Rattle.std.proofs.Common.{◌≡◌, ◌∙◌, ℕ, List, Option, Some, None, inl, inr, refl, sym, ap, subst}
use Rattle.std.specs.Prelude.{slice_get}
use Rattle.bpf_shared.specs.Shape.{Shape}
use Rattle.bpf_loader.specs.Loaded.{Loaded}
use Rattle.bpf_cpu.specs.declared.cpu.Cpu.{Cpu}
use Rattle.bpf_cpu.specs.Task.{Stage, Task, InHand}
use Rattle.bpf_machine.specs.declared.machine.ahead.Headway.{Headway}
use Rattle.bpf_machine.specs.Cover.{IsAhead}
use Rattle.bpf_machine.specs.Hands.{IsAt}
use Rattle.bpf_machine.specs.Headways.{BothPrecede, FitsHeadway, IsAheadOf, IsOnlyOne, Precedes, TakesQuietTurns, turns_in, with_jobs}
use Rattle.bpf_machine.specs.Schedule.{World}
use Rattle.bpf_equal.specs.Permutations.{Permutation}
use Rattle.bpf_equal.specs.States.{Marks, marked, marks_of}
use Rattle.bpf_equal.specs.Worlds.{AreOneStage, ArePartners, IsBlind, IsPartner, IsPermuted, KeepsOrder}
use Rattle.bpf_equal.proofs.Beside.{Beside, found_beside}
use Rattle.bpf_equal.proofs.Partners.{Follows, hand_back, hand_there, partner_at, partner_back, partners_at, same_cpu}
use Rattle.bpf_equal.proofs.QuietTurns.{turns_quietly}

module _ (cpus jobs : Permutation) (v u : World) (q : IsPermuted cpus jobs v u) (headways : ℕ → Headway) (tasks : List Task)
    (ahead : IsAheadOf (IsAhead headways) headways tasks v) where
  abbrev h : Shape
  h = v.store.shape

  abbrev ps : List Loaded
  ps = v.programs

  abbrev turns : ℕ → ℕ
  turns c = turns_in (headways c)

  -- each CPU is as far ahead as the one that goes there
  abbrev pub there : ℕ → Headway
  there c = headways (cpus.from c)

  -- ---- before and after the turns ahead
  before_of : (o p : Option Task) (new : Task) → p ≡ Some new → BothPrecede ps turns o p
      → (old : Task) × (o ≡ Some old) × Precedes ps (turns old.cpu) old new
  before_of o None new at both = let no : None ≡ Some new = at in cc
  before_of None (Some b) new at both = absurd both
  before_of (Some a) (Some b) new at both = let same : b ≡ new = cc in (a, refl, subst (Precedes ps (turns a.cpu) a) same both)

  after_of : (o p : Option Task) (old : Task) → o ≡ Some old → BothPrecede ps turns o p
      → (new : Task) × (p ≡ Some new) × Precedes ps (turns old.cpu) old new
  after_of None p old at both = let no : None ≡ Some old = at in cc
  after_of (Some a) None old at both = absurd both
  after_of (Some a) (Some b) old at both =
      let same : a ≡ old = cc in (b, refl, subst (λ (t : Task). Precedes ps (turns t.cpu) t b) same both)

  one_cpu : (n : ℕ) (old new : Task) → Precedes ps n old new → new.cpu ≡ old.cpu
  one_cpu n old new (inl a) = ap (λ (t : Task). t.cpu) a.0
  one_cpu n old new (inr a) = ap (λ (t : Task). t.cpu) a.7

  -- ---- a partner that is as far behind
  abbrev Partner : Task → Task → Type 0
  Partner = IsPartner h ps cpus

  abbrev Behind : Task → Task → Task → Type 0
  Behind old x y = Partner old x × Precedes u.programs (turns_in (there x.cpu)) x y

  same_turns : (old x : Task) → x.cpu ≡ cpus.to old.cpu → turns_in (there x.cpu) ≡ turns old.cpu
  same_turns old x at = ap turns (ap cpus.from at ∙ cpus.back old.cpu)

  behind : (old new y : Task) → Partner new y → Precedes ps (turns old.cpu) old new → (x : Task) × Behind old x y
  behind old new y partner (inl (same, none)) =
      let its : Partner old y = subst (λ (t : Task). Partner t y) same partner in (
        y,
        (
          its,
          inl (
            refl,
            λ state left at.
                let b = hand_back h ps cpus old y its state left at in
                same_turns old y its.cpu ∙ none b.0 left b.1,
          ),
        ),
      )
  behind old new y partner (inr (program, state, left, later, rest, loaded, at, is, made)) = go (k.0) k.1 k.2
    where
      k : (other : Cpu) × (y.stage ≡ InHand other rest) × Follows h ps cpus new y later other
      k = hand_there h ps cpus new y partner later rest (ap (λ (t : Task). t.stage) is)

      at_goal : y.cpu ≡ cpus.to old.cpu
      at_goal = partner.cpu ∙ ap cpus.to (ap (λ (t : Task). t.cpu) is)

      one_program : y.program ≡ old.program
      one_program = partner.program ∙ ap (λ (t : Task). t.program) is

      one_budget : y.budget ≡ old.budget
      one_budget = partner.budget ∙ ap (λ (t : Task). t.budget) is

      loaded_there : slice_get u.programs y.program ≡ Some program
      loaded_there = ap (λ (l : List Loaded). slice_get l y.program) q.programs ∙ ap (slice_get ps) one_program ∙ loaded

      many : turns old.cpu ≡ turns_in (there y.cpu)
      many = sym (same_turns old y at_goal)

      go : (other : Cpu) → y.stage ≡ InHand other rest → Follows h ps cpus new y later other → (x : Task) × Behind old x y
      go other stage (inl (cpu, same)) =
          let cpu_is : y.cpu ≡ old.cpu = cpu ∙ ap (λ (t : Task). t.cpu) is in
          let stage_is : y.stage ≡ InHand later rest = stage ∙ ap (λ (c : Cpu). InHand c rest) same in
          let turned : TakesQuietTurns program y.cpu (turns_in (there y.cpu)) state left later rest =
          subst (λ (c : ℕ). TakesQuietTurns program c (turns_in (there y.cpu)) state left later rest) (sym cpu_is)
          (subst (λ (n : ℕ). TakesQuietTurns program old.cpu n state left later rest) many made) in (
            record y { stage = InHand state left },
            (
              record { cpu = at_goal; program = one_program; budget = one_budget; stage = inl (cpu_is, sym at) },
              inr (program, state, left, later, rest, loaded_there, refl, ap (λ (s : Stage). record y { stage = s }) stage_is, turned),
            ),
          )
      go other stage (inr (blind, same)) =
          let n : Marks = marks_of other in
          let stage_is : y.stage ≡ InHand (marked n later) rest = stage ∙ ap (λ (c : Cpu). InHand c rest) same in
          let its : IsBlind h ps old.program = subst (IsBlind h ps) (ap (λ (t : Task). t.program) is) blind in
          let turned : TakesQuietTurns program y.cpu (turns_in (there y.cpu)) (marked n state) left (marked n later) rest =
          turns_quietly program (its.1 program loaded) old.cpu y.cpu n (turns_in (there y.cpu)) state left later rest
          (subst (λ (i : ℕ). TakesQuietTurns program old.cpu i state left later rest) many made) in (
            record y { stage = InHand (marked n state) left },
            (
              record {
                cpu = at_goal;
                program = one_program;
                budget = one_budget;
                stage = inr (its, subst (λ (s : Stage). AreOneStage s (InHand (marked n state) left)) (sym at) (refl, refl));
              },
              inr (
                program,
                marked n state,
                left,
                marked n later,
                rest,
                loaded_there,
                refl,
                ap (λ (s : Stage). record y { stage = s }) stage_is,
                turned,
              ),
            ),
          )

  -- ---- all of them
  abbrev IsCarried : ℕ → Task → Task → Type 0
  IsCarried k x y = (old : Task) × (slice_get tasks (jobs.from k) ≡ Some old) × Behind old x y

  carried : (k : ℕ) (y : Task) → slice_get u.jobs k ≡ Some y → (x : Task) × IsCarried k x y
  carried k y at =
      let b = partner_back h ps cpus jobs v.jobs u.jobs q.each k y at in
      let o = before_of (slice_get tasks (jobs.from k)) (slice_get v.jobs (jobs.from k)) b.0 b.1 (ahead.each (jobs.from k)) in
      let r = behind o.0 b.0 y b.2 o.2 in
      (r.0, (o.0, o.1, r.1))

  abbrev Found : Type 0
  Found = (xs : List Task) × ((k : ℕ) → Beside (IsCarried k) (slice_get xs k) (slice_get u.jobs k))

  abbrev found : Found
  found = found_beside u.jobs IsCarried carried

  pub news : List Task
  news = found.0

  beside : (k : ℕ) → Beside (IsCarried k) (slice_get news k) (slice_get u.jobs k)
  unfolding news
  beside k = found.1 k

  both_precede : (k : ℕ) (o p : Option Task) → Beside (IsCarried k) o p → BothPrecede u.programs (λ c. turns_in (there c)) o p
  both_precede k None None both = tt
  both_precede k None (Some y) both = absurd both
  both_precede k (Some x) None both = absurd both
  both_precede k (Some x) (Some y) both = both.2.1

  -- ---- CPUs that are ahead have one job in hand
  ahead_there : (d : ℕ) → IsAhead there d → FitsHeadway u.jobs d (there d)
  ahead_there d (n, far) =
      let c = cpus.from d in
      let fits = subst (λ (x : Headway). FitsHeadway v.jobs c x) far (ahead.fits c (n, far)) in
      let has = fits.1 in
      let b = partner_at h ps cpus jobs v.jobs u.jobs q.each fits.0 has.0 has.3.listed in
      let k = hand_there h ps cpus has.0 b.0 b.2 has.1 has.2 has.3.at in
      let its : IsAt u.jobs d (jobs.to fits.0) b.0 (InHand k.0 has.2) =
      record { listed = b.1; of = b.2.cpu ∙ ap cpus.to has.3.of ∙ cpus.forth d; at = k.1 } in
      subst (λ (x : Headway). FitsHeadway u.jobs d x) (sym far) (
        jobs.to fits.0,
        (b.0, k.0, has.2, its),
        only fits.0 fits.2,
      )
    where
      only : (j : ℕ) → IsOnlyOne v.jobs (cpus.from d) j → IsOnlyOne u.jobs d (jobs.to j)
      only j one i (task, state, left, at) =
          let b = partner_back h ps cpus jobs v.jobs u.jobs q.each i task at.listed in
          let s = hand_back h ps cpus b.0 task b.2 state left at.at in
          let of : b.0.cpu ≡ cpus.from d = same_cpu h ps cpus b.0 task b.2 (cpus.from d) (at.of ∙ sym (cpus.forth d)) in
          sym (jobs.forth i) ∙ ap jobs.to (one (jobs.from i) (b.0, s.0, left, record { listed = b.1; of = of; at = s.1 }))

  pub ahead_too : IsAheadOf (IsAhead there) there news u
  ahead_too = record {
    each = λ k. both_precede k (slice_get news k) (slice_get u.jobs k) (beside k);
    fits = ahead_there;
  }

  -- ---- the worlds behind are permuted so
  none_behind : (j : ℕ) → slice_get u.jobs (jobs.to j) ≡ None → slice_get tasks j ≡ None
  none_behind j none = here (slice_get tasks j) refl
    where
      here : (o : Option Task) → slice_get tasks j ≡ o → o ≡ None
      here None e = refl
      here (Some old) e =
          let a = after_of (slice_get tasks j) (slice_get v.jobs j) old e (ahead.each j) in
          let b = partner_at h ps cpus jobs v.jobs u.jobs q.each j a.0 a.1 in
          let no : None ≡ Some b.0 = sym none ∙ b.1 in
          cc

  partners : (j : ℕ) (p r : Option Task) → slice_get news (jobs.to j) ≡ p → slice_get u.jobs (jobs.to j) ≡ r → Beside (IsCarried (jobs.to j)) p r
      → ArePartners h ps cpus (slice_get tasks j) p
  partners j None None at_p at_r both = subst (λ (o : Option Task). ArePartners h ps cpus o None) (sym (none_behind j at_r)) tt
  partners j None (Some y) at_p at_r both = absurd both
  partners j (Some x) None at_p at_r both = absurd both
  partners j (Some x) (Some y) at_p at_r (old, at, (partner, precedes)) =
      partners_at h ps cpus (slice_get tasks j) (Some x) old x (ap (slice_get tasks) (sym (jobs.back j)) ∙ at) refl partner

  order_behind : KeepsOrder tasks jobs
  order_behind j k one other at_j at_k same below =
      let a = after_of (slice_get tasks j) (slice_get v.jobs j) one at_j (ahead.each j) in
      let b = after_of (slice_get tasks k) (slice_get v.jobs k) other at_k (ahead.each k) in
      q.order j k a.0 b.0 a.1 b.1 (one_cpu (turns one.cpu) one a.0 a.2 ∙ same ∙ sym (one_cpu (turns other.cpu) other b.0 b.2)) below

  pub permuted_behind : IsPermuted cpus jobs (with_jobs v tasks) (with_jobs u news)
  permuted_behind = record {
    store = q.store;
    programs = q.programs;
    each = λ j. partners j (slice_get news (jobs.to j)) (slice_get u.jobs (jobs.to j)) refl refl (beside (jobs.to j));
    order = order_behind;
    lists = q.lists;
    stays = q.stays;
  }
