-- To be permuted is an equivalence.
use Rattle.std.proofs.Common.{◌≡◌, ◌∙◌, ℕ, ◌<◌, Bool, List, Option, Some, None, inl, inr, refl, sym, ap, subst, arith}
use Rattle.std.specs.Prelude.{slice_get, option_and_then}
use Rattle.std.proofs.lemmas.Bool.{cases_lt}
use mathlib.Core.Path.{fun_ext}
use Rattle.bpf_shared.specs.Shape.{Shape}
use Rattle.bpf_shared.specs.Sound.{AreFixed, IsSoundStore}
use Rattle.bpf_shared.specs.Store.{Plain, IsKept, IsLive}
use Rattle.bpf_shared.proofs.Puts.{equal_or_not}
use Rattle.bpf_loader.specs.Loaded.{Loaded}
use Rattle.bpf_cpu.specs.declared.cpu.Cpu.{Cpu}
use Rattle.bpf_cpu.specs.declared.input.Input.{Input}
use Rattle.bpf_cpu.specs.declared.outcome.Outcome.{Outcome}
use Rattle.bpf_cpu.specs.Task.{Stage, Task, Waiting, InHand, Ended, ended}
use Rattle.bpf_machine.specs.Listings.{Listing}
use Rattle.bpf_machine.specs.Schedule.{World}
use Rattle.bpf_equal.specs.Permutations.{Permutation}
use Rattle.bpf_equal.specs.States.{AreOneInput, AreOneState, marked, marks_of}
use Rattle.bpf_equal.specs.Stores.{store_permuted}
use Rattle.bpf_equal.specs.Worlds.{AreOneStage, ArePartners, IsAsFar, IsBlind, IsPartner, IsPermuted, KeepsOrder}
use Rattle.bpf_equal.specs.Laws.{PartnersEndAlike, SoundStoresStaySound}
use Rattle.bpf_equal.proofs.Partners.{partner_at, partner_back}

-- ---- permutations
abbrev pub none_moves : Permutation
none_moves = record { to = λ n. n; from = λ n. n; back = λ n. refl; forth = λ n. refl }

abbrev pub inverse : Permutation → Permutation
inverse p = record { to = p.from; from = p.to; back = p.forth; forth = p.back }

abbrev pub composed : Permutation → Permutation → Permutation
composed p q = record {
  to = λ n. q.to (p.to n);
  from = λ n. p.from (q.from n);
  back = λ n. ap p.from (q.back (p.to n)) ∙ p.back n;
  forth = λ n. ap q.to (p.forth (q.from n)) ∙ q.forth n;
}

-- ---- stages
state_back : (a b : Cpu) → AreOneState a b → AreOneState b a
state_back a b one = sym (ap (marked (marks_of a)) one)

state_on : (a b c : Cpu) → AreOneState a b → AreOneState b c → AreOneState a c
state_on a b c one more = more ∙ ap (marked (marks_of c)) one

-- what a job gets, with other marks
abbrev told : Input → Input → Input
told marks input = record input { given = record input.given { job = marks.given.job; seed = marks.given.seed } }

input_back : (a b : Input) → AreOneInput a b → AreOneInput b a
input_back a b one = sym (ap (told a) one)

input_on : (a b c : Input) → AreOneInput a b → AreOneInput b c → AreOneInput a c
input_on a b c one more = more ∙ ap (told c) one

stage_back : (s t : Stage) → AreOneStage s t → AreOneStage t s
stage_back (InHand a left) (InHand b rest) (one, same) = (state_back a b one, sym same)
stage_back (InHand a left) (Waiting input) e = let no : Waiting input ≡ InHand a left = e in cc
stage_back (InHand a left) (Ended end) e = let no : Ended end ≡ InHand a left = e in cc
stage_back (Waiting input) (InHand b rest) e = let no : InHand b rest ≡ Waiting input = e in cc
stage_back (Waiting input) (Waiting more) one = input_back input more one
stage_back (Waiting input) (Ended end) e = sym e
stage_back (Ended end) (InHand b rest) e = let no : InHand b rest ≡ Ended end = e in cc
stage_back (Ended end) (Waiting more) e = sym e
stage_back (Ended end) (Ended other) e = sym e

stage_on : (s t u : Stage) → AreOneStage s t → AreOneStage t u → AreOneStage s u
stage_on (InHand a left) (InHand b rest) (InHand c last) (one, same) (more, again) = (state_on a b c one more, again ∙ same)
stage_on (InHand a left) (InHand b rest) (Waiting input) one more = let no : Waiting input ≡ InHand b rest = more in cc
stage_on (InHand a left) (InHand b rest) (Ended end) one more = let no : Ended end ≡ InHand b rest = more in cc
stage_on (InHand a left) (Waiting input) u one more = let no : Waiting input ≡ InHand a left = one in cc
stage_on (InHand a left) (Ended end) u one more = let no : Ended end ≡ InHand a left = one in cc
stage_on (Waiting input) (InHand b rest) u one more = let no : InHand b rest ≡ Waiting input = one in cc
stage_on (Waiting input) (Ended end) u one more = let no : Ended end ≡ Waiting input = one in cc
stage_on (Waiting input) (Waiting other) (InHand c last) one more = let no : InHand c last ≡ Waiting other = more in cc
stage_on (Waiting input) (Waiting other) (Ended end) one more = let no : Ended end ≡ Waiting other = more in cc
stage_on (Waiting input) (Waiting other) (Waiting third) one more = input_on input other third one more
stage_on (Ended end) t u one more = let same : t ≡ Ended end = has_ended end t one in subst (λ (s : Stage). AreOneStage s u) same more
  where
    has_ended : (end : Outcome) (t : Stage) → AreOneStage (Ended end) t → t ≡ Ended end
    has_ended end (InHand b rest) e = e
    has_ended end (Waiting other) e = e
    has_ended end (Ended last) e = e

-- ---- jobs
module _ (h : Shape) (programs : List Loaded) where
  far_back : (a b : Task) → b.program ≡ a.program → IsAsFar h programs a b → IsAsFar h programs b a
  far_back a b same (inl (cpu, stage)) = inl (sym cpu, sym stage)
  far_back a b same (inr (blind, stage)) = inr (subst (IsBlind h programs) (sym same) blind, stage_back a.stage b.stage stage)

  far_on : (a b c : Task) → b.program ≡ a.program → IsAsFar h programs a b → IsAsFar h programs b c → IsAsFar h programs a c
  far_on a b c same (inl (cpu, stage)) (inl (more, again)) = inl (more ∙ cpu, again ∙ stage)
  far_on a b c same (inl (cpu, stage)) (inr (blind, one)) =
      inr (subst (IsBlind h programs) same blind, subst (λ (s : Stage). AreOneStage s c.stage) stage one)
  far_on a b c same (inr (blind, one)) (inl (cpu, stage)) = inr (blind, subst (λ (s : Stage). AreOneStage a.stage s) (sym stage) one)
  far_on a b c same (inr (blind, one)) (inr (other, more)) = inr (blind, stage_on a.stage b.stage c.stage one more)

  pub partner_itself : (a : Task) → IsPartner h programs none_moves a a
  partner_itself a = record { cpu = refl; program = refl; budget = refl; stage = inl (refl, refl) }

  partner_from : (cpus : Permutation) (a b : Task) → IsPartner h programs cpus a b → IsPartner h programs (inverse cpus) b a
  partner_from cpus a b p = record {
    cpu = sym (cpus.back a.cpu) ∙ ap cpus.from (sym p.cpu);
    program = sym p.program;
    budget = sym p.budget;
    stage = far_back a b p.program p.stage;
  }

  partner_on : (cpus more : Permutation) (a b c : Task) → IsPartner h programs cpus a b → IsPartner h programs more b c → IsPartner h programs
      (composed cpus more) a c
  partner_on cpus more a b c p q = record {
    cpu = q.cpu ∙ ap more.to p.cpu;
    program = q.program ∙ p.program;
    budget = q.budget ∙ p.budget;
    stage = far_on a b c p.program p.stage q.stage;
  }

  itself_there : (o : Option Task) → ArePartners h programs none_moves o o
  itself_there None = tt
  itself_there (Some a) = partner_itself a

  both_back : (cpus : Permutation) (o p : Option Task) → ArePartners h programs cpus o p → ArePartners h programs (inverse cpus) p o
  both_back cpus None None both = tt
  both_back cpus None (Some b) both = absurd both
  both_back cpus (Some a) None both = absurd both
  both_back cpus (Some a) (Some b) both = partner_from cpus a b both

  both_on : (cpus more : Permutation) (o p q : Option Task) → ArePartners h programs cpus o p → ArePartners h programs more p q
      → ArePartners h programs (composed cpus more) o q
  both_on cpus more None None None one two = tt
  both_on cpus more None None (Some c) one two = absurd two
  both_on cpus more None (Some b) q one two = absurd one
  both_on cpus more (Some a) None q one two = absurd one
  both_on cpus more (Some a) (Some b) None one two = absurd two
  both_on cpus more (Some a) (Some b) (Some c) one two = partner_on cpus more a b c one two

-- ---- worlds
abbrev through : (ℕ → ℕ) → (ℕ → Listing) → ℕ → Listing
through place lists = λ c. lists (place c)

pub permuted_itself : (w : World) → IsPermuted none_moves none_moves w w
permuted_itself w = record {
  store = refl;
  programs = refl;
  each = λ j. itself_there w.store.shape w.programs (slice_get w.jobs j);
  order = λ j k one other at_j at_k same below. below;
  lists = refl;
  stays = λ k inside. (inside, inside);
}

pub same_shape : (cpus jobs : Permutation) (w v : World) → IsPermuted cpus jobs w v → v.store.shape ≡ w.store.shape
same_shape cpus jobs w v p = ap (λ (s : Plain). s.shape) p.store

store_back : (cpus : Permutation) (s : Plain) → store_permuted (inverse cpus) (store_permuted cpus s) ≡ s
store_back cpus s =
    let with_flags : (ℕ → Bool) → (ℕ → ℕ → Bool) → (ℕ → ℕ → Bool) → Plain = λ running held kept. record s
    { running = running; held = held; kept = kept } in
    ap (λ (f : ℕ → ℕ). with_flags (λ c. s.running (f c)) (λ c. s.held (f c)) (λ c. s.kept (f c))) (fun_ext cpus.back)

module _ (cpus jobs : Permutation) (w v : World) (p : IsPermuted cpus jobs w v) where
  each_back : (k : ℕ) → ArePartners v.store.shape v.programs (inverse cpus) (slice_get v.jobs k) (slice_get w.jobs (jobs.from k))
  each_back k =
      let there = subst (λ (i : ℕ). ArePartners w.store.shape w.programs cpus (slice_get w.jobs (jobs.from k)) (slice_get v.jobs i)) (jobs.forth k)
      (p.each (jobs.from k)) in
      let back = both_back w.store.shape w.programs cpus (slice_get w.jobs (jobs.from k)) (slice_get v.jobs k) there in
      subst (λ (h : Shape). ArePartners h v.programs (inverse cpus) (slice_get v.jobs k) (slice_get w.jobs (jobs.from k))) (sym (same_shape cpus jobs w v p))
      (subst (λ (ps : List Loaded). ArePartners w.store.shape ps (inverse cpus) (slice_get v.jobs k) (slice_get w.jobs (jobs.from k))) (sym p.programs) back)

  order_back : KeepsOrder v.jobs (inverse jobs)
  order_back j k one other at_j at_k same below =
      let a = partner_back w.store.shape w.programs cpus jobs w.jobs v.jobs p.each j one at_j in
      let b = partner_back w.store.shape w.programs cpus jobs w.jobs v.jobs p.each k other at_k in
      let cpu : a.0.cpu ≡ b.0.cpu =
      sym (cpus.back a.0.cpu) ∙ ap cpus.from (sym a.2.cpu ∙ same ∙ b.2.cpu) ∙ cpus.back b.0.cpu in
      let is_j = jobs.forth j in
      let is_k = jobs.forth k in
      elim (cases_lt (jobs.from j) (jobs.from k)) [
        | inl low ↦ low
        | inr high ↦ elim (equal_or_not (jobs.from j) (jobs.from k)) [
          | inl e ↦ let one_place : j ≡ k = sym is_j ∙ ap jobs.to e ∙ is_k in omega (arith, one_place, below)
          | inr ne ↦
              let past = p.order (jobs.from k) (jobs.from j) b.0 a.0 b.1 a.1 (sym cpu) (omega (arith, high, ne)) in
              omega (arith, past, is_j, is_k, below)
        ]
      ]

  pub permuted_back : IsPermuted (inverse cpus) (inverse jobs) v w
  permuted_back = record {
    store = sym (ap (store_permuted (inverse cpus)) p.store ∙ store_back cpus w.store);
    programs = sym p.programs;
    each = each_back;
    order = order_back;
    lists = sym (ap (through cpus.to) p.lists ∙ fun_ext (λ c. ap w.lists (cpus.back c)));
    stays = subst (λ (h : Shape). (k : ℕ) → k < h.cpus → (cpus.from k < h.cpus) × (cpus.to k < h.cpus)) (sym (same_shape cpus jobs w v p))
        (λ k inside. ((p.stays k inside).1, (p.stays k inside).0));
  }

  module _ (more others : Permutation) (u : World) (q : IsPermuted more others v u) where
    each_on : (j : ℕ) → ArePartners w.store.shape w.programs (composed cpus more) (slice_get w.jobs j) (slice_get u.jobs (others.to (jobs.to j)))
    each_on j =
        let two = subst (λ (h : Shape). ArePartners h v.programs more (slice_get v.jobs (jobs.to j)) (slice_get u.jobs (others.to (jobs.to j))))
        (same_shape cpus jobs w v p) (q.each (jobs.to j)) in
        both_on w.store.shape w.programs cpus more (slice_get w.jobs j) (slice_get v.jobs (jobs.to j)) (slice_get u.jobs (others.to (jobs.to j)))
        (p.each j)
        (subst (λ (ps : List Loaded). ArePartners w.store.shape ps more (slice_get v.jobs (jobs.to j)) (slice_get u.jobs (others.to (jobs.to j))))
        p.programs two)

    order_on : KeepsOrder w.jobs (composed jobs others)
    order_on j k one other at_j at_k same below =
        let a = partner_at w.store.shape w.programs cpus jobs w.jobs v.jobs p.each j one at_j in
        let b = partner_at w.store.shape w.programs cpus jobs w.jobs v.jobs p.each k other at_k in
        q.order (jobs.to j) (jobs.to k) a.0 b.0 a.1 b.1 (a.2.cpu ∙ ap cpus.to same ∙ sym b.2.cpu) (p.order j k one other at_j at_k same below)

    pub permuted_on : IsPermuted (composed cpus more) (composed jobs others) w u
    permuted_on = record {
      store = q.store ∙ ap (store_permuted more) p.store;
      programs = q.programs ∙ p.programs;
      each = each_on;
      order = order_on;
      lists = q.lists ∙ ap (through more.from) p.lists;
      stays = λ k inside.
          let further = subst (λ (h : Shape). (i : ℕ) → i < h.cpus → (more.to i < h.cpus) × (more.from i < h.cpus)) (same_shape cpus jobs w v p) q.stays in
          let there = p.stays k inside in
          ((further (cpus.to k) there.0).0, (p.stays (more.from k) (further k inside).1).1);
    }

-- ---- what jobs end with
ended_too : (s t : Stage) → AreOneStage s t → ended t ≡ ended s
ended_too (InHand a left) (InHand b rest) one = refl
ended_too (InHand a left) (Waiting input) e = ap ended e
ended_too (InHand a left) (Ended end) e = ap ended e
ended_too (Waiting input) (InHand b rest) e = ap ended e
ended_too (Waiting input) (Waiting more) one = refl
ended_too (Waiting input) (Ended end) e = ap ended e
ended_too (Ended end) (InHand b rest) e = ap ended e
ended_too (Ended end) (Waiting more) e = ap ended e
ended_too (Ended end) (Ended other) e = ap ended e

ends_alike : (h : Shape) (programs : List Loaded) (a b : Task) → IsAsFar h programs a b → ended b.stage ≡ ended a.stage
ends_alike h programs a b (inl (cpu, same)) = ap ended same
ends_alike h programs a b (inr (blind, one)) = ended_too a.stage b.stage one

outcomes_alike : (h : Shape) (programs : List Loaded) (cpus : Permutation) (o p : Option Task) → ArePartners h programs cpus o p
    → option_and_then (λ task. ended task.stage) p ≡ option_and_then (λ task. ended task.stage) o
outcomes_alike h programs cpus None None both = refl
outcomes_alike h programs cpus None (Some b) both = absurd both
outcomes_alike h programs cpus (Some a) None both = absurd both
outcomes_alike h programs cpus (Some a) (Some b) both = ends_alike h programs a b both.stage

pub partners_end_alike : PartnersEndAlike
partners_end_alike cpus jobs w v j p = outcomes_alike w.store.shape w.programs cpus (slice_get w.jobs j) (slice_get v.jobs (jobs.to j)) (p.each j)

-- ---- sound stores
module _ (cpus : Permutation) (s : Plain) (sound : IsSoundStore s) where
  abbrev P : Plain
  P = store_permuted cpus s

  kept_here : (v : ℕ) → IsKept P v → IsKept s v
  kept_here v (c, e) = (cpus.from c, e)

  live_here : (v : ℕ) → IsLive P v → IsLive s v
  live_here v (inl m) = inl m
  live_here v (inr (inl (c, e))) = inr (inl (cpus.from c, e))
  live_here v (inr (inr f)) = inr (inr f)

  fixed_too : AreFixed P
  fixed_too = record {
    shape = sound.fixed.shape;
    made = sound.fixed.made;
    in_map = sound.fixed.in_map;
    kept = λ v k. sound.fixed.kept v (kept_here v k);
    spans = sound.fixed.spans;
    frozen = sound.fixed.frozen;
  }

  stays_sound : IsSoundStore P
  stays_sound = record {
    fixed = fixed_too;
    held = λ c v e. sound.held (cpus.from c) v e;
    idle = λ c e v. sound.idle (cpus.from c) e v;
    keys = sound.keys;
    live_made = λ v l. sound.live_made v (live_here v l);
    kept_made = λ v k. sound.kept_made v (kept_here v k);
    sizes = sound.sizes;
    apart = λ v u a b ne. sound.apart v u (live_here v a) (live_here u b) ne;
  }

pub sound_stores_stay_sound : SoundStoresStaySound
sound_stores_stay_sound cpus s sound = stays_sound cpus s sound
