-- A turn that doesn't miss what another CPU's waiting stores are about: the world that lags at that step has
-- a race.
use Rattle.std.proofs.Common.{◌≡◌, ◌≢◌, ℕ, suc, Bool, true, false, ◌||◌, List, [], ◌∷◌, ◌++◌, length, Some, ◌⊎◌, inl, inr, refl, sym, ap, subst, ◌∙◌, arith}
use Rattle.std.specs.Prelude.{map, slice_get}
use Rattle.std.proofs.lemmas.Bool.{and_right, or_left, or_right, or_cases}
use Rattle.bpf_base.proofs.Lists.{slice_get-append}
use Rattle.bpf_shared.specs.declared.events.Event.{Event}
use Rattle.bpf_shared.specs.declared.events.Event.TheVariants.{Load, Store, Atomic}
use Rattle.bpf_shared.specs.Access.{bytes_in}
use Rattle.bpf_shared.specs.Laws.{asked, CallsHaveOneReply}
use Rattle.bpf_shared.specs.Shape.{Shape}
use Rattle.bpf_shared.specs.Store.{Plain}
use Rattle.bpf_shared.specs.History.{PlainlyLegal, entry}
use Rattle.bpf_shared.specs.Sound.{IsSoundStore}
use Rattle.bpf_shared.proofs.Soundness.{allowed_sound}
use Rattle.bpf_loader.specs.Loaded.{Loaded}
use Rattle.bpf_loader.specs.Laws.{OneInstructionBegins}
use Rattle.bpf_mem.specs.Laws.{WritesAreDetermined}
use Rattle.bpf_cpu.specs.declared.cpu.Cpu.{Cpu}
use Rattle.bpf_cpu.specs.declared.outcome.Progress.{Progress}
use Rattle.bpf_cpu.specs.Step.{Step}
use Rattle.bpf_cpu.specs.Task.{Task, InHand}
use Rattle.bpf_cpu.proofs.Asking.{asks-first, asks-behind, asks-end'}
use Rattle.bpf_cpu.proofs.DeterminedRuns.{step_agrees}
use Rattle.bpf_helpers.specs.Laws.{AreAskedAlike}
use Rattle.bpf_machine.specs.declared.machine.Stand.{Stand}
use Rattle.bpf_machine.specs.Hands.{IsAt}
use Rattle.bpf_machine.specs.Schedule.{World}
use Rattle.bpf_machine.specs.Race.{Touches, HasNext, IsRace}
use Rattle.bpf_machine.proofs.DeterminedTurns.{IsWorld}
use Rattle.bpf_x86.specs.Laws.{CanStep}
use Rattle.bpf_x86.proofs.Overlay.{within_parts, hits, changes, any_at, hits_any, changes_any, changes_hits}
use Rattle.bpf_x86.proofs.Behind.{AllMiss, behind_events}
use Rattle.bpf_x86.proofs.StepShapes.{AreNot, is_call}
use Rattle.bpf_x86.proofs.Lagging.{IsLagging, at_l}

-- ---- what is asked touches the same bytes
hits_asked : (e : Event) (x : ℕ) → hits (asked e) x ≡ hits e x
hits_asked (Load a size found) x = refl
hits_asked e x = refl

pub same_hits : (e f : Event) (x : ℕ) → asked e ≡ asked f → hits e x ≡ true → hits f x ≡ true
same_hits e f x same h = sym (hits_asked f x) ∙ ap (λ (g : Event). hits g x) (sym same) ∙ hits_asked e x ∙ h

changes_asked : (e : Event) (x : ℕ) → changes (asked e) x ≡ changes e x
changes_asked (Load a size found) x = refl
changes_asked e x = refl

same_changes : (e f : Event) (x : ℕ) → asked e ≡ asked f → changes e x ≡ true → changes f x ≡ true
same_changes e f x same h = sym (changes_asked f x) ∙ ap (λ (g : Event). changes g x) (sym same) ∙ changes_asked e x ∙ h

abbrev is_write : Event → Bool
is_write (Store a size x) = true
is_write (Atomic a size op operand expected found) = true
is_write _ = false

abbrev is_atomic : Event → Bool
is_atomic (Atomic a size op operand expected found) = true
is_atomic _ = false

touches_of : (e : Event) (x : ℕ) → hits e x ≡ true → Touches e x (is_write e) (is_atomic e)
touches_of (Load a size found) x h = let p = within_parts a (bytes_in size) x h in (p.0, p.1, refl, refl)
touches_of (Store a size word) x h = let p = within_parts a (bytes_in size) x h in (p.0, p.1, refl, refl)
touches_of (Atomic a size op operand expected found) x h = let p = within_parts a (bytes_in size) x h in (p.0, p.1, refl, refl)
touches_of e x h = absurd (let no : false ≡ true = h in cc)

writes_of : (e : Event) (x : ℕ) → changes e x ≡ true → is_write e ≡ true
writes_of (Store a size word) x h = refl
writes_of (Atomic a size op operand expected found) x h = refl
writes_of e x h = absurd (let no : false ≡ true = h in cc)

not_atomic : (e : Event) → is_call e ≡ false → is_atomic e ≡ false
not_atomic (Atomic a size op operand expected found) h = absurd (let no : true ≡ false = h in cc)
not_atomic e h = refl

-- one of the events that pass a test, with its place
abbrev Among : (Event → ℕ → Bool) → List Event → ℕ → Type 0
Among test es x = (f : Event) × (place : ℕ) × (slice_get es place ≡ Some f) × (test f x ≡ true) × (is_call f ≡ false)

among : (test : Event → ℕ → Bool) (es : List Event) (x : ℕ) → AreNot is_call es → any_at test es x ≡ true → Among test es x
among test [] x quiet h = absurd (let no : false ≡ true = h in cc)
among test (e ∷ es) x quiet h = elim (or_cases (test e x) (any_at test es x) h) [
  | inl here ↦ (e, 0, refl, here, quiet.0)
  | inr there ↦ (let r = among test es x quiet.1 there in (r.0, suc r.1, r.2, r.3, r.4))
]

-- ---- after equal replies the next call is the same
module _ (replies : CallsHaveOneReply) (c : ℕ) where
  asked_next : (done : List Event) (e : Event) (rest others : List Event) (s u t : Plain) → IsSoundStore s → AreAskedAlike
      (done ++ e ∷ rest) others → PlainlyLegal s (map (entry c) done) u → PlainlyLegal s (map (entry c) others) t
      → (f : Event) × (more : List Event) × (others ≡ done ++ f ∷ more) × (asked e ≡ asked f)
  asked_next [] e rest [] s u t so alike a b = absurd (asks-end' e rest alike)
  asked_next [] e rest (f ∷ fs) s u t so alike a b = (f, fs, refl, asks-first e f rest fs alike)
  asked_next (g ∷ gs) e rest [] s u t so alike a b = absurd (asks-end' g (gs ++ e ∷ rest) alike)
  asked_next (g ∷ gs) e rest (f ∷ fs) s u t so alike a b =
      let one = replies s a.0 b.0 c g f so a.1 b.1 (asks-first g f (gs ++ e ∷ rest) fs alike) in
      let behind = asks-behind g f (gs ++ e ∷ rest) fs one.0 alike in
      let later : PlainlyLegal a.0 (map (entry c) fs) t = subst (λ (m : Plain). PlainlyLegal m (map (entry c) fs) t) (sym one.1) b.2 in
      let r = asked_next gs e rest fs a.0 u t (allowed_sound s a.0 c g so a.1.0) behind a.2 later in
      let first : g ≡ f = one.0 in
      let tails : fs ≡ gs ++ r.0 ∷ r.1 = r.2 in
      (r.0, r.1, cc, r.3)

-- ---- the CPU that is about to make the step
lag_next : (d : ℕ) (made later : List Event) (l w : World) → (lag : IsLagging d made later l w) → (f : Event) (place : ℕ) → slice_get made
    place ≡ Some f → HasNext l (record { cpu = d; program = lag.task.program; pc = lag.state.pc }) f
lag_next d made later l w lag f place among = record {
  job = lag.job;
  task = lag.task;
  state = lag.state;
  left = suc lag.left;
  at = lag.at;
  runs = refl;
  stands = refl;
  may = omega arith;
  program = lag.program;
  loaded = lag.loaded;
  events = made;
  answer = lag.answer;
  after = lag.after;
  step = lag.step;
  store = lag.store;
  legal = lag.legal;
  place = place;
  among = among;
}

-- a byte that both touch, and one of them writes
abbrev pub Clash : Event → Event → ℕ → Type 0
Clash e f x = ((hits e x ≡ true) × (changes f x ≡ true)) ⊎ ((changes e x ≡ true) × (hits f x ≡ true))

clash_asked : (e g f : Event) (x : ℕ) → asked e ≡ asked g → Clash e f x → Clash g f x
clash_asked e g f x same (inl h) = inl (same_hits e g x same h.0, h.1)
clash_asked e g f x same (inr h) = inr (same_changes e g x same h.0, h.1)

module _ (law : WritesAreDetermined) (begins : OneInstructionBegins) (replies : CallsHaveOneReply) where
  module _ (c d : ℕ) (ne : c ≢ d) (made later : List Event) (l w : World) (lag : IsLagging d made later l w) (world_l : IsWorld l) (world_w : IsWorld w)
      (k : ℕ) (task : Task) (state : Cpu) (n : ℕ) (at : IsAt w.jobs c k task (InHand state (suc n))) (program : Loaded)
      (loaded : slice_get w.programs task.program ≡ Some program)
      (done : List Event) (e : Event) (rest : List Event) (answer : Progress) (new : Cpu)
      (step : Step w.store.shape program state (done ++ e ∷ rest) answer new)
      (u : Plain) (legal : PlainlyLegal w.store (map (entry c) done) u) (miss : AllMiss (made ++ later) done) where
    abbrev here : Stand
    here = record { cpu = c; program = task.program; pc = state.pc }

    abbrev there : Stand
    there = record { cpu = d; program = lag.task.program; pc = lag.state.pc }

    at_here : IsAt l.jobs c k task (InHand state (suc n))
    at_here = at_l d made later c ne l w lag k task (InHand state (suc n)) at

    -- its step there makes the same call
    next_in : CanStep l → (g : Event) × HasNext l here g × (asked e ≡ asked g)
    next_in can =
        let a = can c k task state n at_here in
        let listed : slice_get l.programs task.program ≡ Some program = ap (λ (ps : List Loaded). slice_get ps task.program) lag.programs ∙ loaded in
        let both : Some a.0 ≡ Some program = sym a.5 ∙ listed in
        let one : a.0 ≡ program = cc in
        let shape : w.store.shape ≡ l.store.shape = sym (ap (λ (z : Plain). z.shape) lag.behind.like.same) in
        let mine : Step l.store.shape program state (done ++ e ∷ rest) answer new = subst
        (λ (h : Shape). Step h program state (done ++ e ∷ rest) answer new) shape step in
        let theirs : Step l.store.shape program state a.1 a.2 a.3 = subst (λ (p : Loaded). Step l.store.shape p state a.1 a.2 a.3) one a.6 in
        let agrees = step_agrees law begins l.store.shape program state new a.3 answer a.2 (done ++ e ∷ rest) a.1
        (world_l.memory c k task state (suc n) at_here) mine theirs in
        let lagged = behind_events d c ne (made ++ later) done l.store w.store u world_l.store world_w.store lag.behind miss legal in
        let r = asked_next replies c done e rest a.1 l.store lagged.0 a.4 world_l.store agrees.asks lagged.1 a.7 in (
          r.0,
          record {
            job = k;
            task = task;
            state = state;
            left = suc n;
            at = at_here;
            runs = refl;
            stands = refl;
            may = omega arith;
            program = program;
            loaded = listed;
            events = a.1;
            answer = a.2;
            after = a.3;
            step = theirs;
            store = a.4;
            legal = a.7;
            place = length done;
            among = ap (λ (es : List Event). slice_get es (length done)) r.2 ∙ slice_get-append done (r.0 ∷ r.1) 0 (length done) (omega arith);
          },
          r.3,
        )

    race_of : CanStep l → (x : ℕ) (f : Event) (place : ℕ) → slice_get made place ≡ Some f → is_call f ≡ false → Clash e f x → IsRace l here there x
    race_of can x f place is quiet clash =
        let next = next_in can in
        let g : Event = next.0 in
        let now : Clash g f x = clash_asked e g f x next.2 clash in
        record {
          apart = ne;
          first = g;
          second = f;
          next = next.1;
          next_too = lag_next d made later l w lag f place is;
          writes = is_write g;
          writes_too = is_write f;
          atomic = is_atomic g;
          atomic_too = is_atomic f;
          touches = touches_of g x (hit_one g now);
          touches_too = touches_of f x (hit_other g now);
          one_writes = one g now;
          not_both = and_right (is_atomic g) (is_atomic f) (not_atomic f quiet);
        }
      where
        hit_one : (g : Event) → Clash g f x → hits g x ≡ true
        hit_one g (inl h) = h.0
        hit_one g (inr h) = changes_hits g x h.0

        hit_other : (g : Event) → Clash g f x → hits f x ≡ true
        hit_other g (inl h) = changes_hits f x h.1
        hit_other g (inr h) = h.1

        one : (g : Event) → Clash g f x → is_write g || is_write f ≡ true
        one g (inl h) = or_right (is_write g) (is_write f) (writes_of f x h.1)
        one g (inr h) = or_left (is_write g) (is_write f) (writes_of g x h.0)

    -- what it touches, one of these writes; or what it writes, one of them touches
    pub race_touched : CanStep l → (x : ℕ) → hits e x ≡ true → changes_any made x ≡ true → IsRace l here there x
    race_touched can x hit there = let r = among changes made x lag.quiet there in race_of can x r.0 r.1 r.2 r.4 (inl (hit, r.3))

    pub race_written : CanStep l → (x : ℕ) → changes e x ≡ true → hits_any made x ≡ true → IsRace l here there x
    race_written can x hit there = let r = among hits made x lag.quiet there in race_of can x r.0 r.1 r.2 r.4 (inr (hit, r.3))
