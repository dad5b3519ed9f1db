-- What is saved as the same bytes, and what the parts of a state are.
use Rattle.std.proofs.Common.{◌≡◌, ◌∙◌, ℕ, suc, ◌<◌, ◌≤◌, Option, None, List, [], ◌∷◌, ◌++◌, length, map, take}
use Rattle.std.proofs.Common.{refl, sym, ap, subst, arith}
use Rattle.std.specs.List.{AllByRecursion}
use Rattle.std.proofs.Math.Seq.{take-length}
use Rattle.std.proofs.lemmas.List.{length-take-le}
use Rattle.bpf_shared.specs.Shape.{Shape}
use Rattle.bpf_shared.specs.declared.events.Event.{Event}
use Rattle.bpf_plain.specs.PlainStore.{Contents, IsSavedAs}
use Rattle.bpf_plain.specs.Alike.{AlikeStandAlike, IsSameShape, LookAlike, SavedAlikeLookAlike}
use Rattle.bpf_plain.specs.Read.{IsRead, IsSavedFirst, SavesNone}
use Rattle.bpf_plain.proofs.SavedAlike.{saved_alike_look_alike}
use Rattle.bpf_loader.specs.Loaded.{Loaded}
use Rattle.bpf_cpu.specs.Task.{Task}
use Rattle.bpf_machine.specs.Listings.{Listing, listing_at}
use Rattle.bpf_machine.specs.Parts.{CanStand}
use Rattle.bpf_machine.specs.Saved.{jobs_saved, AreLater, ComeFrom, HoldWhatMayBe}
use Rattle.bpf_machine.proofs.JobLemmas.{jobs_told}
use Rattle.bpf_x86.specs.Machine.{X86}
use Rattle.bpf_buffering.specs.declared.waiting.Stored.{Stored}
use Rattle.bpf_buffering.specs.Waiting.{event_of}
use Rattle.bpf_buffering.specs.Search.{BufferedState, ShowsX86, buffer_at}
use Rattle.bpf_explore.specs.Stores.{IsOfShape}
use Rattle.bpf_explore.proofs.StandAlike.{can_stand}
use Rattle.bpf_expand.specs.State.{Host}
use Rattle.bpf_expand.proofs.Taking.{one_shape, shape_read}
use Rattle.bpf_buffer_expand.specs.Saved.{buffers_saved, AreSavable}
use Rattle.bpf_buffer_expand.specs.State.{IsNoState, IsStateOf}
use Rattle.bpf_buffer_expand.specs.Private.Room.{host_with, AreFrom, AreRead, IsRead as IsReadAs}
use Rattle.bpf_buffer_expand.specs.Private.Fits.{FitAll}
use Rattle.bpf_buffer_expand.proofs.Telling.{buffers_told}

-- ---- one state's parts are those of each that has its bytes
module _ (first jobs others : List Task) (bs ds : List (List Stored)) (r s bytes : List ℕ) (later : AreLater first jobs)
    (latter : AreLater first others) (count : length bs ≡ length ds) (savable : AllByRecursion AreSavable bs)
    (saved : AllByRecursion AreSavable ds) (one : bytes ≡ jobs_saved jobs ++ (buffers_saved bs ++ r))
    (other : bytes ≡ jobs_saved others ++ (buffers_saved ds ++ s)) where
  told : (jobs ≡ others) × (buffers_saved bs ++ r ≡ buffers_saved ds ++ s)
  told = jobs_told first jobs others (buffers_saved bs ++ r) (buffers_saved ds ++ s) later latter (sym one ∙ other)

  pub same_jobs : jobs ≡ others
  same_jobs = told.0

  pub same_waiting : bs ≡ ds
  same_waiting = (buffers_told bs ds r s count savable saved told.1).0

  pub same_store : r ≡ s
  same_store = (buffers_told bs ds r s count savable saved told.1).1

-- ---- machines of one state
module _ (h : Host) (x y : BufferedState) (bytes : List ℕ) (a : IsStateOf h x bytes) (b : IsStateOf h y bytes) where
  pub one_count : length a.waiting ≡ length b.waiting
  one_count = a.fit.count ∙ sym b.fit.count

  pub jobs_too : x.machine.jobs ≡ y.machine.jobs
  jobs_too = same_jobs h.jobs x.machine.jobs y.machine.jobs a.waiting b.waiting a.store b.store bytes a.of.jobs b.of.jobs one_count a.fit.savable
      b.fit.savable a.saved b.saved

  pub buffers_too : x.buffers ≡ y.buffers
  buffers_too = a.buffers ∙ (ap (λ (l : List (List Stored)). map (map event_of) l)
      (same_waiting h.jobs x.machine.jobs y.machine.jobs a.waiting b.waiting a.store b.store bytes a.of.jobs b.of.jobs one_count a.fit.savable
      b.fit.savable a.saved b.saved) ∙ sym b.buffers)

  pub store_too : a.store ≡ b.store
  store_too = same_store h.jobs x.machine.jobs y.machine.jobs a.waiting b.waiting a.store b.store bytes a.of.jobs b.of.jobs one_count a.fit.savable
      b.fit.savable a.saved b.saved

  -- they show the same machines
  pub shows_too : SavedAlikeLookAlike → AlikeStandAlike → (z : X86) → ShowsX86 x z → ShowsX86 y z
  shows_too look stand z shown =
      let shape : IsSameShape x.machine.store y.machine.store = one_shape h.shape x.machine.store y.machine.store a.of.shape b.of.shape in
      let saved : IsSavedAs y.machine.store a.store = subst (λ (l : List ℕ). IsSavedAs y.machine.store l) (sym store_too) b.stored in
      record {
        world = record {
          store = stand x.machine.store y.machine.store z.world.store
              (look x.machine.store y.machine.store a.store shape a.stored saved) shown.world.store;
          sound = shown.world.sound;
          programs = shown.world.programs ∙ (a.of.programs ∙ sym b.of.programs);
          jobs = shown.world.jobs ∙ jobs_too;
          lists = shown.world.lists ∙ ap (λ (l : Option (List Listing)). listing_at l) (a.of.lists ∙ sym b.of.lists);
        };
        buffers = shown.buffers ∙ ap (λ (l : List (List Event)). buffer_at l) buffers_too;
      }

-- ---- bytes that are no state
-- no jobs are at the beginning
pub no_jobs : (h : Host) (bytes : List ℕ) → ((jobs : List Task) (more : List ℕ) → AreLater h.jobs jobs → HoldWhatMayBe jobs → bytes ≡
    jobs_saved jobs ++ more → ⊥) → IsNoState h bytes
no_jobs h bytes none m is = none m.machine.jobs (buffers_saved is.waiting ++ is.store) is.of.jobs is.of.held is.saved

module _ (h : Host) (jobs : List Task) (bytes rest : List ℕ) (later : AreLater h.jobs jobs) (read : bytes ≡ jobs_saved jobs ++ rest) where
  after_jobs : (m : BufferedState) (is : IsStateOf h m bytes) → (jobs ≡ m.machine.jobs) × (rest ≡ buffers_saved is.waiting ++ is.store)
  after_jobs m is = jobs_told h.jobs jobs m.machine.jobs rest (buffers_saved is.waiting ++ is.store) later is.of.jobs (sym read ∙ is.saved)

  -- no buffers are after the jobs
  pub no_buffers : ((others : List (List Stored)) (more : List ℕ) → length others ≡ h.shape.cpus → AllByRecursion AreSavable others → rest ≡
      buffers_saved others ++ more → ⊥) → IsNoState h bytes
  no_buffers none m is = none is.waiting is.store is.fit.count is.fit.savable (after_jobs m is).1

  module _ (waiting : List (List Stored)) (last : List ℕ) (count : length waiting ≡ h.shape.cpus) (savable : AllByRecursion AreSavable waiting)
      (behind : rest ≡ buffers_saved waiting ++ last) where
    pub stored_last : (m : BufferedState) (is : IsStateOf h m bytes) → (waiting ≡ is.waiting) × IsSavedAs m.machine.store last
    stored_last m is =
        let t = buffers_told waiting is.waiting last is.store (count ∙ sym is.fit.count) savable is.fit.savable (sym behind ∙ (after_jobs m is).1) in
        (t.0, subst (λ (l : List ℕ). IsSavedAs m.machine.store l) (sym t.1) is.stored)

    pub jobs_last : (m : BufferedState) (is : IsStateOf h m bytes) → jobs ≡ m.machine.jobs
    jobs_last m is = (after_jobs m is).0

    first_saved : (old : Contents) → IsOfShape h.shape old → (m : BufferedState) (is : IsStateOf h m bytes) → IsSavedFirst old last
        (length last) m.machine.store
    first_saved old of m is = record {
      shape = one_shape h.shape m.machine.store old is.of.shape of;
      saved = subst (λ (l : List ℕ). IsSavedAs m.machine.store l) (sym (take-length last)) (stored_last m is).1;
    }

    -- no store is after the buffers
    pub no_store : (old : Contents) → IsOfShape h.shape old → SavesNone old last → IsNoState h bytes
    no_store old of none m is = none (length last) m.machine.store (first_saved old of m is)

    module _ (old room : Contents) (size : ℕ) (of : IsOfShape h.shape old) (stored : IsRead old last size room) where
      -- some bytes are left over
      pub no_end : size < length last → IsNoState h bytes
      no_end short m is =
          let same = ap (length {A = ℕ}) (stored.ends (length last) m.machine.store (first_saved old of m is)) in
          let left : length (take (length last) last) ≡ length last = ap (length {A = ℕ}) (take-length last) in
          let right : length (take size last) ≡ size = length-take-le size last (omega arith) in
          absurd (omega (arith, same, left, right, short))

      -- all are read
      pub are_read : length last ≤ size → AreRead h.shape h.jobs jobs waiting room bytes
      are_read whole = record {
        later = later;
        count = count;
        savable = savable;
        shape = shape_read h.shape old room last size of stored;
        saved = (last, subst (λ (l : List ℕ). IsSavedAs room l) all_read stored.saved.saved, read ∙ ap (λ (l : List ℕ). jobs_saved jobs ++ l) behind);
      }
        where
          all_read : take size last ≡ last
          all_read = (let same : size ≡ length last = omega (arith, stored.inside, whole) in ap (λ (n : ℕ). take n last) same) ∙ take-length last

-- ---- parts that were read
module _ (h : Shape) (programs : List Loaded) (first jobs : List Task) (waiting : List (List Stored)) (store : Contents) (bytes : List ℕ)
    (are : AreRead h first jobs waiting store bytes) where
  pub jobs_are : (m : BufferedState) (is : IsStateOf (host_with h programs first) m bytes) → jobs ≡ m.machine.jobs
  jobs_are m is = same_jobs first jobs m.machine.jobs waiting is.waiting are.saved.0 is.store bytes are.later is.of.jobs
      (are.count ∙ sym is.fit.count) are.savable is.fit.savable are.saved.2 is.saved

  pub waiting_are : (m : BufferedState) (is : IsStateOf (host_with h programs first) m bytes) → waiting ≡ is.waiting
  waiting_are m is = same_waiting first jobs m.machine.jobs waiting is.waiting are.saved.0 is.store bytes are.later is.of.jobs
      (are.count ∙ sym is.fit.count) are.savable is.fit.savable are.saved.2 is.saved

  pub store_is : (m : BufferedState) (is : IsStateOf (host_with h programs first) m bytes) → are.saved.0 ≡ is.store
  store_is m is = same_store first jobs m.machine.jobs waiting is.waiting are.saved.0 is.store bytes are.later is.of.jobs
      (are.count ∙ sym is.fit.count) are.savable is.fit.savable are.saved.2 is.saved

  looks : (m : BufferedState) (is : IsStateOf (host_with h programs first) m bytes) → LookAlike m.machine.store store
  looks m is = saved_alike_look_alike m.machine.store store are.saved.0 (one_shape h m.machine.store store is.of.shape are.shape)
      (subst (λ (l : List ℕ). IsSavedAs m.machine.store l) (sym (store_is m is)) is.stored) are.saved.1

  -- the machine can't be
  pub no_stand : (CanStand (record { store = store; programs = programs; jobs = jobs; lists = None }) → ⊥) → IsNoState (host_with h programs first) bytes
  no_stand none m is =
      let there = can_stand m.machine.store store (looks m is) m.machine.programs m.machine.jobs m.machine.lists None is.of.stands in
      none (subst (λ (ts : List Task). CanStand (record { store = store; programs = programs; jobs = ts; lists = None })) (sym (jobs_are m is))
      (subst (λ (ps : List Loaded). CanStand (record { store = store; programs = ps; jobs = m.machine.jobs; lists = None })) is.of.programs there))

  -- some run can't have stored what waits
  pub no_fit : (FitAll h jobs waiting → ⊥) → IsNoState (host_with h programs first) bytes
  no_fit none m is =
      none (subst (λ (ts : List Task). FitAll h ts waiting) (sym (jobs_are m is))
      (subst (λ (l : List (List Stored)). FitAll h m.machine.jobs l) (sym (waiting_are m is)) is.fit.each))

  pub is_read : CanStand (record { store = store; programs = programs; jobs = jobs; lists = None }) → FitAll h jobs waiting → IsReadAs h programs
      first jobs waiting store bytes
  is_read stands fit = record {
    are = are;
    stands = stands;
    fit = record { count = are.count; savable = are.savable; each = fit };
  }

-- ---- what jobs come from
pub later_cpus : (firsts jobs : List Task) → AreLater firsts jobs → map (λ task. task.cpu) jobs ≡ map (λ task. task.cpu) firsts
later_cpus [] [] are = refl
later_cpus [] (t ∷ ts) are = absurd are
later_cpus (f ∷ fs) [] are = absurd are
later_cpus (f ∷ fs) (t ∷ ts) are =
    ap (λ (n : ℕ). n ∷ map (λ (task : Task). task.cpu) ts) are.0.cpu ∙ ap (λ (l : List ℕ). f.cpu ∷ l) (later_cpus fs ts are.1)

pub from_all : (firsts jobs : List Task) → AreFrom firsts jobs → ComeFrom firsts jobs
from_all [] [] from = tt
from_all [] (t ∷ ts) from = absurd (omega (arith, from.count))
from_all (f ∷ fs) [] from = absurd (omega (arith, from.count))
from_all (f ∷ fs) (t ∷ ts) from = (
  from.each 0 f t refl refl,
  from_all fs ts (record { count = omega (arith, from.count); each = λ j one task at there. from.each (suc j) one task at there }),
)
