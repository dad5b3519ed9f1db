-- What is read from bytes, and what they are none of.
use Rattle.std.proofs.Common.{◌≡◌, ◌∙◌, ℕ, suc, ◌<◌, ◌≤◌, List, [], ◌∷◌, ◌++◌, None, length, take, refl, sym, ap, subst, arith}
use Rattle.std.specs.Prelude.{All}
use Rattle.std.proofs.Math.Seq.{take-length}
use Rattle.std.proofs.lemmas.List.{length-take-le}
use Rattle.bpf_shared.specs.Shape.{Shape}
use Rattle.bpf_plain.specs.PlainStore.{Contents, IsSavedAs}
use Rattle.bpf_plain.specs.Alike.{IsSameShape, LookAlike}
use Rattle.bpf_plain.specs.Read.{IsRead, IsSavedFirst, SavesNone}
use Rattle.bpf_plain.proofs.SavedAlike.{saved_alike_look_alike}
use Rattle.bpf_loader.specs.Loaded.{Loaded}
use Rattle.bpf_cpu.specs.Task.{Task}
use Rattle.bpf_machine.specs.Machine.{MachineState}
use Rattle.bpf_machine.specs.Parts.{CanStand, chosen, made_of}
use Rattle.bpf_machine.specs.Saved.{jobs_saved, AreLater, ComeFrom, HoldWhatMayBe}
use Rattle.bpf_machine.proofs.JobLemmas.{jobs_told}
use Rattle.bpf_machine.proofs.ComingFrom.{later_come}
use Rattle.bpf_explore.specs.Stores.{IsOfShape}
use Rattle.bpf_explore.proofs.StandAlike.{can_stand}
use Rattle.bpf_expand.specs.State.{Host, IsStateOf}
use Rattle.bpf_expand.specs.Private.Home.{CountUp, IsRead as IsReadAs}
use Rattle.bpf_expand.proofs.Lists.{chosen_all, all_within}
use Rattle.bpf_expand.proofs.Fitting.{hold, FitInBytes}

pub later_count : (firsts jobs : List Task) → AreLater firsts jobs → length jobs ≡ length firsts
later_count [] [] are = refl
later_count [] (t ∷ ts) are = absurd are
later_count (f ∷ fs) [] are = absurd are
later_count (f ∷ fs) (t ∷ ts) are = ap suc (later_count fs ts are.1)

pub one_shape : (h : Shape) (p q : Contents) → IsOfShape h p → IsOfShape h q → IsSameShape p q
one_shape h p q a b = (λ c. b.1 c ∙ sym (a.1 c), b.0 ∙ sym a.0)

pub shape_read : (h : Shape) (old new : Contents) (bytes : List ℕ) (n : ℕ) → IsOfShape h old → IsRead old bytes n new → IsOfShape h new
shape_read h old new bytes n of read = (sym read.saved.shape.1 ∙ of.0, λ c. sym (read.saved.shape.0 c) ∙ of.1 c)

-- jobs that were read, and what is after them
module _ (h : Host) (jobs : List Task) (bytes rest : List ℕ) (later : AreLater h.jobs jobs) (read : bytes ≡ jobs_saved jobs ++ rest) where
  told : (m : MachineState) → IsStateOf h m bytes → (jobs ≡ m.jobs) × IsSavedAs m.store rest
  told m is =
      let t = jobs_told h.jobs jobs m.jobs rest is.saved.0 later is.of.jobs (sym read ∙ is.saved.2) in
      (t.0, subst (λ (l : List ℕ). IsSavedAs m.store l) (sym t.1) is.saved.1)

  first_saved : (old : Contents) → IsOfShape h.shape old → (m : MachineState) → IsStateOf h m bytes → IsSavedFirst old rest (length rest) m.store
  first_saved old of m is = record {
    shape = one_shape h.shape m.store old is.of.shape of;
    saved = subst (λ (l : List ℕ). IsSavedAs m.store l) (sym (take-length rest)) (told m is).1;
  }

  -- no store is after them
  pub no_store : (old : Contents) → IsOfShape h.shape old → SavesNone old rest → (m : MachineState) → IsStateOf h m bytes → ⊥
  no_store old of none m is = none (length rest) m.store (first_saved old of m is)

  module _ (old room : Contents) (count : ℕ) (of : IsOfShape h.shape old) (stored : IsRead old rest count room) where
    -- some bytes are left over
    pub no_end : count < length rest → (m : MachineState) → IsStateOf h m bytes → ⊥
    no_end short m is =
        let same = ap (length {A = ℕ}) (stored.ends (length rest) m.store (first_saved old of m is)) in
        let left : length (take (length rest) rest) ≡ length rest = ap (length {A = ℕ}) (take-length rest) in
        let right : length (take count rest) ≡ count = length-take-le count rest (omega arith) in
        absurd (omega (arith, same, left, right, short))

    module _ (numbers : List ℕ) (up : CountUp numbers (length h.jobs)) (whole : length rest ≤ count) where
      all_read : take count rest ≡ rest
      all_read = (let same : count ≡ length rest = omega (arith, stored.inside) in ap (λ (n : ℕ). take n rest) same) ∙ take-length rest

      room_saved : IsSavedAs room rest
      room_saved = subst (λ (l : List ℕ). IsSavedAs room l) all_read stored.saved.saved

      pub jobs_are : chosen jobs numbers ≡ jobs
      jobs_are = chosen_all jobs numbers (subst (λ (n : ℕ). CountUp numbers n) (sym (later_count h.jobs jobs later)) up)

      -- the machine can't be
      pub no_stand : (CanStand (made_of room h.programs jobs numbers) → ⊥) → (m : MachineState) → IsStateOf h m bytes → ⊥
      no_stand none m is =
          let t = told m is in
          let alike : LookAlike m.store room = saved_alike_look_alike m.store room rest
          (one_shape h.shape m.store room is.of.shape (shape_read h.shape old room rest count of stored)) t.1 room_saved in
          let there : CanStand (record { store = room; programs = m.programs; jobs = m.jobs; lists = None }) = can_stand m.store room alike
          m.programs m.jobs m.lists None is.of.stands in
          none (subst (λ (ts : List Task). CanStand (record { store = room; programs = h.programs; jobs = ts; lists = None })) (sym t.0 ∙ sym jobs_are)
          (subst (λ (ps : List Loaded). CanStand (record { store = room; programs = ps; jobs = m.jobs; lists = None })) is.of.programs there))

      -- it is read
      pub is_read : CanStand (made_of room h.programs jobs numbers) → IsReadAs h.programs room h.jobs numbers jobs bytes
      is_read stands = record { later = later; stands = stands; saved = (rest, room_saved, read) }

  pub all_numbered : (numbers : List ℕ) → CountUp numbers (length h.jobs) → All (λ n. n < length jobs) numbers
  all_numbered numbers up = all_within numbers (length jobs) (subst (λ (n : ℕ). CountUp numbers n) (sym (later_count h.jobs jobs later)) up)

-- no jobs are at the beginning
pub no_jobs : (h : Host) (bytes : List ℕ) → ((jobs : List Task) (more : List ℕ) → AreLater h.jobs jobs → HoldWhatMayBe jobs → bytes ≡
    jobs_saved jobs ++ more → ⊥) → (m : MachineState) → IsStateOf h m bytes → ⊥
no_jobs h bytes none m is = none m.jobs is.saved.0 is.of.jobs is.of.held is.saved.2

-- ---- the machine of what was read
module _ (h : Host) (room : Contents) (numbers : List ℕ) (jobs : List Task) (bytes : List ℕ) (up : CountUp numbers (length h.jobs))
    (is : IsReadAs h.programs room h.jobs numbers jobs bytes) where
  they_are : chosen jobs numbers ≡ jobs
  they_are = chosen_all jobs numbers (subst (λ (n : ℕ). CountUp numbers n) (sym (later_count h.jobs jobs is.later)) up)

  -- it is what the bytes are of
  pub is_state : IsOfShape h.shape room → FitInBytes (chosen jobs numbers) → IsStateOf h (made_of room h.programs jobs numbers) bytes
  is_state shape fit = record {
    of = record {
      shape = shape;
      programs = refl;
      jobs = subst (λ (ts : List Task). AreLater h.jobs ts) (sym they_are) is.later;
      held = hold (made_of room h.programs jobs numbers) is.saved.0 is.stands is.saved.1 fit;
      lists = refl;
      stands = is.stands;
    };
    saved = (is.saved.0, is.saved.1, subst (λ (ts : List Task). bytes ≡ jobs_saved ts ++ is.saved.0) (sym they_are) is.saved.2);
  }

  pub come : ComeFrom h.jobs (chosen jobs numbers)
  come = subst (λ (ts : List Task). ComeFrom h.jobs ts) (sym they_are) (later_come h.jobs jobs is.later)

  pub within : All (λ n. n < length jobs) numbers
  within = all_within numbers (length jobs) (subst (λ (n : ℕ). CountUp numbers n) (sym (later_count h.jobs jobs is.later)) up)

-- ---- a machine that was made of what was read
pub made_again : (m : MachineState) (room : Contents) (programs : List Loaded) (jobs : List Task) (numbers : List ℕ) → m ≡ made_of room
    programs jobs numbers → m ≡ made_of room m.programs jobs numbers
made_again m room programs jobs numbers e = e ∙ ap (λ (ps : List Loaded). made_of room ps jobs numbers) (sym (ap (λ (x : MachineState). x.programs) e))

-- it is what the bytes are of
pub placed_state : (h : Host) (m : MachineState) (room : Contents) (numbers : List ℕ) (jobs : List Task) (bytes : List ℕ) → CountUp numbers
    (length h.jobs) → IsReadAs h.programs room h.jobs numbers jobs bytes → IsOfShape h.shape room
    → m ≡ made_of room h.programs jobs numbers → FitInBytes m.jobs → IsStateOf
    (record { shape = h.shape; programs = m.programs; jobs = h.jobs; patient = h.patient }) m bytes
placed_state h m room numbers jobs bytes up is shape made fit =
    subst (λ (x : MachineState). IsStateOf (record { shape = h.shape; programs = x.programs; jobs = h.jobs; patient = h.patient }) x bytes) (sym made)
    (is_state h room numbers jobs bytes up is shape (subst (λ (x : MachineState). FitInBytes x.jobs) made fit))
