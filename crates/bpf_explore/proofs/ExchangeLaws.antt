-- Jobs that have ended, where two of them change places.
use Rattle.std.proofs.Common.{◌≡◌, ◌∙◌, ℕ, zero, suc, ◌+◌, ◌<◌, ◌≤◌, true, List, [], ◌∷◌, ◌++◌, Some, None, inl, inr, length}
use Rattle.std.proofs.Common.{refl, sym, ap, subst, length-append, arith}
use Rattle.std.specs.Prelude.{All, slice_get, slice_index_or}
use Rattle.std.proofs.Math.ListN.{get_or, get_or-append}
use Rattle.std.proofs.Math.Seq.{get_or-append_seam}
use Rattle.std.proofs.lemmas.List.Elements.{All-from_get_or}
use Rattle.std.proofs.lemmas.Bool.{cases_lt}
use Rattle.std.proofs.lemmas.Option.{slice_get_within, slice_get-get_or, get_or_from_slice_get}
use Rattle.bpf_base.proofs.Lists.{slice_get-front, slice_get-append}
use Rattle.bpf_loader.specs.Loaded.{Loaded}
use Rattle.bpf_plain.specs.PlainStore.{Contents, has_cpu}
use Rattle.bpf_shared.specs.Shape.{Shape}
use Rattle.bpf_shared.proofs.Puts.{equal_or_not}
use Rattle.bpf_cpu.specs.declared.cpu.Cpu.{Cpu}
use Rattle.bpf_cpu.specs.declared.input.Input.{Input}
use Rattle.bpf_cpu.specs.declared.outcome.Outcome.{Outcome}
use Rattle.bpf_cpu.specs.Task.{Task, Waiting, InHand, Ended}
use Rattle.bpf_machine.specs.Hands.{IsAt, IsFree}
use Rattle.bpf_machine.specs.Machine.{MachineState}
use Rattle.bpf_machine.specs.Parts.{CanStand, chosen, made_of, no_task}
use Rattle.bpf_machine.specs.Rounds.{HaveEnded}
use Rattle.bpf_machine.proofs.AheadLaws.{equal_lists}
use Rattle.bpf_machine.proofs.PartLaws.{chosen_is, chosen_count}
use Rattle.bpf_equal.specs.Permutations.{exchanged}
use Rattle.bpf_equal.proofs.Exchanging.{first_goes, others_stay, second_goes}
use Rattle.bpf_explore.specs.Album.{HaveEndedAt}
use Rattle.bpf_explore.specs.Stores.{IsOfShape}
use Rattle.bpf_explore.specs.Tuples.{tuple_at}
use Rattle.bpf_explore.specs.Private.Album.{IsShelf, Shelf, machine_at, machines, stocked}
use Rattle.bpf_explore.specs.Private.Peers.{AreExchanged, AreOfKind, CountUp, HasJobs, IsExchanged}
use Rattle.bpf_explore.proofs.AlbumLaws.{IsReadable, kept_is}

-- two places are among n, so what changes places stays among them
pub exchanged_within : (j k n i : ℕ) → j < n → k < n → i < n → exchanged j k i < n
exchanged_within j k n i first second inside = elim (equal_or_not i j) [
  | inl e ↦ subst (λ (x : ℕ). x < n) (sym (first_goes j k i e)) second
  | inr ne ↦ elim (equal_or_not i k) [
    | inl f ↦ subst (λ (x : ℕ). x < n) (sym (second_goes j k i ne f)) first
    | inr apart ↦ subst (λ (x : ℕ). x < n) (sym (others_stay j k i ne apart)) inside
  ]
]

pub exchanged_beyond : (j k n i : ℕ) → j < n → k < n → n ≤ i → exchanged j k i ≡ i
exchanged_beyond j k n i first second past = others_stay j k i (λ e. omega arith) (λ e. omega arith)

-- ---- while jobs are exchanged
pub record ExchangedBelow (j k : ℕ) (old : List Task) (n : ℕ) (new : List Task) : Type 0 where
  pub many : length new ≡ n
  pub each : (i : ℕ) (task other : Task) → i < n → slice_get old i ≡ Some task → slice_get old (exchanged j k i) ≡ Some other
      → slice_get new i ≡ Some (record task { stage = other.stage })

pub none_exchanged : (j k : ℕ) (old : List Task) → ExchangedBelow j k old 0 []
none_exchanged j k old = record { many = refl; each = λ i task other less at there. absurd (omega arith) }

pub next_exchanged : (j k : ℕ) (old : List Task) (n : ℕ) (new more : List Task) (part other made : Task) → ExchangedBelow j k old n new
    → slice_get old n ≡ Some part → slice_get old (exchanged j k n) ≡ Some other → made ≡ record part { stage = other.stage }
    → more ≡ new ++ made ∷ [] → ExchangedBelow j k old (n + 1) more
next_exchanged j k old n new more part other made far here there is all =
    let many = far.many in
    let size = ap (λ (ts : List Task). length ts) all ∙ length-append new (made ∷ []) in
    record {
      many = omega arith;
      each = λ i task as_far less at at_far. ap (λ (ts : List Task). slice_get ts i) all ∙ elim (cases_lt i n) [
        | inl below ↦ slice_get-front new (made ∷ []) i (omega arith) ∙ far.each i task as_far below at at_far
        | inr past ↦
            let e : i ≡ n = omega arith in
            let two : Some part ≡ Some task = sym here ∙ (ap (slice_get old) (sym e) ∙ at) in
            let three : Some other ≡ Some as_far = sym there ∙ (ap (λ (x : ℕ). slice_get old (exchanged j k x)) (sym e) ∙ at_far) in
            let one : part ≡ task = cc in
            let its : other ≡ as_far = cc in
            let last : slice_get (new ++ made ∷ []) i ≡ Some made = slice_get-append new (made ∷ []) 0 i (omega arith) in
            last ∙ ap Some (is ∙ (ap (λ (t : Task). record t { stage = other.stage }) one ∙ ap (λ (t : Task). record task { stage = t.stage }) its))
      ];
    }

pub all_exchanged : (j k : ℕ) (old : List Task) (n : ℕ) (new : List Task) → n ≡ length old → ExchangedBelow j k old n new → AreExchanged j k old new
all_exchanged j k old n new all far = record {
  many = far.many ∙ all;
  each = λ i task other at there. (let inside = slice_get_within old i task at in far.each i task other (omega arith) at there);
}

-- the job of a number
pub part_there : (parts : List Task) (numbers : List ℕ) (k : ℕ) (part : Task) → k < length numbers → slice_index_or numbers k 0 < length parts
    → part ≡ slice_index_or parts (slice_index_or numbers k 0) part → slice_get (chosen parts numbers) k ≡ Some part
part_there parts numbers k part inside within read =
    let n = slice_index_or numbers k 0 in
    chosen_is parts numbers k inside ∙ ap Some (get_or_from_slice_get parts n part no_task (slice_get-get_or parts n part within ∙ ap Some (sym read)))

-- ---- numbers that count up
pub next_counted : (numbers more : List ℕ) (n number : ℕ) → CountUp numbers n → number ≡ n → more ≡ numbers ++ number ∷ [] → CountUp more (n + 1)
next_counted numbers more n number far is all =
    let many = far.count in
    let size = ap (λ (ns : List ℕ). length ns) all ∙ length-append numbers (number ∷ []) in
    record {
      count = omega arith;
      each = λ k less. ap (λ (ns : List ℕ). slice_index_or ns k 0) all ∙ elim (cases_lt k n) [
        | inl below ↦ get_or-append numbers (number ∷ []) 0 k (omega arith) ∙ far.each k below
        | inr past ↦
            let e : k ≡ length numbers = omega arith in
            ap (λ (i : ℕ). slice_index_or (numbers ++ number ∷ []) i 0) e ∙ (get_or-append_seam numbers number [] 0 ∙ omega arith)
      ];
    }

pub none_past : (tasks : List Task) (i : ℕ) → length tasks ≤ i → slice_get tasks i ≡ None
none_past [] i past = refl
none_past (task ∷ tasks) zero past = absurd (omega arith)
none_past (task ∷ tasks) (suc i) past = none_past tasks i (omega arith)

module _ (parts : List Task) (numbers : List ℕ) (up : CountUp numbers (length parts)) where
  counted : (i : ℕ) → slice_get (chosen parts numbers) i ≡ slice_get parts i
  counted i = let count = up.count in let many = chosen_count parts numbers in elim (cases_lt i (length parts)) [
    | inl below ↦
        chosen_is parts numbers i (omega arith)
        ∙ (ap (λ (n : ℕ). Some (slice_index_or parts n no_task)) (up.each i below) ∙ sym (slice_get-get_or parts i no_task below))
    | inr past ↦ none_past (chosen parts numbers) i (omega arith) ∙ sym (none_past parts i past)
  ]

  pub chosen_all : chosen parts numbers ≡ parts
  chosen_all = equal_lists (chosen parts numbers) parts counted

  pub counted_within : All (λ n. n < length parts) numbers
  counted_within = All-from_get_or (λ n. n < length parts) numbers 0 (λ i inside.
      let count = up.count in
      let less : i < length parts = omega arith in
      subst (λ (n : ℕ). n < length parts) (sym (up.each i less)) less)

-- ---- a machine whose jobs have all ended stands with any ends
abbrev pub of_jobs : Contents → List Loaded → List Task → MachineState
of_jobs store programs tasks = record { store = store; programs = programs; jobs = tasks; lists = None }

module _ (store : Contents) (programs : List Loaded) (jobs others : List Task) (j k : ℕ) (ended : HaveEnded jobs) (first : j < length jobs)
    (second : k < length jobs) (are : AreExchanged j k jobs others) where
  -- each job is one that was there, as far as another
  abbrev Before : ℕ → Task → Type 0
  Before i task = (old : Task) × (slice_get jobs i ≡ Some old) × (task.cpu ≡ old.cpu) × (task.program ≡ old.program)
      × ((end : Outcome) × (task.stage ≡ Ended end))

  before : (i : ℕ) (task : Task) → slice_get others i ≡ Some task → Before i task
  before i task at =
      let inside = slice_get_within others i task at in
      let many = are.many in
      let low = exchanged_within j k (length jobs) i first second (omega arith) in
      let old = get_or jobs i no_task in
      let far = get_or jobs (exchanged j k i) no_task in
      let here : slice_get jobs i ≡ Some old = slice_get-get_or jobs i no_task (omega arith) in
      let there : slice_get jobs (exchanged j k i) ≡ Some far = slice_get-get_or jobs (exchanged j k i) no_task low in
      let two : Some (record old { stage = far.stage }) ≡ Some task = sym (are.each i old far here there) ∙ at in
      let made : Task = record old { stage = far.stage } in
      let one : made ≡ task = cc in
      let end = ended (exchanged j k i) far there in (
        old,
        here,
        sym (ap (λ (t : Task). t.cpu) one),
        sym (ap (λ (t : Task). t.program) one),
        (end.0, sym (ap (λ (t : Task). t.stage) one) ∙ end.1),
      )

  none_in_hand : (c i : ℕ) (task : Task) (state : Cpu) (left : ℕ) → IsAt others c i task (InHand state left) → ⊥
  none_in_hand c i task state left at =
      let b = before i task at.listed in
      let end = b.4 in
      let no : InHand state left ≡ Ended end.0 = sym at.at ∙ end.1 in
      cc

  none_waits : (c i : ℕ) (task : Task) (input : Input) → IsAt others c i task (Waiting input) → ⊥
  none_waits c i task input at =
      let b = before i task at.listed in
      let end = b.4 in
      let no : Waiting input ≡ Ended end.0 = sym at.at ∙ end.1 in
      cc

  free_before : (c : ℕ) → IsFree jobs c
  free_before c i task state left at =
      let end = ended i task at.listed in
      let no : InHand state left ≡ Ended end.0 = sym at.at ∙ end.1 in
      cc

  pub stands_exchanged : CanStand (of_jobs store programs jobs) → CanStand (of_jobs store programs others)
  stands_exchanged is = record {
    served = λ i task at. (let b = before i task at in subst (λ (c : ℕ). has_cpu store c ≡ true) (sym b.2) (is.served i b.0 b.1));
    loaded = λ i task at. (let b = before i task at in subst (λ (n : ℕ). n < length programs) (sym b.3) (is.loaded i b.0 b.1));
    short = λ c i task input at. absurd (none_waits c i task input at);
    hand = λ c i task state left at. absurd (none_in_hand c i task state left at);
    one = λ c i n a b. absurd (none_in_hand c i a.0 a.1 a.2 a.3);
    idle = λ c free. is.idle c (free_before c);
    order = λ c i n task later input at less there same. absurd (none_waits c i task input at);
  }

-- ---- into the machine to work with
module _ (h : Shape) (s : Shelf) (m : MachineState) (place : ℕ) (store : Contents) (read : List Task) (tuple : List ℕ) (j k : ℕ)
    (ready : IsReadable h s m place store read tuple) (ended : HaveEnded (chosen read tuple)) (first : j < length tuple) (second : k < length tuple)
    (jobs : List Task) (are : AreExchanged j k (chosen read tuple) jobs) (numbers : List ℕ) (count : ℕ) (all : count ≡ length jobs)
    (up : CountUp numbers count) where
  up_to : CountUp numbers (length jobs)
  up_to = subst (CountUp numbers) all up

  made_is : made_of store m.programs jobs numbers ≡ of_jobs store m.programs jobs
  made_is = ap (of_jobs store m.programs) (chosen_all jobs numbers up_to)

  pub within_exchanged : All (λ n. n < length jobs) numbers
  within_exchanged = counted_within jobs numbers up_to

  pub made_stands : CanStand (made_of store m.programs jobs numbers)
  made_stands =
      let many = chosen_count read tuple in
      subst CanStand (sym made_is)
      (stands_exchanged store m.programs (chosen read tuple) jobs j k ended (omega arith) (omega arith) are ready.stands)

  module _ (new : MachineState) (is : new ≡ made_of store m.programs jobs numbers) where
    new_is : new ≡ of_jobs store m.programs jobs
    new_is = is ∙ made_is

    pub is_exchanged : IsExchanged j k (machine_at s place) new
    is_exchanged =
        let there : IsExchanged j k (made_of store m.programs read tuple) (of_jobs store m.programs jobs) = record
        { store = refl; programs = refl; jobs = are; lists = refl } in
        subst (λ (n : MachineState). IsExchanged j k n new) ready.is
        (subst (IsExchanged j k (made_of store m.programs read tuple)) (sym new_is) there)

    pub programs_still : new.programs ≡ m.programs
    programs_still = ap (λ (n : MachineState). n.programs) is

    pub shape_there : IsOfShape h new.store
    shape_there = subst (λ (n : MachineState). IsOfShape h n.store) (sym is) ready.shaped

    pub width_there : s.states.width ≡ length new.jobs + 1
    width_there =
        let many = are.many in
        let size = ap (λ (n : MachineState). length n.jobs) new_is in
        let width = ready.width in
        omega arith

    pub lists_there : new.lists ≡ None
    lists_there = ap (λ (n : MachineState). n.lists) is

-- what a machine is restored of
pub record IsMade (h : Shape) (s : Shelf) (m : MachineState) (place j k : ℕ) (store : Contents) (jobs : List Task) (numbers : List ℕ) : Type 0 where
  pub within : All (λ n. n < length jobs) numbers
  pub stands : CanStand (made_of store m.programs jobs numbers)
  pub exchanged : (new : MachineState) → new ≡ made_of store m.programs jobs numbers → IsExchanged j k (machine_at s place) new
  pub fits : (new : MachineState) → new ≡ made_of store m.programs jobs numbers
      → (new.programs ≡ m.programs) × IsOfShape h new.store × (s.states.width ≡ length new.jobs + 1) × (new.lists ≡ None)

pub made : (h : Shape) (s : Shelf) (m : MachineState) (place : ℕ) (store : Contents) (read : List Task) (tuple : List ℕ) (j k : ℕ)
    → IsReadable h s m place store read tuple → HaveEnded (chosen read tuple) × (j < length tuple) × (k < length tuple)
    → (jobs : List Task) → AreExchanged j k (chosen read tuple) jobs → (numbers : List ℕ) (count : ℕ) → count ≡ length jobs
    → CountUp numbers count → IsMade h s m place j k store jobs numbers
made h s m place store read tuple j k ready (ended, first, second) jobs are numbers count all up = record {
  within = within_exchanged h s m place store read tuple j k ready ended first second jobs are numbers count all up;
  stands = made_stands h s m place store read tuple j k ready ended first second jobs are numbers count all up;
  exchanged = is_exchanged h s m place store read tuple j k ready ended first second jobs are numbers count all up;
  fits = λ new is. (
    programs_still h s m place store read tuple j k ready ended first second jobs are numbers count all up new is,
    shape_there h s m place store read tuple j k ready ended first second jobs are numbers count all up new is,
    width_there h s m place store read tuple j k ready ended first second jobs are numbers count all up new is,
    lists_there h s m place store read tuple j k ready ended first second jobs are numbers count all up new is,
  );
}

-- the jobs that are read are the kept machine's
pub read_ended : (h : Shape) (s : Shelf) (m : MachineState) (place : ℕ) (store : Contents) (read : List Task) (tuple : List ℕ) (j k : ℕ)
    (kept : List MachineState) → IsReadable h s m place store read tuple → slice_get kept place ≡ Some (machine_at s place) → HaveEndedAt kept place
    → HasJobs kept place j k → HaveEnded (chosen read tuple) × (j < length tuple) × (k < length tuple)
read_ended h s m place store read tuple j k kept ready at ended there =
    let few = there (machine_at s place) at in
    let same : length (machine_at s place).jobs ≡ length (chosen read tuple) = ap (λ (n : MachineState). length n.jobs) (sym ready.is) in
    let many = chosen_count read tuple in
    let first = few.0 in
    let second = few.1 in
    (subst (λ (n : MachineState). HaveEnded n.jobs) (sym ready.is) (ended (machine_at s place) at), omega arith, omega arith)

-- each kept machine is of the kind that is kept
pub each_of_kind : (h : Shape) (s : Shelf) → IsShelf h s → AreOfKind (stocked h s) (machines s s.states.count)
each_of_kind h s is i m at =
    let here = kept_is s i m at in
    let state = is.states i here.0 in
    record {
      stands = subst CanStand (sym here.1) state.stands;
      shape = subst (λ (n : MachineState). IsOfShape h n.store) (sym here.1) (is.shapes (slice_index_or (tuple_at s.states i) 0 0) state.stored);
      programs = sym (ap (λ (n : MachineState). n.programs) here.1);
      lists = ap (λ (n : MachineState). n.lists) here.1;
    }

-- its jobs have ended too
pub ended_exchanged : (m new : MachineState) (j k : ℕ) → HaveEnded m.jobs → j < length m.jobs → k < length m.jobs → IsExchanged j k m new → HaveEnded new.jobs
ended_exchanged m new j k ended first second is i task at = (before m.store m.programs m.jobs new.jobs j k ended first second is.jobs i task at).4
