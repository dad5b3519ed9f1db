-- What is printed of machines that list no keys, and which of them have ended.
use Rattle.std.proofs.Common.{◌≡◌, ◌∙◌, ℕ, zero, suc, ◌+◌, ◌<◌, ◌≤◌, Bool, List, [], Option, Some, None, inl, inr, length, refl, sym, ap}
use Rattle.std.proofs.Common.{subst, append-nil, arith}
use Rattle.std.specs.Prelude.{slice_get, slice_index_or}
use Rattle.std.proofs.lemmas.Option.{slice_get_within, slice_get_read, get_or_from_slice_get}
use Rattle.std.proofs.lemmas.Bool.{cases_lt}
use Rattle.bpf_shared.specs.Store.{Plain}
use Rattle.bpf_shared.specs.Sound.{IsSoundStore}
use Rattle.bpf_names.specs.Names.{Names}
use Rattle.bpf_plain.specs.PlainStore.{StandsFor}
use Rattle.bpf_cpu.specs.declared.outcome.Outcome.{Outcome}
use Rattle.bpf_cpu.specs.declared.outcome.Outcome.TheVariants.{OutOfBudget}
use Rattle.bpf_cpu.specs.Task.{Task, Ended}
use Rattle.bpf_machine.specs.Listings.{Listing, listing_at, made_keys}
use Rattle.bpf_machine.specs.Machine.{MachineState, Shows}
use Rattle.bpf_machine.specs.Parts.{chosen, chosen_at, no_task}
use Rattle.bpf_machine.proofs.PartLaws.{chosen_is, chosen_count}
use Rattle.bpf_machine.specs.Patient.{NoneRanOut}
use Rattle.bpf_machine.specs.Rounds.{HaveEnded}
use Rattle.bpf_machine.specs.Schedule.{World, unrolled}
use Rattle.bpf_explore.specs.Album.{LeadsFrom, HaveEndedAt, AreLed, AreLedFreely}
use Rattle.bpf_explore.specs.Patient.{EndsPatiently}
use Rattle.bpf_explore.specs.Private.Answers.{AllEnd}
use Rattle.bpf_explore.specs.Private.Patience.{AllEndPatiently, LeadsInBudget}
use Rattle.bpf_explore.proofs.StopLaws.{same_stop, runs_length}
use Rattle.bpf_explore.proofs.WayLaws.{freely_length}
use Rattle.bpf_jobs.specs.Printed.{list_lines, lines_of_lists, Tells, TellsWith}
use Rattle.bpf_explore.specs.Laws.{IsAnswered}
use Rattle.bpf_explore.specs.Outcomes.{Found, EndsBy}
use Rattle.bpf_explore.specs.Private.Answers.{IsFirst, IsAnsweredAt}

-- ---- lists of keys
no_lines : (names : List (List ℕ)) (n : ℕ) → list_lines (λ c. []) names n ≡ []
no_lines names zero = refl
no_lines names (suc n) = append-nil (list_lines (λ c. []) names n) ∙ no_lines names n

lines_none : (z : World) (names : List (List ℕ)) → z.lists ≡ listing_at None → lines_of_lists z names ≡ []
lines_none z names none = ap (λ (f : ℕ → Listing). list_lines (λ c. made_keys (f c)) names z.store.shape.cpus) none ∙ no_lines names z.store.shape.cpus

pub tells_none : (m : MachineState) (z : World) (names : Names) (maps : Bool) (text : List ℕ) (stopped : Bool) → m.lists ≡ None → Shows m z
    → TellsWith (lines_of_lists z names.maps) z.store z.jobs names maps text stopped → Tells z.store z.jobs names maps text stopped
tells_none m z names maps text stopped none shows told =
    let lists : z.lists ≡ listing_at None = shows.lists ∙ ap (λ (o : Option (List Listing)). listing_at o) none in
    subst (λ (lines : List ℕ). TellsWith lines z.store z.jobs names maps text stopped) (lines_none z names.maps lists) told

-- of each store that a machine's stands for the same is printed
pub told_of : (m : MachineState) (names : Names) (maps : Bool) (text : List ℕ) (stopped : Bool) → m.lists ≡ None
    → ((w : World) → Shows m w → TellsWith (lines_of_lists w names.maps) w.store w.jobs names maps text stopped)
    → (s : Plain) → IsSoundStore s → StandsFor m.store s → Tells s m.jobs names maps text stopped
told_of m names maps text stopped none told s sound stands =
    let w : World = record { store = s; programs = m.programs; jobs = m.jobs; lists = listing_at m.lists } in
    let shows : Shows m w = record { store = stands; sound = sound; programs = refl; jobs = refl; lists = refl } in
    tells_none m w names maps text stopped none shows (told w shows)

-- an answer with this text
pub answered_by : (kept : List MachineState) (m : MachineState) (names : Names) (maps : Bool) (answers : List Found) (place i : ℕ)
    (found : Found) (text : List ℕ) (stopped : Bool)
    → slice_get kept place ≡ Some m → m.lists ≡ None → ((w : World) → Shows m w → TellsWith (lines_of_lists w names.maps) w.store w.jobs
    names maps text stopped)
    → slice_get answers i ≡ Some found → found.text ≡ text → found.stopped ≡ stopped → IsAnsweredAt kept names maps answers place
answered_by kept m names maps answers place i found text stopped at none told there same halts other here ended =
    let two : Some m ≡ Some other = sym at ∙ here in
    let one : m ≡ other = cc in
    let tells : (s : Plain) → IsSoundStore s → StandsFor m.store s → Tells s m.jobs names maps found.text found.stopped = λ s sound stands. (
    subst (λ (t : List ℕ). Tells s m.jobs names maps t found.stopped) (sym same)
    (subst (λ (b : Bool). Tells s m.jobs names maps text b) (sym halts) (told_of m names maps text stopped none told s sound stands))) in
    subst (IsAnswered names maps answers) one (i, found, there, tells)

-- or that has work
pub has_work : (kept : List MachineState) (names : Names) (maps : Bool) (answers : List Found) (place : ℕ) → (HaveEndedAt kept place → ⊥) →
    IsAnsweredAt kept names maps answers place
has_work kept names maps answers place works m at ended = absurd (works (λ other here. (
    let two : Some m ≡ Some other = sym at ∙ here in
    let one : m ≡ other = cc in
    subst (λ (n : MachineState). HaveEnded n.jobs) one ended)))

-- ---- what is printed of a kept machine without work
module _ (kept : List MachineState) (m : MachineState) (names : Names) (maps : Bool) (place : ℕ) (text : List ℕ) (stopped : Bool)
    (at : slice_get kept place ≡ Some m) (none : m.lists ≡ None) (ended : HaveEndedAt kept place)
    (told : (w : World) → Shows m w → TellsWith (lines_of_lists w names.maps) w.store w.jobs names maps text stopped) where
  shown_is : (z : World) (other : MachineState) → slice_get kept place ≡ Some other → Shows other z → Shows m z
  shown_is z other there shows =
      let two : Some other ≡ Some m = sym there ∙ at in
      let one : other ≡ m = cc in
      subst (λ (n : MachineState). Shows n z) one shows

  ended_in : (z : World) → Shows m z → HaveEnded z.jobs
  ended_in z shows = subst HaveEnded (sym shows.jobs) (ended m at)

  tells_in : (z : World) → Shows m z → Tells z.store z.jobs names maps text stopped
  tells_in z shows = tells_none m z names maps text stopped none shows (told z shows)

  -- a schedule that leads there ends by it
  pub ends_by : (by : List (ℕ × ℕ)) → LeadsFrom kept 0 (unrolled by) place → (w : World) → IsFirst kept w → EndsBy w names maps
      (record { text = text; stopped = stopped; by = by })
  ends_by by leads w first =
      let r = leads w first in
      let shows = shown_is r.0 r.2.0 r.2.1 r.2.2 in
      (r.0, r.1, ended_in r.0 shows, tells_in r.0 shows)

  -- an answer of the same text has the same stops
  pub stopped_same : (answers : List Found) (i : ℕ) (found : Found) → AreLed kept → place < length kept → ((w : World) × IsFirst kept w) →
      ((w : World) → IsFirst kept w → AllEnd w names maps answers) → slice_get answers i ≡ Some found → found.text ≡ text → found.stopped ≡ stopped
  stopped_same answers i found led inside (w, first) all there same =
      let other = all w first i found there in
      let way = led place inside in
      let r = way.1 w first in
      let shows = shown_is r.0 r.2.0 r.2.1 r.2.2 in
      let z = other.0 in
      let count : length z.jobs ≡ length r.0.jobs = runs_length (unrolled found.by) w z other.1 ∙ sym (runs_length way.0 w r.0 r.1) in
      let tells : Tells z.store z.jobs names maps text found.stopped = subst (λ (t : List ℕ). Tells z.store z.jobs names maps t found.stopped) same other.3 in
      same_stop z.store r.0.store z.jobs r.0.jobs names maps text found.stopped stopped count other.2 (ended_in r.0 shows) tells (tells_in r.0 shows)

  -- the same where no budget is used up
  pub ends_in_budget : (by : List (ℕ × ℕ)) → LeadsInBudget kept by place → (w : World) → IsFirst kept w → EndsPatiently w names maps
      (record { text = text; stopped = stopped; by = by })
  ends_in_budget by leads w first =
      let r = leads w first in
      let shows = shown_is r.0 r.3.0 r.3.1 r.3.2 in
      (r.0, r.1, ended_in r.0 shows, r.2, tells_in r.0 shows)

  pub stopped_same_in_budget : (answers : List Found) (i : ℕ) (found : Found) (w : World) → AreLedFreely kept → place < length kept →
      IsFirst kept w → AllEndPatiently w names maps answers → slice_get answers i ≡ Some found → found.text ≡ text → found.stopped ≡ stopped
  stopped_same_in_budget answers i found w led inside first all there same =
      let other = all i found there in
      let way = led place inside in
      let r = way.1 w first in
      let shows = shown_is r.0 r.2.0 r.2.1 r.2.2 in
      let z = other.0 in
      let count : length z.jobs ≡ length r.0.jobs = runs_length (unrolled found.by) w z other.1 ∙ sym (freely_length way.0 w r.0 r.1) in
      let tells : Tells z.store z.jobs names maps text found.stopped = subst (λ (t : List ℕ). Tells z.store z.jobs names maps t found.stopped) same other.4 in
      same_stop z.store r.0.store z.jobs r.0.jobs names maps text found.stopped stopped count other.2 (ended_in r.0 shows) tells (tells_in r.0 shows)

-- ---- jobs that have ended
pub this_part : (parts : List Task) (numbers : List ℕ) (n : ℕ) (part : Task) → n < length numbers → slice_index_or numbers n 0 < length
    parts → part ≡ slice_index_or parts (slice_index_or numbers n 0) part → (task : Task) → slice_get (chosen parts numbers) n ≡ Some task →
    part ≡ task
this_part parts numbers n part inside within read task at =
    let two : Some (chosen_at parts numbers n) ≡ Some task = sym (chosen_is parts numbers n inside) ∙ at in
    let one : chosen_at parts numbers n ≡ task = cc in
    let here : slice_index_or parts (slice_index_or numbers n 0) no_task ≡ part = get_or_from_slice_get parts (slice_index_or numbers n 0)
    part no_task (slice_get_read parts (length parts) (slice_index_or numbers n 0) part refl within read) in
    sym here ∙ one

abbrev pub HaveEndedBelow : List Task → ℕ → Type 0
HaveEndedBelow jobs n = (j : ℕ) (task : Task) → j < n → slice_get jobs j ≡ Some task → (outcome : Outcome) × (task.stage ≡ Ended outcome)

pub next_ended : (parts : List Task) (numbers : List ℕ) (n : ℕ) (part : Task) → n < length numbers → slice_index_or numbers n 0 < length
    parts → part ≡ slice_index_or parts (slice_index_or numbers n 0) part → HaveEndedBelow (chosen parts numbers) n →
    ((outcome : Outcome) × (part.stage ≡ Ended outcome)) → HaveEndedBelow (chosen parts numbers) (n + 1)
next_ended parts numbers n part inside within read far end j task less at = elim (cases_lt j n) [
  | inl below ↦ far j task below at
  | inr past ↦
      let same : j ≡ n = omega arith in
      let here : part ≡ task = this_part parts numbers n part inside within read task (ap (slice_get (chosen parts numbers)) (sym same) ∙ at) in
      subst (λ (t : Task). (outcome : Outcome) × (t.stage ≡ Ended outcome)) here end
]

pub goes_on : (parts : List Task) (numbers : List ℕ) (n : ℕ) (part : Task) → n < length numbers → slice_index_or numbers n 0 < length parts
    → part ≡ slice_index_or parts (slice_index_or numbers n 0) part → ((outcome : Outcome) → part.stage ≡ Ended outcome → ⊥) → HaveEnded
    (chosen parts numbers) → ⊥
goes_on parts numbers n part inside within read going all =
    let at = chosen_is parts numbers n inside in
    let end = all n (chosen_at parts numbers n) at in
    going end.0 (ap (λ (t : Task). t.stage) (this_part parts numbers n part inside within read (chosen_at parts numbers n) at) ∙ end.1)

pub ran_out : (parts : List Task) (numbers : List ℕ) (n : ℕ) (part : Task) → n < length numbers → slice_index_or numbers n 0 < length parts
    → part ≡ slice_index_or parts (slice_index_or numbers n 0) part → ((pc : ℕ) × (part.stage ≡ Ended (OutOfBudget pc))) → NoneRanOut
    (chosen parts numbers) → ⊥
ran_out parts numbers n part inside within read out none =
    let at = chosen_is parts numbers n inside in
    none n (chosen_at parts numbers n) out.0 at (ap (λ (t : Task). t.stage)
    (sym (this_part parts numbers n part inside within read (chosen_at parts numbers n) at)) ∙ out.1)

pub all_ended : (parts : List Task) (numbers : List ℕ) (n : ℕ) → length numbers ≤ n → HaveEndedBelow (chosen parts numbers) n → HaveEnded (chosen parts numbers)
all_ended parts numbers n past far j task at =
    let inside = slice_get_within (chosen parts numbers) j task at in
    let count = chosen_count parts numbers in
    far j task (omega arith) at
