-- What is printed of kept machines without work, and the schedules that lead there.
use Rattle.std.proofs.Common.{◌≡◌, ◌∙◌, ℕ, suc, true, false, refl, ◌+◌, ◌<◌, ◌≤◌, Bool, List, [], ◌∷◌, ◌++◌, Option, Some, None, inl, inr}
use Rattle.std.proofs.Common.{length, map, sym, ap, subst, arith}
use Rattle.std.specs.Prelude.{insert, slice_get}
use Rattle.std.proofs.lemmas.Bool.{cases_lt}
use Rattle.std.proofs.lemmas.List.{length-set}
use Rattle.std.proofs.lemmas.Option.{slice_get_within}
use Rattle.bpf_names.specs.Names.{Names}
use Rattle.bpf_shared.specs.Store.{Plain}
use Rattle.bpf_cpu.specs.declared.cpu.Cpu.{Cpu}
use Rattle.bpf_cpu.specs.declared.outcome.Outcome.{Outcome}
use Rattle.bpf_cpu.specs.State.{start}
use Rattle.bpf_cpu.specs.Task.{Task, InHand, Ended}
use Rattle.bpf_machine.specs.declared.machine.Turn.{Turn}
use Rattle.bpf_machine.specs.Patient.{AsRich}
use Rattle.bpf_machine.specs.Rounds.{HaveEnded}
use Rattle.bpf_machine.specs.Schedule.{World, unrolled}
use Rattle.bpf_machine.proofs.ListLaws.{lists_jobs}
use Rattle.bpf_x86.specs.Laws.{Counts}
use Rattle.bpf_x86.specs.Machine.{X86, Move, TurnOf, FlushOf, Moves, RunsMoves, GoesOn, Settled, with_buffered, drained}
use Rattle.bpf_buffering.specs.Search.{BufferedState, ShowsX86, IsShownX86, NothingWaitsAtLast, move_of}
use Rattle.bpf_buffering.specs.Ahead.{IsClosedX86, AheadSetsCoverX86}
use Rattle.bpf_buffering.specs.Album.{IsShownAt, HaveEndedAt}
use Rattle.bpf_buffering.specs.Alike.{with_x86_jobs}
use Rattle.bpf_patience.specs.Patience.{IsClosedRichlyX86, PatientSetsCoverX86, RunsFreelyX86}
use Rattle.bpf_jobs.specs.Printed.{Tells, job_lines}
use Rattle.bpf_jobs.proofs.OneListing.{one_asked}
use Rattle.bpf_explore.specs.Outcomes.{Found}
use Rattle.bpf_explore.specs.Private.Answers.{AreSorted, KeepsAll}
use Rattle.bpf_explore.proofs.AnswerLaws.{Before, Here, Behind, origin}
use Rattle.bpf_explore.proofs.StopLaws.{same_stop}
use Rattle.bpf_reorderings.specs.Outcomes.{HaveAllX86}
use Rattle.bpf_reorderings.specs.Patient.{HaveAllPatientX86}
use Rattle.bpf_reorderings.specs.Private.Trail.{Runs}
use Rattle.bpf_reorderings.specs.Private.Searching.{AreLed, BeginsAt}
use Rattle.bpf_reorderings.specs.Private.Answers.{AllEnd, CanRunOut, Ends, Gathered, IsAnsweredAt, IsPrinted, LeadsInBudget}
use Rattle.bpf_reorderings.specs.declared.answers.Told.{Told}

-- ---- moves keep the number of jobs
goes_length : (x : X86) (c j : ℕ) (task : Task) (old : Cpu) (left : ℕ) (answer : Turn) (z : X86) → GoesOn x c j task old left answer z →
    length z.world.jobs ≡ length x.world.jobs
goes_length x c j task old left answer z (program, end, b, new, rest, loaded, advances, settles) = settled end settles
  where
    settled : (end : Option Outcome) → Settled (with_buffered x b) c j task new rest end answer z → length z.world.jobs ≡ length x.world.jobs
    settled None s = ap (λ (v : World). length v.jobs) s.0.1 ∙ length-set x.world.jobs j (record task { stage = InHand new rest })
    settled (Some outcome) s = ap (λ (ts : List Task). length ts) (lists_jobs _ c z.world s.2.3) ∙ length-set x.world.jobs j
        (record task { stage = Ended outcome })

move_length : (x : X86) (move : Move) (z : X86) → Moves x move z → length z.world.jobs ≡ length x.world.jobs
move_length x (TurnOf c) z (answer, inl (j, task, state, left, at, goes)) = goes_length x c j task state left answer z goes
move_length x (TurnOf c) z (answer, inr (inl (free, (j, task, input, b, at, none, begins, goes)))) = goes_length (with_buffered x b) c j
    task (start c input) task.budget answer z goes
move_length x (TurnOf c) z (answer, inr (inr (free, none, is, same))) = ap (λ (y : X86). length y.world.jobs) same
move_length x (FlushOf c) z (b, flushes, same) = ap (λ (y : X86). length y.world.jobs) same

moves_length : (moves : List Move) (x z : X86) → RunsMoves x moves z → length z.world.jobs ≡ length x.world.jobs
moves_length [] x z runs = ap (λ (y : X86). length y.world.jobs) runs
moves_length (move ∷ moves) x z (y, makes, rest) = moves_length moves y z rest ∙ move_length x move y makes

rich_length : (xs ys : List Task) → AsRich xs ys → length ys ≡ length xs
rich_length [] [] rich = refl
rich_length [] (y ∷ ys) rich = absurd rich
rich_length (x ∷ xs) [] rich = absurd rich
rich_length (x ∷ xs) (y ∷ ys) (here, rest) = ap suc (rich_length xs ys rest)

free_length : (moves : List Move) (x z : X86) → RunsFreelyX86 x moves z → length z.world.jobs ≡ length x.world.jobs
free_length [] x z (jobs, rich, same) = ap (λ (y : X86). length y.world.jobs) same ∙ rich_length x.world.jobs jobs rich
free_length (move ∷ moves) x z (jobs, y, rich, makes, rest) =
    free_length moves y z rest ∙ (move_length (with_x86_jobs x jobs) move y makes ∙ rich_length x.world.jobs jobs rich)

runs_length : (patient : Bool) (moves : List Move) (x z : X86) → Runs patient x moves z → length z.world.jobs ≡ length x.world.jobs
runs_length false moves x z runs = moves_length moves x z runs
runs_length true moves x z runs = free_length moves x z runs

-- ---- outcomes by their own schedules
abbrev EndsSomehow : World → Names → Bool → Found → Type 0
EndsSomehow w names maps found = (z : World) × RunsMoves (drained w) (map move_of (unrolled found.by)) (drained z) × HaveEnded z.jobs
    × Tells z.store z.jobs names maps found.text found.stopped

ends_somehow : (patient : Bool) (w : World) (names : Names) (maps : Bool) (found : Found) → Ends patient w names maps found → EndsSomehow w names maps found
ends_somehow false w names maps found ends = ends
ends_somehow true w names maps found (z, runs, ended, none, tells) = (z, runs, ended, tells)

ends_with : (patient : Bool) (w : World) (names : Names) (maps : Bool) (found : Found) (e : EndsSomehow w names maps found) → Counts patient e.0.jobs
    → Ends patient w names maps found
ends_with false w names maps found e counts = e
ends_with true w names maps found e counts = (e.0, e.1, e.2, counts, e.3)

-- ---- answers
pub all_end_still : (xs : List Found) (i : ℕ) (found : Found) → i ≤ length xs → (patient : Bool) (w : World) (names : Names) (maps : Bool) →
    Ends patient w names maps found → AllEnd patient w names maps xs → AllEnd patient w names maps (insert xs i found)
all_end_still xs i found within patient w names maps one all k y at = elim (origin xs i found within k y at) [
  | Before less there ↦ all k y there
  | Here e same ↦ subst (Ends patient w names maps) same one
  | Behind j e above there ↦ all j y there
]

answered_still : (kept : List BufferedState) (names : Names) (maps : Bool) (old new : List Found) (i : ℕ) → KeepsAll old new → IsAnsweredAt
    kept names maps old i → IsAnsweredAt kept names maps new i
answered_still kept names maps old new i keeps told m at ended =
    let a = told m at ended in
    let there = keeps a.0 a.1 a.2 in
    (there.0, a.1, there.1, a.3)

module _ (patient : Bool) (kept : List BufferedState) (names : Names) (maps : Bool) where
  pub none_gathered : (told : Told) → told.answers.items ≡ [] → told.whole ≡ true → Gathered patient kept names maps 0 told
  none_gathered told empty whole = record {
    sorted = subst AreSorted (sym empty) (λ i j found later less at there. cc);
    ends = λ w first. subst (AllEnd patient w names maps) (sym empty) (λ i found at. cc);
    answered = λ is i less. absurd (omega arith);
    out = λ is. let no : true ≡ false = sym whole ∙ is in cc;
  }

  -- one more is an answer
  pub more_gathered : (place : ℕ) (old new : Told) → Gathered patient kept names maps place old → new.whole ≡ old.whole → AreSorted
      new.answers.items → KeepsAll old.answers.items new.answers.items
      → ((w : World) → BeginsAt kept w → AllEnd patient w names maps new.answers.items) → IsAnsweredAt kept names maps new.answers.items place
      → Gathered patient kept names maps (place + 1) new
  more_gathered place old new far same sorted keeps ends here = record {
    sorted = sorted;
    ends = ends;
    answered = λ is i less. elim (cases_lt i place) [
      | inl below ↦ answered_still kept names maps old.answers.items new.answers.items i keeps (far.answered (sym same ∙ is) i below)
      | inr past ↦ let e : place ≡ i = omega arith in subst (λ (k : ℕ). IsAnsweredAt kept names maps new.answers.items k) e here
    ];
    out = λ is. far.out (sym same ∙ is);
  }

  -- the schedule of one uses a budget up
  pub less_gathered : (place : ℕ) (old new : Told) → Gathered patient kept names maps place old → new.answers.items ≡ old.answers.items →
      new.whole ≡ false → patient ≡ true → CanRunOut kept → Gathered patient kept names maps (place + 1) new
  less_gathered place old new far same not is_patient runs_out = record {
    sorted = subst AreSorted (sym same) far.sorted;
    ends = λ w first. subst (AllEnd patient w names maps) (sym same) (far.ends w first);
    answered = λ is i less. let no : false ≡ true = sym not ∙ is in cc;
    out = λ is. (is_patient, runs_out);
  }

  pub all_gathered : (place : ℕ) (told : Told) → length kept ≤ place → Gathered patient kept names maps place told → Gathered patient kept names
      maps (length kept) told
  all_gathered place told past far = record {
    sorted = far.sorted;
    ends = far.ends;
    answered = λ is i less. far.answered is i (omega arith);
    out = far.out;
  }

  pub all_answered : (told : Told) → Gathered patient kept names maps (length kept) told → told.whole ≡ true → (i : ℕ) → IsAnsweredAt kept names
      maps told.answers.items i
  all_answered told far is i m at ended = far.answered is i (slice_get_within kept i m at) m at ended

one_machine : (kept : List BufferedState) (i : ℕ) (m n : BufferedState) → slice_get kept i ≡ Some m → slice_get kept i ≡ Some n → m ≡ n
one_machine kept i m n at there = let two : Some m ≡ Some n = sym at ∙ there in cc

-- the machine has work
pub has_work : (kept : List BufferedState) (names : Names) (maps : Bool) (answers : List Found) (place : ℕ) → (HaveEndedAt kept place → ⊥) →
    IsAnsweredAt kept names maps answers place
has_work kept names maps answers place works m at ended = absurd
    (works (λ other here. subst (λ (n : BufferedState). HaveEnded n.machine.jobs) (one_machine kept place m other at here) ended))

-- ---- what is printed of a kept machine without work
module _ (kept : List BufferedState) (m : BufferedState) (names : Names) (maps : Bool) (place : ℕ) (text : List ℕ) (stopped : Bool)
    (at : slice_get kept place ≡ Some m) (ended : HaveEndedAt kept place) (told : IsPrinted m names maps text stopped) where
  -- an answer with this text
  pub answered_by : (answers : List Found) (i : ℕ) (found : Found) → slice_get answers i ≡ Some found → found.text ≡ text → found.stopped ≡
      stopped → IsAnsweredAt kept names maps answers place
  answered_by answers i found there same halts other here over =
      let printed : IsPrinted m names maps found.text found.stopped = subst (λ (t : List ℕ). IsPrinted m names maps t found.stopped)
      (sym same) (subst (λ (b : Bool). IsPrinted m names maps text b) (sym halts) told) in
      (i, found, there, subst (λ (n : BufferedState). IsPrinted n names maps found.text found.stopped) (one_machine kept place m other at here) printed)

  shown_is : (x : X86) → IsShownAt kept place x → ShowsX86 m x
  shown_is x (other, there, shows) = subst (λ (n : BufferedState). ShowsX86 n x) (one_machine kept place other m there at) shows

  ended_in : (x : X86) → ShowsX86 m x → HaveEnded x.world.jobs
  ended_in x shows = subst HaveEnded (sym shows.world.jobs) (ended m at)

  -- a schedule that leads there ends by it
  pub ends_by : NothingWaitsAtLast → (patient : Bool) (by : List (ℕ × ℕ)) → LeadsInBudget patient kept by place → (w : World) → BeginsAt kept w →
      Ends patient w names maps (record { text = text; stopped = stopped; by = by })
  ends_by law patient by leads w begins =
      let moves = map move_of (unrolled by) in
      let r = leads w begins in
      let shows = shown_is r.0 r.3 in
      let over = ended_in r.0 shows in
      let calm : r.0 ≡ drained r.0.world = law w moves r.0 r.1 over in
      let found : Found = record { text = text; stopped = stopped; by = by } in
      let ends : EndsSomehow w names maps found = (r.0.world, subst (RunsMoves (drained w) moves) calm r.1, over, told r.0 shows) in
      ends_with patient w names maps found ends r.2

  -- an answer of the same text has the same stops
  pub stopped_same : (patient : Bool) (answers : List Found) (i : ℕ) (found : Found) → AreLed patient kept → place < length kept →
      ((w : World) × BeginsAt kept w) → ((w : World) → BeginsAt kept w → AllEnd patient w names maps answers)
      → slice_get answers i ≡ Some found → found.text ≡ text → found.stopped ≡ stopped
  stopped_same patient answers i found led inside (w, begins) all there same =
      let other = ends_somehow patient w names maps found (all w begins i found there) in
      let way = led place inside in
      let r = way.1 (drained w) begins.1 in
      let shows = shown_is r.0 r.2 in
      let z = other.0 in
      let count : length z.jobs ≡ length r.0.world.jobs = moves_length (map move_of (unrolled found.by)) (drained w) (drained z) other.1 ∙
      sym (runs_length patient (map move_of way.0) (drained w) r.0 r.1) in
      let tells : Tells z.store z.jobs names maps text found.stopped = subst (λ (t : List ℕ). Tells z.store z.jobs names maps t found.stopped) same other.3 in
      same_stop z.store r.0.world.store z.jobs r.0.world.jobs names maps text found.stopped stopped count other.2 (ended_in r.0 shows) tells (told r.0 shows)

-- ---- no outcome is left out
-- of a machine one text is printed
one_told : (s : Plain) (jobs : List Task) (names : Names) (maps : Bool) (text other : List ℕ) (stopped halted : Bool) → Tells s jobs names
    maps text stopped → Tells s jobs names maps other halted → (text ≡ other) × (stopped ≡ halted)
one_told s jobs names maps text other stopped halted a b =
    let lines = one_asked maps s names a.0 b.0 a.1 b.1 in
    (a.2 ∙ ap (λ (x : List ℕ). job_lines (length jobs) jobs ++ ([] ++ x)) lines ∙ sym b.2, a.3 ∙ sym b.3)

pub have_all : AheadSetsCoverX86 → (kept : List BufferedState) (w : World) (names : Names) (maps : Bool) (answers : List Found) →
    IsClosedX86 kept → BeginsAt kept w → ((i : ℕ) → IsAnsweredAt kept names maps answers i) → HaveAllX86 w names maps answers
have_all law kept w names maps answers closed (fresh, (m, at, shows)) answered text stopped (moves, (z, runs, ended, tells)) =
    let first : IsShownX86 kept (drained w) = (0, m, at, shows) in
    let r = law kept w moves z closed fresh first runs ended in
    let a = answered r.0 r.1 r.2 (subst HaveEnded r.3.world.jobs ended) in
    let one = one_told z.world.store z.world.jobs names maps a.1.text text a.1.stopped stopped (a.3 z r.3) tells in
    (a.0, a.1, a.2, one.0, one.1)

pub have_all_patient : PatientSetsCoverX86 → (kept : List BufferedState) (w : World) (names : Names) (maps : Bool) (answers : List Found) →
    IsClosedRichlyX86 kept → BeginsAt kept w → ((i : ℕ) → IsAnsweredAt kept names maps answers i) → HaveAllPatientX86 w names maps answers
have_all_patient law kept w names maps answers closed (fresh, (m, at, shows)) answered text stopped (moves, z, runs, ended, none, tells) =
    let first : IsShownX86 kept (drained w) = (0, m, at, shows) in
    let r = law kept w moves z closed fresh first runs ended none in
    let a = answered r.0 r.1 r.2 (subst HaveEnded r.3.world.jobs ended) in
    let one = one_told z.world.store z.world.jobs names maps a.1.text text a.1.stopped stopped (a.3 z r.3) tells in
    (a.0, a.1, a.2, one.0, one.1)
