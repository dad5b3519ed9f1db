-- Lines that are closed under what they are answered have the report of each end.
use Rattle.std.proofs.Common.{◌≡◌, ◌∙◌, ◌⊎◌, Bool, true, false, ℕ, zero, suc, List, [], ◌∷◌, Some, inl, inr, refl, sym, ap, subst}
use Rattle.std.specs.Prelude.{◌≢◌, All, Ok, slice_get}
use Rattle.std.proofs.lemmas.List.Elements.{All-head, All-tail}
use Rattle.hex.specs.Hex.{decode_of}
use Rattle.bpf_names.specs.Names.{Names}
use Rattle.bpf_plain.specs.Alike.{AlikeStandAlike, SavedAlikeLookAlike}
use Rattle.bpf_cpu.specs.declared.input.Input.{Input}
use Rattle.bpf_cpu.specs.declared.outcome.Outcome.{Outcome}
use Rattle.bpf_cpu.specs.Task.{Stage, Task, Waiting, InHand, Ended}
use Rattle.bpf_machine.specs.Hands.{IsAt}
use Rattle.bpf_machine.specs.Schedule.{World, RunsSchedule}
use Rattle.bpf_machine.specs.Rounds.{HaveEnded}
use Rattle.bpf_machine.specs.Laws.{IsFresh}
use Rattle.bpf_machine.specs.Machine.{MachineState, Shows}
use Rattle.bpf_machine.specs.Cover.{IsShown}
use Rattle.bpf_jobs.specs.Printed.{Tells}
use Rattle.bpf_expand.specs.declared.successor.Successor.{Successor}
use Rattle.bpf_expand.specs.State.{Host, AreSuccessors, HasSuccessor, HasWork, HasWorkIn, IsIdleIn, IsStateOf, IsSuccessor}
use Rattle.bpf_shared.specs.Shape.{Shape}
use Rattle.bpf_loader.specs.Loaded.{Loaded}
use Rattle.bpf_expand.specs.Filter.{IsReportIn, host_of}
use Rattle.bpf_expand.specs.Laws.{AreAnswered, AreClosed, AreOf, HasLine, IsAmong, IsAnswered, IsReported, FitBudgets, LinesCover}
use Rattle.bpf_expand.specs.Laws.{PatientStatesCover, StatesCover}
use Rattle.bpf_expand.proofs.Alike.{same_jobs, shows_too}

-- ---- the states that lines are

-- each line has bytes
abbrev Decoded : List (List ℕ) → Type 0
Decoded lines = (i : ℕ) (line : List ℕ) → slice_get lines i ≡ Some line → (bytes : List ℕ) × (decode_of line ≡ Ok bytes)

states : (lines : List (List ℕ)) → Decoded lines → List (List ℕ)
states [] each = []
states (l ∷ ls) each = (each 0 l refl).0 ∷ states ls (λ i line at. each (suc i) line at)

line_at : (lines : List (List ℕ)) (each : Decoded lines) (i : ℕ) (bytes : List ℕ) → slice_get (states lines each) i ≡ Some bytes
    → (line : List ℕ) × (slice_get lines i ≡ Some line) × (decode_of line ≡ Ok bytes)
unfolding states
line_at [] each i bytes at = cc
line_at (l ∷ ls) each zero bytes at =
    let same : (each 0 l refl).0 ≡ bytes = cc in
    (l, refl, (each 0 l refl).1 ∙ ap (λ (b : List ℕ). Ok b) same)
line_at (l ∷ ls) each (suc i) bytes at = line_at ls (λ i line at. each (suc i) line at) i bytes at

bytes_at : (lines : List (List ℕ)) (each : Decoded lines) (i : ℕ) (line bytes : List ℕ) → slice_get lines i ≡ Some line → decode_of line ≡ Ok bytes
    → slice_get (states lines each) i ≡ Some bytes
unfolding states
bytes_at [] each i line bytes at is = cc
bytes_at (l ∷ ls) each zero line bytes at is =
    let same : l ≡ line = cc in
    let one : (each 0 l refl).0 ≡ bytes = cc (sym ((each 0 l refl).1) ∙ ap decode_of same ∙ is) in
    ap (λ (b : List ℕ). Some b) one
bytes_at (l ∷ ls) each (suc i) line bytes at is = bytes_at ls (λ i line at. each (suc i) line at) i line bytes at is

-- ---- ends have no work

no_work : (m : MachineState) (c : ℕ) → HaveEnded m.jobs → HasWork m c → ⊥
no_work m c ended (j, inl (task, state, left, here)) =
    let end = ended j task here.listed in
    let both : InHand state left ≡ Ended end.0 = sym here.at ∙ end.1 in cc
no_work m c ended (j, inr (free, (task, input, here), none)) =
    let end = ended j task here.listed in
    let both : Waiting input ≡ Ended end.0 = sym here.at ∙ end.1 in cc

module _ (h : Host) (bytes : List ℕ) where
  -- of jobs that have ended, no CPU's turns are printed
  none_found : (m : MachineState) → IsStateOf h m bytes → HaveEnded m.jobs → (found : List Successor) → AreSuccessors h bytes found → found ≢ [] → ⊥
  none_found m is ended [] are some = some refl
  none_found m is ended (s ∷ found) are some =
      let works : HasWorkIn h bytes s.cpu = All-head (λ s. HasWorkIn h bytes s.cpu) s found are.work in
      no_work works.0 s.cpu (subst HaveEnded (same_jobs h m works.0 bytes is works.1) ended) works.2

  -- nothing is found where no CPU has work
  idle_of : (c : ℕ) → (IsIdleIn h bytes c ⊎ HasSuccessor h bytes [] c) → IsIdleIn h bytes c
  idle_of c (inl none) = none
  idle_of c (inr (i, s, there, of, more)) = cc

  here_too : (xs ys : List Task) (j : ℕ) (task : Task) → xs ≡ ys → slice_get ys j ≡ Some task → slice_get xs j ≡ Some task
  here_too xs ys j task same at = subst (λ (ts : List Task). slice_get ts j ≡ Some task) (sym same) at

  -- a job of a CPU without work has ended
  has_ended : (m : MachineState) (j : ℕ) (task : Task) (stage : Stage) → IsStateOf h m bytes → slice_get m.jobs j ≡ Some task → task.stage ≡
      stage → IsIdleIn h bytes task.cpu
      → (outcome : Outcome) × (task.stage ≡ Ended outcome)
  has_ended m j task (Ended outcome) is at stands idle = (outcome, stands)
  has_ended m j task (InHand state left) is at stands (x, isx, free, none) =
      absurd (free j task state left (record { listed = here_too x.jobs m.jobs j task (same_jobs h x m bytes isx is) at; of = refl; at = stands }))
  has_ended m j task (Waiting input) is at stands (x, isx, free, none) =
      absurd (none j task input (record { listed = here_too x.jobs m.jobs j task (same_jobs h x m bytes isx is) at; of = refl; at = stands }))

  -- so where nothing is found all jobs have ended
  pub all_ended : (m : MachineState) → IsStateOf h m bytes → AreSuccessors h bytes [] → HaveEnded m.jobs
  all_ended m is are j task at = has_ended m j task task.stage is at refl (idle_of task.cpu (are.all task.cpu))

-- ---- what is reported
module _ (look : SavedAlikeLookAlike) (stand : AlikeStandAlike) (h : Host) (names : Names) (lines : List (List ℕ)) (answered : AreAnswered h names lines) where
  each : Decoded lines
  each i line at = let a = answered line (i, at) in (a.0, a.1)

  pub all : List (List ℕ)
  all = states lines each

  pub has_line : (bytes : List ℕ) → IsAmong all bytes → HasLine lines bytes
  unfolding all
  has_line bytes (i, at) = let l = line_at lines each i bytes at in (l.0, (i, l.1), l.2)

  pub is_among : (bytes : List ℕ) → HasLine lines bytes → IsAmong all bytes
  unfolding all
  is_among bytes (line, (i, at), is) = (i, bytes_at lines each i line bytes at is)

  successor_at : (found : List Successor) → All (λ s. HasLine lines s.bytes.items) found → (i : ℕ) (s : Successor) → slice_get found i ≡
      Some s → HasLine lines s.bytes.items
  successor_at [] have i s at = cc
  successor_at (x ∷ xs) have zero s at =
      let same : x ≡ s = cc in
      subst (λ (s : Successor). HasLine lines s.bytes.items) same (All-head (λ s. HasLine lines s.bytes.items) x xs have)
  successor_at (x ∷ xs) have (suc i) s at = successor_at xs (All-rest xs have) i s at
    where
      All-rest : (xs : List Successor) → All (λ s. HasLine lines s.bytes.items) (x ∷ xs) → All (λ s. HasLine lines s.bytes.items) xs
      All-rest xs have = All-tail (λ s. HasLine lines s.bytes.items) x xs have

  leads_on : (bytes : List ℕ) (c : ℕ) (found : List Successor) → AreSuccessors h bytes found → All (λ s. HasLine lines s.bytes.items) found
      → (IsIdleIn h bytes c ⊎ HasSuccessor h bytes found c)
      → IsIdleIn h bytes c ⊎ ((n : ℕ) × (next : List ℕ) × IsSuccessor h bytes c n next × IsAmong all next)
  leads_on bytes c found are have (inl idle) = inl idle
  leads_on bytes c found are have (inr (i, s, at, of, is)) = inr (s.ahead, s.bytes.items, is, is_among s.bytes.items (successor_at found have i s at))

  idle_end : (bytes report : List ℕ) (c : ℕ) → IsReportIn h names bytes report → IsIdleIn h bytes c
  idle_end bytes report c (m, is, ended, told) =
      (m, is, (λ j task state left here. no_work m c ended (j, inl (task, state, left, here))), (λ j task input here. absurd (waits j task input here)))
    where
      waits : (j : ℕ) (task : Task) (input : Input) → IsAt m.jobs c j task (Waiting input) → ⊥
      waits j task input here =
          let end = ended j task here.listed in
          let both : Waiting input ≡ Ended end.0 = sym here.at ∙ end.1 in cc

  closed_by : (line bytes : List ℕ) (c : ℕ) → decode_of line ≡ Ok bytes → IsAnswered h names lines line
      → IsIdleIn h bytes c ⊎ ((n : ℕ) × (next : List ℕ) × IsSuccessor h bytes c n next × IsAmong all next)
  closed_by line bytes c is (b, same, inl (found, are, some, have)) =
      let one : b ≡ bytes = cc (sym same ∙ is) in
      let now : AreSuccessors h bytes found = subst (λ (b : List ℕ). AreSuccessors h b found) one are in
      leads_on bytes c found now have (now.all c)
  closed_by line bytes c is (b, same, inr (report, told)) =
      let one : b ≡ bytes = cc (sym same ∙ is) in
      inl (idle_end bytes report c (subst (λ (b : List ℕ). IsReportIn h names b report) one told))

  pub are_closed : AreClosed h all
  are_closed bytes c among = let l = has_line bytes among in closed_by l.0 bytes c l.2 (answered l.0 l.1)

  -- the line of an end is answered by its report
  report_of : (line bytes : List ℕ) (m : MachineState) → decode_of line ≡ Ok bytes → IsStateOf h m bytes → HaveEnded m.jobs → IsAnswered h names lines line
      → (report : List ℕ) × IsReportIn h names bytes report
  report_of line bytes m is state ended (b, same, inl (found, are, some, have)) =
      let one : b ≡ bytes = cc (sym same ∙ is) in
      absurd (none_found h bytes m state ended found (subst (λ (b : List ℕ). AreSuccessors h b found) one are) some)
  report_of line bytes m is state ended (b, same, inr (report, told)) =
      let one : b ≡ bytes = cc (sym same ∙ is) in
      (report, subst (λ (b : List ℕ). IsReportIn h names b report) one told)

  reported : (z : World) (bytes : List ℕ) (m : MachineState) → HaveEnded z.jobs → HasLine lines bytes → IsStateOf h m bytes → Shows m z →
      IsReported h names lines z
  reported z bytes m ended (line, among, is) state shows =
      let r = report_of line bytes m is state (subst HaveEnded shows.jobs ended) (answered line among) in
      (bytes, r.0, r.1.3.0, (line, among, is), r.1, tells r.0 r.1)
    where
      tells : (report : List ℕ) (told : IsReportIn h names bytes report) → Tells z.store z.jobs names true report told.3.0
      tells report (x, isx, ends, (stopped, told)) =
          let there = shows_too look stand h m x bytes state isx z shows in
          subst (λ (ts : List Task). Tells z.store ts names true report stopped) (sym there.jobs) (told z.store there.sound there.store)

-- a machine of a line shows the end of a schedule
abbrev IsShownAtEnd : Host → List (List ℕ) → World → Type 0
IsShownAtEnd h states z = (machines : List MachineState) × AreOf h states machines × IsShown machines z

shown_at_end : StatesCover → PatientStatesCover → (h : Host) (states : List (List ℕ)) (first : MachineState) (bytes : List ℕ) (w z : World)
    (schedule : List ℕ) (patient : Bool) → h.patient ≡ patient
    → AreClosed h states → IsStateOf h first bytes → IsAmong states bytes → IsFresh w → Shows first w → RunsSchedule w schedule z →
    FitBudgets h.patient z.jobs → HaveEnded z.jobs → IsShownAtEnd h states z
shown_at_end cover patiently h states first bytes w z schedule false exact closed is among fresh shown runs fit ended =
    let covered = cover h states first bytes w z schedule exact closed is among fresh shown runs in
    (covered.0, covered.1, covered.3 ended)
shown_at_end cover patiently h states first bytes w z schedule true passes closed is among fresh shown runs fit ended =
    let covered = patiently h states first bytes w z schedule passes closed is among fresh shown runs (fit passes) in
    (covered.0, covered.1, covered.3 ended)

pub lines_cover : SavedAlikeLookAlike → AlikeStandAlike → StatesCover → PatientStatesCover → LinesCover
lines_cover look stand cover patiently h names lines first bytes w z schedule answered is has fresh shown runs fit ended =
    at_end (shown_at_end cover patiently h (all look stand h names lines answered) first bytes w z schedule h.patient refl
    (are_closed look stand h names lines answered) is (is_among look stand h names lines answered bytes has) fresh shown runs fit ended)
  where
    at_end : IsShownAtEnd h (all look stand h names lines answered) z → IsReported h names lines z
    at_end (machines, of, (i, m, at, shows)) =
        let b = of i m at in
        reported look stand h names lines answered z b.0 m ended (has_line look stand h names lines answered b.0 b.1) b.2 shows

-- ---- what is made
pub host_is : (h : Host) (patient : Bool) (shape : Shape) (programs : List Loaded) (jobs : List Task) → h.patient ≡ patient → h.shape ≡
    shape → h.programs ≡ programs → h.jobs ≡ jobs
    → h ≡ host_of patient shape programs jobs
host_is h patient shape programs jobs a b c d =
    subst (λ (p : Bool). h ≡ host_of p shape programs jobs) a
    (subst (λ (s : Shape). h ≡ host_of h.patient s programs jobs) b
    (subst (λ (ps : List Loaded). h ≡ host_of h.patient h.shape ps jobs) c
    (subst (λ (js : List Task). h ≡ host_of h.patient h.shape h.programs js) d refl)))
