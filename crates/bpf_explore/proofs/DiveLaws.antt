-- Dives: schedules to which turns are added, jobs that have all ended, and answers among which one more is put.
use Rattle.std.proofs.Common.{◌≡◌, ◌∙◌, ℕ, ◌+◌, ◌≤◌, Bool, List, [], ◌∷◌, ◌++◌, Option, Some, None, inl, inr, length, replicate, refl, sym}
use Rattle.std.proofs.Common.{ap, subst, append-nil, append_assoc, add-one, arith}
use Rattle.std.specs.Prelude.{insert, IfSome, string_bytes}
use Rattle.std.proofs.lemmas.Bool.{cases_lt}
use Rattle.std.proofs.lemmas.List.{replicate-append-replicate}
use Rattle.std.proofs.lemmas.Option.{slice_get_within}
use Rattle.bpf_names.specs.Names.{Names}
use Rattle.bpf_cpu.specs.declared.outcome.Outcome.{Outcome}
use Rattle.bpf_cpu.specs.Task.{Task, ended, outcome_at}
use Rattle.bpf_machine.specs.Machine.{MachineState, Shows}
use Rattle.bpf_machine.specs.Patient.{NoneRanOut}
use Rattle.bpf_machine.specs.Rounds.{HaveEnded}
use Rattle.bpf_machine.specs.Schedule.{World, RunsSchedule, unrolled}
use Rattle.bpf_jobs.specs.Printed.{lines_of_lists, TellsWith}
use Rattle.bpf_jobs.specs.declared.rounds.Report.{Report}
use Rattle.bpf_explore.specs.Outcomes.{Found, EndsBy}
use Rattle.bpf_explore.specs.Patient.{EndsPatiently}
use Rattle.bpf_explore.specs.Private.Answers.{AllEnd, AreOneMore, IsFirst}
use Rattle.bpf_explore.specs.Private.Patience.{AllEndPatiently}
use Rattle.bpf_explore.specs.Private.Replays.{IsReplayed}
use Rattle.bpf_explore.proofs.AnswerLaws.{Before, Here, Behind, origin}
use Rattle.bpf_explore.proofs.PatienceLaws.{read_outcome, stage_is}
use Rattle.bpf_explore.proofs.TellLaws.{HaveEndedBelow, tells_none}
use Rattle.bpf_explore.proofs.TrailLaws.{schedules_join}

-- ---- turns at the end of a schedule
run_at_end : (by : List (ℕ × ℕ)) (cpu turns : ℕ) → unrolled (by ++ (cpu, turns) ∷ []) ≡ unrolled by ++ replicate turns cpu
run_at_end [] cpu turns = append-nil (replicate turns cpu)
run_at_end (run ∷ runs) cpu turns =
    ap (λ (cs : List ℕ). replicate run.1 run.0 ++ cs) (run_at_end runs cpu turns)
    ∙ sym (append_assoc (replicate run.1 run.0) (unrolled runs) (replicate turns cpu))

-- as a run of their own
pub turns_added : (by new : List (ℕ × ℕ)) (cpu turns ahead : ℕ) → turns ≡ ahead + 1 → new ≡ by ++ (cpu, turns) ∷ [] → unrolled new ≡
    unrolled by ++ (cpu ∷ replicate ahead cpu)
turns_added by new cpu turns ahead e is =
    ap unrolled is ∙ (run_at_end by cpu turns ∙ ap (λ (n : ℕ). unrolled by ++ replicate n cpu) (e ∙ add-one ahead))

-- or in the last run, where that is of the same CPU
pub turns_joined : (rest by new : List (ℕ × ℕ)) (cpu more turns sum ahead : ℕ) → turns ≡ ahead + 1 → sum ≡ more + turns → by ≡ rest ++
    (cpu, more) ∷ [] → new ≡ rest ++ (cpu, sum) ∷ [] → unrolled new ≡ unrolled by ++ (cpu ∷ replicate ahead cpu)
turns_joined rest by new cpu more turns sum ahead e all old is =
    let both : replicate sum cpu ≡ replicate more cpu ++ replicate turns cpu = ap (λ (n : ℕ). replicate n cpu) all ∙ sym
    (replicate-append-replicate more turns cpu) in
    ap unrolled is ∙ (run_at_end rest cpu sum
    ∙ (ap (λ (cs : List ℕ). unrolled rest ++ cs) both
    ∙ (sym (append_assoc (unrolled rest) (replicate more cpu) (replicate turns cpu))
    ∙ (ap (λ (cs : List ℕ). cs ++ replicate turns cpu) (sym (ap unrolled old ∙ run_at_end rest cpu more))
    ∙ ap (λ (n : ℕ). unrolled by ++ replicate n cpu) (e ∙ add-one ahead)))))

-- a schedule leads from what one machine shows to what another shows
abbrev pub RunsTo : MachineState → List ℕ → MachineState → Type 0
RunsTo old schedule new = (w : World) → Shows old w → (z : World) × RunsSchedule w schedule z × Shows new z

pub no_turns : (m : MachineState) → RunsTo m [] m
no_turns m w shows = (w, refl, shows)

pub more_turns : (old mid new : MachineState) (cs ds : List ℕ) → RunsTo old cs mid → RunsTo mid ds new → RunsTo old (cs ++ ds) new
more_turns old mid new cs ds first second w shows =
    let a = first w shows in
    let b = second a.0 a.2 in
    (b.0, schedules_join.1 w a.0 b.0 cs ds a.1 b.1, b.2)

-- ---- jobs that have ended
pub next_has_ended : (jobs : List Task) (n : ℕ) (o : Outcome) → HaveEndedBelow jobs n → outcome_at jobs n ≡ Some o → HaveEndedBelow jobs (n + 1)
next_has_ended jobs n o far here j task less at = elim (cases_lt j n) [
  | inl below ↦ far j task below at
  | inr past ↦
      let same : n ≡ j = omega arith in
      let is : Some o ≡ ended task.stage = sym here ∙ (ap (outcome_at jobs) same ∙ read_outcome jobs j task at) in
      (o, stage_is task.stage o is)
]

pub all_have_ended : (jobs : List Task) (n : ℕ) → length jobs ≤ n → HaveEndedBelow jobs n → HaveEnded jobs
all_have_ended jobs n past far j task at = let inside = slice_get_within jobs j task at in far j task (omega arith) at

-- ---- answers, and one more
pub none_more : (xs : List Found) (x : Found) → AreOneMore xs x xs
none_more xs x k y at = inr (k, at)

pub one_more : (xs : List Found) (i : ℕ) (x : Found) → i ≤ length xs → AreOneMore xs x (insert xs i x)
one_more xs i x within k y at = elim (origin xs i x within k y at) [
  | Before pl there ↦ inr (k, there)
  | Here e same ↦ inl (sym same)
  | Behind j e above there ↦ inr (j, there)
]

pub all_end_still : (xs ys : List Found) (x : Found) (w : World) (names : Names) (maps : Bool) → AreOneMore xs x ys → EndsBy w names maps x
    → AllEnd w names maps xs → AllEnd w names maps ys
all_end_still xs ys x w names maps more one all k y at = elim (more k y at) [
  | inl same ↦ subst (EndsBy w names maps) (sym same) one
  | inr there ↦ all there.0 y there.1
]

pub all_end_patiently_still : (xs ys : List Found) (x : Found) (w : World) (names : Names) (maps : Bool) → AreOneMore xs x ys →
    EndsPatiently w names maps x → AllEndPatiently w names maps xs → AllEndPatiently w names maps ys
all_end_patiently_still xs ys x w names maps more one all k y at = elim (more k y at) [
  | inl same ↦ subst (EndsPatiently w names maps) (sym same) one
  | inr there ↦ all there.0 y there.1
]

-- ---- what a dive leads to
module _ (kept : List MachineState) (m : MachineState) (names : Names) (maps : Bool) (text : List ℕ) (stopped : Bool) (by : List (ℕ × ℕ))
    (none : m.lists ≡ None) (dived : IsReplayed kept (unrolled by) m) (ended : HaveEnded m.jobs)
    (told : (w : World) → Shows m w → TellsWith (lines_of_lists w names.maps) w.store w.jobs names maps text stopped) where
  pub dive_ends : (w : World) → IsFirst kept w → EndsBy w names maps (record { text = text; stopped = stopped; by = by })
  dive_ends w first =
      let r = dived w first in
      let shows = r.2 in
      (r.0, r.1, subst HaveEnded (sym shows.jobs) ended, tells_none m r.0 names maps text stopped none shows (told r.0 shows))

  pub dive_ends_patiently : NoneRanOut m.jobs → (w : World) → IsFirst kept w → EndsPatiently w names maps (record { text = text; stopped = stopped; by = by })
  dive_ends_patiently none_out w first =
      let r = dived w first in
      let shows = r.2 in (
        r.0,
        r.1,
        subst HaveEnded (sym shows.jobs) ended,
        subst NoneRanOut (sym shows.jobs) none_out,
        tells_none m r.0 names maps text
            stopped none shows (told r.0 shows),
      )

-- what is printed where a dive led to the ends of all jobs
module _ (kept : List MachineState) (m shown : MachineState) (names : Names) (maps : Bool) (o : Option Report) (report : Report)
    (by : List (ℕ × ℕ)) (same : shown ≡ m) (none : m.lists ≡ None) (dived : IsReplayed kept (unrolled by) m) (is : o ≡ Some report)
    (ended : IfSome o (λ r. HaveEnded shown.jobs))
    (told : IfSome o (λ r. (w : World) → Shows shown w → TellsWith (lines_of_lists w names.maps) w.store w.jobs names maps
    (string_bytes r.text) r.stopped)) where
  ended_here : HaveEnded m.jobs
  ended_here = subst (λ (n : MachineState). HaveEnded n.jobs) same (subst (λ (s : Option Report). IfSome s (λ r. HaveEnded shown.jobs)) is ended)

  told_here : (w : World) → Shows m w → TellsWith (lines_of_lists w names.maps) w.store w.jobs names maps (string_bytes report.text) report.stopped
  told_here = subst (λ (n : MachineState). (w : World) → Shows n w → TellsWith (lines_of_lists w names.maps) w.store w.jobs names maps
      (string_bytes report.text) report.stopped) same
      (subst (λ (s : Option Report). IfSome s (λ r. (w : World) → Shows shown w → TellsWith (lines_of_lists w names.maps) w.store w.jobs
      names maps (string_bytes r.text) r.stopped)) is told)

  pub found_ends : (found : Found) → found ≡ record { text = string_bytes report.text; stopped = report.stopped; by = by } → (w : World) →
      IsFirst kept w → EndsBy w names maps found
  found_ends found e w first = subst (EndsBy w names maps) (sym e)
      (dive_ends kept m names maps (string_bytes report.text) report.stopped by none dived ended_here told_here w first)

  pub found_ends_patiently : (found : Found) → found ≡ record { text = string_bytes report.text; stopped = report.stopped; by = by } →
      NoneRanOut m.jobs → (w : World) → IsFirst kept w → EndsPatiently w names maps found
  found_ends_patiently found e none_out w first = subst (EndsPatiently w names maps) (sym e)
      (dive_ends_patiently kept m names maps (string_bytes report.text) report.stopped by none dived ended_here told_here none_out w first)
