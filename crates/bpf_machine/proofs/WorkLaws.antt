-- What is in hand and what waits, by what a machine keeps and by what it shows.
use Rattle.std.proofs.Common.{◌≡◌, ℕ, ◌<◌, ◌≤◌, Bool, true, List, Option, Some, None, inl, inr, length, refl, sym, ap, subst, ◌∙◌, arith}
use Rattle.std.specs.Prelude.{slice_get, slice_index_or, option_map, nat_lt}
use Rattle.std.proofs.lemmas.Option.{slice_get-map, slice_get_within, slice_get-get_or}
use Rattle.std.proofs.lemmas.Bool.{cases_lt, ltb-true}
use Rattle.std.proofs.lemmas.List.{get_or_read}
use Rattle.bpf_shared.specs.declared.events.Span.{Span}
use Rattle.bpf_loader.specs.Loaded.{Loaded}
use Rattle.bpf_cpu.specs.declared.cpu.Cpu.{Cpu}
use Rattle.bpf_cpu.specs.declared.input.Input.{Input}
use Rattle.bpf_machine.specs.declared.machine.lane.Listed.{Listed}
use Rattle.bpf_machine.specs.declared.machine.lane.Phase.{Phase}
use Rattle.bpf_machine.specs.declared.machine.lane.Phase.TheVariants as phase
use Rattle.bpf_machine.specs.declared.machine.lane.Hand.{Hand}
use Rattle.bpf_machine.specs.declared.machine.lane.Lane.{Lane}
use Rattle.bpf_machine.specs.declared.machine.Standing.{Standing}
use Rattle.bpf_machine.specs.declared.machine.Standing.TheVariants as standing
use Rattle.bpf_machine.specs.declared.machine.Work.{Work}
use Rattle.bpf_machine.specs.declared.machine.Work.TheVariants as work
use Rattle.bpf_machine.specs.Questions.{IsStanding}
use Rattle.bpf_cpu.specs.Task.{Stage, Task, Waiting, InHand}
use Rattle.bpf_machine.specs.Hands.{IsAt, IsFree, NoneWaitsBelow, NoneWaits}
use Rattle.bpf_machine.specs.Work.{HasInHand, IsState, IsNext, IsWork}
use Rattle.bpf_machine.specs.Private.Lanes.{lane_of, no_lane, stage_of, task_of, tasks_of, FitsLane, IsHand, IsBoard}

-- the job after a shown one
pub record IsBehind (jobs : List Listed) (lanes : List Lane) (c j : ℕ) (task : Task) : Type 0 where
  pub job : Listed
  pub listed : slice_get jobs j ≡ Some job
  pub of : job.cpu ≡ c
  pub shown : task ≡ task_of lanes job

pub behind : (jobs : List Listed) (lanes : List Lane) (c j : ℕ) (task : Task) (stage : Stage) → IsAt (tasks_of lanes jobs) c j task stage →
    IsBehind jobs lanes c j task
behind jobs lanes c j task stage at = go (slice_get jobs j) refl
  where
    shown : option_map (task_of lanes) (slice_get jobs j) ≡ Some task
    shown = sym (slice_get-map (task_of lanes) jobs j) ∙ at.listed

    go : (o : Option Listed) → slice_get jobs j ≡ o → IsBehind jobs lanes c j task
    go None e = let no : None ≡ Some task = sym (ap (λ (o : Option Listed). option_map (task_of lanes) o) e) ∙ shown in cc
    go (Some x) e =
        let is : Some (task_of lanes x) ≡ Some task = sym (ap (λ (o : Option Listed). option_map (task_of lanes) o) e) ∙ shown in
        let same : task ≡ task_of lanes x = cc in
        record { job = x; listed = e; of = sym (ap (λ (t : Task). t.cpu) same) ∙ at.of; shown = same }

-- a listed job is shown
pub shows_job : (jobs : List Listed) (lanes : List Lane) (j : ℕ) (x : Listed) → slice_get jobs j ≡ Some x → slice_get (tasks_of lanes jobs)
    j ≡ Some (task_of lanes x)
shows_job jobs lanes j x at = slice_get-map (task_of lanes) jobs j ∙ ap (λ (o : Option Listed). option_map (task_of lanes) o) at

-- a hand that is shown is there
pub shown_hand : (o : Option Hand) (p : Phase) (state : Cpu) (left : ℕ) → stage_of o p ≡ InHand state left → (h : Hand) × (o ≡ Some h) ×
    (p ≡ phase.InHand) × (h.cpu ≡ state) × (h.left ≡ left)
shown_hand o (phase.Waiting input) state left e = cc
shown_hand o (phase.Ended outcome) state left e = cc
shown_hand None phase.InHand state left e = cc
shown_hand (Some h) phase.InHand state left e = let same : InHand h.cpu h.left ≡ InHand state left = e in (h, refl, refl, cc, cc)

shown_waiting : (l : Lane) (j : ℕ) (p : Phase) (input : Input) → FitsLane l j p → stage_of l.hand p ≡ Waiting input → (v : Input) ×
    (p ≡ phase.Waiting v) × (v ≡ input) × (l.next ≤ j)
shown_waiting l j (phase.Waiting v) input fits e = let same : Waiting v ≡ Waiting input = e in (v, refl, cc, fits)
shown_waiting l j (phase.Ended outcome) input fits e = cc
shown_waiting l j phase.InHand input fits e =
    let there : stage_of (Some fits.1.0) phase.InHand ≡ Waiting input = ap (λ (o : Option Hand). stage_of o phase.InHand) (sym fits.1.1) ∙ e in
    let no : InHand fits.1.0.cpu fits.1.0.left ≡ Waiting input = there in
    cc

-- the CPU of each job is one that is served
pub served : (serves running : ℕ → Bool) (reach : ℕ → Span → Bool) (programs : List Loaded) (jobs : List Listed) (lanes : List Lane) →
    IsBoard serves running reach programs jobs lanes
    → (j : ℕ) (task : Task) → slice_get (tasks_of lanes jobs) j ≡ Some task → serves task.cpu ≡ true
served serves running reach programs jobs lanes board j task listed =
    let b = behind jobs lanes task.cpu j task task.stage (record { listed = listed; of = refl; at = refl }) in
    subst (λ (n : ℕ). serves n ≡ true) b.of (board.each_job j b.job b.listed).served

module _ (serves running : ℕ → Bool) (reach : ℕ → Span → Bool) (programs : List Loaded) (jobs : List Listed) (lanes : List Lane)
    (board : IsBoard serves running reach programs jobs lanes) (c : ℕ) where
  -- ---- in hand
  pub record HandAt (j : ℕ) (task : Task) (state : Cpu) (left : ℕ) : Type 0 where
    pub job : Listed
    pub listed : slice_get jobs j ≡ Some job
    pub of : job.cpu ≡ c
    pub shown : task ≡ task_of lanes job
    pub within : c < length lanes
    pub hand : Hand
    pub held : (lane_of lanes c).hand ≡ Some hand
    pub told : hand.job ≡ j
    pub state_is : hand.cpu ≡ state
    pub left_is : hand.left ≡ left
    pub is : IsHand programs jobs c hand

  pub hand_at : (j : ℕ) (task : Task) (state : Cpu) (left : ℕ) → IsAt (tasks_of lanes jobs) c j task (InHand state left) → HandAt j task state left
  hand_at j task state left at =
      let b = behind jobs lanes c j task (InHand state left) at in
      let own = board.each_job j b.job b.listed in
      let e : stage_of (lane_of lanes b.job.cpu).hand b.job.phase ≡ InHand state left = sym (ap (λ (t : Task). t.stage) b.shown) ∙ at.at in
      let h = shown_hand (lane_of lanes b.job.cpu).hand b.job.phase state left e in
      let fits : FitsLane (lane_of lanes b.job.cpu) j phase.InHand = subst (λ (p : Phase). FitsLane (lane_of lanes b.job.cpu) j p) h.2 own.fits in
      let same : h.0 ≡ fits.1.0 = (let two : Some h.0 ≡ Some fits.1.0 = sym h.1 ∙ fits.1.1 in cc) in
      let held : (lane_of lanes c).hand ≡ Some h.0 = subst (λ (n : ℕ). (lane_of lanes n).hand ≡ Some h.0) b.of h.1 in
      let within : c < length lanes = subst (λ (n : ℕ). n < length lanes) b.of own.within in
      record {
        job = b.job;
        listed = b.listed;
        of = b.of;
        shown = b.shown;
        within = within;
        hand = h.0;
        held = held;
        told = ap (λ (x : Hand). x.job) same ∙ fits.1.2;
        state_is = h.3;
        left_is = h.4;
        is = (board.each_lane c within).hand h.0 held;
      }

  pub has_hand : (h : Hand) → c < length lanes → (lane_of lanes c).hand ≡ Some h → (task : Task) × IsAt (tasks_of lanes jobs) c h.job task (InHand h.cpu h.left)
  has_hand h within held =
      let is = (board.each_lane c within).hand h held in
      let here : (lane_of lanes is.job.cpu).hand ≡ Some h = ap (λ (n : ℕ). (lane_of lanes n).hand) is.of ∙ held in (
        task_of lanes is.job,
        record {
          listed = shows_job jobs lanes h.job is.job is.listed;
          of = is.of;
          at = ap (λ (p : Phase). stage_of (lane_of lanes is.job.cpu).hand p) is.in_hand ∙ ap (λ (o : Option Hand). stage_of o phase.InHand) here;
        },
      )

  pub is_free : (lane_of lanes c).hand ≡ None → IsFree (tasks_of lanes jobs) c
  is_free none j task state left at = let h = hand_at j task state left at in let no : None ≡ Some h.hand = sym none ∙ h.held in cc

  pub no_hand : c < length lanes → IsFree (tasks_of lanes jobs) c → (lane_of lanes c).hand ≡ None
  no_hand within free = go (lane_of lanes c).hand refl
    where
      go : (o : Option Hand) → (lane_of lanes c).hand ≡ o → (lane_of lanes c).hand ≡ None
      go None e = e
      go (Some h) e = let has = has_hand h within e in absurd (free h.job has.0 h.cpu h.left has.1)

  -- ---- waiting
  pub record WaitsAt (j : ℕ) (task : Task) (input : Input) : Type 0 where
    pub job : Listed
    pub listed : slice_get jobs j ≡ Some job
    pub of : job.cpu ≡ c
    pub shown : task ≡ task_of lanes job
    pub within : c < length lanes
    pub waits : (v : Input) × (job.phase ≡ phase.Waiting v) × (v ≡ input) × ((lane_of lanes c).next ≤ j)

  pub waits_at : (j : ℕ) (task : Task) (input : Input) → IsAt (tasks_of lanes jobs) c j task (Waiting input) → WaitsAt j task input
  waits_at j task input at =
      let b = behind jobs lanes c j task (Waiting input) at in
      let own = board.each_job j b.job b.listed in
      let e : stage_of (lane_of lanes b.job.cpu).hand b.job.phase ≡ Waiting input = sym (ap (λ (t : Task). t.stage) b.shown) ∙ at.at in
      let w = shown_waiting (lane_of lanes b.job.cpu) j b.job.phase input own.fits e in
      record {
        job = b.job;
        listed = b.listed;
        of = b.of;
        shown = b.shown;
        within = subst (λ (n : ℕ). n < length lanes) b.of own.within;
        waits = (w.0, w.1, w.2, subst (λ (n : ℕ). (lane_of lanes n).next ≤ j) b.of w.3);
      }

  -- the CPU's next job waits
  pub next_waits : c < length lanes → (x : Listed) → slice_get jobs (lane_of lanes c).next ≡ Some x → (task : Task) × (input : Input) × IsAt
      (tasks_of lanes jobs) c (lane_of lanes c).next task (Waiting input)
  next_waits within x at =
      let n = (lane_of lanes c).next in
      let of : x.cpu ≡ c = (board.each_lane c within).next x at in
      let fits : FitsLane (lane_of lanes c) n x.phase = subst (λ (d : ℕ). FitsLane (lane_of lanes d) n x.phase) of (board.each_job n x at).fits in
      go x.phase refl fits
    where
      go : (p : Phase) → x.phase ≡ p → FitsLane (lane_of lanes c) (lane_of lanes c).next p → (task : Task) × (input : Input) × IsAt
          (tasks_of lanes jobs) c (lane_of lanes c).next task (Waiting input)
      go (phase.Waiting v) e fits = (
        task_of lanes x,
        v,
        record {
          listed = shows_job jobs lanes (lane_of lanes c).next x at;
          of = (board.each_lane c within).next x at;
          at = ap (λ (p : Phase). stage_of (lane_of lanes x.cpu).hand p) e;
        },
      )
      go phase.InHand e fits = let l : (lane_of lanes c).next < (lane_of lanes c).next = fits.0 in absurd (omega arith)
      go (phase.Ended outcome) e fits = let l : (lane_of lanes c).next < (lane_of lanes c).next = fits in absurd (omega arith)

  pub none_waits_below : NoneWaitsBelow (tasks_of lanes jobs) c (lane_of lanes c).next
  none_waits_below k task input below at = let w = waits_at k task input at in let above = w.waits.3 in absurd (omega arith)

  pub none_waits : length jobs ≤ (lane_of lanes c).next → NoneWaits (tasks_of lanes jobs) c
  none_waits past j task input at =
      let w = waits_at j task input at in
      let above = w.waits.3 in
      let inside : j < length jobs = slice_get_within jobs j w.job w.listed in
      absurd (omega arith)

  -- a CPU beyond the lanes has no jobs
  pub nothing_beyond : length lanes ≤ c → IsFree (tasks_of lanes jobs) c × NoneWaits (tasks_of lanes jobs) c
  nothing_beyond past = (
    λ j task state left at. (let h = hand_at j task state left at in let w = h.within in absurd (omega arith)),
    λ j task input at. (let w = waits_at j task input at in let l = w.within in absurd (omega arith)),
  )

  -- the job that the CPU is to begin is its next
  pub is_next : (j : ℕ) → IsNext (tasks_of lanes jobs) c j → (lane_of lanes c).next ≡ j
  is_next j next =
      let w = waits_at j next.1.0 next.1.1 next.1.2 in
      let n = (lane_of lanes c).next in
      let above : n ≤ j = w.waits.3 in
      let inside : j < length jobs = slice_get_within jobs j w.job w.listed in
      elim (cases_lt n j) [
        | inl below ↦
            let x = slice_index_or jobs n w.job in
            let at : slice_get jobs n ≡ Some x = slice_get-get_or jobs n w.job (omega arith) in
            let v = next_waits w.within x at in
            absurd (next.2 n v.0 v.1 below v.2)
        | inr past ↦ omega arith
      ]

-- what reading a lane gives
pub lane_read : (lanes : List Lane) (c : ℕ) (l : Lane) → c < length lanes → l ≡ slice_index_or lanes c l → lane_of lanes c ≡ l
lane_read lanes c l within read = sym (get_or_read lanes c l within read no_lane)

-- what looking for a lane has found
pub lane_there : (lanes read : List Lane) (c : ℕ) (l : Lane) → read ≡ lanes → true ≡ nat_lt c (length read) → l ≡ slice_index_or read c l
    → (c < length lanes) × (lane_of lanes c ≡ l)
lane_there lanes read c l same test found =
    let within : c < length lanes = subst (λ (xs : List Lane). c < length xs) same (ltb-true c (length read) (sym test)) in
    (within, lane_read lanes c l within (subst (λ (xs : List Lane). l ≡ slice_index_or xs c l) same found))

-- what a lane that was read says of its CPU
module _ (serves running : ℕ → Bool) (reach : ℕ → Span → Bool) (programs : List Loaded) (jobs : List Listed) (lanes : List Lane)
    (board : IsBoard serves running reach programs jobs lanes) (c : ℕ) (l : Lane) (within : c < length lanes) (was : lane_of lanes c ≡ l) where
  pub work_in_hand : (h : Hand) → l.hand ≡ Some h → HasInHand (tasks_of lanes jobs) c h.job
  work_in_hand h held =
      let has = has_hand serves running reach programs jobs lanes board c h within (ap (λ (x : Lane). x.hand) was ∙ held) in (has.0, h.cpu, h.left, has.1)

  pub state_in_hand : (h : Hand) → l.hand ≡ Some h → IsState (tasks_of lanes jobs) c h.cpu
  state_in_hand h held =
      let has = has_hand serves running reach programs jobs lanes board c h within (ap (λ (x : Lane). x.hand) was ∙ held) in (h.job, has.0, h.left, has.1)

  pub work_free : l.hand ≡ None → IsFree (tasks_of lanes jobs) c
  work_free none = is_free serves running reach programs jobs lanes board c (ap (λ (x : Lane). x.hand) was ∙ none)

  pub work_waiting : l.hand ≡ None → l.next < length jobs → IsNext (tasks_of lanes jobs) c l.next
  work_waiting none inside =
      let no_job : Listed = record { cpu = 0; program = 0; budget = 0; phase = phase.InHand } in
      let at : slice_get jobs l.next ≡ Some (slice_index_or jobs l.next no_job) = slice_get-get_or jobs l.next no_job inside in
      let there = ap (λ (x : Lane). slice_get jobs x.next) was ∙ at in
      subst (λ (x : Lane). IsNext (tasks_of lanes jobs) c x.next) was (
        is_free serves running reach programs jobs lanes board c (ap (λ (x : Lane). x.hand) was ∙ none),
        next_waits serves running reach programs jobs lanes board c within (slice_index_or jobs l.next no_job) there,
        none_waits_below serves running reach programs jobs lanes board c,
      )

  pub work_nothing : l.hand ≡ None → length jobs ≤ l.next → IsFree (tasks_of lanes jobs) c × NoneWaits (tasks_of lanes jobs) c
  work_nothing none past = (
    is_free serves running reach programs jobs lanes board c (ap (λ (x : Lane). x.hand) was ∙ none),
    none_waits serves running reach programs jobs lanes board c (subst (λ (x : Lane). length jobs ≤ x.next) (sym was) past),
  )

-- ---- what is to do, by where the CPU is
abbrev work_in : Standing → Work
work_in (standing.InHand j state) = work.InHand j
work_in (standing.Waiting j) = work.Waiting j
work_in standing.Idle = work.Nothing

pub works : (jobs : List Task) (cpu : ℕ) (told answer : Standing) → told ≡ answer → IsStanding jobs cpu told → IsWork jobs cpu (work_in answer)
works jobs cpu told answer is stands = go answer (subst (IsStanding jobs cpu) is stands)
  where
    go : (r : Standing) → IsStanding jobs cpu r → IsWork jobs cpu (work_in r)
    go (standing.InHand j state) s = (s.0, state.now, s.1, s.2)
    go (standing.Waiting j) s = s
    go standing.Idle s = s

-- the state that is shown
abbrev HasState : List Task → ℕ → Standing → Type 0
HasState jobs cpu (standing.InHand j state) = IsState jobs cpu state.now
HasState jobs cpu told = Unit {0}

pub state_told : (jobs : List Task) (cpu : ℕ) (told answer : Standing) → told ≡ answer → IsStanding jobs cpu told → HasState jobs cpu answer
state_told jobs cpu told answer is stands = go answer (subst (IsStanding jobs cpu) is stands)
  where
    go : (r : Standing) → IsStanding jobs cpu r → HasState jobs cpu r
    go (standing.InHand j state) s = (j, s.0, s.1, s.2)
    go (standing.Waiting j) s = tt
    go standing.Idle s = tt
