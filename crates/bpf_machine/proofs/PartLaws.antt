-- A machine that is made again of parts.
use Rattle.std.proofs.Common.{◌≡◌, ℕ, suc, ◌<◌, ◌≤◌, true, false, List, [], ◌∷◌, Option, Some, None, is_some, inl, inr, length, refl, sym}
use Rattle.std.proofs.Common.{ap, subst, ◌∙◌, arith}
use Rattle.std.specs.Prelude.{slice_get, slice_index_or, nat_lt, option_map}
use Rattle.std.proofs.lemmas.Bool.{cases_lt, ltb-true}
use Rattle.std.proofs.lemmas.Option.{slice_get-map, slice_get_within, slice_get-get_or}
use Rattle.bpf_base.proofs.Lists.{same_elements}
use Rattle.bpf_shared.proofs.Puts.{equal_or_not}
use Rattle.bpf_plain.specs.PlainStore.{Contents, has_cpu, is_running, held_spans}
use Rattle.bpf_loader.specs.Loaded.{Loaded}
use Rattle.bpf_cpu.specs.Input.{IsShort}
use Rattle.bpf_cpu.specs.declared.cpu.Cpu.{Cpu}
use Rattle.bpf_cpu.specs.declared.input.Input.{Input}
use Rattle.bpf_machine.specs.declared.machine.lane.Listed.{Listed}
use Rattle.bpf_machine.specs.declared.machine.lane.Phase.{Phase}
use Rattle.bpf_machine.specs.declared.machine.lane.Phase.TheVariants as phase
use Rattle.bpf_machine.specs.declared.machine.lane.Hand.{Hand}
use Rattle.bpf_machine.specs.declared.machine.lane.Lane.{Lane}
use Rattle.bpf_cpu.specs.Task.{Stage, Task, Waiting, InHand, Ended}
use Rattle.bpf_machine.specs.Hands.{IsAt}
use Rattle.bpf_machine.specs.Work.{HasInHand}
use Rattle.bpf_machine.specs.Parts.{FitsHand, CanStand, chosen, chosen_at, no_task, made_of}
use Rattle.bpf_machine.specs.Private.Parts.{in_hand, waits, no_entry, entry_at, IsPhaseOf, IsEntryOf, IsLaneOf}
use Rattle.bpf_machine.proofs.HostLaws.{tasks_count}
use Rattle.bpf_machine.specs.Private.Lanes.{lane_of, stage_of, task_of, tasks_of, FitsLane, IsListed, IsHand, IsLane, IsBoard}

-- the job of the k-th number
pub chosen_is : (parts : List Task) (numbers : List ℕ) (k : ℕ) → k < length numbers → slice_get (chosen parts numbers) k ≡ Some (chosen_at parts numbers k)
chosen_is parts numbers k within =
    slice_get-map (λ n. slice_index_or parts n no_task) numbers k
    ∙ ap (λ (o : Option ℕ). option_map (λ n. slice_index_or parts n no_task) o) (slice_get-get_or numbers k 0 within)

pub chosen_count : (parts : List Task) (numbers : List ℕ) → length (chosen parts numbers) ≡ length numbers
chosen_count parts [] = refl
chosen_count parts (n ∷ ns) = ap suc (chosen_count parts ns)

pub waiting_or_not : (s : Stage) → waits s ≡ true → (input : Input) × (s ≡ Waiting input)
waiting_or_not (Waiting input) is = (input, refl)
waiting_or_not (InHand state left) is = cc
waiting_or_not (Ended outcome) is = cc

module _ (store : Contents) (programs : List Loaded) (parts : List Task) (numbers : List ℕ) (stands : CanStand (made_of store programs parts numbers))
    (jobs : List Listed) (count : length jobs ≡ length numbers) (each : (k : ℕ) → k < length numbers → IsEntryOf (chosen_at parts numbers k) (entry_at jobs k))
    (lanes : List Lane) (cpus : ℕ) (lane_count : length lanes ≡ cpus) (serves : (c : ℕ) → has_cpu store c ≡ nat_lt c cpus)
    (lane : (c : ℕ) → c < cpus → IsLaneOf parts numbers c (lane_of lanes c)) where
  abbrev tasks : List Task
  tasks = chosen parts numbers

  at : (k : ℕ) → k < length numbers → slice_get tasks k ≡ Some (chosen_at parts numbers k)
  at = chosen_is parts numbers

  -- a job of a CPU in its stage
  is_at : (c k : ℕ) (stage : Stage) → k < length numbers → (chosen_at parts numbers k).cpu ≡ c → (chosen_at parts numbers k).stage ≡ stage →
      IsAt tasks c k (chosen_at parts numbers k) stage
  is_at c k stage within of is = record { listed = at k within; of = of; at = is }

  served : (k : ℕ) → k < length numbers → (chosen_at parts numbers k).cpu < cpus
  served k within =
      let task = chosen_at parts numbers k in
      ltb-true task.cpu cpus (sym (serves task.cpu) ∙ stands.served k task (at k within))

  -- the list of entries at a place
  entry : (k : ℕ) (x : Listed) → slice_get jobs k ≡ Some x → (k < length numbers) × IsEntryOf (chosen_at parts numbers k) x
  entry k x is =
      let inside : k < length jobs = slice_get_within jobs k x is in
      let within : k < length numbers = omega (arith, inside, count) in
      let two : Some (entry_at jobs k) ≡ Some x = sym (slice_get-get_or jobs k no_entry inside) ∙ is in
      let same : entry_at jobs k ≡ x = cc in
      (within, subst (λ (y : Listed). IsEntryOf (chosen_at parts numbers k) y) same (each k within))

  -- ---- where a CPU's jobs are
  module _ (c : ℕ) (inside : c < cpus) where
    abbrev l : Lane
    l = lane_of lanes c

    hand_is : (k : ℕ) (state : Cpu) (left : ℕ) → k < length numbers → (chosen_at parts numbers k).cpu ≡ c →
        (chosen_at parts numbers k).stage ≡ InHand state left
        → (h : Hand) × (l.hand ≡ Some h) × (h.job ≡ k)
    hand_is k state left within of is = go l.hand refl
      where
        go : (o : Option Hand) → l.hand ≡ o → (h : Hand) × (l.hand ≡ Some h) × (h.job ≡ k)
        go None none =
            let no = (lane c inside).free none k within of in
            let yes : in_hand (chosen_at parts numbers k).stage ≡ true = ap in_hand is in
            cc
        go (Some h) some =
            let has = (lane c inside).hand h some in
            let this : HasInHand tasks c h.job = (chosen_at parts numbers h.job, h.cpu, h.left, is_at c h.job (InHand h.cpu h.left) has.0 has.1 has.2) in
            let that : HasInHand tasks c k = (chosen_at parts numbers k, state, left, is_at c k (InHand state left) within of is) in
            (h, some, stands.one c h.job k this that)

    -- a job that doesn't wait is before the next
    before_next : (k : ℕ) → k < length numbers → (chosen_at parts numbers k).cpu ≡ c → waits (chosen_at parts numbers k).stage ≡ false → k < l.next
    before_next k within of is = elim (cases_lt k l.next) [
      | inl less ↦ less
      | inr past ↦
          let next : l.next < length numbers = omega (arith, past, within) in
          let found = (lane c inside).next.found next in
          let stage = waiting_or_not (chosen_at parts numbers l.next).stage found.1 in
          elim (equal_or_not k l.next) [
            | inl here ↦
                let here_waits : waits (chosen_at parts numbers k).stage ≡ true = ap (λ (n : ℕ). waits (chosen_at parts numbers n).stage) here ∙ found.1 in
                cc
            | inr other ↦
                let less : l.next < k = omega (arith, past, other) in
                let late = stands.order c l.next k (chosen_at parts numbers l.next) (chosen_at parts numbers k) stage.0
                (is_at c l.next (Waiting stage.0) next found.0 stage.1) less (at k within) of in
                let late_waits : waits (chosen_at parts numbers k).stage ≡ true = ap waits late.1 in
                cc
          ]
    ]

    next_before : (k : ℕ) → (chosen_at parts numbers k).cpu ≡ c → waits (chosen_at parts numbers k).stage ≡ true → l.next ≤ k
    next_before k of is = elim (cases_lt k l.next) [
      | inl less ↦ let no = (lane c inside).next.none k less of in cc
      | inr past ↦ omega (arith, past)
    ]

    fits : (k : ℕ) (p : Phase) (s : Stage) → k < length numbers → (chosen_at parts numbers k).cpu ≡ c → (chosen_at parts numbers k).stage ≡
        s → IsPhaseOf s p → FitsLane l k p
    fits k (phase.Waiting v) (Waiting input) within of is same = next_before k of (ap waits is)
    fits k phase.InHand (InHand state left) within of is same = (before_next k within of (ap waits is), hand_is k state left within of is)
    fits k (phase.Ended end) (Ended outcome) within of is same = before_next k within of (ap waits is)
    fits k (phase.Waiting v) (InHand state left) within of is same = absurd same
    fits k (phase.Waiting v) (Ended outcome) within of is same = absurd same
    fits k phase.InHand (Waiting input) within of is same = absurd same
    fits k phase.InHand (Ended outcome) within of is same = absurd same
    fits k (phase.Ended end) (Waiting input) within of is same = absurd same
    fits k (phase.Ended end) (InHand state left) within of is same = absurd same

    -- what its lane and an entry show
    shown : (k : ℕ) (p : Phase) (s : Stage) → k < length numbers → (chosen_at parts numbers k).cpu ≡ c → (chosen_at parts numbers k).stage ≡
        s → IsPhaseOf s p → stage_of l.hand p ≡ s
    shown k (phase.Waiting v) (Waiting input) within of is same = ap Waiting same
    shown k phase.InHand (InHand state left) within of is same =
        let h = hand_is k state left within of is in
        let has = (lane c inside).hand h.0 h.1 in
        let here : InHand h.0.cpu h.0.left ≡ InHand state left = sym has.2 ∙ (ap (λ (n : ℕ). (chosen_at parts numbers n).stage) h.2 ∙ is) in
        ap (λ (o : Option Hand). stage_of o phase.InHand) h.1 ∙ here
    shown k (phase.Ended end) (Ended outcome) within of is same = ap Ended same
    shown k (phase.Waiting v) (InHand state left) within of is same = absurd same
    shown k (phase.Waiting v) (Ended outcome) within of is same = absurd same
    shown k phase.InHand (Waiting input) within of is same = absurd same
    shown k phase.InHand (Ended outcome) within of is same = absurd same
    shown k (phase.Ended end) (Waiting input) within of is same = absurd same
    shown k (phase.Ended end) (InHand state left) within of is same = absurd same

  -- ---- the jobs
  short : (k : ℕ) (x : Listed) (s : Stage) (v : Input) → k < length numbers → (chosen_at parts numbers k).stage ≡ s → IsPhaseOf s x.phase →
      x.phase ≡ phase.Waiting v → IsShort v
  short k x (Waiting input) v within is same waits =
      let there : IsPhaseOf (Waiting input) (phase.Waiting v) = subst (λ (p : Phase). IsPhaseOf (Waiting input) p) waits same in
      subst (λ (i : Input). IsShort i) (sym there) (stands.short (chosen_at parts numbers k).cpu k (chosen_at parts numbers k) input
      (is_at (chosen_at parts numbers k).cpu k (Waiting input) within refl is))
  short k x (InHand state left) v within is same waits = absurd (subst (λ (p : Phase). IsPhaseOf (InHand state left) p) waits same)
  short k x (Ended outcome) v within is same waits = absurd (subst (λ (p : Phase). IsPhaseOf (Ended outcome) p) waits same)

  each_job : (k : ℕ) (x : Listed) → slice_get jobs k ≡ Some x → IsListed (has_cpu store) programs lanes k x
  each_job k x is =
      let e = entry k x is in
      let task = chosen_at parts numbers k in
      let inside : x.cpu < cpus = subst (λ (n : ℕ). n < cpus) (sym e.1.cpu) (served k e.0) in
      record {
        program = subst (λ (n : ℕ). n < length programs) (sym e.1.program) (stands.loaded k task (at k e.0));
        served = ap (λ (n : ℕ). has_cpu store n) e.1.cpu ∙ stands.served k task (at k e.0);
        within = subst (λ (n : ℕ). x.cpu < n) (sym lane_count) inside;
        fits = fits x.cpu inside k x.phase task.stage e.0 (sym e.1.cpu) refl e.1.phase;
        short = λ v waits. short k x task.stage v e.0 refl e.1.phase waits;
      }

  -- ---- the lanes
  in_phase : (s : Stage) (p : Phase) (state : Cpu) (left : ℕ) → s ≡ InHand state left → IsPhaseOf s p → p ≡ phase.InHand
  in_phase s p state left is same = go p (subst (λ (t : Stage). IsPhaseOf t p) is same)
    where
      go : (q : Phase) → IsPhaseOf (InHand state left) q → q ≡ phase.InHand
      go (phase.Waiting v) other = absurd other
      go phase.InHand other = refl
      go (phase.Ended end) other = absurd other

  is_hand : (c : ℕ) → c < cpus → (h : Hand) → (lane_of lanes c).hand ≡ Some h → IsHand programs jobs c h × FitsHand
      (made_of store programs parts numbers) c (chosen_at parts numbers h.job) h.cpu
  is_hand c inside h is =
      let has = (lane c inside).hand h is in
      let task = chosen_at parts numbers h.job in
      let fits = stands.hand c h.job task h.cpu h.left (is_at c h.job (InHand h.cpu h.left) has.0 has.1 has.2) in
      let x = entry_at jobs h.job in
      let listed : slice_get jobs h.job ≡ Some x = slice_get-get_or jobs h.job no_entry (omega (arith, count, has.0)) in
      let e = each h.job has.0 in (
        record {
          job = x;
          listed = listed;
          of = e.cpu ∙ has.1;
          in_hand = in_phase task.stage x.phase h.cpu h.left has.2 e.phase;
          number = fits.number;
          program = fits.program;
          loaded = ap (λ (n : ℕ). slice_get programs n) e.program ∙ fits.loaded;
          ready = fits.ready;
        },
        fits,
      )

  runs : (c : ℕ) → c < cpus → is_running store c ≡ is_some (lane_of lanes c).hand
  runs c inside = go (lane_of lanes c).hand refl
    where
      go : (o : Option Hand) → (lane_of lanes c).hand ≡ o → is_running store c ≡ is_some (lane_of lanes c).hand
      go None none = stands.idle c (λ j task state left here.
          let within : j < length numbers =
          (let n = slice_get_within tasks j task here.listed in let same = chosen_count parts numbers in omega (arith, n, same)) in
          let two : Some (chosen_at parts numbers j) ≡ Some task = sym (at j within) ∙ here.listed in
          let same : chosen_at parts numbers j ≡ task = cc in
          let no : in_hand (chosen_at parts numbers j).stage ≡ false = (lane c inside).free none j within (ap (λ (t : Task). t.cpu) same ∙ here.of) in
          let yes : in_hand (chosen_at parts numbers j).stage ≡ true = ap (λ (t : Task). in_hand t.stage) same ∙ ap in_hand here.at in
          cc) ∙ sym (ap (λ (o : Option Hand). is_some o) none)
      go (Some h) some = (is_hand c inside h some).1.runs ∙ sym (ap (λ (o : Option Hand). is_some o) some)

  each_lane : (c : ℕ) → c < length lanes → IsLane (is_running store) (held_spans store) programs jobs c (lane_of lanes c)
  each_lane c below =
      let inside : c < cpus = omega (arith, below, lane_count) in
      record {
        runs = runs c inside;
        hand = λ h is. (is_hand c inside h is).0;
        held = λ h is. (is_hand c inside h is).1.held;
        next = λ x is.
            let e = entry (lane_of lanes c).next x is in
            e.1.cpu ∙ ((lane c inside).next.found e.0).0;
        within = (let n = (lane c inside).next.within in omega (arith, n, count));
      }

  no_lane : (c : ℕ) → length lanes ≤ c → is_running store c ≡ false
  no_lane c past = stands.idle c (λ j task state left here.
      let inside : c < cpus = ltb-true c cpus (sym (serves c) ∙ (ap (λ (n : ℕ). has_cpu store n) (sym here.of) ∙ stands.served j task here.listed)) in
      absurd (omega (arith, past, inside, lane_count)))

  pub board_made : IsBoard (has_cpu store) (is_running store) (held_spans store) programs jobs lanes
  board_made = record { each_job = each_job; each_lane = each_lane; idle = no_lane }

  task_made : (k : ℕ) → k < length (tasks_of lanes jobs) → slice_get (tasks_of lanes jobs) k ≡ slice_get tasks k
  task_made k below =
      let length_is : length (tasks_of lanes jobs) ≡ length jobs = tasks_count lanes jobs in
      let inside : k < length jobs = omega (arith, below, length_is) in
      let x = entry_at jobs k in
      let is : slice_get jobs k ≡ Some x = slice_get-get_or jobs k no_entry inside in
      let e = entry k x is in
      let task = chosen_at parts numbers k in
      let of : task.cpu ≡ x.cpu = sym e.1.cpu in
      let served_there : x.cpu < cpus = subst (λ (n : ℕ). n < cpus) of (served k e.0) in
      let stage : stage_of (lane_of lanes x.cpu).hand x.phase ≡ task.stage = shown x.cpu served_there k x.phase task.stage e.0 of refl e.1.phase in
      let same : task_of lanes x ≡ task =
      ap (λ (s : Stage). record { cpu = x.cpu; program = x.program; budget = x.budget; stage = s }) stage
      ∙ (ap (λ (n : ℕ). record { cpu = n; program = x.program; budget = x.budget; stage = task.stage }) e.1.cpu
      ∙ (ap (λ (n : ℕ). record { cpu = task.cpu; program = n; budget = x.budget; stage = task.stage }) e.1.program
      ∙ ap (λ (n : ℕ). record { cpu = task.cpu; program = task.program; budget = n; stage = task.stage }) e.1.budget))
      in
      slice_get-map (task_of lanes) jobs k ∙ (ap (λ (o : Option Listed). option_map (task_of lanes) o) is ∙ (ap Some same ∙ sym (at k e.0)))

  pub tasks_made : tasks_of lanes jobs ≡ chosen parts numbers
  tasks_made =
      let counted : length (tasks_of lanes jobs) ≡ length (chosen parts numbers) =
      (let n = chosen_count parts numbers in let k : length (tasks_of lanes jobs) ≡ length jobs = tasks_count lanes jobs in omega (arith, n, k, count))
      in
      same_elements no_task (tasks_of lanes jobs) (chosen parts numbers) counted task_made
