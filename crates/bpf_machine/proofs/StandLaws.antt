-- What is in a machine fits each other.
use Rattle.std.proofs.Common.{◌≡◌, ℕ, ◌+◌, ◌-◌, ◌<◌, ◌≤◌, false, List, [], ◌∷◌, ◌++◌, Option, Some, is_some, inl, inr, length, refl, sym, ap, subst, ◌∙◌, arith}
use Rattle.std.specs.Prelude.{slice_get, slice_index_or}
use Rattle.std.proofs.lemmas.Bool.{cases_lt}
use Rattle.std.proofs.Math.ListN.{get_or-append}
use Rattle.std.proofs.lemmas.List.{get_or-append_right}
use Rattle.std.proofs.lemmas.Option.{slice_get_read}
use Rattle.bpf_plain.specs.PlainStore.{Contents, has_cpu, is_running, held_spans}
use Rattle.bpf_loader.specs.Loaded.{Loaded}
use Rattle.bpf_helpers.specs.Held.{AreHeld}
use Rattle.bpf_cpu.specs.Input.{IsShort}
use Rattle.bpf_cpu.specs.declared.cpu.Cpu.{Cpu}
use Rattle.bpf_cpu.specs.declared.input.Input.{Input}
use Rattle.bpf_cpu.specs.Step.{IsReady}
use Rattle.bpf_machine.specs.declared.machine.lane.Listed.{Listed}
use Rattle.bpf_machine.specs.declared.machine.lane.Phase.{Phase}
use Rattle.bpf_machine.specs.declared.machine.lane.Phase.TheVariants as phase
use Rattle.bpf_machine.specs.declared.machine.lane.Hand.{Hand}
use Rattle.bpf_machine.specs.declared.machine.lane.Lane.{Lane}
use Rattle.bpf_cpu.specs.Task.{Stage, Task, Waiting, InHand}
use Rattle.bpf_machine.specs.Hands.{IsAt, IsFree}
use Rattle.bpf_machine.specs.Work.{HasInHand}
use Rattle.bpf_machine.specs.Listings.{Listing}
use Rattle.bpf_machine.specs.Machine.{MachineState}
use Rattle.bpf_machine.specs.Hashes.{mix, stage_hash, task_hash}
use Rattle.bpf_machine.specs.Parts.{FitsHand, CanStand}
use Rattle.bpf_machine.specs.Private.Lanes.{lane_of, no_lane, stage_of, tasks_of, FitsLane, IsBoard}
use Rattle.bpf_machine.specs.Private.Parts.{IsReadAs}
use Rattle.bpf_machine.proofs.HostLaws.{tasks_count}
use Rattle.bpf_machine.proofs.WorkLaws.{served, behind, hand_at, waits_at, no_hand, lane_read, shows_job}

module _ (store : Contents) (programs : List Loaded) (jobs : List Listed) (lanes : List Lane) (lists : Option (List Listing))
    (board : IsBoard (has_cpu store) (is_running store) (held_spans store) programs jobs lanes) where
  abbrev pub m : MachineState
  m = record { store = store; programs = programs; jobs = tasks_of lanes jobs; lists = lists }

  loaded : (j : ℕ) (task : Task) → slice_get m.jobs j ≡ Some task → task.program < length programs
  loaded j task at =
      let b = behind jobs lanes task.cpu j task task.stage (record { listed = at; of = refl; at = refl }) in
      subst (λ (t : Task). t.program < length programs) (sym b.shown) (board.each_job j b.job b.listed).program

  short : (c j : ℕ) (task : Task) (input : Input) → IsAt m.jobs c j task (Waiting input) → IsShort input
  short c j task input at =
      let w = waits_at (has_cpu store) (is_running store) (held_spans store) programs jobs lanes board c j task input at in
      subst (λ (i : Input). IsShort i) w.waits.2 ((board.each_job j w.job w.listed).short w.waits.0 w.waits.1)

  hand : (c j : ℕ) (task : Task) (state : Cpu) (left : ℕ) → IsAt m.jobs c j task (InHand state left) → FitsHand m c task state
  hand c j task state left at =
      let h = hand_at (has_cpu store) (is_running store) (held_spans store) programs jobs lanes board c j task state left at in
      let lane = board.each_lane c h.within in
      let there : slice_get jobs j ≡ Some h.is.job = ap (λ (n : ℕ). slice_get jobs n) (sym h.told) ∙ h.is.listed in
      let same : h.is.job ≡ h.job = (let two : Some h.is.job ≡ Some h.job = sym there ∙ h.listed in cc) in
      let numbered : task.program ≡ h.is.job.program = ap (λ (t : Task). t.program) h.shown ∙ ap (λ (x : Listed). x.program) (sym same) in
      record {
        number = ap (λ (x : Cpu). x.number) (sym h.state_is) ∙ h.is.number;
        program = h.is.program;
        loaded = ap (λ (n : ℕ). slice_get programs n) numbered ∙ h.is.loaded;
        ready = subst (λ (x : Cpu). IsReady h.is.program x) h.state_is h.is.ready;
        held = subst (λ (x : Cpu). AreHeld (held_spans store c) x.held) h.state_is (lane.held h.hand h.held);
        runs = lane.runs ∙ ap (λ (o : Option Hand). is_some o) h.held;
      }

  one : (c j k : ℕ) → HasInHand m.jobs c j → HasInHand m.jobs c k → j ≡ k
  one c j k first second =
      let h = hand_at (has_cpu store) (is_running store) (held_spans store) programs jobs lanes board c j first.0 first.1 first.2 first.3 in
      let g = hand_at (has_cpu store) (is_running store) (held_spans store) programs jobs lanes board c k second.0 second.1 second.2 second.3 in
      let same : h.hand ≡ g.hand = (let two : Some h.hand ≡ Some g.hand = sym h.held ∙ g.held in cc) in
      sym h.told ∙ (ap (λ (x : Hand). x.job) same ∙ g.told)

  idle : (c : ℕ) → IsFree m.jobs c → is_running store c ≡ false
  idle c free = elim (cases_lt c (length lanes)) [
    | inl within ↦
        let none = no_hand (has_cpu store) (is_running store) (held_spans store) programs jobs lanes board c within free in
        (board.each_lane c within).runs ∙ ap (λ (o : Option Hand). is_some o) none
    | inr past ↦ board.idle c (omega (arith, past))
  ]

  waits_behind : (c j k : ℕ) (later : Task) (l : Lane) (p : Phase) (o : Option Hand) → l.next ≤ j → j < k → FitsLane l k p → (more : Input)
      × (stage_of o p ≡ Waiting more)
  waits_behind c j k later l (phase.Waiting v) o before behind fits = (v, refl)
  waits_behind c j k later l phase.InHand o before behind fits = let less : k < l.next = fits.0 in absurd (omega arith)
  waits_behind c j k later l (phase.Ended outcome) o before behind fits = let less : k < l.next = fits in absurd (omega arith)

  order : (c j k : ℕ) (task later : Task) (input : Input) → IsAt m.jobs c j task (Waiting input) → j < k → slice_get m.jobs k ≡ Some later →
      later.cpu ≡ c → (more : Input) × (later.stage ≡ Waiting more)
  order c j k task later input at less there of =
      let w = waits_at (has_cpu store) (is_running store) (held_spans store) programs jobs lanes board c j task input at in
      let b = behind jobs lanes c k later later.stage (record { listed = there; of = of; at = refl }) in
      let lane = lane_of lanes c in
      let fits : FitsLane lane k b.job.phase = subst (λ (n : ℕ). FitsLane (lane_of lanes n) k b.job.phase) b.of (board.each_job k b.job b.listed).fits in
      let stage = waits_behind c j k later lane b.job.phase (lane_of lanes b.job.cpu).hand w.waits.3 less fits in
      (stage.0, ap (λ (t : Task). t.stage) b.shown ∙ stage.1)

  pub stands : CanStand m
  stands = record {
    served = served (has_cpu store) (is_running store) (held_spans store) programs jobs lanes board;
    loaded = loaded;
    short = short;
    hand = hand;
    one = one;
    idle = idle;
    order = order;
  }

  -- the lane of a job that was read
  pub entry_inside : (j : ℕ) (e : Listed) → j < length jobs → e ≡ slice_index_or jobs j e → e.cpu < length lanes
  entry_inside j e inside read = (board.each_job j e (slice_get_read jobs (length jobs) j e refl inside read)).within

-- what a job and its lane, which were read, show
pub read_task : (jobs : List Listed) (lanes : List Lane) (j : ℕ) (e : Listed) (l : Lane) (s : Stage) → j < length jobs → e ≡ slice_index_or
    jobs j e → e.cpu < length lanes → l ≡ slice_index_or lanes e.cpu l
    → s ≡ stage_of l.hand e.phase → slice_get (tasks_of lanes jobs) j ≡ Some (record { cpu = e.cpu; program = e.program; budget = e.budget; stage = s })
read_task jobs lanes j e l s inside read within lane is =
    let at = shows_job jobs lanes j e (slice_get_read jobs (length jobs) j e refl inside read) in
    let there : lane_of lanes e.cpu ≡ l = lane_read lanes e.cpu l within lane in
    let same : stage_of (lane_of lanes e.cpu).hand e.phase ≡ s = ap (λ (x : Lane). stage_of x.hand e.phase) there ∙ sym is in
    at ∙ ap (λ (x : Stage). Some (record { cpu = e.cpu; program = e.program; budget = e.budget; stage = x })) same

pub job_inside : (lanes : List Lane) (jobs : List Listed) (m : MachineState) (store : Contents) (programs : List Loaded)
    (lists : Option (List Listing)) (j : ℕ) → record { store = store; programs = programs; jobs = tasks_of lanes jobs; lists = lists } ≡ m →
    j < length m.jobs → j < length jobs
job_inside lanes jobs m store programs lists j same less =
    let there : j < length (tasks_of lanes jobs) = subst (λ (x : MachineState). j < length x.jobs) (sym same) less in
    subst (λ (n : ℕ). j < n) (tasks_count lanes jobs) there

pub read_as : (jobs : List Listed) (lanes : List Lane) (j : ℕ) (e : Listed) (l : Lane) (task : Task) → j < length jobs → e ≡ slice_index_or
    jobs j e → e.cpu < length lanes → l ≡ slice_index_or lanes e.cpu l
    → IsReadAs l e task → slice_get (tasks_of lanes jobs) j ≡ Some task
read_as jobs lanes j e l task inside read within lane is =
    read_task jobs lanes j e l task.stage inside read within lane is.stage
    ∙ (ap (λ (n : ℕ). Some (record { cpu = n; program = e.program; budget = e.budget; stage = task.stage })) is.cpu
    ∙ (ap (λ (n : ℕ). Some (record { cpu = task.cpu; program = n; budget = e.budget; stage = task.stage })) is.program
    ∙ ap (λ (n : ℕ). Some (record { cpu = task.cpu; program = task.program; budget = n; stage = task.stage })) is.budget))

-- and back
pub read_back : (jobs : List Listed) (lanes : List Lane) (j : ℕ) (e : Listed) (l : Lane) (task : Task) → j < length jobs → e ≡
    slice_index_or jobs j e → e.cpu < length lanes → l ≡ slice_index_or lanes e.cpu l
    → slice_get (tasks_of lanes jobs) j ≡ Some task → IsReadAs l e task
read_back jobs lanes j e l task inside read within lane at =
    let here : Task = record { cpu = e.cpu; program = e.program; budget = e.budget; stage = stage_of l.hand e.phase } in
    let two : Some here ≡ Some task = sym (read_task jobs lanes j e l (stage_of l.hand e.phase) inside read within lane refl) ∙ at in
    let one : here ≡ task = cc in
    record {
      cpu = ap (λ (t : Task). t.cpu) one;
      program = ap (λ (t : Task). t.program) one;
      budget = ap (λ (t : Task). t.budget) one;
      stage
          = sym (ap (λ (t : Task). t.stage) one);
    }

pub hashed_as : (l : Lane) (e : Listed) (task : Task) → IsReadAs l e task → stage_hash (mix e.cpu e.program) (stage_of l.hand e.phase) ≡ task_hash task
hashed_as l e task is =
    ap (λ (n : ℕ). stage_hash (mix n e.program) (stage_of l.hand e.phase)) is.cpu
    ∙ (ap (λ (n : ℕ). stage_hash (mix task.cpu n) (stage_of l.hand e.phase)) is.program ∙ ap (stage_hash (mix task.cpu task.program)) (sym is.stage))
