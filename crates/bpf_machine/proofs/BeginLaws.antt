-- A CPU's next job is begun.
use Rattle.std.proofs.Common.{◌≡◌, ◌≢◌, ℕ, ◌<◌, ◌≤◌, ◌+◌, Bool, true, false, List, Option, Some, None, is_some, inl, inr, length, refl, sym}
use Rattle.std.proofs.Common.{ap, subst, ◌∙◌, arith}
use Rattle.std.specs.Prelude.{slice_get, slice_set, slice_index_or}
use Rattle.std.proofs.lemmas.Bool.{cases_lt}
use Rattle.std.proofs.lemmas.List.{length-set}
use Rattle.std.proofs.lemmas.Option.{slice_get_within, slice_get_read}
use Rattle.bpf_shared.specs.Store.{put}
use Rattle.bpf_shared.proofs.Puts.{put-same, put-other}
use Rattle.bpf_plain.specs.PlainStore.{Contents, has_cpu, is_running, held_spans}
use Rattle.bpf_shared.specs.declared.events.Span.{Span}
use Rattle.bpf_shared.specs.Passage.{held_without}
use Rattle.bpf_loader.specs.Loaded.{Loaded}
use Rattle.bpf_loader.specs.Places.{IsStart}
use Rattle.bpf_cpu.specs.declared.cpu.Cpu.{Cpu}
use Rattle.bpf_cpu.specs.declared.input.Input.{Input}
use Rattle.bpf_machine.specs.declared.machine.lane.Listed.{Listed}
use Rattle.bpf_machine.specs.declared.machine.lane.Phase.{Phase}
use Rattle.bpf_machine.specs.declared.machine.lane.Phase.TheVariants as phase
use Rattle.bpf_machine.specs.declared.machine.lane.Hand.{Hand}
use Rattle.bpf_machine.specs.declared.machine.lane.Lane.{Lane}
use Rattle.bpf_cpu.specs.State.{start}
use Rattle.bpf_cpu.specs.Step.{IsReady}
use Rattle.bpf_cpu.specs.Task.{Task, InHand}
use Rattle.bpf_machine.specs.Hands.{with_stage}
use Rattle.bpf_machine.specs.Machine.{MachineState}
use Rattle.bpf_machine.specs.Work.{IsNext}
use Rattle.bpf_machine.specs.Private.Lanes.{IsFirstJob, lane_of, stage_of, task_of, tasks_of, FitsLane, IsHand, IsBoard}
use Rattle.bpf_helpers.specs.Held.{AreHeld}
use Rattle.bpf_cpu.proofs.RowLaws.{start_ready}
use Rattle.bpf_cpu.proofs.HeldLaws.{nothing_held, others_without}
use Rattle.bpf_base.proofs.Lists.{slice_get-set_known, slice_get-set_other}
use Rattle.bpf_machine.proofs.BoardLaws.{tasks_changed, board_changed}
use Rattle.bpf_machine.proofs.WorkLaws.{WaitsAt, waits_at, no_hand, is_next, lane_read}

-- a program's first instruction is there to start with
pub ready_to_start : (program : Loaded) (number : ℕ) (input : Input) → IsStart program.instructions 0 → IsReady program (start number input)
ready_to_start program number input starts = start_ready program (start number input) input refl starts

-- the job that a machine shows as a CPU's next is the next of the lists that it shows
pub next_job : (s t : MachineState) (c j : ℕ) → s ≡ t → IsNext t.jobs c j → IsNext s.jobs c j
next_job s t c j same next = subst (λ (m : MachineState). IsNext m.jobs c j) (sym same) next

module _ (store : Contents) (programs : List Loaded) (jobs : List Listed) (lanes : List Lane)
    (board : IsBoard (has_cpu store) (is_running store) (held_spans store) programs jobs lanes)
    (c j : ℕ) (next : IsNext (tasks_of lanes jobs) c j) where
  at : WaitsAt (has_cpu store) (is_running store) (held_spans store) programs jobs lanes board c j next.1.0 next.1.1
  at = waits_at (has_cpu store) (is_running store) (held_spans store) programs jobs lanes board c j next.1.0 next.1.1 next.1.2

  pub lane_within : c < length lanes
  lane_within = at.within

  pub job_within : j < length jobs
  job_within = slice_get_within jobs j at.job at.listed

  none_in_hand : (lane_of lanes c).hand ≡ None
  none_in_hand = no_hand (has_cpu store) (is_running store) (held_spans store) programs jobs lanes board c at.within next.0

  pub serves : has_cpu store c ≡ true
  serves = subst (λ (n : ℕ). has_cpu store n ≡ true) at.of (board.each_job j at.job at.listed).served

  pub idle : is_running store c ≡ false
  idle = (board.each_lane c at.within).runs ∙ ap (λ (o : Option Hand). is_some o) none_in_hand

  module _ (e : Listed) (seen : e ≡ slice_index_or jobs j e) where
    pub listed : slice_get jobs j ≡ Some e
    listed = slice_get_read jobs (length jobs) j e refl job_within seen

    same : at.job ≡ e
    same = let two : Some at.job ≡ Some e = sym at.listed ∙ listed in cc

    of : e.cpu ≡ c
    of = subst (λ (x : Listed). x.cpu ≡ c) same at.of

    pub program_within : e.program < length programs
    program_within = (board.each_job j e listed).program

    pub waiting : (v : Input) × (e.phase ≡ phase.Waiting v) × (v ≡ next.1.1)
    waiting = (at.waits.0, subst (λ (x : Listed). x.phase ≡ phase.Waiting at.waits.0) same at.waits.1, at.waits.2)

    shown : next.1.0 ≡ task_of lanes e
    shown = at.shown ∙ ap (λ (x : Listed). task_of lanes x) same

    module _ (l : Lane) (read : l ≡ slice_index_or lanes c l) (p : Phase) (in_hand : p ≡ phase.InHand) (v : Input)
        (waits : e.phase ≡ phase.Waiting v) (state : Cpu) (starting : state ≡ start c v)
        (others : List Listed) (listed_now : others ≡ slice_set jobs j
        (record { cpu = e.cpu; program = e.program; budget = e.budget; phase = p })) (n : ℕ) (first_after : IsFirstJob others c (j + 1) n) where
      was : lane_of lanes c ≡ l
      was = lane_read lanes c l lane_within read

      started : state ≡ start c next.1.1
      started =
          let two : phase.Waiting v ≡ phase.Waiting waiting.0 = sym waits ∙ waiting.1 in
          let one : v ≡ waiting.0 = cc in
          starting ∙ (ap (start c) one ∙ ap (start c) waiting.2)

      abbrev e' : Listed
      e' = record { cpu = e.cpu; program = e.program; budget = e.budget; phase = p }

      abbrev h' : Hand
      h' = record { job = j; cpu = state; left = e.budget }

      abbrev l' : Lane
      l' = record { hand = Some h'; rest = l.rest; next = n }

      first : IsFirstJob (slice_set jobs j e') c (j + 1) n
      first = subst (λ (xs : List Listed). IsFirstJob xs c (j + 1) n) listed_now first_after

      next_was : l.next ≡ j
      next_was = ap (λ (x : Lane). x.next) (sym was) ∙ is_next (has_cpu store) (is_running store) (held_spans store) programs jobs lanes board c j next

      alone : (h : Hand) → l.hand ≡ Some h → h.job ≡ j
      alone h held = let no : None ≡ Some h = sym none_in_hand ∙ (ap (λ (x : Lane). x.hand) was ∙ held) in cc

      moves : (k : ℕ) (x : Listed) → k ≢ j → slice_get jobs k ≡ Some x → x.cpu ≡ c → (l.next ≤ k → n ≤ k) × (k < l.next → k < n)
      moves k x ne there own = (
        λ above. (let e = next_was in
            elim (cases_lt k n) [ inl below ↦ absurd (first.none k x (omega arith) below (slice_get-set_other jobs j k e' ne ∙ there) own) | inr past ↦ past ]),
        λ below. (let e = next_was in let a = first.above in omega arith),
      )

      pub begun_tasks : tasks_of (slice_set lanes c l') (slice_set jobs j e') ≡ with_stage (tasks_of lanes jobs) j next.1.0
          (InHand (start c next.1.1) next.1.0.budget)
      begun_tasks =
          tasks_changed (has_cpu store) (has_cpu store) (is_running store) (is_running store) (held_spans store) (held_spans store) programs
          jobs lanes c j e e' l l' board listed of was refl refl refl alone moves
          ∙ (ap (λ (q : Phase). with_stage (tasks_of lanes jobs) j (task_of lanes e) (stage_of (Some h') q)) in_hand
          ∙ (ap (λ (s : Cpu). with_stage (tasks_of lanes jobs) j (task_of lanes e) (InHand s e.budget)) started
          ∙ ap (λ (t : Task). with_stage (tasks_of lanes jobs) j t (InHand (start c next.1.1) t.budget)) (sym shown)))

      module _ (after : Contents) (serves_same : has_cpu after ≡ has_cpu store) (running : is_running after ≡ put (is_running store) c true)
          (unreached : held_spans after ≡ held_without (held_spans store) c)
          (program : Loaded) (fetched : program ≡ slice_index_or programs e.program program) (starts : IsStart program.instructions 0) where
        loaded : slice_get programs e.program ≡ Some program
        loaded = slice_get_read programs (length programs) e.program program refl program_within fetched

        held_now : (h : Hand) → Some h' ≡ Some h → IsHand programs (slice_set jobs j e') c h
        held_now h is =
            let same : h' ≡ h = cc in
            let now : IsHand programs (slice_set jobs j e') c h' = record {
              job = e';
              listed = slice_get-set_known jobs j e' e listed;
              of = of;
              in_hand = in_hand;
              number = ap (λ (s : Cpu). s.number) started;
              program = program;
              loaded = loaded;
              ready = subst (λ (s : Cpu). IsReady program s) (sym started) (ready_to_start program c next.1.1 starts);
            } in
            subst (λ (x : Hand). IsHand programs (slice_set jobs j e') c x) same now

        started' : state ≡ start state.number next.1.1
        started' = started ∙ ap (λ (n : ℕ). start n next.1.1) (sym (ap (λ (s : Cpu). s.number) started))

        pub begun_board : IsBoard (has_cpu after) (is_running after) (held_spans after) programs (slice_set jobs j e') (slice_set lanes c l')
        begun_board =
            board_changed (has_cpu store) (has_cpu after) (is_running store) (is_running after) (held_spans store) (held_spans after)
            programs jobs lanes c j e e' l l' board listed of was refl refl refl alone moves
            serves_same
            (λ d ne. ap (λ (f : ℕ → Bool). f d) running ∙ put-other (is_running store) c d true ne)
            (ap (λ (f : ℕ → Bool). f c) running ∙ put-same (is_running store) c c true refl)
            (λ d ne. ap (λ (f : ℕ → Span → Bool). f d) unreached ∙ others_without (held_spans store) c d ne)
            (λ h is. (
            let same : h' ≡ h = cc in
            let none : AreHeld (held_spans after c) state.held = nothing_held (held_spans after c) state next.1.1 started' in
            subst (λ (x : Hand). AreHeld (held_spans after c) x.cpu.held) same none))
            (subst (λ (q : Phase). FitsLane l' j q) (sym in_hand) ((let a = first.above in omega arith), (h', refl, refl)))
            (λ v waits. (let no : phase.InHand ≡ phase.Waiting v = sym in_hand ∙ waits in cc))
            held_now
            (λ x there. first.found x (slice_get-set_other jobs j n e' (λ q. (let a = first.above in let b : n ≡ j = q in absurd (omega arith))) ∙ there))
            (subst (λ (m : ℕ). n ≤ m) (length-set jobs j e') first.within)
