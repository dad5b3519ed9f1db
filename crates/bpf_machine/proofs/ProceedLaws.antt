-- The job in a CPU's hand goes on, or ends.
use Rattle.std.proofs.Common.{◌≡◌, ◌≢◌, inl, inr, ℕ, suc, ◌+◌, ◌<◌, ◌≤◌, arith, Bool, true, false, List, Option, Some, None, is_some}
use Rattle.std.proofs.Common.{length, refl, sym, ap, subst, ◌∙◌}
use Rattle.std.specs.Prelude.{max, slice_get, slice_set, slice_index_or}
use Rattle.std.proofs.lemmas.Bool.{ltb-true}
use Rattle.std.proofs.lemmas.Option.{slice_get_within, slice_get_read, get_or_from_slice_get}
use Rattle.bpf_shared.proofs.Puts.{put-same, put-other}
use Rattle.bpf_shared.specs.declared.events.Event.TheVariants.{End}
use Rattle.bpf_shared.specs.Store.{Plain, put}
use Rattle.bpf_shared.specs.Choice.{PlainlyAllowed}
use Rattle.bpf_shared.specs.Sound.{IsSoundStore}
use Rattle.bpf_plain.specs.PlainStore.{Contents, has_cpu, is_running, held_spans}
use Rattle.bpf_plain.specs.PlainStore as plain_store
use Rattle.bpf_machine.specs.declared.machine.Turn.TheVariants.{Ran}
use Rattle.bpf_machine.specs.declared.machine.Turn.TheVariants as turn
use Rattle.bpf_loader.specs.Loaded.{Loaded}
use Rattle.bpf_cpu.specs.declared.cpu.Cpu.{Cpu}
use Rattle.bpf_cpu.specs.declared.outcome.Outcome.{Outcome}
use Rattle.bpf_machine.specs.declared.machine.lane.Listed.{Listed}
use Rattle.bpf_machine.specs.declared.machine.lane.Phase.{Phase}
use Rattle.bpf_machine.specs.declared.machine.lane.Phase.TheVariants as phase
use Rattle.bpf_machine.specs.declared.machine.lane.Hand.{Hand}
use Rattle.bpf_machine.specs.declared.machine.lane.Lane.{Lane}
use Rattle.bpf_helpers.specs.Held.{AreHeld}
use Rattle.bpf_cpu.specs.Saved.{IsOfOneJob}
use Rattle.bpf_cpu.specs.Step.{IsReady}
use Rattle.bpf_cpu.specs.Task.{Stage, Task, InHand, Ended}
use Rattle.bpf_machine.specs.Hands.{with_stage, IsAt, IsFree}
use Rattle.bpf_machine.specs.Listings.{Listing}
use Rattle.std.proofs.lemmas.List.{get_or-set_same, set-get_or}
use Rattle.bpf_shared.specs.declared.events.Span.{Span}
use Rattle.bpf_machine.specs.Private.Lanes.{lane_of, no_lane, stage_of, task_of, tasks_of, FitsLane, IsHand, IsBoard}
use Rattle.bpf_machine.specs.Schedule.{World, Advances, Lists, GoesOn}
use Rattle.bpf_machine.specs.Machine.{MachineState, Shows}
use Rattle.bpf_machine.specs.Work.{HasInHand}
use Rattle.bpf_machine.specs.Rounds.{RunsRounds}
use Rattle.bpf_machine.specs.Questions.{turns_before_end, turns_left}
use Rattle.bpf_machine.specs.Private.Turns.{IsAlone, Lasts, StaysOrEnds}
use Rattle.bpf_machine.specs.Private.KeyLists.{HasJob}
use Rattle.bpf_machine.specs.Patient.{Refills}
use Rattle.bpf_machine.specs.Headways.{TakesQuietTurns, GoesAhead, IsOnlyOne}
use Rattle.bpf_machine.proofs.ListLaws.{with_end}
use Rattle.bpf_machine.proofs.OwnEvents.{shown_within}
use Rattle.bpf_machine.proofs.AloneLaws.{rounds_left}
use Rattle.bpf_machine.proofs.FallLaws.{summed}
use Rattle.bpf_base.proofs.Lists.{slice_get-set_known}
use Rattle.bpf_machine.proofs.BoardLaws.{tasks_changed, board_changed}
use Rattle.bpf_machine.proofs.WorkLaws.{HandAt, hand_at, behind, shown_hand, shows_job, lane_read}

-- the job that a machine shows in hand is one of the lists that it shows
pub job_in_hand : (s t : MachineState) (c j : ℕ) → s ≡ t → HasInHand t.jobs c j → HasInHand s.jobs c j
job_in_hand s t c j same has = subst (λ (m : MachineState). HasInHand m.jobs c j) (sym same) has

module _ (store : Contents) (programs : List Loaded) (jobs : List Listed) (lanes : List Lane)
    (board : IsBoard (has_cpu store) (is_running store) (held_spans store) programs jobs lanes)
    (c j : ℕ) (found : HasInHand (tasks_of lanes jobs) c j) where
  abbrev task : Task
  task = found.0

  abbrev state : Cpu
  state = found.1

  abbrev left : ℕ
  left = found.2

  in_hand : IsAt (tasks_of lanes jobs) c j task (InHand state left)
  in_hand = found.3

  at : HandAt (has_cpu store) (is_running store) (held_spans store) programs jobs lanes board c j task state left
  at = hand_at (has_cpu store) (is_running store) (held_spans store) programs jobs lanes board c j task state left in_hand

  pub lane_within : c < length lanes
  lane_within = at.within

  pub job_within : j < length jobs
  job_within = slice_get_within jobs j at.job at.listed

  pub serves : has_cpu store c ≡ true
  serves = subst (λ (n : ℕ). has_cpu store n ≡ true) at.of (board.each_job j at.job at.listed).served

  pub running : is_running store c ≡ true
  running = (board.each_lane c at.within).runs ∙ ap (λ (o : Option Hand). is_some o) at.held

  -- ---- what is read of it: its lane, its hand, its place in the list, its program
  module _ (l : Lane) (read : l ≡ slice_index_or lanes c l) where
    was : lane_of lanes c ≡ l
    was = lane_read lanes c l lane_within read

    held : l.hand ≡ Some at.hand
    held = ap (λ (x : Lane). x.hand) (sym was) ∙ at.held

    pub never_empty : l.hand ≡ None → ⊥
    never_empty none = let no : None ≡ Some at.hand = sym none ∙ held in cc

    module _ (h : Hand) (has : l.hand ≡ Some h) where
      hand_same : at.hand ≡ h
      hand_same = let two : Some at.hand ≡ Some h = sym held ∙ has in cc

      pub told : h.job ≡ j
      told = subst (λ (x : Hand). x.job ≡ j) hand_same at.told

      pub state_is : h.cpu ≡ state
      state_is = subst (λ (x : Hand). x.cpu ≡ state) hand_same at.state_is

      pub left_is : h.left ≡ left
      left_is = subst (λ (x : Hand). x.left ≡ left) hand_same at.left_is

      pub is : IsHand programs jobs c h
      is = subst (λ (x : Hand). IsHand programs jobs c x) hand_same at.is

      pub number : h.cpu.number ≡ c
      number = is.number

      module _ (e : Listed) (seen : e ≡ slice_index_or jobs j e) where
        pub listed : slice_get jobs j ≡ Some e
        listed = slice_get_read jobs (length jobs) j e refl job_within seen

        same : at.job ≡ e
        same = let two : Some at.job ≡ Some e = sym at.listed ∙ listed in cc

        of : e.cpu ≡ c
        of = subst (λ (x : Listed). x.cpu ≡ c) same at.of

        pub program_within : e.program < length programs
        program_within = (board.each_job j e listed).program

        pub shown : task ≡ task_of lanes e
        shown = at.shown ∙ ap (λ (x : Listed). task_of lanes x) same

        hand_job : is.job ≡ e
        hand_job = let two : Some is.job ≡ Some e = sym is.listed ∙ (ap (λ (n : ℕ). slice_get jobs n) told ∙ listed) in cc

        phase_was : e.phase ≡ phase.InHand
        phase_was = subst (λ (x : Listed). x.phase ≡ phase.InHand) hand_job is.in_hand

        before : j < l.next
        before =
            let fits : FitsLane (lane_of lanes e.cpu) j phase.InHand = subst (λ (p : Phase). FitsLane (lane_of lanes e.cpu) j p) phase_was
            (board.each_job j e listed).fits in
            subst (λ (x : Lane). j < x.next) was (subst (λ (n : ℕ). j < (lane_of lanes n).next) of fits.0)

        alone : (x : Hand) → l.hand ≡ Some x → x.job ≡ j
        alone x there = let two : Some h ≡ Some x = sym has ∙ there in let one : h ≡ x = cc in subst (λ (y : Hand). y.job ≡ j) one told

        next_of : (x : Listed) → slice_get jobs l.next ≡ Some x → x.cpu ≡ c
        next_of x there = (board.each_lane c at.within).next x (ap (λ (y : Lane). slice_get jobs y.next) was ∙ there)

        inside : l.next ≤ length jobs
        inside = subst (λ (y : Lane). y.next ≤ length jobs) was (board.each_lane c at.within).within

        -- its program, where it isn't read
        pub program_there : is.program ≡ slice_index_or programs e.program is.program
        program_there = sym (get_or_from_slice_get programs e.program is.program is.program
            (ap (λ (x : Listed). slice_get programs x.program) (sym hand_job) ∙ is.loaded))

        module _ (program : Loaded) (fetched : program ≡ slice_index_or programs e.program program) where
          loaded : slice_get programs e.program ≡ Some program
          loaded = slice_get_read programs (length programs) e.program program refl program_within fetched

          program_same : is.program ≡ program
          program_same = let two : Some is.program ≡ Some program = sym is.loaded ∙ (ap (λ (x : Listed). slice_get programs x.program) hand_job ∙ loaded) in cc

          pub held_now : AreHeld (held_spans store c) h.cpu.held
          held_now = (board.each_lane c at.within).held h (ap (λ (x : Lane). x.hand) was ∙ has)

          pub ready : IsReady program h.cpu
          ready = subst (λ (p : Loaded). IsReady p h.cpu) program_same is.ready

          loaded_there : (w : World) → w.programs ≡ programs → slice_get w.programs task.program ≡ Some program
          loaded_there w same = ap (λ (ps : List Loaded). slice_get ps task.program) same ∙ (ap (λ (t : Task). slice_get programs t.program) shown ∙ loaded)

          advances : (s : Plain) (end : Option Outcome) (t : Plain) (new : Cpu) (rest : ℕ) → Advances program h.cpu.number s h.cpu h.left
              end t new rest → Advances program c s state left end t new rest
          advances s end t new rest a =
              subst (λ (n : ℕ). Advances program c s state n end t new rest) left_is
              (subst (λ (x : Cpu). Advances program c s x h.left end t new rest) state_is
              (subst (λ (n : ℕ). Advances program n s h.cpu h.left end t new rest) number a))

          lasts_here : (turns : ℕ) (s t : Plain) (end : Outcome) → Lasts program h.cpu.number turns s h.cpu h.left end t → Lasts program c
              turns s state left end t
          lasts_here turns s t end a =
              subst (λ (n : ℕ). Lasts program c turns s state n end t) left_is
              (subst (λ (x : Cpu). Lasts program c turns s x h.left end t) state_is (subst (λ (n : ℕ). Lasts program n turns s h.cpu h.left end t) number a))

          -- it stays in hand
          module _ (h' : Hand) (job : h'.job ≡ h.job) (number_same : h'.cpu.number ≡ h.cpu.number) (still : IsReady program h'.cpu) where
            abbrev l' : Lane
            l' = record { hand = Some h'; rest = l.rest; next = l.next }

            pub kept_tasks : tasks_of (slice_set lanes c l') (slice_set jobs j e) ≡ with_stage (tasks_of lanes jobs) j task (InHand h'.cpu h'.left)
            kept_tasks =
                tasks_changed (has_cpu store) (has_cpu store) (is_running store) (is_running store) (held_spans store) (held_spans store)
                programs jobs lanes c j e e l l' board listed of was refl refl refl alone (λ k x ne there own. (λ a. a, λ b. b))
                ∙ (ap (λ (p : Phase). with_stage (tasks_of lanes jobs) j (task_of lanes e) (stage_of (Some h') p)) phase_was
                ∙ ap (λ (t : Task). with_stage (tasks_of lanes jobs) j t (InHand h'.cpu h'.left)) (sym shown))

            pub kept_stays : IsOfOneJob h.cpu h'.cpu → StaysOrEnds (tasks_of lanes jobs) c j (tasks_of (slice_set lanes c l') (slice_set jobs j e))
            kept_stays one = (task, state, left, in_hand, inl (h'.cpu, h'.left, subst (λ (x : Cpu). IsOfOneJob x h'.cpu) state_is one, kept_tasks))

            pub kept_board : (after : Contents) → has_cpu after ≡ has_cpu store → is_running after ≡ is_running store →
                ((d : ℕ) → d ≢ c → held_spans after d ≡ held_spans store d) → AreHeld (held_spans after c) h'.cpu.held → IsBoard
                (has_cpu after) (is_running after) (held_spans after) programs (slice_set jobs j e) (slice_set lanes c l')
            kept_board after serves_same running_same unreached held_still =
                board_changed (has_cpu store) (has_cpu after) (is_running store) (is_running after) (held_spans store) (held_spans after)
                programs jobs lanes c j e e l l' board listed of was refl refl refl alone (λ k x ne there own. (λ a. a, λ b. b))
                serves_same
                (λ d ne. ap (λ (f : ℕ → Bool). f d) running_same)
                (ap (λ (f : ℕ → Bool). f c) running_same ∙ running)
                unreached
                (λ x there. (let one : h' ≡ x = cc in subst (λ (y : Hand). AreHeld (held_spans after c) y.cpu.held) one held_still))
                (subst (λ (p : Phase). FitsLane l' j p) (sym phase_was) (before, (h', refl, job ∙ told)))
                (λ v waits. (let no : phase.InHand ≡ phase.Waiting v = sym phase_was ∙ waits in cc))
                (λ x there. (
                let one : h' ≡ x = cc in
                let now : IsHand programs (slice_set jobs j e) c h' = record {
                  job = e;
                  listed = ap (λ (n : ℕ). slice_get (slice_set jobs j e) n) (job ∙ told) ∙ slice_get-set_known jobs j e e listed;
                  of = of;
                  in_hand = phase_was;
                  number = number_same ∙ number;
                  program = program;
                  loaded = loaded;
                  ready = still;
                } in
                subst (λ (y : Hand). IsHand programs (slice_set jobs j e) c y) one now))
                next_of
                inside

            -- in each world that the machine shows, the CPU goes on with the job, which stays in hand
            pub proceeds_kept : (lists : Option (List Listing)) (after : Contents) →
                ((s : Plain) → IsSoundStore s → plain_store.StandsFor store s → (t : Plain) × Advances program h.cpu.number s h.cpu h.left
                None t h'.cpu h'.left × IsSoundStore t × plain_store.StandsFor after t)
                → (w : World) → Shows (record { store = store; programs = programs; jobs = tasks_of lanes jobs; lists = lists }) w
                → (z : World) × GoesOn w c j task state left Ran z × Shows
                (record { store = after; programs = programs; jobs = tasks_of (slice_set lanes c l') (slice_set jobs j e); lists = lists }) z
            proceeds_kept lists after advance w shows =
                let r = advance w.store shows.sound shows.store in
                let z : World = record w { store = r.0; jobs = with_stage w.jobs j task (InHand h'.cpu h'.left) } in (
                  z,
                  (program, None, r.0, h'.cpu, h'.left, loaded_there w shows.programs, advances w.store None r.0 h'.cpu h'.left r.1, (refl, refl)),
                  record {
                    store = r.3;
                    sound = r.2;
                    programs = shows.programs;
                    jobs = ap
                        (λ (ts : List Task). with_stage ts j task (InHand h'.cpu h'.left)) shows.jobs ∙ sym kept_tasks;
                    lists = shows.lists;
                  },
                )

            -- ---- the store is as it was, and what the CPU holds
            unchanged : slice_set jobs j e ≡ jobs
            unchanged = ap (λ (x : Listed). slice_set jobs j x) seen ∙ set-get_or jobs j e

            held_still : h'.cpu.held ≡ h.cpu.held → AreHeld (held_spans store c) h'.cpu.held
            held_still same_held = subst (λ (spans : List Span). AreHeld (held_spans store c) spans) (sym same_held) held_now

            still_kept : h'.cpu.held ≡ h.cpu.held → IsBoard (has_cpu store) (is_running store) (held_spans store) programs
                (slice_set jobs j e) (slice_set lanes c l')
            still_kept same_held = kept_board store refl refl (λ d ne. refl) (held_still same_held)

            pub ahead_board : h'.cpu.held ≡ h.cpu.held → IsBoard (has_cpu store) (is_running store) (held_spans store) programs jobs (slice_set lanes c l')
            ahead_board same_held = subst (λ (js : List Listed). IsBoard (has_cpu store) (is_running store) (held_spans store) programs js
                (slice_set lanes c l')) unchanged (still_kept same_held)

            -- no other job of the CPU is in hand
            kept_one : (after : Contents) → IsBoard (has_cpu after) (is_running after) (held_spans after) programs (slice_set jobs j e)
                (slice_set lanes c l') → IsOnlyOne (tasks_of (slice_set lanes c l') (slice_set jobs j e)) c j
            kept_one after board_still k has =
                let there = hand_at (has_cpu after) (is_running after) (held_spans after) programs (slice_set jobs j e)
                (slice_set lanes c l') board_still c k has.0 has.1 has.2 has.3 in
                let lane : lane_of (slice_set lanes c l') c ≡ l' = get_or-set_same lanes c l' no_lane lane_within in
                let two : Some h' ≡ Some there.hand = sym (ap (λ (x : Lane). x.hand) lane) ∙ there.held in
                let one : h' ≡ there.hand = cc in
                sym there.told ∙ (ap (λ (x : Hand). x.job) (sym one) ∙ (job ∙ told))

            -- it takes turns that no store sees
            kept_goes : (lists : Option (List Listing)) (n : ℕ) → TakesQuietTurns program h.cpu.number n h.cpu h.left h'.cpu h'.left
                → GoesAhead (record { store = store; programs = programs; jobs = tasks_of lanes jobs; lists = lists }) c j n
                (record { store = store; programs = programs; jobs = tasks_of (slice_set lanes c l') (slice_set jobs j e); lists = lists })
            kept_goes lists n made =
                let here : TakesQuietTurns program c n state left h'.cpu h'.left =
                subst (λ (k : ℕ). TakesQuietTurns program c n state k h'.cpu h'.left) left_is
                (subst (λ (x : Cpu). TakesQuietTurns program c n x h.left h'.cpu h'.left) state_is
                (subst (λ (k : ℕ). TakesQuietTurns program k n h.cpu h.left h'.cpu h'.left) number made))
                in (
                  task,
                  state,
                  left,
                  program,
                  h'.cpu,
                  h'.left,
                  in_hand,
                  ap (λ (t : Task). slice_get programs t.program) shown ∙ loaded,
                  here,
                  ap (λ (ts : List Task). record { store = store; programs = programs; jobs = ts; lists = lists }) kept_tasks,
                )

            -- it has more steps left
            kept_refills : (lists : Option (List Listing)) (more : ℕ) → h'.cpu ≡ h.cpu → h'.left ≡ h.left + more → h.left + more ≡ max h.left e.budget
                → Refills (record { store = store; programs = programs; jobs = tasks_of lanes jobs; lists = lists }) c j
                (record { store = store; programs = programs; jobs = tasks_of (slice_set lanes c l') (slice_set jobs j e); lists = lists })
            kept_refills lists more same grown whole =
                let at_stage : Stage → List Task = λ s. with_stage (tasks_of lanes jobs) j task s in
                let cpus : at_stage (InHand h'.cpu h'.left) ≡ at_stage (InHand state h'.left) = ap
                (λ (x : Cpu). at_stage (InHand x h'.left)) (same ∙ state_is) in
                let lefts : at_stage (InHand state h'.left) ≡ at_stage (InHand state (left + more)) = ap
                (λ (n : ℕ). at_stage (InHand state n)) (grown ∙ ap (λ (n : ℕ). n + more) left_is) in (
                  task,
                  state,
                  left,
                  more,
                  in_hand,
                  subst (λ (t : Task). left + more ≡ max left t.budget) (sym shown) (subst (λ (n : ℕ). n + more ≡ max n e.budget) left_is whole),
                  ap (λ (ts : List Task). record { store = store; programs = programs; jobs = ts; lists = lists }) (kept_tasks ∙ (cpus ∙ lefts)),
                )

            pub refills : (lists : Option (List Listing)) (view : MachineState) → record
                { store = store; programs = programs; jobs = tasks_of lanes jobs; lists = lists } ≡ view → (more : ℕ) → h'.cpu ≡ h.cpu →
                h'.left ≡ h.left + more → h.left + more ≡ max h.left e.budget
                → Refills view c j (record { store = store; programs = programs; jobs = tasks_of (slice_set lanes c l') jobs; lists = lists })
            refills lists view view_is more same grown whole =
                let new : List Listed → MachineState = λ js. record
                { store = store; programs = programs; jobs = tasks_of (slice_set lanes c l') js; lists = lists } in
                subst (λ (s : MachineState). Refills s c j (new jobs)) view_is
                (subst (λ (js : List Listed). Refills (record {
                  store = store;
                  programs = programs;
                  jobs = tasks_of lanes jobs;
                  lists =
                      lists;
                }) c j (new js)) unchanged (kept_refills lists more same grown whole))

            pub ahead_one : h'.cpu.held ≡ h.cpu.held → IsOnlyOne (tasks_of (slice_set lanes c l') jobs) c j
            ahead_one same_held = subst (λ (js : List Listed). IsOnlyOne (tasks_of (slice_set lanes c l') js) c j) unchanged
                (kept_one store (still_kept same_held))

            pub ahead_goes : (lists : Option (List Listing)) (view : MachineState) → record
                { store = store; programs = programs; jobs = tasks_of lanes jobs; lists = lists } ≡ view → (n : ℕ) → TakesQuietTurns program
                h.cpu.number n h.cpu h.left h'.cpu h'.left
                → GoesAhead view c j n (record { store = store; programs = programs; jobs = tasks_of (slice_set lanes c l') jobs; lists = lists })
            ahead_goes lists view view_is n made =
                let new : List Listed → MachineState = λ js. record
                { store = store; programs = programs; jobs = tasks_of (slice_set lanes c l') js; lists = lists } in
                subst (λ (s : MachineState). GoesAhead s c j n (new jobs)) view_is
                (subst (λ (js : List Listed). GoesAhead (record {
                  store = store;
                  programs = programs;
                  jobs = tasks_of lanes jobs;
                  lists =
                      lists;
                }) c j n (new js)) unchanged (kept_goes lists n made))

          -- it ends, and the lane is empty
          module _ (outcome : Outcome) (k : Lane) (down : k ≡ record { hand = None; rest = k.rest; next = l.next }) where
            abbrev e'' : Listed
            e'' = record { cpu = e.cpu; program = e.program; budget = e.budget; phase = phase.Ended outcome }

            abbrev l'' : Lane
            l'' = record { hand = None; rest = k.rest; next = l.next }

            pub ended_tasks : tasks_of (slice_set lanes c k) (slice_set jobs j e'') ≡ with_stage (tasks_of lanes jobs) j task (Ended outcome)
            ended_tasks =
                ap (λ (x : Lane). tasks_of (slice_set lanes c x) (slice_set jobs j e'')) down
                ∙ tasks_changed (has_cpu store) (has_cpu store) (is_running store) (is_running store) (held_spans store) (held_spans store)
                programs jobs lanes c j e e'' l l'' board listed of was refl refl refl alone (λ k x ne there own. (λ a. a, λ b. b))
                ∙ ap (λ (t : Task). with_stage (tasks_of lanes jobs) j t (Ended outcome)) (sym shown)

            pub ended_stays : (last : List Task) → last ≡ tasks_of (slice_set lanes c k) (slice_set jobs j e'') → StaysOrEnds (tasks_of lanes jobs) c j last
            ended_stays last is = (task, state, left, in_hand, inr (outcome, is ∙ ended_tasks))

            pub ended_board : (after : Contents) → has_cpu after ≡ has_cpu store → is_running after ≡ put (is_running store) c false →
                ((d : ℕ) → d ≢ c → held_spans after d ≡ held_spans store d) → IsBoard (has_cpu after) (is_running after) (held_spans after)
                programs (slice_set jobs j e'') (slice_set lanes c k)
            ended_board after serves_same stopped unreached =
                subst (λ (x : Lane). IsBoard (has_cpu after) (is_running after) (held_spans after) programs (slice_set jobs j e'')
                (slice_set lanes c x)) (sym down)
                (board_changed (has_cpu store) (has_cpu after) (is_running store) (is_running after) (held_spans store) (held_spans after)
                programs jobs lanes c j e e'' l l'' board listed of was refl refl refl alone (λ k x ne there own. (λ a. a, λ b. b))
                serves_same
                (λ d ne. ap (λ (f : ℕ → Bool). f d) stopped ∙ put-other (is_running store) c d false ne)
                (ap (λ (f : ℕ → Bool). f c) stopped ∙ put-same (is_running store) c c false refl)
                unreached
                (λ x there. cc)
                before
                (λ v waits. cc)
                (λ x there. cc)
                next_of
                inside)

            -- the machine as the job has ended, before the CPU lists
            abbrev pub ended : Option (List Listing) → Contents → MachineState
            ended lists after = record { store = after; programs = programs; jobs = tasks_of (slice_set lanes c k) (slice_set jobs j e''); lists = lists }

            pub ended_free : IsFree (tasks_of (slice_set lanes c k) (slice_set jobs j e'')) c
            ended_free i t now rest at =
                let b = behind (slice_set jobs j e'') (slice_set lanes c k) c i t (InHand now rest) at in
                let shown_stage : stage_of (lane_of (slice_set lanes c k) b.job.cpu).hand b.job.phase ≡ InHand now rest = sym
                (ap (λ (x : Task). x.stage) b.shown) ∙ at.at in
                let x = shown_hand (lane_of (slice_set lanes c k) b.job.cpu).hand b.job.phase now rest shown_stage in
                let has_one : (lane_of (slice_set lanes c k) c).hand ≡ Some x.0 = subst
                (λ (n : ℕ). (lane_of (slice_set lanes c k) n).hand ≡ Some x.0) b.of x.1 in
                let has_none : (lane_of (slice_set lanes c k) c).hand ≡ None = ap (λ (y : Lane). y.hand)
                (get_or-set_same lanes c k no_lane lane_within ∙ down) in
                let no : None ≡ Some x.0 = sym has_none ∙ has_one in
                cc

            pub ended_job : HasJob (tasks_of (slice_set lanes c k) (slice_set jobs j e'')) c
            ended_job = (
              j,
              task_of (slice_set lanes c k) e'',
              shows_job (slice_set jobs j e'') (slice_set lanes c k) j e''
                  (slice_get-set_known jobs j e'' e listed),
              of,
            )

            shown_end : (lists : Option (List Listing)) (after : Contents) (w : World) (q : Plain) → Shows
                (record { store = store; programs = programs; jobs = tasks_of lanes jobs; lists = lists }) w → IsSoundStore q →
                plain_store.StandsFor after q → Shows (ended lists after) (with_end w j task outcome q)
            shown_end lists after w q shows sound stands =
                record {
                  store = stands;
                  sound = sound;
                  programs = shows.programs;
                  jobs = ap
                      (λ (ts : List Task). with_stage ts j task (Ended outcome)) shows.jobs ∙ sym ended_tasks;
                  lists = shows.lists;
                }

            -- in each world that the machine shows, the CPU goes on with the job, which ends
            pub proceeds_ended : (lists : Option (List Listing)) (mid after : Contents) (last : MachineState) (new : Cpu) (rest : ℕ) →
                ((s : Plain) → IsSoundStore s → plain_store.StandsFor store s → (t : Plain) × Advances program h.cpu.number s h.cpu h.left
                (Some outcome) t new rest × IsSoundStore t × plain_store.StandsFor mid t)
                → ((s : Plain) → IsSoundStore s → plain_store.StandsFor mid s → (t : Plain) × PlainlyAllowed s c End t × IsSoundStore t ×
                plain_store.StandsFor after t)
                → ((w : World) → Shows (ended lists after) w → (z : World) × Lists w c z × Shows last z)
                → (w : World) → Shows (record { store = store; programs = programs; jobs = tasks_of lanes jobs; lists = lists }) w
                → (z : World) × GoesOn w c j task state left (turn.Ended j outcome) z × Shows last z
            proceeds_ended lists mid after last new rest advance end listing w shows =
                let r = advance w.store shows.sound shows.store in
                let q = end r.0 r.2 r.3 in
                let l = listing (with_end w j task outcome q.0) (shown_end lists after w q.0 shows q.2 q.3) in (
                  l.0,
                  (
                    program,
                    Some outcome,
                    r.0,
                    new,
                    rest,
                    loaded_there w shows.programs,
                    advances w.store (Some outcome) r.0 new rest r.1,
                    (q.0, q.1, refl, l.1),
                  ),
                  l.2,
                )

            -- in each world that the machine shows, as many rounds as the job has turns left end it
            pub finishes_ended : (lists : Option (List Listing)) (view : MachineState) → record
                { store = store; programs = programs; jobs = tasks_of lanes jobs; lists = lists } ≡ view → (mid after : Contents)
                (last : MachineState) → ((s : Plain) → IsSoundStore s → plain_store.StandsFor store s → (t : Plain) × (turns : ℕ) × Lasts
                program h.cpu.number turns s h.cpu h.left outcome t × IsSoundStore t × plain_store.StandsFor mid t)
                → ((s : Plain) → IsSoundStore s → plain_store.StandsFor mid s → (t : Plain) × PlainlyAllowed s c End t × IsSoundStore t ×
                plain_store.StandsFor after t)
                → ((w : World) → Shows (ended lists after) w → (z : World) × Lists w c z × Shows last z)
                → IsAlone view.jobs c
                → (w : World) → Shows view w
                → (z : World) × ((n : ℕ) × RunsRounds n w z) × Shows last z
            finishes_ended lists view view_is mid after last lasting end listing alone_there w shown_world =
                let shows : Shows (record { store = store; programs = programs; jobs = tasks_of lanes jobs; lists = lists }) w = subst
                (λ (s : MachineState). Shows s w) (sym view_is) shown_world in
                let alone_here : IsAlone (tasks_of lanes jobs) c = subst (λ (s : MachineState). IsAlone s.jobs c) (sym view_is) alone_there in
                let r = lasting w.store shows.sound shows.store in
                let q = end r.0 r.3 r.4 in
                let l = listing (with_end w j task outcome q.0) (shown_end lists after w q.0 shows q.2 q.3) in
                let there : IsAt w.jobs c j task (InHand state left) = subst (λ (ts : List Task). IsAt ts c j task (InHand state left))
                (sym shows.jobs) in_hand in
                let inside : c < w.store.shape.cpus = subst (λ (n : ℕ). c < n) (sym shows.store.maps.cpus) (ltb-true c (length store.maps.runs) serves) in
                let few : IsAlone w.jobs c = subst (λ (ts : List Task). IsAlone ts c) (sym shows.jobs) alone_here in (
                  l.0,
                  (
                    suc r.1,
                    rounds_left c j program outcome r.0 q.0 q.1 r.1 w l.0 task state left (shown_within store w.store shows.store)
                        inside few (loaded_there w shows.programs) there (lasts_here r.1 w.store r.0 outcome r.2) l.1,
                  ),
                  l.2,
                )

            -- and the jobs have fewer turns left
            pub finishes_less : (lists : Option (List Listing)) (view : MachineState) → record
                { store = store; programs = programs; jobs = tasks_of lanes jobs; lists = lists } ≡ view → (last : List Task) → last ≡
                tasks_of (slice_set lanes c k) (slice_set jobs j e'') → turns_left last < turns_left view.jobs
            finishes_less lists view view_is last last_is =
                let sum = summed (λ t. turns_before_end t.budget t.stage) (tasks_of lanes jobs) j task (Ended outcome) in_hand.listed in
                let some : turns_before_end task.budget task.stage ≡ left + 1 = ap (turns_before_end task.budget) in_hand.at in
                subst (λ (s : MachineState). turns_left last < turns_left s.jobs) view_is
                (subst (λ (ts : List Task). turns_left ts < turns_left (tasks_of lanes jobs)) (sym (last_is ∙ ended_tasks)) (omega (arith, sum, some)))
