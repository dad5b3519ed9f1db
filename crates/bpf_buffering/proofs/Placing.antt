-- A CPU's turn: its buffer is put beside the store, one of its jobs goes on, and the buffer is put back.
use Rattle.std.proofs.Common.{◌≡◌, ◌≢◌, ℕ, ◌<◌, Bool, true, false, List, [], length, Option, Some, None, inl, inr, refl, sym, ap, subst, ◌∙◌}
use Rattle.std.specs.Prelude.{Vec, map, nat_lt, slice_get, slice_set, slice_index_or}
use Rattle.std.specs.declared.alloc.Global.{Global}
use Rattle.std.proofs.lemmas.Bool.{ltb-true}
use Rattle.std.proofs.lemmas.List.{map-set, get_or-map, length-set}
use Rattle.std.proofs.lemmas.Option.{slice_get_within}
use Rattle.bpf_base.proofs.Lists.{slice_get-set_known, set_twice}
use Rattle.bpf_shared.specs.Store.{put}
use Rattle.bpf_shared.proofs.Puts.{equal_or_not}
use Rattle.bpf_plain.specs.PlainStore.{Contents, has_cpu, is_running, held_spans}
use Rattle.bpf_loader.specs.Loaded.{Loaded}
use Rattle.bpf_helpers.specs.Held.{AreHeld}
use Rattle.bpf_cpu.specs.declared.cpu.Cpu.{Cpu}
use Rattle.bpf_cpu.specs.declared.outcome.Outcome.{Outcome}
use Rattle.bpf_cpu.specs.Step.{IsReady}
use Rattle.bpf_cpu.specs.Task.{Stage, Task, Waiting, InHand, Ended}
use Rattle.bpf_machine.specs.Kept.{kept_stage}
use Rattle.bpf_machine.specs.Hands.{IsAt, IsFree, with_stage}
use Rattle.bpf_machine.specs.Machine.{MachineState}
use Rattle.bpf_machine.specs.Parts.{FitsHand}
use Rattle.bpf_machine.specs.Work.{HasInHand}
use Rattle.bpf_buffering.specs.Search.{buffer_at}
use Rattle.bpf_buffering.specs.declared.waiting.Stored.{Stored}
use Rattle.bpf_buffering.specs.declared.jobs.Listed.{Listed}
use Rattle.bpf_buffering.specs.Waiting.{WaitingContents, CanWait, buffer_of, event_of}
use Rattle.bpf_buffering.specs.Jobs.{task_of, tasks_of, in_hand}
use Rattle.bpf_buffering.specs.Going.{CanGoOn, LeavesOthers, StaysFit}
use Rattle.bpf_buffering.specs.Buffering.{stored_at, events_of_all, state_of, IsBuffering}
use Rattle.bpf_buffering.proofs.Finding.{task_at, entry_at}
use Rattle.bpf_buffering.proofs.Standing.{stands_changed}
use Rattle.bpf_buffering.proofs.Waits.{items_of, stored_same, stored_other, events_set, events_at, waits_still, nothing_waits}

-- what is read of the buffers
pub read_items : (buffers : List (Vec Stored Global)) (c : ℕ) (v : Vec Stored Global) → c < length buffers → v ≡ slice_index_or buffers c v
    → v.items ≡ stored_at buffers c
read_items buffers c v within read = ap items_of read ∙ sym (get_or-map items_of buffers c v [] within)

module _ (w : WaitingContents) (programs : List Loaded) (jobs : List Listed) (buffers : List (Vec Stored Global))
    (board : IsBuffering w programs jobs buffers) where
  abbrev m : MachineState
  m = (state_of w programs jobs buffers).machine

  module _ (c j : ℕ) (task : Task) (was : Stage) (at : IsAt m.jobs c j task was) where
    pub served : has_cpu w.store c ≡ true
    served = subst (λ (n : ℕ). has_cpu w.store n ≡ true) at.of (board.stands.served j task at.listed)

    pub cpu_within : c < length buffers
    cpu_within = ltb-true c (length buffers) (sym (board.cpus c) ∙ served)

    pub job_within : j < length jobs
    job_within = let e = task_at jobs j task at.listed in slice_get_within jobs j e.0 e.1

    -- the buffer may be put beside the store
    pub can_take : (v : Vec Stored Global) → v ≡ slice_index_or buffers c v → CanWait w.store c v.items
    can_take v read = subst (λ (es : List Stored). CanWait w.store c es) (sym (read_items buffers c v cpu_within read)) (board.each c)

    module _ (e : Listed) (listed : slice_get jobs j ≡ Some e) where
      pub shown : task_of e ≡ task
      shown =
          let e' = task_at jobs j task at.listed in
          let two : Some e'.0 ≡ Some e = sym e'.1 ∙ listed in
          let same : e'.0 ≡ e = cc in
          ap task_of (sym same) ∙ e'.2

      pub program_within : e.program < length programs
      program_within = subst (λ (t : Task). t.program < length programs) (sym shown) (board.stands.loaded j task at.listed)

      pub stage_was : kept_stage e.stage ≡ was
      stage_was = ap (λ (t : Task). t.stage) shown ∙ at.at

      -- the buffer beside the store, and put back after the job's stage has changed
      module _ (v : Vec Stored Global) (read : v ≡ slice_index_or buffers c v) (h : WaitingContents)
          (taken : h ≡ record w { waiting = v.items; cpu = c }) (u : Vec Stored Global) (u_is : u.items ≡ w.waiting) where
        pub cpu_is : h.cpu ≡ c
        cpu_is = ap (λ (x : WaitingContents). x.cpu) taken

        pub store_is : h.store ≡ w.store
        store_is = ap (λ (x : WaitingContents). x.store) taken

        pub buffer_is : buffer_of h ≡ buffer_at (events_of_all buffers) c
        buffer_is = ap (λ (x : WaitingContents). map event_of x.waiting) taken ∙ ap (map event_of) (read_items buffers c v cpu_within read)
            ∙ sym (events_at buffers c)

        pub count_stays : c < length (slice_set buffers c u)
        count_stays = subst (λ (n : ℕ). c < n) (sym (length-set buffers c u)) cpu_within

        nothing_else : (x : Vec Stored Global) → x ≡ slice_index_or (slice_set buffers c u) c x → x.items ≡ []
        nothing_else x again = read_items (slice_set buffers c u) c x count_stays again ∙ stored_same buffers c u cpu_within ∙ u_is ∙ board.put_back

        pub can_put_back : (store : Contents) (x : Vec Stored Global) → x ≡ slice_index_or (slice_set buffers c u) c x → CanWait store c x.items
        can_put_back store x again = nothing_waits store c x.items (nothing_else x again)

        module _ (k : WaitingContents) (cpu_same : k.cpu ≡ h.cpu) (others : LeavesOthers h.cpu h.store k.store) (e' : Listed)
            (same : e' ≡ record e { stage = e'.stage }) (x : Vec Stored Global) (again : x ≡ slice_index_or (slice_set buffers c u) c x)
            (z : WaitingContents) (given : z ≡ record k { waiting = x.items; cpu = c }) (y : Vec Stored Global) (y_is : y.items ≡ k.waiting) where
          abbrev jobs' : List Listed
          jobs' = slice_set jobs j e'

          abbrev buffers' : List (Vec Stored Global)
          buffers' = slice_set (slice_set buffers c u) c y

          store_now : z.store ≡ k.store
          store_now = ap (λ (a : WaitingContents). a.store) given

          pub others_now : LeavesOthers c w.store z.store
          others_now = subst (λ (s : Contents). LeavesOthers c w.store s) (sym store_now)
              (subst (λ (s : Contents). LeavesOthers c s k.store) store_is (subst (λ (n : ℕ). LeavesOthers n h.store k.store) cpu_is others))

          pub tasks_now : tasks_of jobs' ≡ with_stage (tasks_of jobs) j task (kept_stage e'.stage)
          tasks_now = map-set task_of jobs j e' ∙ ap (λ (t : Task). slice_set (tasks_of jobs) j t)
              (ap task_of same ∙ ap (λ (t : Task). record t { stage = kept_stage e'.stage }) shown)

          buffers_once : buffers' ≡ slice_set buffers c y
          buffers_once = set_twice buffers c u y

          pub events_now : buffer_at (events_of_all buffers') ≡ put (buffer_at (events_of_all buffers)) c (buffer_of k)
          events_now =
              ap (λ (bs : List (Vec Stored Global)). buffer_at (events_of_all bs)) buffers_once ∙ events_set buffers c y cpu_within ∙ ap
              (λ (es : List Stored). put (buffer_at (events_of_all buffers)) c (map event_of es)) y_is

          -- the machine's parts fit each other still
          module _ (y_can : CanWait k.store k.cpu y.items) (only : (i : ℕ) → i ≢ j → HasInHand m.jobs c i → ⊥)
              (fits : (state : Cpu) (left : ℕ) → kept_stage e'.stage ≡ InHand state left → FitsHand
              (state_of z programs jobs' buffers').machine c (record task { stage = kept_stage e'.stage }) state)
              (idle : in_hand (kept_stage e'.stage) ≡ false → is_running z.store c ≡ false) where
            entry_now : slice_get jobs' j ≡ Some e'
            entry_now = slice_get-set_known jobs j e' e listed

            of_now : e'.cpu ≡ c
            of_now = ap (λ (a : Listed). a.cpu) same ∙ ap (λ (t : Task). t.cpu) shown ∙ at.of

            free_now : IsFree (tasks_of jobs') c → is_running z.store c ≡ false
            free_now free = from (kept_stage e'.stage) refl
              where
                from : (s : Stage) → kept_stage e'.stage ≡ s → is_running z.store c ≡ false
                from (Waiting input) is = idle (ap in_hand is)
                from (Ended end) is = idle (ap in_hand is)
                from (InHand state left) is = absurd (free j (task_of e') state left (record { listed = entry_at jobs' j e' entry_now; of = of_now; at = is }))

            each_now : (d : ℕ) → CanWait z.store d (stored_at buffers' d)
            each_now d = subst (λ (bs : List (Vec Stored Global)). CanWait z.store d (stored_at bs d)) (sym buffers_once) (elim (equal_or_not d c) [
              | inl here ↦
                  subst (λ (n : ℕ). CanWait z.store n (stored_at (slice_set buffers c y) n)) (sym here)
                  (subst (λ (es : List Stored). CanWait z.store c es) (sym (stored_same buffers c y cpu_within))
                  (subst (λ (n : ℕ). CanWait z.store n y.items) (cpu_same ∙ cpu_is) (subst (λ (s : Contents). CanWait s k.cpu y.items) (sym store_now) y_can)))
              | inr ne ↦ subst (λ (es : List Stored). CanWait z.store d es) (sym (stored_other buffers c y cpu_within d ne))
                  (waits_still w.store z.store c d (stored_at buffers d) ne others_now (board.each d))
            ])

            pub board_now : IsBuffering z programs jobs' buffers'
            board_now = record {
              stands = stands_changed m (state_of z programs jobs' buffers').machine c j task (kept_stage e'.stage) at.listed at.of refl
                  tasks_now others_now board.stands only fits free_now;
              put_back = ap (λ (a : WaitingContents). a.waiting) given ∙ nothing_else x again;
              cpus = λ d. ap (λ (f : ℕ → Bool). f d) others_now.serves ∙ board.cpus d ∙ ap (nat_lt d)
                  (sym (length-set (slice_set buffers c u) c y ∙ length-set buffers c u));
              each = each_now;
            }

  -- ---- a job in hand
  module _ (c j : ℕ) (task : Task) (state : Cpu) (left : ℕ) (at : IsAt m.jobs c j task (InHand state left)) (e : Listed)
      (listed : slice_get jobs j ≡ Some e) (program : Loaded) (fetched : slice_get programs e.program ≡ Some program) where
    fit : FitsHand m c task state
    fit = board.stands.hand c j task state left at

    program_is : fit.program ≡ program
    program_is =
        let two : Some fit.program ≡ Some program = sym fit.loaded ∙
        (ap (λ (t : Task). slice_get programs t.program) (sym (shown c j task (InHand state left) at e listed)) ∙ fetched) in cc

    pub only_one : (i : ℕ) → i ≢ j → HasInHand m.jobs c i → ⊥
    only_one i ne other = ne (board.stands.one c i j other (task, state, left, at))

    module _ (v : Vec Stored Global) (h : WaitingContents) (taken : h ≡ record w { waiting = v.items; cpu = c }) where
      pub can_go_on : CanGoOn program h (kept_stage e.stage)
      can_go_on = subst (λ (x : WaitingContents). CanGoOn program x (kept_stage e.stage)) (sym taken) (record {
        state = state;
        left = left;
        at = stage_was c j task (InHand state left) at e listed;
        number = fit.number;
        ready = subst (λ (p : Loaded). IsReady p state) program_is fit.ready;
        held = fit.held;
        runs = fit.runs;
        served = served c j task (InHand state left) at;
      })

    -- what it leads to fits
    module _ (k z : WaitingContents) (x : List Stored) (cpu : k.cpu ≡ c) (given : z ≡ record k { waiting = x; cpu = c }) (e' : Listed)
        (same : e' ≡ record e { stage = e'.stage }) where
      store_same : z.store ≡ k.store
      store_same = ap (λ (a : WaitingContents). a.store) given

      pub still_fits : (end : Option Outcome) (jobs' : List Listed) (buffers' : List (Vec Stored Global)) → StaysFit program k (kept_stage e'.stage) end
          → (new : Cpu) (rest : ℕ) → kept_stage e'.stage ≡ InHand new rest → FitsHand (state_of z programs jobs' buffers').machine c
          (record task { stage = kept_stage e'.stage }) new
      still_fits (Some end) jobs' buffers' (ended, off) new rest is = let no : Ended end ≡ InHand new rest = sym ended ∙ is in cc
      still_fits None jobs' buffers' can new rest is =
          let two : InHand can.state can.left ≡ InHand new rest = sym can.at ∙ is in
          let one : can.state ≡ new = cc in
          record {
            number = ap (λ (s : Cpu). s.number) (sym one) ∙ can.number ∙ cpu;
            program = program;
            loaded = ap (λ (t : Task). slice_get programs t.program) (sym (shown c j task (InHand state left) at e listed)) ∙ fetched;
            ready = subst (λ (s : Cpu). IsReady program s) one can.ready;
            held = subst (λ (s : Contents). AreHeld (held_spans s c) new.held) (sym store_same)
                (subst (λ (n : ℕ). AreHeld (held_spans k.store n) new.held) cpu
                (subst (λ (s : Cpu). AreHeld (held_spans k.store k.cpu) s.held) one can.held));
            runs = ap (λ (s : Contents). is_running s c) store_same ∙ ap (is_running k.store) (sym cpu) ∙ can.runs;
          }

      pub still_idle : (end : Option Outcome) → StaysFit program k (kept_stage e'.stage) end → in_hand (kept_stage e'.stage) ≡ false →
          is_running z.store c ≡ false
      still_idle (Some end) (ended, off) not = ap (λ (s : Contents). is_running s c) store_same ∙ ap (is_running k.store) (sym cpu) ∙ off
      still_idle None can not = let no : true ≡ false = sym (ap in_hand can.at) ∙ not in cc
