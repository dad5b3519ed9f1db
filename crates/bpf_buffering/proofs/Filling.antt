-- A job in hand has its whole budget left.
use Rattle.std.proofs.Common.{◌≡◌, ◌≢◌, ℕ, ◌+◌, ◌-◌, false, List, Some, refl, sym, ap, subst, ◌∙◌, arith}
use Rattle.std.specs.Prelude.{Vec, max, slice_get, slice_set}
use Rattle.std.specs.declared.alloc.Global.{Global}
use Rattle.std.proofs.lemmas.List.{map-set, length-set}
use Rattle.bpf_base.proofs.Lists.{slice_get-set_known}
use Rattle.bpf_plain.specs.PlainStore.{is_running}
use Rattle.bpf_loader.specs.Loaded.{Loaded}
use Rattle.bpf_cpu.specs.declared.cpu.Cpu.{Cpu}
use Rattle.bpf_cpu.specs.Task.{Stage, Task, InHand}
use Rattle.bpf_machine.specs.Kept.{kept_stage}
use Rattle.bpf_machine.specs.Hands.{IsAt, IsFree, with_stage}
use Rattle.bpf_machine.specs.Machine.{MachineState}
use Rattle.bpf_machine.specs.Parts.{FitsHand, IsSameHost}
use Rattle.bpf_machine.specs.Patient.{Refills}
use Rattle.bpf_machine.specs.Work.{HasInHand}
use Rattle.bpf_buffering.specs.declared.jobs.Listed.{Listed}
use Rattle.bpf_buffering.specs.declared.waiting.Stored.{Stored}
use Rattle.bpf_buffering.specs.Waiting.{WaitingContents}
use Rattle.bpf_buffering.specs.Jobs.{task_of, tasks_of, filled_up}
use Rattle.bpf_buffering.specs.Going.{LeavesOthers}
use Rattle.bpf_buffering.specs.Buffering.{state_of, IsBuffering}
use Rattle.bpf_buffering.proofs.Keeping.{host_through}
use Rattle.bpf_buffering.proofs.Placing.{shown, stage_was}
use Rattle.bpf_buffering.proofs.Standing.{stands_changed}

module _ (w : WaitingContents) (programs : List Loaded) (jobs : List Listed) (buffers : List (Vec Stored Global))
    (board : IsBuffering w programs jobs buffers) (c j : ℕ) (task : Task) (state : Cpu) (left : ℕ)
    (at : IsAt (state_of w programs jobs buffers).machine.jobs c j task (InHand state left))
    (e : Listed) (listed : slice_get jobs j ≡ Some e) (e' : Listed) (same : e' ≡ record e { stage = e'.stage })
    (filled : kept_stage e'.stage ≡ filled_up e.budget (kept_stage e.stage)) where
  abbrev old : MachineState
  old = (state_of w programs jobs buffers).machine

  abbrev jobs' : List Listed
  jobs' = slice_set jobs j e'

  abbrev new : MachineState
  new = (state_of w programs jobs' buffers).machine

  abbrev full : Stage
  full = InHand state (max left task.budget)

  is : task_of e ≡ task
  is = shown w programs jobs buffers board c j task (InHand state left) at e listed

  stage_now : kept_stage e'.stage ≡ full
  stage_now =
      filled ∙ ap (filled_up e.budget) (stage_was w programs jobs buffers board c j task (InHand state left) at e listed)
      ∙ ap (λ (t : Task). InHand state (max left t.budget)) is

  tasks_now : tasks_of jobs' ≡ with_stage (tasks_of jobs) j task full
  tasks_now =
      map-set task_of jobs j e'
      ∙ ap (λ (t : Task). slice_set (tasks_of jobs) j t)
      (ap task_of same ∙ ap (λ (t : Task). record t { stage = kept_stage e'.stage }) is ∙ ap (λ (s : Stage). record task { stage = s }) stage_now)

  all_stays : LeavesOthers c w.store w.store
  all_stays = record { shape = refl; serves = refl; runs = λ d ne. refl; held = λ d ne. refl }

  fits : (s : Cpu) (n : ℕ) → full ≡ InHand s n → FitsHand new c (record task { stage = full }) s
  fits s n is_full =
      let f : FitsHand old c task state = board.stands.hand c j task state left at in
      let one : state ≡ s = cc in
      subst (λ (x : Cpu). FitsHand new c (record task { stage = full }) x) one (record {
        number = f.number;
        program = f.program;
        loaded = f.loaded;
        ready = f.ready;
        held = f.held;
        runs = f.runs;
      })

  not_free : IsFree new.jobs c → is_running w.store c ≡ false
  not_free free = absurd (free j (record task { stage = full }) state (max left task.budget) (record {
    listed
        = ap (λ (ts : List Task). slice_get ts j) tasks_now ∙ slice_get-set_known (tasks_of jobs) j (record task { stage = full }) task at.listed;
    of = at.of;
    at = refl;
  }))

  only : (k : ℕ) → k ≢ j → HasInHand old.jobs c k → ⊥
  only k ne other = ne (board.stands.one c k j other (task, state, left, at))

  pub board_filled : IsBuffering w programs jobs' buffers
  board_filled = record {
    stands = stands_changed old new c j task full at.listed at.of refl tasks_now all_stays board.stands only fits not_free;
    put_back = board.put_back;
    cpus = board.cpus;
    each = board.each;
  }

  pub refills_now : Refills old c j new
  refills_now =
      let more : ℕ = max left task.budget - left in
      let sum : left + more ≡ max left task.budget = omega arith in
      let jobs_are : new.jobs ≡ with_stage old.jobs j task (InHand state (left + more)) =
      tasks_now ∙ ap (λ (n : ℕ). with_stage old.jobs j task (InHand state n)) (sym sum) in
      (task, state, left, more, at, sum, ap (λ (ts : List Task). record old { jobs = ts }) jobs_are)

  pub same_host_filled : IsSameHost old new
  same_host_filled = host_through w w w w programs jobs jobs' buffers buffers refl refl refl refl (length-set jobs j e')
