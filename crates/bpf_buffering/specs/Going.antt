-- A job goes on over a store of which its CPU's stores wait.
use Rattle.std.specs.Prelude.{◌≡◌, ◌≢◌, ℕ, zero, suc, Bool, true, false, List, [], ◌++◌, ◌⊎◌, Option, Some, None}
use Rattle.bpf_insn.specs.declared.instruction.Insn.{Insn}
use Rattle.bpf_insn.specs.declared.instruction.Insn.TheVariants as insn
use Rattle.bpf_shared.specs.declared.events.Event.{Event}
use Rattle.bpf_shared.specs.declared.events.Event.TheVariants.{End}
use Rattle.bpf_shared.specs.Shape.{Shape}
use Rattle.bpf_shared.specs.Store.{Plain}
use Rattle.bpf_shared.specs.Sound.{IsSoundStore}
use Rattle.bpf_shared.specs.Chain.{Chain}
use Rattle.bpf_plain.specs.PlainStore.{Contents, StandsFor, shape_of, has_cpu, is_running, held_spans}
use Rattle.bpf_loader.specs.Loaded.{Loaded}
use Rattle.bpf_helpers.specs.Held.{AreHeld}
use Rattle.bpf_cpu.specs.declared.cpu.Cpu.{Cpu}
use Rattle.bpf_cpu.specs.declared.outcome.Progress.{Progress}
use Rattle.bpf_cpu.specs.declared.outcome.Progress.TheVariants.{On}
use Rattle.bpf_cpu.specs.declared.outcome.Outcome.{Outcome}
use Rattle.bpf_cpu.specs.declared.outcome.Outcome.TheVariants.{OutOfBudget}
use Rattle.bpf_cpu.specs.Step.{Step, IsReady}
use Rattle.bpf_cpu.specs.Task.{Stage, InHand, Ended}
use Rattle.bpf_machine.specs.Schedule.{outcome_after}
use Rattle.bpf_x86.specs.Buffers.{Buffered, Calls, CallsAll}
use Rattle.bpf_x86.specs.Forwarding.{AreStores}
use Rattle.bpf_x86.specs.Machine.{Advances}
use Rattle.bpf_buffering.specs.Search.{alone}
use Rattle.bpf_buffering.specs.Waiting.{WaitingContents, IsSameCpu, PassesWaiting, serves_one, buffer_of}

-- what calls lead to, where the CPU is alone
abbrev pub LeadAlone : WaitingContents → List Event → WaitingContents → Type 0
LeadAlone x events y = y.lost ≡ false → (x.lost ≡ false) × ((s : Plain) → IsSoundStore s
    → StandsFor x.store s → (t : Plain) × IsSoundStore t × StandsFor y.store t
    × CallsAll (alone s x.cpu (buffer_of x)) x.cpu events (alone t x.cpu (buffer_of y)))

-- one step of a job in hand over the store, if its budget has one left
abbrev pub AdvancesOver : Loaded → WaitingContents → Cpu → ℕ → Option Outcome → WaitingContents → Cpu → ℕ → Type 0
AdvancesOver program x old left end y new rest =
    ((left ≡ 0) × (end ≡ Some (OutOfBudget old.pc)) × (y ≡ x) × (new ≡ old) × (rest ≡ 0))
    ⊎ ((n : ℕ) × (events : List Event) × (progress : Progress) × (left ≡ suc n) × (rest ≡ n)
    × Chain PassesWaiting serves_one old.number x y events
    × Step (shape_of x.store) program old events progress new
    × (end ≡ outcome_after progress n new))

-- the CPU that the store serves has a job in this stage in hand, and may go on with it
pub record CanGoOn (program : Loaded) (w : WaitingContents) (stage : Stage) : Type 0 where
  pub state : Cpu
  pub left : ℕ
  pub at : stage ≡ InHand state left
  pub number : state.number ≡ w.cpu
  pub ready : IsReady program state
  pub held : AreHeld (held_spans w.store w.cpu) state.held
  pub runs : is_running w.store w.cpu ≡ true
  pub served : has_cpu w.store w.cpu ≡ true

-- a job in hand makes one step, where its CPU is alone, and stays in hand or ends
abbrev pub GoesAlone : Loaded → ℕ → Plain → List Event → Stage → Option Outcome → Plain → List Event → Stage → Type 0
GoesAlone program c s es was None t fs stage =
    (old : Cpu) × (left : ℕ) × (new : Cpu) × (rest : ℕ) × (was ≡ InHand old left)
    × (stage ≡ InHand new rest)
    × Advances program c (alone s c es) old left None (alone t c fs) new rest
GoesAlone program c s es was (Some end) t fs stage =
    (old : Cpu) × (left : ℕ) × (m : Plain) × (ms : List Event) × (new : Cpu) × (rest : ℕ)
    × (was ≡ InHand old left) × (stage ≡ Ended end)
    × Advances program c (alone s c es) old left (Some end) (alone m c ms) new rest
    × Calls (alone m c ms) c End (alone t c fs)

-- so it goes on from each plain store that the first shows
abbrev pub GoesOver : Loaded → WaitingContents → Stage → Option Outcome → WaitingContents → Stage → Type 0
GoesOver program x was end y stage =
    y.lost ≡ false → (x.lost ≡ false) × ((s : Plain) → IsSoundStore s → StandsFor x.store s
    → (t : Plain) × IsSoundStore t × StandsFor y.store t
    × GoesAlone program x.cpu s (buffer_of x) was end t (buffer_of y) stage)

-- what a turn of a CPU leaves: the shape and the CPUs, and of the other CPUs who is in a run, and what
-- they hold
pub record LeavesOthers (c : ℕ) (old new : Contents) : Type 0 where
  pub shape : shape_of new ≡ shape_of old
  pub serves : has_cpu new ≡ has_cpu old
  pub runs : (d : ℕ) → d ≢ c → is_running new d ≡ is_running old d
  pub held : (d : ℕ) → d ≢ c → held_spans new d ≡ held_spans old d

-- the job that stays in hand may go on; where it has ended, the CPU is in no run
abbrev pub StaysFit : Loaded → WaitingContents → Stage → Option Outcome → Type 0
StaysFit program w stage None = CanGoOn program w stage
StaysFit program w stage (Some end) =
    (stage ≡ Ended end) × (is_running w.store w.cpu ≡ false)

-- ---- steps that no other CPU sees
-- this many steps of a job that stays in hand, whose calls are stores alone
abbrev pub StepsAhead : Shape → Loaded → ℕ → Cpu → ℕ → List Event → Cpu → ℕ → Type 0
StepsAhead shape program zero old left events new rest =
    (events ≡ []) × (new ≡ old) × (rest ≡ left)
StepsAhead shape program (suc n) old left events new rest =
    (more : ℕ) × (first : List Event) × (others : List Event) × (mid : Cpu)
    × (left ≡ suc (suc more)) × (events ≡ first ++ others)
    × Step shape program old first On mid × AreStores first
    × StepsAhead shape program n mid (suc more) others new rest

-- some of them over the store
abbrev pub GoesAhead : Loaded → WaitingContents → Cpu → ℕ → WaitingContents → Cpu → ℕ → Type 0
GoesAhead program x old left y new rest =
    (n : ℕ) × (events : List Event) × IsSameCpu x y
    × StepsAhead (shape_of x.store) program n old left events new rest × LeadAlone x events y

-- this many, of the job in this stage
abbrev pub GoesAheadOver : Loaded → WaitingContents → Stage → ℕ → WaitingContents → Stage → Type 0
GoesAheadOver program x was n y stage =
    (old : Cpu) × (left : ℕ) × (events : List Event) × (new : Cpu) × (rest : ℕ)
    × (was ≡ InHand old left) × (stage ≡ InHand new rest)
    × StepsAhead (shape_of x.store) program n old left events new rest × LeadAlone x events y

abbrev pub IsPlainStore : Insn → Type 0
IsPlainStore (insn.Store z b o s) = Unit {0}
IsPlainStore (insn.StoreImmediate z b o n) = Unit {0}
IsPlainStore _ = ⊥

-- a step that calls stores alone is made; or the state stays, and nothing is called
abbrev pub TriesStore : Loaded → WaitingContents → Cpu → Bool → WaitingContents → Cpu → Type 0
TriesStore program x old made y new = (events : List Event) × IsSameCpu x y × LeadAlone x events y
    × (made ≡ true → Step (shape_of x.store) program old events On new × AreStores events)
    × (made ≡ false → (events ≡ []) × (new ≡ old))
