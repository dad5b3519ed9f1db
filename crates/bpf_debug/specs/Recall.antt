-- What is asked of turns that were made: how a CPU stood before the last of its turns of a kind
-- (our own choice).
use Rattle.std.specs.Prelude.{◌≡◌, ℕ, Bool, true, false, ◌==◌, ◌&&◌, if◌then◌else◌, ◌⊎◌, List, [], ◌∷◌, ◌++◌, Option, Some, None, length}
use Rattle.bpf_cpu.specs.declared.cpu.Cpu.{Cpu}
use Rattle.bpf_cpu.specs.Task.{Task, InHand}
use Rattle.bpf_machine.specs.declared.machine.Turn.{Turn}
use Rattle.bpf_machine.specs.declared.machine.Turn.TheVariants as turn
use Rattle.bpf_machine.specs.Hands.{IsAt, IsFree, NoneWaits}
use Rattle.bpf_machine.specs.Schedule.{World, TakesTurn}
use Rattle.bpf_machine.specs.Work.{IsNext}
use Rattle.bpf_debug.specs.declared.recall.Kind.{Kind}
use Rattle.bpf_debug.specs.declared.recall.Kind.TheVariants as kind
use Rattle.bpf_debug.specs.declared.recall.Recall.{Recall}
use Rattle.bpf_debug.specs.declared.recall.Stand.{Stand}
use Rattle.bpf_debug.specs.declared.recall.Stand.TheVariants as stand
use Rattle.bpf_debug.specs.Answer.{IsOff, IsWhere, ended_text, in_hand_line, register_lines}

-- a turn that ends a job; a turn with work
abbrev pub is_of : Kind → Turn → Bool
is_of kind.Ends turn.Ran = false
is_of kind.Ends (turn.Ended j end) = true
is_of kind.Ends turn.Idle = false
is_of kind.Works turn.Ran = true
is_of kind.Works (turn.Ended j end) = true
is_of kind.Works turn.Idle = false

-- a turn: the machine before it, and what it came to
pub record Past : Type 0 where
  pub before : World
  pub answer : Turn

-- the last of a CPU's turns of this kind, after one turn more
abbrev pub past_after : Kind → ℕ → World → ℕ → Turn → Option Past → Option Past
past_after k c w d answer old =
    if (d == c) && is_of k answer then Some (record { before = w; answer = answer }) else old

-- the turns lead from one machine to another; before them the last of the CPU's turns of this kind
-- was this one, and after them it is that one
abbrev pub Recalls : Kind → ℕ → World → Option Past → List ℕ → Option Past → World → Type 0
Recalls k c w old [] new z = (new ≡ old) × (z ≡ w)
Recalls k c w old (d ∷ turns) new z =
    (answer : Turn) × (m : World) × TakesTurn w d answer m
    × Recalls k c m (past_after k c w d answer old) turns new z

-- ---- how a CPU stood

abbrev pub IsStand : List Task → ℕ → Stand → Type 0
IsStand jobs c (stand.InHand hand) =
    (task : Task) × (state : Cpu) × (left : ℕ) × IsAt jobs c hand.job task (InHand state left)
    × (hand.pc ≡ state.pc) × (hand.depth ≡ length state.memory.frames.live)
    × (hand.registers ≡ state.registers)
IsStand jobs c (stand.Waiting j) = IsNext jobs c j
IsStand jobs c stand.Idle = IsFree jobs c × NoneWaits jobs c

-- what is kept of a turn
abbrev pub IsRecall : ℕ → Option Recall → Option Past → Type 0
IsRecall c None None = Unit {0}
IsRecall c None (Some past) = ⊥
IsRecall c (Some kept) None = ⊥
IsRecall c (Some kept) (Some past) =
    IsStand past.before.jobs c kept.stand × (kept.turn ≡ past.answer)

-- ---- what `last` shows

-- where the CPU stood and its registers, or that it had no job in hand
abbrev pub IsStandText : List Task → ℕ → List ℕ → Type 0
IsStandText jobs c text =
    ((j : ℕ) × (task : Task) × (state : Cpu) × (left : ℕ) × IsAt jobs c j task (InHand state left)
    × (text ≡ in_hand_line c j state ++ register_lines 0 state.registers))
    ⊎ IsOff jobs c text

-- the line of the job that the turn ended, and how the CPU stood before that turn; where it is,
-- if it has ended none
abbrev pub IsLastText : ℕ → Option Past → List Task → List ℕ → Type 0
IsLastText c None jobs text = IsWhere jobs c text
IsLastText c (Some past) jobs text =
    (stood : List ℕ) × IsStandText past.before.jobs c stood
    × (text ≡ ended_text c past.answer ++ stood)
