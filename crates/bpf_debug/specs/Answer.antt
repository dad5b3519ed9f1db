-- The lines that answer commands (our own choice).
use Rattle.std.specs.Prelude.{◌≡◌, ℕ, suc, ◌⊎◌, List, [], ◌∷◌, ◌++◌, length, codes}
use Rattle.std.specs.Fmt.{decimal}
use Rattle.bpf_cpu.specs.declared.cpu.Cpu.{Cpu}
use Rattle.bpf_machine.specs.declared.machine.Turn.{Turn}
use Rattle.bpf_machine.specs.declared.machine.Turn.TheVariants as turn
use Rattle.bpf_cpu.specs.Task.{Task, InHand}
use Rattle.bpf_machine.specs.Hands.{IsAt, IsFree, NoneWaits}
use Rattle.bpf_machine.specs.Work.{IsNext}
use Rattle.bpf_cpu.specs.Lines.{job_line}

-- ---- where a CPU is

abbrev pub cpu_words : ℕ → List ℕ
cpu_words c = codes "cpu " ++ decimal c

abbrev pub place_line : ℕ → ℕ → ℕ → ℕ → List ℕ
place_line c j pc depth =
    cpu_words c ++ codes " job " ++ decimal j ++ codes " pc " ++ decimal pc
    ++ codes " depth " ++ decimal depth ++ codes "\n"

abbrev pub in_hand_line : ℕ → ℕ → Cpu → List ℕ
in_hand_line c j state = place_line c j state.pc (length state.memory.frames.live)

abbrev pub waiting_line : ℕ → ℕ → List ℕ
waiting_line c j = cpu_words c ++ codes " job " ++ decimal j ++ codes " waiting\n"

abbrev pub idle_line : ℕ → List ℕ
idle_line c = cpu_words c ++ codes " idle\n"

-- the CPU has no job in hand; this line says whether one waits
abbrev pub IsOff : List Task → ℕ → List ℕ → Type 0
IsOff jobs c text =
    ((j : ℕ) × IsNext jobs c j × (text ≡ waiting_line c j))
    ⊎ (IsFree jobs c × NoneWaits jobs c × (text ≡ idle_line c))

-- the line says where the CPU is
abbrev pub IsWhere : List Task → ℕ → List ℕ → Type 0
IsWhere jobs c text =
    ((j : ℕ) × (task : Task) × (state : Cpu) × (left : ℕ) × IsAt jobs c j task (InHand state left)
    × (text ≡ in_hand_line c j state))
    ⊎ IsOff jobs c text

-- ---- registers

abbrev pub register_line : ℕ → ℕ → List ℕ
register_line k n = codes "r" ++ decimal k ++ codes "=" ++ decimal n ++ codes "\n"

-- a line each, from the k-th on
abbrev pub register_lines : ℕ → List ℕ → List ℕ
register_lines k [] = []
register_lines k (n ∷ ns) = register_line k n ++ register_lines (suc k) ns

-- the registers of a CPU with a job in hand, or where it is
abbrev pub IsRegisters : List Task → ℕ → List ℕ → Type 0
IsRegisters jobs c text =
    ((j : ℕ) × (task : Task) × (state : Cpu) × (left : ℕ) × IsAt jobs c j task (InHand state left)
    × (text ≡ register_lines 0 state.registers))
    ⊎ IsOff jobs c text

-- ---- a turn that ends a job

abbrev pub ended_text : ℕ → Turn → List ℕ
ended_text c turn.Ran = []
ended_text c (turn.Ended j end) = job_line j c end
ended_text c turn.Idle = []

-- ---- what else is answered

abbrev pub break_line : ℕ → ℕ → List ℕ
break_line c p = codes "break " ++ decimal c ++ codes " " ++ decimal p ++ codes " set\n"

abbrev pub deleted_line : ℕ → ℕ → List ℕ
deleted_line c p = codes "break " ++ decimal c ++ codes " " ++ decimal p ++ codes " deleted\n"

-- a value is watched, by the name of its map or array and its key or index
abbrev pub watch_line : List ℕ → List ℕ → List ℕ
watch_line name key = codes "watch " ++ (name ++ (codes " " ++ (key ++ codes " set\n")))

-- a variable is
abbrev pub variable_watch_line : List ℕ → List ℕ
variable_watch_line name = codes "watch " ++ (name ++ codes " set\n")

abbrev pub unwatched_line : List ℕ
unwatched_line = codes "watch deleted\n"

-- it was changed by a turn of this CPU
abbrev pub changed_line : ℕ → List ℕ
changed_line c = codes "changed by " ++ decimal c ++ codes "\n"

abbrev pub stop_line : ℕ → ℕ → List ℕ
stop_line c p = codes "stop " ++ decimal c ++ codes " " ++ decimal p ++ codes "\n"
