-- Numbers by which jobs that are alike are found. Our own choice.
use Rattle.std.specs.Prelude.{ℕ, bit_xor, fold}
use Rattle.bpf_base.specs.Hashes.{spread}
use Rattle.bpf_cpu.specs.Task.{Stage, Task, Waiting, InHand, Ended}

-- one more number of what is hashed
abbrev pub mix : ℕ → ℕ → ℕ
mix hash number = spread (bit_xor hash number)

-- of a job in hand its pc, the steps that its budget has left and its registers count
abbrev pub stage_hash : ℕ → Stage → ℕ
stage_hash first (Waiting input) = mix first 1
stage_hash first (Ended outcome) = mix first 2
stage_hash first (InHand state left) = fold mix (mix (mix first state.pc) left) state.registers

abbrev pub task_hash : Task → ℕ
task_hash task = stage_hash (mix task.cpu task.program) task.stage
